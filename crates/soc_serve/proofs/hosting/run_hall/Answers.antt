use Rattle.std.proofs.Common.{Err, ap, ◌∙◌, inl, inr, refl, sym}
use Rattle.soc_edge.proofs.Disks.{Looks-none}
use Rattle.soc_serve.specs.declared.ending.HostEnd.TheVariants as H
use Rattle.soc_replay.specs.declared.ending.RunEnd.TheVariants as R
use Rattle.soc_serve.proofs.Hosted.{hosts_words, is_serve, no_serve, no_words, other_words, storms_words}
use Rattle.soc_serve.proofs.hosting.run_hall.Goals as goal

pub returns-in-Serve-clause-hosts : goal.returns-in-Serve-clause-hosts
returns-in-Serve-clause-hosts g c =
    (c.host-end.result.0, c.status.ensures, hosts_words _ c.in-Ok.words _ _ _ _ c.host-end.result.0 c.in-Ok.ensures.ok c.in-Serve.is c.host-end.ensures.hosts)

pub returns-in-Serve-clause-over : goal.returns-in-Serve-clause-over
returns-in-Serve-clause-over g c serve is =
    let spent = (g.met.L.Listener g.world.𝓛 g.world.𝓜 g.world.𝓡 ((λ s x. x), (λ x. x), (λ x. x), λ x. x)).spent c.host-end.result.1 in
    elim (c.host-end.ensures.over (sym c.status.ensures ∙ is)) [ inl stopped ↦ inl stopped | inr ended ↦ inr (ended, spent ended) ]

pub returns-in-Serve-clause-apart : goal.returns-in-Serve-clause-apart
returns-in-Serve-clause-apart g c other = absurd (other (is_serve _ c.in-Ok.words c.in-Ok.ensures.ok c.in-Serve.is))

pub returns-in-Storm-clause-hosts : goal.returns-in-Storm-clause-hosts
returns-in-Storm-clause-hosts g c = (
  c.storm-end.result,
  c.status-in-Storm.ensures,
  storms_words _ c.in-Ok.words _ _ _ _ c.storm-end.result c.in-Ok.ensures.ok c.in-Storm.is
      (record { texts = record { tree = refl; maker = refl }; quiet = record { draws = refl; disk = Looks-none _ ((g.met.D.Disk g.world.𝓛 g.world.𝓜 g.world.𝓡 ((λ s x. x), (λ x. x), (λ x. x), λ x. x)).sound c.args.world.now.disk) }; ends = c.storm-end.ensures.ends }),
)

pub returns-in-Storm-clause-over : goal.returns-in-Storm-clause-over
returns-in-Storm-clause-over g c serve = absurd (no_serve _ c.in-Ok.words c.in-Ok.ensures.ok c.in-Storm.is serve)

pub returns-in-Ok-clause-hosts : goal.returns-in-Ok-clause-hosts
returns-in-Ok-clause-hosts g c = (
  H.Before c.tell_usage.result,
  c.status-in-Check.ensures,
  other_words _ c.in-Ok.words _ _ _ _ c.tell_usage.result c.in-Ok.ensures.ok c.in-Check.is
      (record { tree = refl; maker = refl })
      (record { draws = refl; disk = Looks-none _ ((g.met.D.Disk g.world.𝓛 g.world.𝓜 g.world.𝓡 ((λ s x. x), (λ x. x), (λ x. x), λ x. x)).sound c.args.world.now.disk) })
      c.tell_usage.ensures.tells,
)

pub returns-in-Err-NotOurs-clause-hosts : goal.returns-in-Err-NotOurs-clause-hosts
returns-in-Err-NotOurs-clause-hosts g c = (
  H.Before c.tell_usage-in-Err-NotOurs.result,
  c.status-in-Err-NotOurs.ensures,
  no_words _ _ _ _ _ c.tell_usage-in-Err-NotOurs.result
      (c.in-Err-NotOurs.ensures.not_ours (ap (λ e. Err e) c.in-Err-NotOurs.field-0-is))
      (record { tree = refl; maker = refl })
      (record { draws = refl; disk = Looks-none _ ((g.met.D.Disk g.world.𝓛 g.world.𝓜 g.world.𝓡 ((λ s x. x), (λ x. x), (λ x. x), λ x. x)).sound c.args.world.now.disk) })
      c.tell_usage-in-Err-NotOurs.ensures.tells,
)

pub returns-clause-hosts : goal.returns-clause-hosts
returns-clause-hosts g c = (
  H.Before R.NoMemory,
  c.status-in-Err-NoMemory.ensures,
  inr (
    record {
      ends = refl;
      texts = record { tree = refl; maker = refl };
      still = record {
        quiet = record { draws = refl; disk = Looks-none _ ((g.met.D.Disk g.world.𝓛 g.world.𝓜 g.world.𝓡 ((λ s x. x), (λ x. x), (λ x. x), λ x. x)).sound c.args.world.now.disk) };
        streams = refl;
      };
    },
    refl,
  ),
)
