use Rattle.std.proofs.Common.{◌≡◌, ◌++◌, ap, arith, refl, sym, take, ◌∙◌}
use Rattle.soc_ledger.specs.Due.{due_ids}
use Rattle.soc_pool.specs.Passes.{seen_of}
use Rattle.soc_service.specs.Changes.{events_in}
use Rattle.soc_service.specs.Works.{crash_jobs}
use Rattle.soc_crew.proofs.Passes.{put_all, put_more, put_none}
use Rattle.soc_crew.proofs.jobs.put_due.Goals as goal

pub loop-place-init : goal.loop-place-init
loop-place-init g c = record { pass = c.requires; has = put_none _ _ _ refl }

pub loop-place-preserved : goal.loop-place-preserved
loop-place-preserved g c = record {
  pass = c.in-Ok.ensures.pass;
  has = put_more _ _ c.in-Some.id _ _ _ (sym c.in-Some.ensures) c.loop-place.invariant.has c.in-Ok.ensures.put.0;
}

pub returns-in_default-clause-puts : goal.returns-in_default-clause-puts
returns-in_default-clause-puts g c =
    let within = c.loop-place-test.true in
    put_all _ c.loop-place.place _ _ (omega arith) (sym c.in_default.ensures) c.loop-place.invariant.has

pub returns-clause-puts : goal.returns-clause-puts
returns-clause-puts g c =
    let due = due_ids (events_in (g.T.Logged.log_of c.args.desk.now)) in
    let past = c.loop-place-test.false in
    let end = c.loop-place.auto.place-end in
    let all : c.loop-place.place ≡ 1_024 = omega arith in
    c.loop-place.invariant.has.puts ∙ ap (λ n. (seen_of c.args.pass).puts ++ crash_jobs (take n due)) all
