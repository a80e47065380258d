-- The service by what its words and its files say.
use Rattle.std.proofs.Common.{◌≡◌, ◌⊎◌, ℕ, Option, None, Some, Result, Ok, refl, sym, subst, inl, inr, arith}
use Rattle.std.specs.Prelude.{IfOk}
use Rattle.soc_report.specs.Texts.{KitTexts}
use Rattle.soc_pool.specs.declared.pass.RingEnd.{RingEnd}
use Rattle.soc_words.specs.declared.words.Task.{Task}
use Rattle.soc_words.specs.declared.words.Task.TheVariants as T
use Rattle.soc_words.specs.declared.words.Words.{Words}
use Rattle.soc_crew.specs.declared.crew.Crew.{Crew}
use Rattle.soc_replay.specs.declared.ending.RunEnd.{RunEnd}
use Rattle.soc_replay.specs.declared.ending.RunEnd.TheVariants as R
use Rattle.soc_replay.specs.declared.setup.Setup.{Setup}
use Rattle.soc_replay.specs.Serving.{Service, service}
use Rattle.soc_replay.specs.Stacks.{stacks_by}
use Rattle.soc_replay.specs.Ends as run
use Rattle.soc_replay.specs.Opening.{OpensNot}
use Rattle.soc_edge.specs.World.{Outside, StaysQuiet, Surroundings}
use Rattle.soc_replay.specs.Replay.{digest_of, rows_of}
use Rattle.soc_replay.specs.Tasks.{LeavesTexts}
use Rattle.soc_replay.specs.inner.Refusals.{TellsUsage}
use Rattle.soc_serve.specs.declared.ending.HostEnd.{HostEnd}
use Rattle.soc_serve.specs.declared.ending.HostEnd.TheVariants as H
use Rattle.soc_serve.specs.declared.lines.LinesFault.TheVariants as L
use Rattle.soc_serve.specs.declared.sweep.SweepFault.TheVariants as S
use Rattle.soc_serve.specs.Ends.{status_of}
use Rattle.soc_serve.specs.Hosts.{EndsEarly, Hosts, HostsSaid, HostsTask, HostsWords, IsServe, TellsOnly}
use Rattle.soc_serve.specs.Storm.{Storms}
use Rattle.soc_serve.specs.inner.Hosting.{HostsFiles}
use Rattle.soc_serve.specs.inner.Serving.{ServesDesk}

-- a kit is seen as its texts
pub serves_with : (kit texts : KitTexts) (setup : Setup) (crew : Crew) (kept : ℕ) (ring : Option RingEnd) (before after : Surroundings) (end : HostEnd) → kit ≡ texts
    → ServesDesk (service (rows_of kit) (digest_of kit) (stacks_by kit) setup) crew kept ring before after end
    → ServesDesk (service (rows_of texts) (digest_of texts) (stacks_by texts) setup) crew kept ring before after end
serves_with kit texts setup crew kept ring before after end same serves =
    subst (λ k. ServesDesk (service (rows_of k) (digest_of k) (stacks_by k) setup) crew kept ring before after end) same serves

early_of : (crew : Crew) (kept : ℕ) (ring : Option RingEnd) (before after : Outside) (end : RunEnd) → HostsFiles crew kept ring before after (H.Before end) → EndsEarly before after end
early_of crew kept ring before after R.JournalRefused files = record { said = files.said; says = files.says; runs = files.serves.0.not }
early_of crew kept ring before after R.OpenFault files = (record { said = files.said; says = files.says; runs = files.serves.0.not }, files.serves.0.cause refl)
early_of crew kept ring before after R.LineFault files = inr (record { said = files.said; says = files.says; runs = files.serves.0.not })
early_of crew kept ring before after R.NoMemory files = files.serves.0.not
early_of crew kept ring before after (R.Served _ _) files = absurd files.serves.0.not
early_of crew kept ring before after R.TextRefused files = absurd files.serves.0.not
early_of crew kept ring before after R.TreeFault files = absurd files.serves.0.not
early_of crew kept ring before after R.MakerFault files = absurd files.serves.0.not
early_of crew kept ring before after R.InputFault files = absurd files.serves.0.not
early_of crew kept ring before after R.Written files = absurd files.serves.0.not
early_of crew kept ring before after R.Usage files = absurd files.serves.0.not

pub hosts_of : (crew : Crew) (kept : ℕ) (ring : Option RingEnd) (before after : Outside) (end : HostEnd) → HostsFiles crew kept ring before after end → Hosts crew kept ring before after end
hosts_of crew kept ring before after (H.Before end) files = (early_of crew kept ring before after end files, files.serves.1)
hosts_of crew kept ring before after (H.Swept fault) files = record { said = files.said; says = files.says; hosts = files.serves }
hosts_of crew kept ring before after (H.Lines fault) files = record { said = files.said; says = files.says; hosts = files.serves }
hosts_of crew kept ring before after H.Failed files = record { said = files.said; says = files.says; hosts = files.serves }
hosts_of crew kept ring before after H.Done files = record { said = files.said; says = files.says; hosts = files.serves }

-- neither the tree nor the maker of patterns is blamed once the files are read
BlamesNeither : ℕ → Type 0
BlamesNeither status = (status ≡ 8 → ⊥) × (status ≡ 11 → ⊥)

early_blames : (before after : Surroundings) (end : RunEnd) → OpensNot before after end → BlamesNeither (run.status_of end)
unfolding BlamesNeither
early_blames before after R.JournalRefused not = ((λ is. omega (arith, is)), (λ is. omega (arith, is)))
early_blames before after R.LineFault not = ((λ is. omega (arith, is)), (λ is. omega (arith, is)))
early_blames before after R.OpenFault not = ((λ is. omega (arith, is)), (λ is. omega (arith, is)))
early_blames before after R.NoMemory not = ((λ is. omega (arith, is)), (λ is. omega (arith, is)))
early_blames before after (R.Served _ _) never = absurd never
early_blames before after R.Written never = absurd never
early_blames before after R.Usage never = absurd never
early_blames before after R.TextRefused never = absurd never
early_blames before after R.TreeFault never = absurd never
early_blames before after R.MakerFault never = absurd never
early_blames before after R.InputFault never = absurd never

pub blames_neither : (by : Service) (crew : Crew) (kept : ℕ) (ring : Option RingEnd) (before after : Surroundings) (end : HostEnd) → ServesDesk by crew kept ring before after end
    → (status_of end ≡ 8 → ⊥) × (status_of end ≡ 11 → ⊥)
unfolding BlamesNeither
blames_neither by crew kept ring before after (H.Before end) serves = early_blames before after end serves.0.not
blames_neither by crew kept ring before after (H.Swept S.Disk) serves = ((λ is. omega (arith, is)), (λ is. omega (arith, is)))
blames_neither by crew kept ring before after (H.Swept S.NoMemory) serves = ((λ is. omega (arith, is)), (λ is. omega (arith, is)))
blames_neither by crew kept ring before after (H.Lines L.Cut) serves = ((λ is. omega (arith, is)), (λ is. omega (arith, is)))
blames_neither by crew kept ring before after (H.Lines L.NoMemory) serves = ((λ is. omega (arith, is)), (λ is. omega (arith, is)))
blames_neither by crew kept ring before after H.Failed serves = ((λ is. omega (arith, is)), (λ is. omega (arith, is)))
blames_neither by crew kept ring before after H.Done serves = ((λ is. omega (arith, is)), (λ is. omega (arith, is)))

-- the usage line was written, or a front of it
usage_told : (before after : Outside) (end : RunEnd) → LeavesTexts before after → StaysQuiet before.around after.around → TellsUsage before.around.streams after.around.streams end
    → TellsOnly before after (H.Before end)
usage_told before after R.Usage texts quiet tells = record { texts = texts; quiet = quiet; line = tells }
usage_told before after R.LineFault texts quiet tells = record { texts = texts; quiet = quiet; line = tells }
usage_told before after R.NoMemory texts quiet never = absurd never
usage_told before after (R.Served _ _) texts quiet never = absurd never
usage_told before after R.Written texts quiet never = absurd never
usage_told before after R.TextRefused texts quiet never = absurd never
usage_told before after R.JournalRefused texts quiet never = absurd never
usage_told before after R.TreeFault texts quiet never = absurd never
usage_told before after R.MakerFault texts quiet never = absurd never
usage_told before after R.InputFault texts quiet never = absurd never
usage_told before after R.OpenFault texts quiet never = absurd never

pub no_words : (said : Option Words) (kept : ℕ) (ring : Option RingEnd) (before after : Outside) (end : RunEnd) → said ≡ None → LeavesTexts before after → StaysQuiet before.around after.around
    → TellsUsage before.around.streams after.around.streams end → HostsWords said kept ring before after (H.Before end)
no_words said kept ring before after end is texts quiet tells =
    inl (subst (λ (s : Option Words). HostsSaid s kept ring before after (H.Before end)) (sym is) (usage_told before after end texts quiet tells))

other_task : (words : Words) (task : Task) (kept : ℕ) (ring : Option RingEnd) (before after : Outside) (end : HostEnd) → (task ≡ T.Check) ⊎ ((task ≡ T.Make) ⊎ ((task ≡ T.Replay) ⊎ (task ≡ T.Export))) → TellsOnly before after end
    → HostsTask words task kept ring before after end
other_task words task kept ring before after end (inl is) tells = subst (λ (t : Task). HostsTask words t kept ring before after end) (sym is) tells
other_task words task kept ring before after end (inr (inl is)) tells = subst (λ (t : Task). HostsTask words t kept ring before after end) (sym is) tells
other_task words task kept ring before after end (inr (inr (inl is))) tells = subst (λ (t : Task). HostsTask words t kept ring before after end) (sym is) tells
other_task words task kept ring before after end (inr (inr (inr is))) tells = subst (λ (t : Task). HostsTask words t kept ring before after end) (sym is) tells

pub other_words : (said : Option Words) (words : Words) (kept : ℕ) (ring : Option RingEnd) (before after : Outside) (end : RunEnd) → said ≡ Some words
    → (words.command ≡ T.Check) ⊎ ((words.command ≡ T.Make) ⊎ ((words.command ≡ T.Replay) ⊎ (words.command ≡ T.Export))) → LeavesTexts before after → StaysQuiet before.around after.around
    → TellsUsage before.around.streams after.around.streams end → HostsWords said kept ring before after (H.Before end)
other_words said words kept ring before after end is other texts quiet tells =
    inl (subst (λ (s : Option Words). HostsSaid s kept ring before after (H.Before end)) (sym is)
    (other_task words words.command kept ring before after (H.Before end) other (usage_told before after end texts quiet tells)))

pub hosts_words : (said : Option Words) (words : Words) (kept : ℕ) (ring : Option RingEnd) (before after : Outside) (end : HostEnd) → said ≡ Some words → words.command ≡ T.Serve
    → Hosts (record { collectors = words.collectors; processors = words.processors }) kept ring before after end
    → HostsWords said kept ring before after end
hosts_words said words kept ring before after end is serve hosts =
    inl (subst (λ (s : Option Words). HostsSaid s kept ring before after end) (sym is) (subst (λ (task : Task). HostsTask words task kept ring before after end) (sym serve) hosts))

pub storms_words : (said : Option Words) (words : Words) (kept : ℕ) (ring : Option RingEnd) (before after : Outside) (end : HostEnd) → said ≡ Some words → words.command ≡ T.Storm → Storms words.count before after end
    → HostsWords said kept ring before after end
storms_words said words kept ring before after end is storm storms =
    inl (subst (λ (s : Option Words). HostsSaid s kept ring before after end) (sym is) (subst (λ (task : Task). HostsTask words task kept ring before after end) (sym storm) storms))

pub is_serve : (said : Option Words) (words : Words) → said ≡ Some words → words.command ≡ T.Serve → IsServe said
is_serve said words is serve = subst IsServe (sym is) serve

pub no_serve : (said : Option Words) (words : Words) → said ≡ Some words → words.command ≡ T.Storm → IsServe said → ⊥
no_serve said words is storm serve = let serves : words.command ≡ T.Serve = subst IsServe is serve in cc

-- what an `Ok` is said of
pub ok_of : {A E : Type 0} (P : A → Type 0) (result : Result A E) (value : A) → result ≡ Ok value → IfOk result P → P value
ok_of P result value is ok = subst (λ r. IfOk r P) is ok
