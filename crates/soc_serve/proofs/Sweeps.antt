-- What the steps of the last sweep do to a desk's state.
use Rattle.std.proofs.Common.{◌≡◌, ◌⊎◌, ℕ, true, false, List, [], ◌∷◌, ◌++◌, map, Result, Ok, Err, refl, sym, ap, ◌∙◌, inl, inr, ⊎_elim, append_assoc, append-nil, arith, ◌≤◌}
use Rattle.std.proofs.lemmas.List.{map-append}
use Rattle.soc_base.proofs.Folk.{none_is_not_some}
use Rattle.soc_edge.specs.Disk.{DiskTold, DiskFailed, GoesOn}
use Rattle.soc_ledger.specs.declared.event.Event.{Event}
use Rattle.soc_ledger.specs.declared.event.Event.TheVariants as E
use Rattle.soc_ledger.specs.Due.{due_ids}
use Rattle.soc_schema.specs.declared.caller.Caller.{Caller}
use Rattle.soc_schema.specs.declared.caller.Products.TheVariants.{All as AllProducts}
use Rattle.soc_desk.specs.declared.desk.Command.TheVariants as C
use Rattle.soc_desk.specs.declared.desk.Reply.{Reply}
use Rattle.soc_desk.specs.declared.desk.Reply.TheVariants as R
use Rattle.soc_desk.specs.declared.desk.Refusal.{Refusal}
use Rattle.soc_desk.specs.declared.desk.Refusal.TheVariants as F
use Rattle.soc_desk.specs.Basis.{Basis}
use Rattle.soc_desk.specs.Grows.{BehindDoubt}
use Rattle.soc_desk.specs.Keeps.{KeepsWith, Reports}
use Rattle.soc_desk.specs.Log.{Change, done, event_of, events}
use Rattle.soc_desk.specs.State.{State, IsLegalState}
use Rattle.soc_desk.proofs.Drained.{drains_all}
use Rattle.soc_book.specs.Keeping.{KeepsReports}
use Rattle.soc_book.specs.inner.Does.{Does}
use Rattle.soc_serve.specs.declared.sweep.SweepFault.{SweepFault}
use Rattle.soc_serve.specs.declared.sweep.SweepFault.TheVariants as S
use Rattle.soc_serve.specs.Sweep.{EndsSweep, FailsBoth, FailsBy, FailsSweep, IsBehind, IsFault, KeepsAll, KeepsTwice, Processes, ProcessesAndKeeps, ProcessesWith}
use Rattle.soc_serve.specs.inner.Sweeping.{EndsBoth, EndsDrain, EndsKeep, FailsStep, drained, kept}

-- a caller who may have crashes processed
abbrev pub operator : Caller
operator = record {
  permissions = record { protected_data = false; view_rawdump = false; reprocess_crashes = false; operate = true };
  products = AllProducts;
}

pub processed_with : (basis : Basis) (before : State) (disk : DiskTold) (reply : Reply) (after : State) (disk' : DiskTold)
    → IsLegalState basis after → Does basis before disk (C.Drain operator) reply after disk' → ProcessesWith basis before reply after
processed_with basis before disk reply after disk' legal does =
    record { piece = does.gains.piece; behind = does.gains.behind; drains = does.gains.grows.0; legal = legal; step = does.step }

pub ends_drain : (basis : Basis) (before : State) (disk : DiskTold) (reply : Reply) (after : State) (disk' : DiskTold)
    → IsLegalState basis after → Does basis before disk (C.Drain operator) reply after disk' → EndsDrain basis before disk (drained reply) after disk'
ends_drain basis before disk (R.Drained count) after disk' legal does = (count, processed_with basis before disk (R.Drained count) after disk' legal does)
ends_drain basis before disk (R.Refused F.NoMemory) after disk' legal does = (
  record { behind = (does.gains.piece, does.gains.behind); cause = λ is. cc },
  F.NoMemory,
  refl,
  processed_with basis before disk (R.Refused F.NoMemory) after disk' legal does,
)
ends_drain basis before disk (R.Refused F.StoreFault) after disk' legal does = (
  record { behind = (does.gains.piece, does.gains.behind); cause = λ is. inl (does.fault tt) },
  F.StoreFault,
  refl,
  processed_with basis before disk (R.Refused F.StoreFault) after disk' legal does,
)
ends_drain basis before disk (R.Refused (F.Altered id)) after disk' legal does = (
  record { behind = (does.gains.piece, does.gains.behind); cause = λ is. inr (does.altered tt) },
  F.Altered id,
  refl,
  processed_with basis before disk (R.Refused (F.Altered id)) after disk' legal does,
)
ends_drain basis before disk (R.Refused (F.NoPermission name)) after disk' legal does = absurd (none_is_not_some does.kind)
ends_drain basis before disk reply after disk' legal does = absurd does.kind.1

-- what was processed, whatever the answer
pub processed_so : (basis : Basis) (before : State) (disk : DiskTold) (result : Result (Unit {0}) SweepFault) (after : State) (disk' : DiskTold)
    → EndsDrain basis before disk result after disk' → (reply : Reply) × ProcessesWith basis before reply after
processed_so basis before disk (Ok over) after disk' ends = (R.Drained ends.0, ends.1)
processed_so basis before disk (Err fault) after disk' ends = (R.Refused ends.1, ends.3)

none_of : (log : List Event) (doubt : List Event) (piece : List Event) (Adds : List Event → List Event → Type 0)
    → BehindDoubt log doubt piece Adds → ((l own : List Event) → Adds l own → ⊥) → ⊥
none_of log [] piece Adds adds never = never log piece adds
none_of log (first ∷ more) piece Adds (inl adds) never = never log piece adds
none_of log (first ∷ more) piece Adds (inr adds) never = never (log ++ first ∷ more) adds.0 adds.2

kept_with : (basis : Basis) (before : State) (disk : DiskTold) (reply : Reply) (after : State) (disk' : DiskTold)
    → KeepsReports basis before disk reply after disk' → KeepsWith basis before reply after
kept_with basis before disk reply after disk' keeps =
    record { piece = keeps.piece; behind = keeps.behind; grows = keeps.grows; legal = keeps.legal; step = keeps.step }

pub ends_keep : (basis : Basis) (before : State) (disk : DiskTold) (reply : Reply) (after : State) (disk' : DiskTold)
    → KeepsReports basis before disk reply after disk' → EndsKeep basis before disk (kept reply) after disk'
ends_keep basis before disk (R.Kept count) after disk' keeps = (count, kept_with basis before disk (R.Kept count) after disk' keeps)
ends_keep basis before disk (R.Refused F.NoMemory) after disk' keeps =
    (record { behind = (keeps.piece, keeps.behind); cause = λ is. cc }, F.NoMemory, refl, kept_with basis before disk (R.Refused F.NoMemory) after disk' keeps)
ends_keep basis before disk (R.Refused F.StoreFault) after disk' keeps = (
  record { behind = (keeps.piece, keeps.behind); cause = λ is. inl (keeps.fault tt) },
  F.StoreFault,
  refl,
  kept_with basis before disk (R.Refused F.StoreFault) after disk' keeps,
)
ends_keep basis before disk reply after disk' keeps = absurd (none_of _ _ _ (Reports basis _ _) keeps.grows (λ log own (reports : Reports basis _ _ log own). reports.ends))

done_events : (basis : Basis) (ids : List (List ℕ)) → events basis (map done ids) ≡ map E.Done ids
done_events basis [] = refl
done_events basis (id ∷ ids) = ap (λ t. E.Done id ∷ t) (done_events basis ids)

-- nothing is due once all that was due is processed
pub nothing_due : (basis : Basis) (before : State) (count : ℕ) (after : State) → Processes basis before count after → due_ids (events basis after.log) ≡ []
nothing_due basis before count after processes =
    let ids = due_ids (events basis before.log) in
    ap (λ l. due_ids (events basis l)) processes.behind
    ∙ ap due_ids (map-append (event_of basis) before.log processes.piece ∙ ap (λ own. events basis before.log ++ own) (processes.drains.1 ∙ sym (done_events basis ids))
    ∙ sym (map-append (event_of basis) before.log (map done ids)))
    ∙ (drains_all basis before.log).nothing_due

-- ---- the whole

-- a fault of some calls is one of all of them
wider_fault : (disk from to disk' : DiskTold) → disk.faults ≤ from.faults → to.faults ≤ disk'.faults → DiskFailed from to → DiskFailed disk disk'
wider_fault disk from to disk' first last (inl rose) = inl (omega (arith, first, last, rose))
wider_fault disk from to disk' first last (inr stands) = inr (omega (arith, last, stands))

behind_both : (log middle after piece more : List Change) → middle ≡ log ++ piece → after ≡ middle ++ more → after ≡ log ++ (piece ++ more)
behind_both log middle after piece more first last = last ∙ (ap (λ l. l ++ more) first ∙ append_assoc log piece more)

pub still : (state : State) → IsBehind state state
still state = ([], sym (append-nil state.log))

pub behind_again : (before middle after : State) → IsBehind before middle → IsBehind middle after → IsBehind before after
behind_again before middle after first last =
    (first.0 ++ last.0, behind_both before.log middle.log after.log first.0 last.0 first.1 last.1)

twice_behind : (basis : Basis) (before : State) (processed kept : Reply) (after : State) → KeepsTwice basis before processed kept after → IsBehind before after
twice_behind basis before processed kept after keeps =
    let then = keeps.goes_on in
    behind_again before then.first after
    (behind_again before keeps.opened then.first (keeps.keeps_early.piece, keeps.keeps_early.behind) (then.processes.piece, then.processes.behind))
    (then.keeps_made.piece, then.keeps_made.behind)

-- a step that failed, behind others and before others
fails_within : (basis : Basis) (before from to after : State) (disk middle last disk' : DiskTold) (fault : SweepFault)
    → disk.faults ≤ middle.faults → IsBehind before from → FailsStep basis from middle fault to last → last.faults ≤ disk'.faults → IsBehind to after
    → FailsStep basis before disk fault after disk'
fails_within basis before from to after disk middle last disk' fault on behind fails on_to later = record {
  behind = behind_again before to after (behind_again before from to behind fails.behind) later;
  cause = λ is. ⊎_elim (λ rose. inl (wider_fault disk middle last disk' on on_to rose)) (λ untold. inr untold) (fails.cause is);
}

pub fails_behind : (basis : Basis) (before from after : State) (disk middle disk' : DiskTold) (fault : SweepFault)
    → GoesOn disk middle → IsBehind before from → FailsStep basis from middle fault after disk' → FailsStep basis before disk fault after disk'
fails_behind basis before from after disk middle disk' fault on behind fails =
    fails_within basis before from after after disk middle disk' disk' fault on.faults_never_fall behind fails (omega arith) (still after)

pub ends_both : (basis : Basis) (before first after : State) (disk middle disk' : DiskTold) (result : Result (Unit {0}) SweepFault) (count : ℕ)
    → EndsDrain basis before disk result first middle → GoesOn middle disk' → KeepsAll basis first count after
    → EndsBoth basis before disk result after disk'
ends_both basis before first after disk middle disk' (Ok over) count ends on keeps =
    (ends.0, count, record { first = first; processes = ends.1; keeps_made = keeps })
ends_both basis before first after disk middle disk' (Err fault) count ends on keeps = (
  fails_within basis before before first after disk disk middle disk' fault (omega arith) (still before) ends.0 on.faults_never_fall (keeps.piece, keeps.behind),
  ends.1,
  ends.2,
  inr (count, record { first = first; processes = ends.3; keeps_made = keeps }),
)

-- ---- the sweep failed

pub fails_sweep : (basis : Basis) (before after : State) (disk disk' : DiskTold) (fault : SweepFault) (why : Refusal) → FailsStep basis before disk fault after disk'
    → IsFault why fault → FailsBy basis before why after → FailsSweep basis before disk.faults fault after disk'.faults
fails_sweep basis before after disk disk' fault why fails is by = record { behind = fails.behind; cause = fails.cause; stage = inr (why, is, by) }

twice_fails : (basis : Basis) (before opened after : State) (early : ℕ) (why : Refusal) → KeepsAll basis before early opened
    → FailsBoth (λ processed kept. ProcessesAndKeeps basis opened processed kept after) why → FailsBoth (λ processed kept. KeepsTwice basis before processed kept after) why
twice_fails basis before opened after early why keeps (inl goes) = inl (goes.0, record { early = early; opened = opened; keeps_early = keeps; goes_on = goes.1 })
twice_fails basis before opened after early why keeps (inr goes) = inr (goes.0, record { early = early; opened = opened; keeps_early = keeps; goes_on = goes.1 })

-- behind the first reports
pub second_failed : (basis : Basis) (before opened after : State) (disk middle disk' : DiskTold) (fault : SweepFault) (early : ℕ) → GoesOn disk middle
    → KeepsAll basis before early opened → EndsBoth basis opened middle (Err fault) after disk' → FailsSweep basis before disk.faults fault after disk'.faults
second_failed basis before opened after disk middle disk' fault early on keeps ends =
    fails_sweep basis before after disk disk' fault ends.1
    (fails_behind basis before opened after disk middle disk' fault on (keeps.piece, keeps.behind) ends.0) ends.2
    (inr (inl (twice_fails basis before opened after early ends.1 keeps ends.3)))

-- the last step, whatever it ended with
pub ends_sweep : (basis : Basis) (before opened kept after : State) (disk middle disk' : DiskTold) (result : Result (Unit {0}) SweepFault) (early : ℕ)
    → KeepsAll basis before early opened → EndsBoth basis opened disk (Ok tt) kept middle → GoesOn disk middle → EndsDrain basis kept middle result after disk'
    → EndsSweep basis before disk result after disk'
ends_sweep basis before opened kept after disk middle disk' (Ok over) early early_keeps both on ends = record {
  processed = both.0;
  count = both.1;
  kept = kept;
  keeps = record { early = early; opened = opened; keeps_early = early_keeps; goes_on = both.2 };
  late = ends.0;
  processes_late = ends.1;
  nothing_due = nothing_due basis kept ends.0 after ends.1;
}
ends_sweep basis before opened kept after disk middle disk' (Err fault) early early_keeps both on ends =
    let keeps : KeepsTwice basis before (R.Drained both.0) (R.Kept both.1) kept = record { early = early; opened = opened; keeps_early = early_keeps; goes_on = both.2 } in
    fails_sweep basis before after disk disk' fault ends.1
    (fails_behind basis before kept after disk middle disk' fault on (twice_behind basis before (R.Drained both.0) (R.Kept both.1) kept keeps) ends.0) ends.2
    (inr (inr (both.0, both.1, kept, keeps, ends.3)))
