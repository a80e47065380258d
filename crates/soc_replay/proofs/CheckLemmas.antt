-- A check of a journal, by its end.
use Rattle.std.proofs.Common.{◌≡◌, ℕ, ◌++◌, is_some, IfSome, List, Option, None, refl, sym, ap, ◌∙◌, subst, inl, inr}
use Rattle.std.specs.Prelude.{codes, length}
use Rattle.soc_schema.specs.Reports.{bare_row}
use Rattle.soc_edge.specs.Disk.{DiskTold, GoesOn, LeavesOnly}
use Rattle.soc_edge.specs.Told.{Told, Writes, WritesFront}
use Rattle.soc_ledger.specs.Due.{due_ids}
use Rattle.soc_ledger.specs.Events.{ask_count, held_ids, withdrawal_count}
use Rattle.soc_vault.specs.Openings.{OpeningLeaves}
use Rattle.soc_desk.specs.Basis.{Basis}
use Rattle.soc_desk.specs.Log.{events}
use Rattle.soc_desk.specs.State.{State, settled}
use Rattle.soc_book.specs.Openings.{IsBasisOf, OpensBook}
use Rattle.soc_replay.specs.declared.check.Counts.{Counts}
use Rattle.soc_replay.specs.declared.ending.RunEnd.{RunEnd}
use Rattle.soc_replay.specs.declared.ending.RunEnd.TheVariants as R
use Rattle.soc_replay.specs.Check.{Checks, CountsJournal, check_limits, count_line, counts_text}
use Rattle.soc_replay.specs.Opening.{OpensNot, StaysSilent}
use Rattle.soc_edge.specs.World.{Surroundings, surroundings}
use Rattle.soc_replay.specs.inner.Checking.{TellsCounts, counts_of}
use Rattle.soc_replay.proofs.ServingLemmas.{some_told}

pub checks_not : (before after : Surroundings) (end : RunEnd) → OpensNot before after end → Checks before after end
checks_not before after R.JournalRefused not = not
checks_not before after R.LineFault not = inr not
checks_not before after R.OpenFault not = not
checks_not before after R.NoMemory not = not
checks_not before after (R.Served _ _) never = absurd never
checks_not before after R.Written never = absurd never
checks_not before after R.Usage never = absurd never
checks_not before after R.TextRefused never = absurd never
checks_not before after R.TreeFault never = absurd never
checks_not before after R.MakerFault never = absurd never
checks_not before after R.InputFault never = absurd never

abbrev bare_basis : Option (List ℕ) → Basis
bare_basis told = record { row_of = bare_row; digest = None; journal_bytes = check_limits.journal_bytes; crashes = check_limits.crashes; is_told = is_some told }

-- each count is that of the log that stands
module _ (Stands : Basis → State → Type 0) (counts : Counts)
    (crashes : (basis : Basis) (state : State) → Stands basis state → counts.crashes ≡ length (held_ids (events basis state.log)))
    (asks : (basis : Basis) (state : State) → Stands basis state → counts.asks ≡ ask_count (events basis state.log))
    (due : (basis : Basis) (state : State) → Stands basis state → counts.due ≡ length (due_ids (events basis state.log)))
    (withdrawn : (basis : Basis) (state : State) → Stands basis state → counts.withdrawn ≡ withdrawal_count (events basis state.log)) where
  counts_are : (basis : Basis) (state : State) → Stands basis state → counts_of counts ≡ counts_text (events basis state.log)
  counts_are basis state stands =
      ap (λ (n : ℕ). count_line (codes "crashes ") n ++ (count_line (codes "asks ") counts.asks ++ (count_line (codes "due ") counts.due ++ count_line (codes "withdrawn ") counts.withdrawn))) (crashes basis state stands)
      ∙ (ap (λ (n : ℕ). count_line (codes "crashes ") (length (held_ids (events basis state.log))) ++ (count_line (codes "asks ") n ++ (count_line (codes "due ") counts.due ++ count_line (codes "withdrawn ") counts.withdrawn))) (asks basis state stands)
      ∙ (ap (λ (n : ℕ). count_line (codes "crashes ") (length (held_ids (events basis state.log))) ++ (count_line (codes "asks ") (ask_count (events basis state.log)) ++ (count_line (codes "due ") n ++ count_line (codes "withdrawn ") counts.withdrawn))) (due basis state stands)
      ∙ ap (λ (n : ℕ). count_line (codes "crashes ") (length (held_ids (events basis state.log))) ++ (count_line (codes "asks ") (ask_count (events basis state.log)) ++ (count_line (codes "due ") (length (due_ids (events basis state.log))) ++ count_line (codes "withdrawn ") n))) (withdrawn basis state stands)))

  counts_on : {D : Type 0} (state : D → DiskTold) (final here : D) → final ≡ here → (before : Surroundings) (streams : Told) (Tells : List ℕ → Type 0)
      → ((basis : Basis) → IsBasisOf bare_row None check_limits before.disk.content basis → OpensBook basis before.disk (state here) (Stands basis))
      → GoesOn before.disk (state here) → IfSome before.disk.content (λ bytes. LeavesOnly before.disk (state here) (OpeningLeaves before.disk.images bytes))
      → Tells (counts_of counts) → CountsJournal before (surroundings streams (state final) before.outlook) Tells
  counts_on state final here same before streams Tells opens goes_on leaves told =
      subst (λ d. CountsJournal before (surroundings streams (state d) before.outlook) Tells) (sym same)
      (let basis = bare_basis before.disk.content in
      let is : IsBasisOf bare_row None check_limits before.disk.content basis = record { rows = refl; digest_is = refl; bytes = refl; crashes_are = refl; tells = some_told before.disk.content } in
      let opened = opens basis is in
      record {
        opening = record {
          basis = basis;
          basis_is = is;
          told = refl;
          entries = opened.entries;
          log = opened.log;
          found = opened.found;
          opens = opened.opens;
        };
        draws = refl;
        disk = record { goes_on = goes_on; leaves = leaves };
        stands = opened.stands;
        text = subst Tells (counts_are basis (settled opened.log) opened.now) told;
      })

  -- a check whose journal was opened
  pub checks_by : {D : Type 0} (state : D → DiskTold) (final here : D) → final ≡ here → (before : Surroundings) (streams : Told) (end : RunEnd)
      → ((basis : Basis) → IsBasisOf bare_row None check_limits before.disk.content basis → OpensBook basis before.disk (state here) (Stands basis))
      → GoesOn before.disk (state here) → IfSome before.disk.content (λ bytes. LeavesOnly before.disk (state here) (OpeningLeaves before.disk.images bytes))
      → TellsCounts before.streams streams (counts_of counts) end → Checks before (surroundings streams (state final) before.outlook) end
  checks_by state final here same before streams R.Written opens goes_on leaves told =
      counts_on state final here same before streams (Writes before.streams streams) opens goes_on leaves told
  checks_by state final here same before streams R.LineFault opens goes_on leaves told =
      inl (counts_on state final here same before streams (WritesFront before.streams streams) opens goes_on leaves told)
  checks_by state final here same before streams R.NoMemory opens goes_on leaves told =
      subst (λ d. StaysSilent before (surroundings streams (state d) before.outlook)) (sym same)
      (record { draws = refl; disk = record { goes_on = goes_on; leaves = leaves }; streams = told })
  checks_by state final here same before streams (R.Served _ _) opens goes_on leaves never = absurd never
  checks_by state final here same before streams R.Usage opens goes_on leaves never = absurd never
  checks_by state final here same before streams R.TextRefused opens goes_on leaves never = absurd never
  checks_by state final here same before streams R.JournalRefused opens goes_on leaves never = absurd never
  checks_by state final here same before streams R.TreeFault opens goes_on leaves never = absurd never
  checks_by state final here same before streams R.MakerFault opens goes_on leaves never = absurd never
  checks_by state final here same before streams R.InputFault opens goes_on leaves never = absurd never
  checks_by state final here same before streams R.OpenFault opens goes_on leaves never = absurd never
