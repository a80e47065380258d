-- A storm over a book in memory is one over its log.
use Rattle.std.proofs.Common.{◌≡◌, ℕ, true, IsTrue, List, [], ◌++◌, length, Option, Some, Result, Ok, Err, refl, sym, ap, ◌∙◌, subst}
use Rattle.std.specs.Prelude.{IfOk, IfSome, is_some}
use Rattle.std.proofs.Math.Logic.{∥∥₁_map}
use Rattle.soc_schema.specs.declared.reporter.Reporter as reporter
use Rattle.soc_base.specs.Names.{value_of}
use Rattle.soc_edge.specs.Calls.{Calls}
use Rattle.soc_edge.specs.Disk.{DiskTold}
use Rattle.soc_edge.specs.declared.disk.Disk as disk
use Rattle.soc_edge.specs.Memory.{TreeState, tree_told}
use Rattle.soc_ledger.specs.Events.{held_ids}
use Rattle.soc_ledger.specs.Reported.{report_count}
use Rattle.soc_report.specs.Texts.{KitTexts}
use Rattle.soc_vault.specs.Openings.{AreEntriesOf}
use Rattle.soc_desk.specs.declared.desk.Limits.{Limits}
use Rattle.soc_desk.specs.Basis.{Basis}
use Rattle.soc_desk.specs.Log.{Change, events}
use Rattle.soc_desk.specs.State.{State}
use Rattle.soc_desk.specs.Runs.{DeskAt}
use Rattle.soc_book.specs.declared.book.Book.{Book}
use Rattle.soc_book.specs.Books.{StandsFor, disk_of, limits_of, reporter_of}
use Rattle.soc_book.specs.Openings.{IsBasisOf, OpensBook}
use Rattle.soc_turns.specs.Runs.{HasRun}
use Rattle.soc_replay.specs.declared.refusal.FilesFault.{FilesFault}
use Rattle.soc_replay.specs.declared.setup.Setup.{Setup}
use Rattle.soc_replay.specs.Files.{Said, Says}
use Rattle.soc_replay.specs.Replay.{digest_of, rows_of}
use Rattle.soc_serve.specs.declared.sweep.SweepFault.{SweepFault}
use Rattle.soc_serve.specs.Lines.{lines_of}
use Rattle.soc_serve.specs.Storm.{AreNoReports, PlaysOut, Subsides, no_files, signatures_of, term_lines}
use Rattle.soc_serve.specs.inner.Storm.{PlaysBy}
use Rattle.soc_serve.specs.inner.Sweeping.{EndsDrain}
use Rattle.soc_serve.proofs.Begun.{HasTurned, basis as basis_by, begun as begun_by, nothing_opened, opened as opened_by, run_of}
use Rattle.soc_serve.proofs.Sweeps.{nothing_due}
use Rattle.soc_serve.proofs.Unreported.{run_none}

-- ---- the end

-- what was due is processed, and what the log has is told
pub subsided : (basis : Basis) (before after : State) (disk disk' : DiskTold) (result : Result (Unit {0}) SweepFault) (count crashes reports : ℕ) (text whole : List ℕ)
    → result ≡ Ok tt → EndsDrain basis before disk result after disk' → crashes ≡ length (held_ids (events basis after.log)) → reports ≡ report_count (events basis after.log) → crashes ≡ count
    → text ≡ lines_of crashes reports → whole ≡ text ++ term_lines (signatures_of basis after.log) → Subsides basis before count whole
subsided basis before after disk disk' result count crashes reports text whole is ends held reported all counts told =
    let drained : EndsDrain basis before disk (Ok tt) after disk' = subst (λ (r : Result (Unit {0}) SweepFault). EndsDrain basis before disk r after disk') is ends in
    let lines : text ≡ lines_of (length (held_ids (events basis after.log))) (report_count (events basis after.log)) =
    counts ∙ (ap (λ n. lines_of n reports) held ∙ ap (lines_of (length (held_ids (events basis after.log)))) reported) in
    record {
      processed = drained.0;
      swept = after;
      processes = drained.1;
      nothing_due = nothing_due basis before drained.0 after drained.1;
      all_held = sym held ∙ all;
      text_is = told ∙ ap (λ t. t ++ term_lines (signatures_of basis after.log)) lines;
    }

-- ---- the whole

module _ {D R : Type 0} {d : disk.Ghosts D} {r : reporter.Ghosts R} (before : DiskTold) (empty : before.content ≡ Some []) (by : R) (limits : Limits) (count : ℕ)
    (first second : Book D R d r) (reporter_is : reporter_of first ≡ by) (limits_are : limits_of first ≡ limits)
    (opens : (basis : Basis) → IsBasisOf (r.row_of by) (r.digest_of by) limits before.content basis → OpensBook basis before (disk_of first) (StandsFor basis first)) where
  told_all : is_some before.content ≡ true
  told_all = ap (λ (c : Option (List ℕ)). is_some c) empty

  abbrev basis : Basis
  basis = basis_by true before told_all by limits first second reporter_is limits_are opens

  abbrev opened : OpensBook basis before (disk_of first) (StandsFor basis first)
  opened = opened_by true before told_all by limits first second reporter_is limits_are opens

  abbrev begun : DeskAt
  begun = begun_by true before told_all by limits first second reporter_is limits_are opens

  found : AreEntriesOf [] opened.entries
  found = subst (λ (c : Option (List ℕ)). IfSome c (λ bytes. AreEntriesOf bytes opened.entries)) empty opened.found

  abbrev IsSummed : List ℕ → Type 0
  IsSummed text = (basis : Basis) (state : State) → basis.row_of ≡ r.row_of (reporter_of second) → IsTrue basis.is_told → StandsFor basis second state → Subsides basis state count text

  played : (kept : ℕ) (text : List ℕ) → IsSummed text → HasTurned true first second kept → PlaysBy (r.row_of by) (r.digest_of by) limits count text
  played kept text summed turned =
      let ran : HasRun basis first second begun = run_of true before told_all by limits first second reporter_is limits_are opens kept turned in
      let none = nothing_opened basis opened.entries opened.log opened.opens found in
      record {
        opening = record {
          basis = basis;
          basis_is = record { rows = refl; digest_is = refl; bytes = refl; crashes_are = refl; tells = λ is. refl };
          told = refl;
          entries = opened.entries;
          log = opened.log;
          found = found;
          opens = opened.opens;
        };
        closed = ran.last.state;
        legal = ran.over.stands.legal;
        none_kept = run_none basis (disk_of second).since ran.turns begun ran.last ran.runs (subst (λ (l : List Change). AreNoReports (events basis l)) (sym none) tt) tt;
        subsides = summed basis ran.last.state (ap r.row_of (sym (turned.same_reporter ∙ reporter_is))) refl ran.over.stands;
      }

  pub plays_ok : {E : Type 0} (kept : ℕ) (result : Result (List ℕ) E) → IfOk result IsSummed → ∥ HasTurned true first second kept ∥₁
      → IfOk result (λ text. ∥ PlaysBy (r.row_of by) (r.digest_of by) limits count text ∥₁)
  plays_ok kept (Ok text) summed turned = ∥∥₁_map turned (λ (t : HasTurned true first second kept). played kept text summed t)
  plays_ok kept (Err error) summed turned = tt

-- by the kit that the texts of a tree without files are seen as
pub plays_out : (kit texts : KitTexts) (setup : Setup) (count : ℕ) (text : List ℕ) → kit ≡ texts → Says (Some no_files) (Ok (record { setup = setup; texts = texts }))
    → ∥ PlaysBy (rows_of kit) (digest_of kit) setup.limits count text ∥₁ → ∥ PlaysOut count text ∥₁
plays_out kit texts setup count text same says plays =
    ∥∥₁_map (subst (λ k. ∥ PlaysBy (rows_of k) (digest_of k) setup.limits count text ∥₁) same plays) (λ (p : PlaysBy (rows_of texts) (digest_of texts) setup.limits count text). record {
      said = record { setup = setup; texts = texts };
      says = says;
      opening = p.opening;
      closed = p.closed;
      legal = p.legal;
      none_kept = p.none_kept;
      subsides = p.subsides;
    })

-- what a tree without files says
pub empty_says : (tree : TreeState) (files : List (List ℕ × List ℕ)) (calls : Calls) (said : Result Said FilesFault) → tree ≡ record { files = files; calls = calls } → files ≡ []
    → Says (tree_told tree).files said → Says (Some no_files) said
empty_says tree files calls said is none says = subst (λ f. Says (Some (value_of f)) said) (ap (λ t. t.files) is ∙ none) says

pub out_ok : {E : Type 0} (kit texts : KitTexts) (setup : Setup) (count : ℕ) (result : Result (List ℕ) E) → kit ≡ texts → Says (Some no_files) (Ok (record { setup = setup; texts = texts }))
    → IfOk result (λ text. ∥ PlaysBy (rows_of kit) (digest_of kit) setup.limits count text ∥₁) → IfOk result (λ text. ∥ PlaysOut count text ∥₁)
out_ok kit texts setup count (Ok text) same says plays = plays_out kit texts setup count text same says plays
out_ok kit texts setup count (Err error) same says plays = tt
