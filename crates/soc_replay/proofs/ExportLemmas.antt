-- An export over a journal that is opened and then only looked at, and a whole one, by its end.
use Rattle.std.proofs.Common.{◌≡◌, ◌⊎◌, ℕ, ◌≤◌, false, IsTrue, is_some, IfSome, List, Option, None, Some, Ok, Err, inl, inr, refl, sym, ap, subst, ◌∙◌, arith}
use Rattle.std.specs.List.{concat}
use Rattle.soc_raw.specs.Record.{Crash}
use Rattle.soc_schema.specs.declared.caller.Caller.{Caller}
use Rattle.soc_schema.specs.declared.value.Cell.{Cell}
use Rattle.soc_edge.specs.Disk.{DiskFailed, DiskTold, GoesOn, IsDisk, LeavesOnly, Looks}
use Rattle.soc_edge.specs.Faults.{Rose}
use Rattle.soc_edge.specs.Told.{OnlyReads, Told, WriteFailed, Writes, WritesFront}
use Rattle.soc_edge.specs.World.{Outside, RunHasCause, StaysQuiet, StaysStill, Surroundings, surroundings}
use Rattle.soc_edge.proofs.Disks.{GoesOn-append}
use Rattle.soc_journal.specs.Entries.{Entry}
use Rattle.soc_vault.specs.Openings.{OpeningLeaves, StandsSince}
use Rattle.soc_desk.specs.declared.desk.Limits.{Limits}
use Rattle.soc_desk.specs.Basis.{Basis}
use Rattle.soc_desk.specs.Log.{Change}
use Rattle.soc_desk.specs.State.{State, settled}
use Rattle.soc_book.specs.Openings.{IsBasisOf, OpensBook}
use Rattle.soc_report.specs.Texts.{KitTexts}
use Rattle.soc_export.specs.declared.ending.ExportEnd.{ExportEnd}
use Rattle.soc_export.specs.declared.ending.ExportEnd.TheVariants as E
use Rattle.soc_export.specs.Ends.{TellsLog}
use Rattle.soc_export.specs.Keys.{Asks}
use Rattle.soc_export.specs.Lines.{WritesSome, export_of}
use Rattle.soc_replay.specs.declared.ending.RunEnd.{RunEnd}
use Rattle.soc_replay.specs.declared.ending.RunEnd.TheVariants as R
use Rattle.soc_replay.specs.declared.refusal.FileRefusal.{FileRefusal}
use Rattle.soc_replay.specs.declared.refusal.FileRefusal.TheVariants as F
use Rattle.soc_replay.specs.declared.refusal.FilesFault.TheVariants.{Refused}
use Rattle.soc_replay.specs.Ends.{status_of}
use Rattle.soc_replay.specs.Export.{Exports, ExportsBy, ExportsJournal, KeyRefused, OnlyAsks, TellsRows, with_streams}
use Rattle.soc_replay.specs.Files.{Said, Says}
use Rattle.soc_replay.specs.Opening.{OnlyOpens, OpensNot}
use Rattle.soc_replay.specs.Refusals.{refusal_line}
use Rattle.soc_replay.specs.Replay.{digest_of, rows_of}
use Rattle.soc_replay.specs.inner.Exporting.{EndsBy}
use Rattle.soc_replay.specs.inner.Refusals.{RefusesText}
use Rattle.soc_replay.proofs.ServingLemmas.{some_told}

-- an export whose journal wasn't opened
pub exports_not : (row_of : Crash → List Cell) (digest : Option (List ℕ)) (limits : Limits) (caller : Caller) (before after : Surroundings) (end : RunEnd)
    → OpensNot before after end → (status_of end ≡ 4 → DiskFailed before.disk after.disk) → ExportsJournal row_of digest limits caller before after end
exports_not row_of digest limits caller before after R.JournalRefused not fault = inl not
exports_not row_of digest limits caller before after R.LineFault not fault = inr (inl not)
exports_not row_of digest limits caller before after R.OpenFault not fault = (not, fault refl)
exports_not row_of digest limits caller before after R.NoMemory not fault = inr not
exports_not row_of digest limits caller before after (R.Served _ _) never fault = absurd never
exports_not row_of digest limits caller before after R.Written never fault = absurd never
exports_not row_of digest limits caller before after R.Usage never fault = absurd never
exports_not row_of digest limits caller before after R.TextRefused never fault = absurd never
exports_not row_of digest limits caller before after R.TreeFault never fault = absurd never
exports_not row_of digest limits caller before after R.MakerFault never fault = absurd never
exports_not row_of digest limits caller before after R.InputFault never fault = absurd never

-- ---- a disk that was opened and then looked at

if_more : {A : Type 0} (o : Option A) (P Q : A → Type 0) → ((x : A) → P x → Q x) → IfSome o P → IfSome o Q
if_more None P Q more has = tt
if_more (Some x) P Q more has = more x has

when_told : {A : Type 0} (o : Option A) (Q : Type 0) → (IsTrue (is_some o) → Q) → IfSome o (λ _. Q)
when_told None Q tells = tt
when_told (Some x) Q tells = tells refl

rose_later : (before middle after : ℕ) → before ≤ middle → Rose middle after → Rose before after
rose_later before middle after at_most (inl rose) = inl (omega (arith, at_most, rose))
rose_later before middle after at_most (inr last) = inr last

-- nothing was read
pub still_asks : (before after : Surroundings) → StaysStill before after → OnlyAsks before after
still_asks before after still = record {
  quiet = still.quiet;
  only = subst (OnlyReads before.streams) (sym still.streams) (record { held_stays = refl; reads_never_fall = omega arith; write_faults_stay = refl });
}

module _ (before middle after : DiskTold) (goes_on : GoesOn before middle) (sound : IsDisk middle) (looks : Looks middle after) where
  leaves_then : (P : List ℕ → Type 0) → LeavesOnly before middle P → LeavesOnly before after P
  leaves_then P leaves = record {
    each = λ image left. elim (looks.goes_on.nothing_else before.moment image goes_on.later left) [
      | inl past ↦ leaves.each image past
      | inr later ↦ leaves.each image (sound.counts_now before.moment image goes_on.later (looks.any_moment.each image later))
    ];
  }

  stands_then : (bytes : List ℕ) (entries : List Entry) → StandsSince before middle bytes entries → StandsSince before after bytes entries
  stands_then bytes entries stands =
      let ends : stands.moment ≤ middle.moment = stands.ends in
      let later : middle.moment ≤ after.moment = looks.goes_on.later in
      record {
        moment = stands.moment;
        begins = stands.begins;
        ends = omega arith;
        until = λ image left. elim (looks.goes_on.nothing_else before.moment image goes_on.later left) [
          | inl past ↦ elim (stands.until image past) [
            | inl since ↦ inl (looks.goes_on.keeps stands.moment image ends since)
            | inr first ↦ inr first
          ]
          | inr now ↦ inl (looks.goes_on.wider stands.moment middle.moment image ends now)
        ];
        each = λ image left. elim (looks.goes_on.nothing_else stands.moment image ends left) [
          | inl since ↦ stands.each image since
          | inr now ↦ stands.each image (sound.counts_now stands.moment image ends (looks.any_moment.each image now))
        ];
      }

module _ (row_of : Crash → List Cell) (digest : Option (List ℕ)) (limits : Limits) (caller : Caller) (before : Surroundings) (middle final : DiskTold) (streams : Told)
    (Stands : Basis → State → Type 0)
    (opens : (basis : Basis) → IsBasisOf row_of digest limits before.disk.content basis → OpensBook basis before.disk middle (Stands basis))
    (goes_on : GoesOn before.disk middle) (leaves : IfSome before.disk.content (λ bytes. LeavesOnly before.disk middle (OpeningLeaves before.disk.images bytes)))
    (sound : IsDisk middle) (looks : Looks middle final) where
  abbrev basis : Basis
  basis = record { row_of = row_of; digest = digest; journal_bytes = limits.journal_bytes; crashes = limits.crashes; is_told = is_some before.disk.content }

  basis_is : IsBasisOf row_of digest limits before.disk.content basis
  basis_is = record { rows = refl; digest_is = refl; bytes = refl; crashes_are = refl; tells = some_told before.disk.content }

  opened : OpensBook basis before.disk middle (Stands basis)
  opened = opens basis basis_is

  only_opens : OnlyOpens before.disk final
  only_opens = record {
    goes_on = GoesOn-append before.disk middle final goes_on looks.goes_on;
    leaves = if_more before.disk.content _ _ (λ bytes. leaves_then before.disk middle final goes_on sound looks (OpeningLeaves before.disk.images bytes)) leaves;
  }

  tells_rows : (Tells : List (List ℕ) → Type 0) → (IsTrue basis.is_told → Tells (export_of basis opened.log caller))
      → TellsRows row_of digest limits caller before (surroundings streams final before.outlook) Tells
  tells_rows Tells tells = record {
    opening = record {
      basis = basis;
      basis_is = basis_is;
      told = refl;
      entries = opened.entries;
      log = opened.log;
      found = opened.found;
      opens = opened.opens;
    };
    draws = refl;
    disk = only_opens;
    stands = if_more before.disk.content _ _ (λ bytes. stands_then before.disk middle final goes_on sound looks bytes opened.entries) opened.stands;
    rows = when_told before.disk.content (Tells (export_of basis opened.log caller)) tells;
  }

  untold : (content : Option (List ℕ)) → is_some content ≡ false → content ≡ None
  untold None is = refl
  untold (Some bytes) is = cc

  abbrev Exported : Told → RunEnd → Type 0
  Exported streams' end = ExportsJournal row_of digest limits caller before (surroundings streams' final before.outlook) end

  abbrev Tells : ExportEnd → Type 0
  Tells told = (basis : Basis) (log : List Change) → basis.row_of ≡ row_of → Stands basis (settled log) → TellsLog basis log caller before.streams streams middle final told

  told_of : (told : ExportEnd) → Tells told → TellsLog basis opened.log caller before.streams streams middle final told
  told_of told tells = tells basis opened.log refl opened.now

  ends_as : (streams' : Told) (end other : RunEnd) → (end ≡ other) × (streams' ≡ streams) → Exported streams other → Exported streams' end
  ends_as streams' end other is holds = subst (λ e. Exported streams' e) (sym is.0) (subst (λ s. Exported s other) (sym is.1) holds)

  altered : (id : List ℕ) (streams' : Told) (end : RunEnd) → (streams ≡ before.streams) × (basis.is_told ≡ false) → EndsBy (E.Altered id) streams streams' end → Exported streams' end
  altered id streams' R.JournalRefused is told = inr (record {
    id = id;
    untold = untold before.disk.content is.1;
    draws = refl;
    disk = only_opens;
    line = subst (λ s. Writes s streams' (refusal_line (F.Altered id))) is.0 told;
  })
  altered id streams' R.LineFault is told = inr (inr (record {
    id = id;
    untold = untold before.disk.content is.1;
    draws = refl;
    disk = only_opens;
    line = subst (λ s. WritesFront s streams' (refusal_line (F.Altered id))) is.0 told;
  }))
  altered id streams' R.NoMemory is told = inr (record { draws = refl; disk = only_opens; streams = told ∙ is.0 })
  altered id streams' (R.Served _ _) is never = absurd never
  altered id streams' R.Written is never = absurd never
  altered id streams' R.Usage is never = absurd never
  altered id streams' R.TextRefused is never = absurd never
  altered id streams' R.TreeFault is never = absurd never
  altered id streams' R.MakerFault is never = absurd never
  altered id streams' R.InputFault is never = absurd never
  altered id streams' R.OpenFault is never = absurd never

  failed : DiskFailed middle final → DiskFailed before.disk final
  failed rose = rose_later before.disk.faults middle.faults final.faults goes_on.faults_never_fall rose

  -- what was told of the log is an export
  pub exports_told : (told : ExportEnd) (streams' : Told) (end : RunEnd)
      → ((basis : Basis) (log : List Change) → basis.row_of ≡ row_of → Stands basis (settled log) → TellsLog basis log caller before.streams streams middle final told)
      → EndsBy told streams streams' end → Exported streams' end
  exports_told E.Written streams' end tells is = ends_as streams' end R.Written is (tells_rows (λ lines. Writes before.streams streams (concat lines)) (told_of E.Written tells))
  exports_told E.Cut streams' end tells is = ends_as streams' end R.LineFault is (inl (tells_rows (λ lines. WritesFront before.streams streams (concat lines)) (told_of E.Cut tells)))
  exports_told E.NoMemory streams' end tells is = ends_as streams' end R.NoMemory is (inl (tells_rows (WritesSome before.streams streams) (told_of E.NoMemory tells)))
  exports_told E.DiskFault streams' end tells is =
      ends_as streams' end R.OpenFault is (record { draws = refl; disk = only_opens; streams = (told_of E.DiskFault tells).0 }, failed (told_of E.DiskFault tells).1)
  exports_told (E.Altered id) streams' end tells is = altered id streams' end (told_of (E.Altered id) tells) is

-- ---- a whole export

module _ (before after : Outside) (said : Said) (says : Says before.tree.files (Ok said)) (asked : Told) where
  pub exports_by : (caller : Caller) (end : RunEnd) → Asks said.setup.rules.tokens said.setup.rules.public before.around.streams asked (Some caller)
      → ExportsJournal (rows_of said.texts) (digest_of said.texts) said.setup.limits caller (with_streams before.around asked) after.around end → Exports before after end
  exports_by caller R.Written asks exports = record { said = said; says = says; asked = asked; caller = caller; asks = asks; exports = exports }
  exports_by caller R.JournalRefused asks exports = record { said = said; says = says; asked = asked; caller = caller; asks = asks; exports = exports }
  exports_by caller R.OpenFault asks exports = record { said = said; says = says; asked = asked; caller = caller; asks = asks; exports = exports }
  exports_by caller R.LineFault asks exports = inr (inr (record { said = said; says = says; asked = asked; caller = caller; asks = asks; exports = exports }))
  exports_by caller R.NoMemory asks exports = inr (record { said = said; says = says; asked = asked; caller = caller; asks = asks; exports = exports })
  exports_by caller (R.Served _ _) asks never = absurd never
  exports_by caller R.Usage asks never = absurd never
  exports_by caller R.TextRefused asks never = absurd never
  exports_by caller R.TreeFault asks never = absurd never
  exports_by caller R.MakerFault asks never = absurd never
  exports_by caller R.InputFault asks never = absurd never

  -- the key is no token's
  pub key_refused : (end : RunEnd) → Asks said.setup.rules.tokens said.setup.rules.public before.around.streams asked None → StaysQuiet before.around after.around
      → RefusesText asked after.around.streams F.UnknownKey end → Exports before after end
  key_refused R.TextRefused asks quiet told = inr (record { said = said; says = says; asked = asked; asks = asks; quiet = quiet; line = told })
  key_refused R.LineFault asks quiet told = inr (inl (record { said = said; says = says; asked = asked; asks = asks; quiet = quiet; line = told }))
  key_refused R.NoMemory asks quiet same = inl (record { quiet = quiet; only = subst (OnlyReads before.around.streams) (sym same) asks.only })
  key_refused (R.Served _ _) asks quiet never = absurd never
  key_refused R.Written asks quiet never = absurd never
  key_refused R.Usage asks quiet never = absurd never
  key_refused R.JournalRefused asks quiet never = absurd never
  key_refused R.TreeFault asks quiet never = absurd never
  key_refused R.MakerFault asks quiet never = absurd never
  key_refused R.InputFault asks quiet never = absurd never
  key_refused R.OpenFault asks quiet never = absurd never

-- a kit is seen as its texts
pub exports_with : (kit texts : KitTexts) (limits : Limits) (caller : Caller) (before after : Surroundings) (end : RunEnd) → kit ≡ texts
    → ExportsJournal (rows_of kit) (digest_of kit) limits caller before after end → ExportsJournal (rows_of texts) (digest_of texts) limits caller before after end
exports_with kit texts limits caller before after end same exports =
    subst (λ k. ExportsJournal (rows_of k) (digest_of k) limits caller before after end) same exports

-- a file is refused
pub file_refused : (before after : Outside) (refusal : FileRefusal) (end : RunEnd) → Says before.tree.files (Err (Refused refusal)) → StaysQuiet before.around after.around
    → RefusesText before.around.streams after.around.streams refusal end → Exports before after end
file_refused before after refusal R.TextRefused says quiet told = inl (record { refusal = refusal; says = says; quiet = quiet; line = told })
file_refused before after refusal R.LineFault says quiet told = inl (record { refusal = refusal; says = says; quiet = quiet; line = told })
file_refused before after refusal R.NoMemory says quiet same = inl (still_asks before.around after.around (record { quiet = quiet; streams = same }))
file_refused before after refusal (R.Served _ _) says quiet never = absurd never
file_refused before after refusal R.Written says quiet never = absurd never
file_refused before after refusal R.Usage says quiet never = absurd never
file_refused before after refusal R.JournalRefused says quiet never = absurd never
file_refused before after refusal R.TreeFault says quiet never = absurd never
file_refused before after refusal R.MakerFault says quiet never = absurd never
file_refused before after refusal R.InputFault says quiet never = absurd never
file_refused before after refusal R.OpenFault says quiet never = absurd never

-- ---- statuses

-- the disk is blamed for a journal where it failed
pub disk_failed : (row_of : Crash → List Cell) (digest : Option (List ℕ)) (limits : Limits) (caller : Caller) (before after : Surroundings) (end : RunEnd)
    → ExportsJournal row_of digest limits caller before after end → status_of end ≡ 4 → DiskFailed before.disk after.disk
disk_failed row_of digest limits caller before after R.OpenFault exports is = exports.1
disk_failed row_of digest limits caller before after R.Written exports is = absurd (omega (arith, is))
disk_failed row_of digest limits caller before after R.JournalRefused exports is = absurd (omega (arith, is))
disk_failed row_of digest limits caller before after R.LineFault exports is = absurd (omega (arith, is))
disk_failed row_of digest limits caller before after R.NoMemory exports is = absurd (omega (arith, is))
disk_failed row_of digest limits caller before after (R.Served _ _) never is = absurd never
disk_failed row_of digest limits caller before after R.Usage never is = absurd never
disk_failed row_of digest limits caller before after R.TextRefused never is = absurd never
disk_failed row_of digest limits caller before after R.TreeFault never is = absurd never
disk_failed row_of digest limits caller before after R.MakerFault never is = absurd never
disk_failed row_of digest limits caller before after R.InputFault never is = absurd never

-- neither the input nor the tree nor the maker is blamed
abbrev Spares : ℕ → Type 0
Spares status = (status ≡ 6 → ⊥) × ((status ≡ 8 → ⊥) × (status ≡ 11 → ⊥))

pub journal_spares : (row_of : Crash → List Cell) (digest : Option (List ℕ)) (limits : Limits) (caller : Caller) (before after : Surroundings) (end : RunEnd)
    → ExportsJournal row_of digest limits caller before after end → Spares (status_of end)
journal_spares row_of digest limits caller before after R.Written exports = ((λ is. omega (arith, is)), ((λ is. omega (arith, is)), (λ is. omega (arith, is))))
journal_spares row_of digest limits caller before after R.JournalRefused exports = ((λ is. omega (arith, is)), ((λ is. omega (arith, is)), (λ is. omega (arith, is))))
journal_spares row_of digest limits caller before after R.OpenFault exports = ((λ is. omega (arith, is)), ((λ is. omega (arith, is)), (λ is. omega (arith, is))))
journal_spares row_of digest limits caller before after R.LineFault exports = ((λ is. omega (arith, is)), ((λ is. omega (arith, is)), (λ is. omega (arith, is))))
journal_spares row_of digest limits caller before after R.NoMemory exports = ((λ is. omega (arith, is)), ((λ is. omega (arith, is)), (λ is. omega (arith, is))))
journal_spares row_of digest limits caller before after (R.Served _ _) never = absurd never
journal_spares row_of digest limits caller before after R.Usage never = absurd never
journal_spares row_of digest limits caller before after R.TextRefused never = absurd never
journal_spares row_of digest limits caller before after R.TreeFault never = absurd never
journal_spares row_of digest limits caller before after R.MakerFault never = absurd never
journal_spares row_of digest limits caller before after R.InputFault never = absurd never

-- the blame of what came after the files and the input's first line were read
pub cause_behind : (before after : Outside) (asked : Told) (end : RunEnd) → OnlyReads before.around.streams asked → Spares (status_of end)
    → (status_of end ≡ 7 → WriteFailed asked after.around.streams) → (status_of end ≡ 4 → DiskFailed before.around.disk after.around.disk)
    → RunHasCause before after (status_of end)
cause_behind before after asked end only spares write disk = record {
  streams = record {
    read = λ is. absurd (spares.0 is);
    write = λ is. subst (λ (n : ℕ). Rose n after.around.streams.write_faults) only.write_faults_stay (write is);
  };
  tree = λ is. absurd (spares.1.0 is);
  maker = λ is. absurd (spares.1.1 is);
  disk = disk;
}

-- the line that refuses a file or a key isn't blamed on what was read, nor on the disk
pub text_spares : (before after : Told) (refusal : FileRefusal) (end : RunEnd) → RefusesText before after refusal end → Spares (status_of end) × (status_of end ≡ 4 → ⊥)
text_spares before after refusal R.TextRefused told = (((λ is. omega (arith, is)), ((λ is. omega (arith, is)), (λ is. omega (arith, is)))), (λ is. omega (arith, is)))
text_spares before after refusal R.LineFault told = (((λ is. omega (arith, is)), ((λ is. omega (arith, is)), (λ is. omega (arith, is)))), (λ is. omega (arith, is)))
text_spares before after refusal R.NoMemory told = (((λ is. omega (arith, is)), ((λ is. omega (arith, is)), (λ is. omega (arith, is)))), (λ is. omega (arith, is)))
text_spares before after refusal (R.Served _ _) never = absurd never
text_spares before after refusal R.Written never = absurd never
text_spares before after refusal R.Usage never = absurd never
text_spares before after refusal R.JournalRefused never = absurd never
text_spares before after refusal R.TreeFault never = absurd never
text_spares before after refusal R.MakerFault never = absurd never
text_spares before after refusal R.InputFault never = absurd never
text_spares before after refusal R.OpenFault never = absurd never

pub text_seven : (before after : Told) (refusal : FileRefusal) (end : RunEnd) → RefusesText before after refusal end → (end ≡ R.LineFault → WriteFailed before after)
    → status_of end ≡ 7 → WriteFailed before after
text_seven before after refusal R.LineFault told write is = write refl
text_seven before after refusal R.TextRefused told write is = absurd (omega (arith, is))
text_seven before after refusal R.NoMemory told write is = absurd (omega (arith, is))
text_seven before after refusal (R.Served _ _) never write is = absurd never
text_seven before after refusal R.Written never write is = absurd never
text_seven before after refusal R.Usage never write is = absurd never
text_seven before after refusal R.JournalRefused never write is = absurd never
text_seven before after refusal R.TreeFault never write is = absurd never
text_seven before after refusal R.MakerFault never write is = absurd never
text_seven before after refusal R.InputFault never write is = absurd never
text_seven before after refusal R.OpenFault never write is = absurd never
