-- What an opening has read and given.
use Rattle.std.proofs.Common.{◌≡◌, ℕ, ◌+◌, ◌-◌, ◌<◌, ◌≤◌, Option, Some, None, IfSome, Ok, Err, List, [], ◌∷◌, ◌++◌, length, refl, sym, ◌∙◌, ap, subst, arith, add-zero, length-append}
use Rattle.std.specs.Int.{to_le_bytes, w32}
use Rattle.std.proofs.lemmas.Grind.{flat_map-append}
use Rattle.std.proofs.lemmas.Option.{IfSome_then}
use Rattle.std.proofs.lemmas.List.{append-nil}
use Rattle.soc_edge.proofs.Disks.{Looks-none}
use Rattle.soc_edge.specs.Disk.{DiskTold, IsDisk}
use Rattle.soc_journal.specs.Entries.{Entry, head_size, entry_text, entries_text}
use Rattle.soc_journal.specs.Openings.{OpeningState, HasRead, HasReadAll, Finds}
use Rattle.soc_journal.specs.declared.error.OpenError.{OpenError}
use Rattle.soc_journal.specs.declared.error.OpenError.TheVariants.{NotOurs, StoreFault, BadEntry, NoMemory}
use Rattle.soc_journal.specs.declared.mark.Mark.{Mark}
use Rattle.soc_vault.specs.declared.recovery.Found.{Found}
use Rattle.soc_vault.specs.Openings.{entry_of}
use Rattle.soc_vault.specs.inner.Readings.{FindsNext, MovesBy, Reading}

IfSome_both : {X : Type 0} (told : Option X) {P Q R : X → Type 0} → IfSome told P → IfSome told Q → ((x : X) → P x → Q x → R x) → IfSome told R
IfSome_both None p q both = tt
IfSome_both (Some x) p q both = both x p q

-- ---- places

pub length-entry_text : (entry : Entry) → length (entry_text entry) ≡ 6 + length entry.body
unfolding entry_text
length-entry_text entry = omega (arith, length-append (to_le_bytes w32 (length entry.body)) entry.body)

pub length-entries_text-push : (entries : List Entry) (entry : Entry) → length (entries_text (entries ++ entry ∷ [])) ≡ length (entries_text entries) + length (entry_text entry)
length-entries_text-push entries entry =
    omega (arith, ap (λ (x : List ℕ). length x) (flat_map-append entry_text entries (entry ∷ [])), length-append (entries_text entries) (entry_text entry ++ []), ap (λ (x : List ℕ). length x) (append-nil (entry_text entry)))

-- ---- one entry

-- what an opening finds behind the entries that it has read
abbrev pub Told : Option (List ℕ) → OpeningState → (List ℕ → Type 0) → (List Entry → List ℕ → Type 0) → Type 0
Told told before images P = IfSome told (λ bytes. (entries : List Entry) → HasRead before entries bytes images → P entries bytes)

module _ (told : Option (List ℕ)) (before after : OpeningState) (images now : List ℕ → Type 0) where
  pub finds_err : (error : OpenError) → Told told before images (λ entries bytes. Finds entries bytes now (Err error) after) → Told told before images (λ entries bytes. FindsNext entries bytes now (Err error) after)
  finds_err NotOurs finds = IfSome_then told finds (λ bytes found entries has. tt)
  finds_err StoreFault finds = IfSome_then told finds (λ bytes found entries has. tt)
  finds_err (BadEntry place) finds = finds
  finds_err NoMemory finds = IfSome_then told finds (λ bytes found entries has. tt)

  pub finds_none : (next : Option Mark) → next ≡ None → Told told before images (λ entries bytes. Finds entries bytes now (Ok next) after) → Told told before images (λ entries bytes. HasReadAll after entries bytes now)
  finds_none next is finds =
      let P : Option Mark → Type 0 = λ x. Told told before images (λ entries bytes. Finds entries bytes now (Ok x) after) in
      subst P is finds

pub moves_by : (before after : OpeningState) (mark : Mark) (body given : List ℕ) → mark.place ≡ before.place → after.place ≡ before.place + head_size + mark.length → mark.place + head_size + mark.length ≤ after.length
    → given ≡ body → length given ≡ mark.length → MovesBy before (Some (record { place = mark.place; kind = mark.kind; body = body })) after
moves_by before after mark body given at moved fits same size =
    let all : length body ≡ mark.length = ap (λ (x : List ℕ). length x) (sym same) ∙ size in
    let entry : Entry = record { kind = mark.kind; body = body } in
    let long = length-entry_text entry in
    (at, omega (arith, long, all, moved), omega (arith, at, moved, fits))

-- ---- all entries

pub reading_begins : (was_given : ℕ → List Entry → Type 0) (name : Option (List ℕ)) (disk : DiskTold) (opening : OpeningState) → IsDisk disk → ((start : ℕ) → was_given start []) → IfSome disk.content (λ bytes. HasRead opening [] bytes disk.images) → Reading was_given name name disk disk opening opening
reading_begins was_given name disk opening sound given reads = record {
  has = record { start = opening.place; entries = []; given = given opening.place; behind = sym (add-zero opening.place); reads = reads };
  name_stays = refl;
  looks = Looks-none disk sound;
  limit = refl;
}

-- fewer bytes are left behind an entry
pub fewer_left : (before after : OpeningState) (found : Found) → after ≡ record before { place = after.place; ended = after.ended } → MovesBy before (Some found) after → after.length - after.place < before.length - before.place
fewer_left before after found moved moves =
    let same : after.length ≡ before.length = ap (λ (x : OpeningState). x.length) moved in
    let long = length-entry_text (entry_of found) in
    let by = moves.1 in
    let fits = moves.2 in
    omega (arith, same, long, by, fits)
