-- What the journal holds once a doubt is settled.
use Rattle.std.proofs.Common.{◌≡◌, inl, inr, ℕ, ◌+◌, Bool, true, false, IsTrue, ◌↔◌, List, [], ◌∷◌, ◌++◌, length, take, drop, Option, Some, None, Result, Ok, Err, IfSome, IfOk, slice_get, refl, suc, zero, sym, ◌∙◌, ap, subst, arith, append_assoc}
use Rattle.std.proofs.lemmas.List.{append-nil}
use Rattle.soc_edge.specs.Disk.{Only}
use Rattle.soc_edge.specs.declared.failed.Failed.{Failed}
use Rattle.soc_journal.specs.Bodies.{ReadsFrom}
use Rattle.soc_journal.specs.Entries.{Entry, open_gate, entry_text, entries_text, place_behind}
use Rattle.soc_journal.specs.States.{JournalState, AtRest, InDoubt, ReadsOpen}
use Rattle.soc_journal.specs.Text.{version_of, JournalText}
use Rattle.soc_journal.proofs.Options.{IfSome_both}
use Rattle.soc_journal.proofs.Texts.{front_of, length-front_of, front_of-append, begins_front, place_behind-append, text_behind, entry_text-behind}

slice_get_seam : (front : List ℕ) (byte : ℕ) (rest : List ℕ) → slice_get (front ++ byte ∷ rest) (length front) ≡ Some byte
slice_get_seam [] byte rest = refl
slice_get_seam (first ∷ front) byte rest = slice_get_seam front byte rest

-- one byte stands at a place
reads_one : (bytes : List ℕ) (place byte : ℕ) → (take 1 (drop place bytes) ≡ byte ∷ []) ↔ (slice_get bytes place ≡ Some byte)
reads_one [] zero byte = (λ e. cc, λ e. cc)
reads_one [] (suc place) byte = (λ e. cc, λ e. cc)
reads_one (x ∷ bytes) zero byte = (λ e. cc, λ e. cc)
reads_one (x ∷ bytes) (suc place) byte = reads_one bytes place byte

opens_read : (told : Option (List ℕ)) (place : ℕ) (answer : Bool) → IfSome told (λ bytes. IsTrue answer ↔ ReadsFrom bytes place (open_gate ∷ [])) → IfSome told (λ bytes. IsTrue answer ↔ ReadsOpen bytes place)
opens_read None place answer reads = tt
opens_read (Some bytes) place answer reads =
    let one = reads_one bytes place open_gate in
    (λ yes. one.0 (reads.0 yes), λ opened. reads.1 (one.1 opened))

-- a gate reads open where the byte of an open gate is read there
pub opens_told : (before told : Option (List ℕ)) → told ≡ before → (place : ℕ) (answer : Result Bool Failed)
    → IfOk answer (λ reads. IfSome told (λ bytes. IsTrue reads ↔ ReadsFrom bytes place (open_gate ∷ []))) → IfOk answer (λ is_open. IfSome before (λ bytes. IsTrue is_open ↔ ReadsOpen bytes place))
opens_told before told same place (Err failed) reads = tt
opens_told before told same place (Ok answer) reads = subst (λ t. IfSome t (λ bytes. IsTrue answer ↔ ReadsOpen bytes place)) same (opens_read told place answer reads)

-- the byte behind the header and some entries
byte_at_gate : (version : ℕ) (entries : List Entry) (byte : ℕ) (rest bytes : List ℕ) → bytes ≡ front_of version entries ++ byte ∷ rest → slice_get bytes (place_behind entries) ≡ Some byte
byte_at_gate version entries byte rest bytes whole =
    ap (λ (x : List ℕ). slice_get x (place_behind entries)) whole
    ∙ (ap (λ (n : ℕ). slice_get (front_of version entries ++ byte ∷ rest) n) (sym (length-front_of version entries))
    ∙ slice_get_seam (front_of version entries) byte rest)

-- a journal's gate doesn't read open
closed_reads : (entries : List Entry) (bytes : List ℕ) → JournalText entries bytes → ReadsOpen bytes (place_behind entries) → ⊥
closed_reads entries bytes text reads =
    let byte = byte_at_gate (version_of bytes) entries text.gate text.rest bytes (begins_front entries (text.gate ∷ text.rest) bytes text.begins) in
    let is : text.gate ≡ open_gate = cc in
    text.closed is

-- the gate before an entry of a journal does
open_reads : (entries : List Entry) (entry : Entry) (more : List Entry) (bytes : List ℕ) → JournalText (entries ++ entry ∷ more) bytes → ReadsOpen bytes (place_behind entries)
open_reads entries entry more bytes text =
    let rest = text.gate ∷ text.rest in
    byte_at_gate (version_of bytes) entries open_gate (text_behind entry (entries_text more ++ rest)) bytes
    (begins_front (entries ++ entry ∷ more) rest bytes text.begins
    ∙ (sym (front_of-append (version_of bytes) entries (entry ∷ more) rest)
    ∙ ap (λ (x : List ℕ). front_of (version_of bytes) entries ++ x) (append_assoc (entry_text entry) (entries_text more) rest ∙ entry_text-behind entry (entries_text more ++ rest))))

-- so where it doesn't, none of some more entries is there
shut_drops : (entries more : List Entry) (bytes : List ℕ) → (ReadsOpen bytes (place_behind entries) → ⊥) → JournalText (entries ++ more) bytes → JournalText entries bytes
shut_drops entries [] bytes shut text =
    let P : List Entry → Type 0 = λ x. JournalText x bytes in
    subst P (append-nil entries) text
shut_drops entries (entry ∷ more) bytes shut text = absurd (shut (open_reads entries entry more bytes text))

module _ (journal after : JournalState) (entries more : List Entry) (bytes : List ℕ) (images now_images : List ℕ → Type 0) (doubts : InDoubt journal entries more bytes images) (no_doubt : after.doubt ≡ None) (only : Only bytes now_images) where
  kept : after.gate ≡ journal.gate + length (entries_text more) → ReadsOpen bytes journal.gate → AtRest after (entries ++ more) bytes now_images
  kept moved reads = record {
    text = elim doubts.text [
      | inl before ↦ absurd (closed_reads entries bytes before (subst (λ n. ReadsOpen bytes n) doubts.gate_stands reads))
      | inr with_them ↦ with_them
    ];
    current = doubts.current;
    gate_stands = omega (arith, moved, doubts.gate_stands, place_behind-append entries more);
    no_doubt = no_doubt;
    only = only;
  }

  dropped : after.gate ≡ journal.gate → (ReadsOpen bytes journal.gate → ⊥) → AtRest after entries bytes now_images
  dropped same shut = record {
    text = elim doubts.text [
      | inl before ↦ before
      | inr with_them ↦ shut_drops entries more bytes (λ reads. shut (subst (λ n. ReadsOpen bytes n) (sym doubts.gate_stands) reads)) with_them
    ];
    current = doubts.current;
    gate_stands = same ∙ doubts.gate_stands;
    no_doubt = no_doubt;
    only = only;
  }

module _ (journal after : JournalState) (place count : ℕ) (at : journal.gate ≡ place) (doubt : journal.doubt ≡ Some count) (no_doubt : after.doubt ≡ None) (images now_images : List ℕ → Type 0) (told : Option (List ℕ)) (answer : Bool) where
  pub kept_told : after.gate ≡ place + count → answer ≡ true → IfSome told (λ bytes. Only bytes now_images) → IfSome told (λ bytes. IsTrue answer ↔ ReadsOpen bytes place)
      → IfSome told (λ bytes. (entries more : List Entry) → InDoubt journal entries more bytes images → AtRest after (entries ++ more) bytes now_images)
  kept_told moved is_open only reads = IfSome_both told only reads (λ bytes only_this read entries more doubts.
      let all : count ≡ length (entries_text more) = let twice = doubts.in_doubt in cc in
      let opened : ReadsOpen bytes journal.gate = subst (λ n. ReadsOpen bytes n) (sym at) (read.0 is_open) in
      kept journal after entries more bytes images now_images doubts no_doubt only_this (omega (arith, moved, at, all)) opened)

  pub dropped_told : after.gate ≡ place → answer ≡ false → IfSome told (λ bytes. Only bytes now_images) → IfSome told (λ bytes. IsTrue answer ↔ ReadsOpen bytes place)
      → IfSome told (λ bytes. (entries more : List Entry) → InDoubt journal entries more bytes images → AtRest after entries bytes now_images)
  dropped_told same is_shut only reads = IfSome_both told only reads (λ bytes only_this read entries more doubts.
      let shut : ReadsOpen bytes journal.gate → ⊥ = λ opened. let never = read.1 (subst (λ n. ReadsOpen bytes n) at opened) in cc in
      dropped journal after entries more bytes images now_images doubts no_doubt only_this (same ∙ sym at) shut)
