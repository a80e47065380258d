-- Where the entries of a vault stand, and what stays where nothing was written.
use Rattle.std.proofs.Common.{◌≡◌, ◌≢◌, inl, inr, ℕ, ◌+◌, ◌<◌, ◌≤◌, Bool, IsTrue, ◌↔◌, Option, Some, None, IfSome, IsSomeAnd, Result, Ok, Err, OnOk, MatchResult, List, [], ◌∷◌, ◌++◌, length, take, drop, refl, sym, ◌∙◌, ap, subst, arith, append_assoc, length-append}
use Rattle.std.specs.List.{AllByRecursion}
use Rattle.std.proofs.lemmas.Bool.Decides.{nat_tests}
use Rattle.std.proofs.lemmas.Grind.{flat_map-append}
use Rattle.std.proofs.Math.Seq.{drop-append-add}
use Rattle.std.proofs.lemmas.List.{drop-append-le, drop-drop}
use Rattle.soc_edge.specs.Disk.{DiskTold, Looks}
use Rattle.soc_journal.specs.Bodies.{StandsBefore, ReadsFrom}
use Rattle.soc_journal.specs.Entries.{Entry, IsEntryOf, has_kind, second_version, head_size, entry_text, entries_text, place_behind}
use Rattle.soc_journal.specs.Openings.{Counts}
use Rattle.soc_journal.specs.States.{JournalState, AtRest, InDoubt}
use Rattle.soc_journal.specs.Text.{JournalText, EitherText, StandsAt, IsOneEntry}
use Rattle.soc_journal.specs.declared.error.ReadError.{ReadError}
use Rattle.soc_journal.specs.declared.error.ReadError.TheVariants.{StoreFault, Altered, NoMemory}
use Rattle.soc_journal.proofs.Standing.{AtRest-stays, InDoubt-stays}
use Rattle.soc_vault.specs.Vaults.{Means, StandsFor, IsAt, GivesEntry}

-- ---- what is told

IsSomeAnd_then : {X : Type 0} (told : Option X) {P Q : X → Type 0} → IsSomeAnd told P → ((x : X) → P x → Q x) → IsSomeAnd told Q
IsSomeAnd_then None some then = some
IsSomeAnd_then (Some x) some then = then x some

pub IsSomeAnd_with : {X : Type 0} (told : Option X) {P Q : X → Type 0} (R : Type 0) → IsSomeAnd told P → IfSome told Q → ((x : X) → P x → Q x → R) → R
IsSomeAnd_with None R some also then = absurd some
IsSomeAnd_with (Some x) R some also then = then x some also

module _ (before after : DiskTold) (looks : Looks before after) (journal : JournalState) (entries : List Entry) where
  AtRest-looks : IsSomeAnd before.content (λ bytes. AtRest journal entries bytes before.images) → IsSomeAnd after.content (λ bytes. AtRest journal entries bytes after.images)
  AtRest-looks means =
      let P : Option (List ℕ) → Type 0 = λ told. IsSomeAnd told (λ bytes. AtRest journal entries bytes after.images) in
      subst P (sym looks.same) (IsSomeAnd_then before.content means (λ bytes rests. AtRest-stays entries bytes before.images after.images looks.images journal rests))

  InDoubt-looks : (more : List Entry) → IsSomeAnd before.content (λ bytes. InDoubt journal entries more bytes before.images) → IsSomeAnd after.content (λ bytes. InDoubt journal entries more bytes after.images)
  InDoubt-looks more means =
      let P : Option (List ℕ) → Type 0 = λ told. IsSomeAnd told (λ bytes. InDoubt journal entries more bytes after.images) in
      subst P (sym looks.same) (IsSomeAnd_then before.content means (λ bytes doubts. InDoubt-stays entries bytes before.images after.images looks.images journal more doubts))

-- what a vault means stays where nothing was written
pub Means-looks : (before after : DiskTold) (journal : JournalState) (entries : List Entry) (doubt : List Entry) → Looks before after → Means before journal entries doubt → Means after journal entries doubt
Means-looks before after journal entries [] looks means = AtRest-looks before after looks journal entries means
Means-looks before after journal entries (first ∷ more) looks means = InDoubt-looks before after looks journal entries (first ∷ more) means

-- what is known of some entries in doubt
pub Means-doubt : (disk : DiskTold) (journal : JournalState) (entries more : List Entry) → 0 < length more → IsSomeAnd disk.content (λ bytes. InDoubt journal entries more bytes disk.images) → Means disk journal entries more
Means-doubt disk journal entries [] some means = absurd (omega (arith, some))
Means-doubt disk journal entries (first ∷ more) some means = means

pub either_stands : (entries more : List Entry) (image : List ℕ) → 0 < length more → EitherText entries more image → StandsFor entries more image
either_stands entries [] image some either = absurd (omega (arith, some))
either_stands entries (first ∷ more) image some either = either

-- ---- where an entry stands

-- of all entries, the one behind some of them
AllByRecursion_at : {X : Type 0} (P : X → Type 0) (before : List X) (x : X) (behind : List X) → AllByRecursion P (before ++ x ∷ behind) → P x
AllByRecursion_at P [] x behind all = all.0
AllByRecursion_at P (y ∷ before) x behind all = AllByRecursion_at P before x behind all.1

-- the second version has the kinds of each
has_kind_second : (version kind : ℕ) → IsTrue (has_kind version kind) → IsTrue (has_kind second_version kind)
has_kind_second version kind known = grind (arith, nat_tests)

second_entry : (version : ℕ) (entry : Entry) → IsEntryOf version entry → IsEntryOf second_version entry
second_entry version entry legal = record { known = has_kind_second version entry.kind legal.known; short = legal.short }

-- an entry whose head counts
pub counts_entry : (version kind count place end : ℕ) (body given : List ℕ) → Counts version kind count place end → given ≡ body → length given ≡ count → IsEntryOf second_version (record { kind = kind; body = body })
counts_entry version kind count place end body given counts same size =
    let all : length body ≡ count = ap (λ (x : List ℕ). length x) (sym same) ∙ size in
    let short = counts.short in
    record { known = has_kind_second version kind counts.known; short = omega arith }

-- the place behind an entry isn't past the last one's
place_within : (before : List Entry) (entry : Entry) (behind : List Entry) → place_behind before + length (entry_text entry) ≤ place_behind (before ++ entry ∷ behind)
place_within before entry behind =
    omega (arith, ap (λ (x : List ℕ). length x) (flat_map-append entry_text before (entry ∷ behind)), length-append (entries_text before) (entry_text entry ++ entries_text behind), length-append (entry_text entry) (entries_text behind))

module _ (one : IsOneEntry) (bytes : List ℕ) where
  stands_among : (before : List Entry) (entry : Entry) (behind : List Entry) (gate : ℕ) → JournalText (before ++ entry ∷ behind) bytes
      → place_behind before + length (entry_text entry) ≤ gate → StandsBefore bytes (place_behind before) gate entry
  stands_among before entry behind gate text ends = record {
    legal = second_entry _ entry (AllByRecursion_at _ before entry behind text.begins.legal);
    stands = one.stands bytes before behind entry text;
    ends = ends;
  }

  module _ (journal : JournalState) (entries : List Entry) (place : ℕ) (entry : Entry) (gate_stands : journal.gate ≡ place_behind entries) (at : IsAt entries place entry) where
    ends_before : place_behind at.before + length (entry_text entry) ≤ journal.gate
    ends_before =
        let within = place_within at.before entry at.behind in
        let all : place_behind entries ≡ place_behind (at.before ++ entry ∷ at.behind) = ap (λ (x : List Entry). place_behind x) at.whole in
        omega arith

    at_place : StandsBefore bytes (place_behind at.before) journal.gate entry → StandsBefore bytes place journal.gate entry
    at_place stands =
        let P : ℕ → Type 0 = λ n. StandsBefore bytes n journal.gate entry in
        subst P (sym at.place_is) stands

    stands_of : JournalText entries bytes → StandsBefore bytes place journal.gate entry
    stands_of text =
        let P : List Entry → Type 0 = λ x. JournalText x bytes in
        at_place (stands_among at.before entry at.behind journal.gate (subst P at.whole text) ends_before)

    -- some more entries stand behind the others
    stands_with : (more : List Entry) → JournalText (entries ++ more) bytes → StandsBefore bytes place journal.gate entry
    stands_with more text =
        let P : List Entry → Type 0 = λ x. JournalText x bytes in
        let whole : entries ++ more ≡ at.before ++ entry ∷ (at.behind ++ more) =
        ap (λ (x : List Entry). x ++ more) at.whole ∙ append_assoc at.before (entry ∷ at.behind) more in
        at_place (stands_among at.before entry (at.behind ++ more) journal.gate (subst P whole text) ends_before)

  stands_in_doubt : (journal : JournalState) (entries more : List Entry) (images : List ℕ → Type 0) (place : ℕ) (entry : Entry) → InDoubt journal entries more bytes images → IsAt entries place entry
      → StandsBefore bytes place journal.gate entry
  stands_in_doubt journal entries more images place entry doubts at = elim doubts.text [
    | inl before ↦ stands_of journal entries place entry doubts.gate_stands at before
    | inr with_them ↦ stands_with journal entries place entry doubts.gate_stands at more with_them
  ]

-- what a disk that tells is known to hold of an entry
pub of_entry : IsOneEntry → (disk : DiskTold) (journal : JournalState) (Q : List ℕ → Type 0) (R : Type 0) (entries : List Entry) (doubt : List Entry) (place : ℕ) (entry : Entry) → Means disk journal entries doubt
    → IsAt entries place entry → IfSome disk.content Q → ((bytes : List ℕ) → StandsBefore bytes place journal.gate entry → Q bytes → R) → R
of_entry one disk journal Q R entries [] place entry means at told then = IsSomeAnd_with disk.content R means told (λ bytes rests q.
    then bytes (stands_of one bytes journal entries place entry rests.gate_stands at rests.text) q)
of_entry one disk journal Q R entries (first ∷ more) place entry means at told then = IsSomeAnd_with disk.content R means told (λ bytes doubts q.
    then bytes (stands_in_doubt one bytes journal entries (first ∷ more) disk.images place entry doubts at) q)

-- what a journal's read answers, as one statement
pub gives_entry : (told : Option (List ℕ)) (place gate : ℕ) (answer : Result (List ℕ) ReadError) → IfSome told (λ bytes. (entry : Entry) → StandsBefore bytes place gate entry → MatchResult answer (λ body. body ≡ entry.body) (λ error. error ≢ Altered))
    → OnOk answer (IfSome told (λ bytes. (entry : Entry) × StandsBefore bytes place gate entry)) → IfSome told (λ bytes. GivesEntry bytes place gate answer)
gives_entry None place gate answer body found = tt
gives_entry (Some bytes) place gate (Ok given) body found = (found.0, found.1, body found.0 found.1)
gives_entry (Some bytes) place gate (Err Altered) body found = λ entry stands. body entry stands refl
gives_entry (Some bytes) place gate (Err StoreFault) body found = tt
gives_entry (Some bytes) place gate (Err NoMemory) body found = tt

-- ---- a text in a body

-- what stands behind an entry's head
behind_head : (bytes : List ℕ) (at : ℕ) (entry : Entry) (stands : StandsAt bytes at entry) → drop (at + 6) bytes ≡ entry.body ++ stands.rest
unfolding entry_text
behind_head bytes at entry stands =
    ap (λ (x : List ℕ). drop (at + 6) x) stands.whole
    ∙ (ap (λ (n : ℕ). drop (n + 6) (stands.front ++ (entry_text entry ++ stands.rest))) (sym stands.before)
    ∙ drop-append-add stands.front (entry_text entry ++ stands.rest) 6)

behind_skip : (bytes : List ℕ) (at : ℕ) (entry : Entry) (skip : ℕ) (stands : StandsAt bytes at entry) → skip ≤ length entry.body → drop (at + (head_size + skip)) bytes ≡ drop skip entry.body ++ stands.rest
behind_skip bytes at entry skip stands within =
    let sum : at + (head_size + skip) ≡ (at + 6) + skip = omega arith in
    ap (λ (n : ℕ). drop n bytes) sum
    ∙ (sym (drop-drop skip (at + 6) bytes)
    ∙ (ap (λ (x : List ℕ). drop skip x) (behind_head bytes at entry stands)
    ∙ drop-append-le skip entry.body stands.rest within))

pub reads_in_body : (bytes : List ℕ) (at : ℕ) (entry : Entry) (skip place : ℕ) (text : List ℕ) (holds : Bool) → StandsAt bytes at entry → place ≡ at + (head_size + skip) → skip ≤ length entry.body
    → (IsTrue holds ↔ ReadsFrom bytes place text) → (more : List ℕ) × (IsTrue holds ↔ (take (length text) (drop skip entry.body ++ more) ≡ text))
reads_in_body bytes at entry skip place text holds stands is within reads =
    let P : List ℕ → Type 0 = λ x. IsTrue holds ↔ (take (length text) x ≡ text) in
    (stands.rest, subst P (ap (λ (n : ℕ). drop n bytes) is ∙ behind_skip bytes at entry skip stands within) reads)
