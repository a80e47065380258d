-- The text of a journal, put together from its parts.
use Rattle.std.proofs.Common.{◌≡◌, ℕ, ◌+◌, ◌<◌, List, [], ◌∷◌, ◌++◌, length, drop, refl, sym, ◌∙◌, ap, subst, arith, append_assoc, length-append}
use Rattle.std.specs.Int.{to_le_bytes, w32}
use Rattle.std.specs.List.{AllByRecursion}
use Rattle.std.proofs.lemmas.Grind.{flat_map-append}
use Rattle.std.proofs.lemmas.List.{append-nil}
use Rattle.soc_journal.specs.Entries.{Entry, IsEntryOf, open_gate, closed_gate, header, entry_text, entries_text, place_behind, sealed, sealed_all}
use Rattle.soc_journal.specs.Text.{version_of, Begins}
use Rattle.soc_journal.specs.inner.Staging.{behind_all}

-- how many bytes an entry has
pub length-entry_text : (entry : Entry) → length (entry_text entry) ≡ 6 + length entry.body
unfolding entry_text
length-entry_text entry = omega (arith, length-append (to_le_bytes w32 (length entry.body)) entry.body)

pub length-sealed : (entry : Entry) → length (sealed entry) ≡ 7 + length entry.body
length-sealed entry = omega (arith, length-append (entry_text entry) (closed_gate ∷ []), length-entry_text entry)

pub length-sealed_all : (entries : List Entry) → length (sealed_all entries) ≡ length (entries_text entries) + 1
length-sealed_all entries = length-append (entries_text entries) (closed_gate ∷ [])

pub sealed_behind : (entries : List Entry) → 0 < length entries → sealed_all entries ≡ open_gate ∷ behind_all entries
unfolding entry_text behind_all
sealed_behind [] some = absurd (omega (arith, some))
sealed_behind (entry ∷ entries) some = refl

pub length-behind_all : (entries : List Entry) → 0 < length entries → length (behind_all entries) ≡ length (entries_text entries)
length-behind_all entries some = omega (arith, ap (λ (x : List ℕ). length x) (sealed_behind entries some), length-sealed_all entries)

-- one entry is written as entries are
pub sealed_one : (entry : Entry) → sealed_all (entry ∷ []) ≡ sealed entry
sealed_one entry = ap (λ (x : List ℕ). x ++ closed_gate ∷ []) (append-nil (entry_text entry))

pub entries_text-one : (entry : Entry) → entries_text (entry ∷ []) ≡ entry_text entry
entries_text-one entry = append-nil (entry_text entry)

-- what stands behind an entry's gate, and then more
unfoldable pub text_behind : Entry → List ℕ → List ℕ
text_behind entry more = (entry.kind ∷ (to_le_bytes w32 (length entry.body) ++ entry.body)) ++ more

pub entry_text-behind : (entry : Entry) (more : List ℕ) → entry_text entry ++ more ≡ open_gate ∷ text_behind entry more
unfolding entry_text text_behind
entry_text-behind entry more = refl

pub entries_text-append : (entries more : List Entry) (rest : List ℕ) → entries_text (entries ++ more) ++ rest ≡ entries_text entries ++ (entries_text more ++ rest)
entries_text-append entries more rest =
    ap (λ (x : List ℕ). x ++ rest) (flat_map-append entry_text entries more)
    ∙ append_assoc (entries_text entries) (entries_text more) rest

pub length-entries_text-append : (entries more : List Entry) → length (entries_text (entries ++ more)) ≡ length (entries_text entries) + length (entries_text more)
length-entries_text-append entries more =
    omega (arith, ap (λ (x : List ℕ). length x) (flat_map-append entry_text entries more), length-append (entries_text entries) (entries_text more))

pub place_behind-append : (entries more : List Entry) → place_behind (entries ++ more) ≡ place_behind entries + length (entries_text more)
place_behind-append entries more = omega (arith, length-entries_text-append entries more)

pub entries_text-push : (entries : List Entry) (entry : Entry) (rest : List ℕ) → entries_text (entries ++ entry ∷ []) ++ rest ≡ entries_text entries ++ (entry_text entry ++ rest)
entries_text-push entries entry rest =
    entries_text-append entries (entry ∷ []) rest
    ∙ ap (λ (x : List ℕ). entries_text entries ++ (x ++ rest)) (entries_text-one entry)

pub place_behind-push : (entries : List Entry) (entry : Entry) → place_behind (entries ++ entry ∷ []) ≡ place_behind entries + length (entry_text entry)
place_behind-push entries entry =
    omega (arith, place_behind-append entries (entry ∷ []), ap (λ (x : List ℕ). length x) (entries_text-one entry))

pub AllByRecursion-append : {X : Type 0} (P : X → Type 0) (xs ys : List X) → AllByRecursion P xs → AllByRecursion P ys → AllByRecursion P (xs ++ ys)
AllByRecursion-append P [] ys all more = more
AllByRecursion-append P (x ∷ xs) ys all more = (all.0, AllByRecursion-append P xs ys all.1 more)

-- the header and the entries
abbrev pub front_of : ℕ → List Entry → List ℕ
front_of version entries = header version ++ entries_text entries

pub length-front_of : (version : ℕ) (entries : List Entry) → length (front_of version entries) ≡ place_behind entries
length-front_of version entries = omega (arith, length-append (header version) (entries_text entries))

pub front_of-push : (version : ℕ) (entries : List Entry) (entry : Entry) (rest : List ℕ) → front_of version entries ++ (entry_text entry ++ rest) ≡ front_of version (entries ++ entry ∷ []) ++ rest
front_of-push version entries entry rest =
    append_assoc (header version) (entries_text entries) (entry_text entry ++ rest)
    ∙ (ap (λ (x : List ℕ). header version ++ x) (sym (entries_text-push entries entry rest))
    ∙ sym (append_assoc (header version) (entries_text (entries ++ entry ∷ [])) rest))

pub front_of-append : (version : ℕ) (entries more : List Entry) (rest : List ℕ) → front_of version entries ++ (entries_text more ++ rest) ≡ front_of version (entries ++ more) ++ rest
front_of-append version entries more rest =
    append_assoc (header version) (entries_text entries) (entries_text more ++ rest)
    ∙ (ap (λ (x : List ℕ). header version ++ x) (sym (entries_text-append entries more rest))
    ∙ sym (append_assoc (header version) (entries_text (entries ++ more)) rest))

pub version_of-front : (version : ℕ) (entries : List Entry) (rest bytes : List ℕ) → bytes ≡ front_of version entries ++ rest → version_of bytes ≡ version
version_of-front version entries rest bytes whole = ap version_of whole

pub begins_front : (entries : List Entry) (rest bytes : List ℕ) → Begins entries rest bytes → bytes ≡ front_of (version_of bytes) entries ++ rest
begins_front entries rest bytes begins = begins.whole ∙ sym (append_assoc (header (version_of bytes)) (entries_text entries) rest)

pub front_begins : (version : ℕ) (entries : List Entry) (rest bytes : List ℕ) → bytes ≡ front_of version entries ++ rest → AllByRecursion (IsEntryOf version) entries → Begins entries rest bytes
front_begins version entries rest bytes whole legal =
    let is : version ≡ version_of bytes = sym (version_of-front version entries rest bytes whole) in
    let Whole : ℕ → Type 0 = λ v. bytes ≡ header v ++ (entries_text entries ++ rest) in
    let Legal : ℕ → Type 0 = λ v. AllByRecursion (IsEntryOf v) entries in
    record {
      whole = subst Whole is (whole ∙ append_assoc (header version) (entries_text entries) rest);
      legal = subst Legal is legal;
    }
