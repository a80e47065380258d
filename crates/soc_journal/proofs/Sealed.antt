-- The text of an entry gives the entry back.
use Rattle.std.proofs.Common.{◌≡◌, ℕ, ◌-◌, List, [], ◌∷◌, ◌++◌, length, sym, ◌∙◌, ap, subst, arith}
use Rattle.std.specs.Int.{to_le_bytes, w32}
use Rattle.std.proofs.lemmas.List.{take_at}
use Rattle.soc_journal.specs.Entries.{Entry, IsEntryOf, open_gate, closed_gate, second_version, entry_text, sealed}
use Rattle.soc_journal.specs.inner.Sealed.{entry_in, IsSealed}
use Rattle.soc_journal.proofs.Texts.{length-sealed}

-- the parts of a head, one behind the other
pub head_built : (none a b c text : List ℕ) (kind length : ℕ) → none ≡ [] → a ≡ none ++ open_gate ∷ [] → b ≡ a ++ kind ∷ [] → c ≡ to_le_bytes w32 length → text ≡ b ++ c
    → text ≡ open_gate ∷ kind ∷ to_le_bytes w32 length
head_built none a b c text kind length e0 e1 e2 e3 e4 =
    let first : b ≡ open_gate ∷ kind ∷ [] = e2 ∙ ap (λ (x : List ℕ). x ++ kind ∷ []) (e1 ∙ ap (λ (x : List ℕ). x ++ open_gate ∷ []) e0) in
    e4 ∙ (ap (λ (x : List ℕ). x ++ c) first ∙ ap (λ (x : List ℕ). open_gate ∷ kind ∷ x) e3)

-- a head, the body and the closed gate
built : (head most text : List ℕ) (count : ℕ) (entry : Entry) → count ≡ length entry.body → head ≡ open_gate ∷ entry.kind ∷ to_le_bytes w32 count → most ≡ head ++ entry.body → text ≡ most ++ closed_gate ∷ []
    → text ≡ sealed entry
unfolding entry_text
built head most text count entry counted e0 e1 e2 =
    let first : head ≡ open_gate ∷ entry.kind ∷ to_le_bytes w32 (length entry.body) = e0 ∙ ap (λ (n : ℕ). open_gate ∷ entry.kind ∷ to_le_bytes w32 n) counted in
    e2 ∙ ap (λ (x : List ℕ). x ++ closed_gate ∷ []) (e1 ∙ ap (λ (x : List ℕ). x ++ entry.body) first)

entry_in-sealed : (entry : Entry) → entry_in (sealed entry) ≡ entry
unfolding entry_text
entry_in-sealed entry =
    let count : length entry.body ≡ length (sealed entry) - 7 = omega (arith, length-sealed entry) in
    ap (λ (x : List ℕ). record { kind = entry.kind; body = x }) (take_at entry.body (closed_gate ∷ []) (length (sealed entry) - 7) count)

pub IsSealed-built : (head most text : List ℕ) (count : ℕ) (entry : Entry) → count ≡ length entry.body → head ≡ open_gate ∷ entry.kind ∷ to_le_bytes w32 count → most ≡ head ++ entry.body → text ≡ most ++ closed_gate ∷ []
    → IsEntryOf second_version entry → IsSealed text
IsSealed-built head most text count entry counted e0 e1 e2 legal =
    let is = built head most text count entry counted e0 e1 e2 in
    let same : entry_in text ≡ entry = ap entry_in is ∙ entry_in-sealed entry in
    let P : Entry → Type 0 = λ e. IsEntryOf second_version e in
    record {
      whole = is ∙ ap sealed (sym same);
      legal = subst P (sym same) legal;
    }
