-- What stands where a gate is wanted, from its first bytes.
use Rattle.std.proofs.Common.{◌≡◌, ℕ, ◌^◌, ◌<◌, ◌≤◌, min, Option, Some, None, IfSome, IsTrue, false, List, ◌∷◌, ◌++◌, length, take, drop, get_or, sym, ◌∙◌, ap, subst, arith, length-append, take-append-drop, append_assoc}
use Rattle.std.specs.Int.{from_le_bytes, to_le_bytes, w32}
use Rattle.std.proofs.lemmas.Nat.{from_le_bytes-to_le_bytes_4}
use Rattle.std.proofs.lemmas.List.{take_all, length-drop, length-take}
use Rattle.std.proofs.lemmas.Option.{IfSome_then}
use Rattle.soc_edge.specs.Disk.{ReadsAt}
use Rattle.soc_journal.specs.Entries.{Entry, has_kind, max_body, open_gate, entry_text}
use Rattle.soc_journal.specs.Openings.{Counts}
use Rattle.soc_journal.specs.inner.Gates.{entry_head, HasNoGate, IsFront, IsBad}
use Rattle.soc_journal.specs.declared.gate.Front.{Front}
use Rattle.soc_journal.specs.declared.gate.Front.TheVariants.{Shut, Cut, Head}
use Rattle.soc_journal.proofs.Texts.{length-entry_text}

-- the front of the rest is the front of what was read of it
module _ (rest head : List ℕ) (count : ℕ) (fills : count ≡ min 6 (length rest)) (same : take count head ≡ take count rest) where
  splits : rest ≡ take count head ++ drop count rest
  splits = sym (take-append-drop count rest) ∙ ap (λ (x : List ℕ). x ++ drop count rest) (sym same)

  length-front : length (take count head) ≡ count
  length-front = ap (λ (x : List ℕ). length x) same ∙ (length-take count rest ∙ omega (arith, fills))

  front_whole : length (take count head) < 6 → take count head ≡ rest
  front_whole short = same ∙ take_all count rest (omega (arith, fills, length-front, short))

  front_reads : (front : Front) → IsFront (take count head) front → IsFront rest front
  front_reads Shut (gate, more, is, closed) = (gate, more ++ drop count rest, splits ∙ ap (λ (x : List ℕ). x ++ drop count rest) is, closed)
  front_reads Cut (short, shut) =
      let whole = front_whole short in
      (omega (arith, short, ap (λ (x : List ℕ). length x) whole), λ gate more closed is. shut gate more closed (whole ∙ is))
  front_reads (Head kind length) (low, (more, is)) =
      (low, (more ++ drop count rest, splits ∙ (ap (λ (x : List ℕ). x ++ drop count rest) is ∙ append_assoc (entry_head kind length) more (drop count rest))))

pub front_told : (told : Option (List ℕ)) (place count : ℕ) (head : List ℕ) (front : Front) → length head ≡ 6 → IfSome told (λ bytes. ReadsAt bytes place count head)
    → IsFront (take count head) front → IfSome told (λ bytes. IsFront (drop place bytes) front)
front_told None place count head front size reads is = tt
front_told (Some bytes) place count head front size reads is =
    front_reads (drop place bytes) head count (omega (arith, reads.fills, size, length-drop place bytes)) reads.bytes front is

-- ---- neither an entry nor a closed gate

module _ (version place end : ℕ) (bytes : List ℕ) where
  open_only : (more : List ℕ) → bytes ≡ open_gate ∷ more → HasNoGate bytes
  open_only more opened gate others closed is =
      let same : gate ≡ open_gate = cc in
      closed same

  bad_cut : length bytes < 6 → HasNoGate bytes → IsBad version place end bytes
  bad_cut short shut = record {
    no_entry = λ entry others legal ends is. omega (arith, ap (λ (x : List ℕ). length x) is, length-append (entry_text entry) others, length-entry_text entry);
    no_gate = shut;
  }

-- the head of an entry tells its kind and its body's length
pub heads_same : (kind count : ℕ) (entry : Entry) (more others : List ℕ) → count < 2 ^ 32 → length entry.body < 2 ^ 32 → entry_head kind count ++ more ≡ entry_text entry ++ others
    → (kind ≡ entry.kind) × (count ≡ length entry.body)
unfolding entry_text
heads_same kind count entry more others low low_too is =
    let digits : to_le_bytes w32 count ≡ to_le_bytes w32 (length entry.body) = ap (λ (x : List ℕ). take 4 (drop 2 x)) is in (
      ap (λ (x : List ℕ). get_or x 1 0) is,
      sym (from_le_bytes-to_le_bytes_4 count low) ∙ (ap (λ (x : List ℕ). from_le_bytes w32 x) digits ∙ from_le_bytes-to_le_bytes_4 (length entry.body) low_too),
    )

module _ (version place end : ℕ) (bytes : List ℕ) (kind count : ℕ) where
  -- a head that is no entry's
  bad_head : IsFront bytes (Head kind count) → (Counts version kind count place end → ⊥) → IsBad version place end bytes
  bad_head (low, (more, opened)) never = record {
    no_entry = λ entry others legal ends is.
        let short : length entry.body ≤ max_body = legal.short in
        let same = heads_same kind count entry more others low (omega arith) (sym opened ∙ is) in
        let known : IsTrue (has_kind version kind) = subst (λ k. IsTrue (has_kind version k)) (sym same.0) legal.known in
        let size = length-entry_text entry in
        never (record { known = known; short = omega (arith, same.1, short); fits = omega (arith, same.1, size, ends) });
    no_gate = open_only version place end bytes (kind ∷ (to_le_bytes w32 count ++ more)) opened;
  }

module _ (version place end : ℕ) (told : Option (List ℕ)) (front : Front) (reads : IfSome told (λ bytes. IsFront (drop place bytes) front)) where
  at_front : (other : Front) → front ≡ other → IfSome told (λ bytes. IsFront (drop place bytes) other)
  at_front other is =
      let P : Front → Type 0 = λ f. IfSome told (λ bytes. IsFront (drop place bytes) f) in
      subst P is reads

  pub found_cut : front ≡ Cut → IfSome told (λ bytes. IsBad version place end (drop place bytes))
  found_cut is = IfSome_then told (at_front Cut is) (λ bytes cut. bad_cut version place end (drop place bytes) cut.0 cut.1)

  pub found_bad : (kind count : ℕ) → front ≡ Head kind count → (Counts version kind count place end → IsTrue false)
      → IfSome told (λ bytes. IsBad version place end (drop place bytes))
  found_bad kind count is never =
      let no_count : Counts version kind count place end → ⊥ = λ counts. let false_is_true = never counts in cc in
      IfSome_then told (at_front (Head kind count) is) (λ bytes head. bad_head version place end (drop place bytes) kind count head no_count)
