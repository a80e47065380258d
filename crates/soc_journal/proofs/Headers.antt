-- The header of a journal, from the first bytes of the disk.
use Rattle.std.proofs.Common.{◌≡◌, ℕ, ◌-◌, ◌≤◌, min, true, Option, Some, None, IfSome, MatchOption, List, [], ◌∷◌, ◌++◌, length, take, drop, slice_get, refl, sym, ◌∙◌, ap, subst, arith, length-append, take-append-drop}
use Rattle.std.specs.Prelude.{codes}
use Rattle.std.specs.Str.{bytes_eq}
use Rattle.std.proofs.lemmas.Slice.Eq.{bytes_eq-Decides}
use Rattle.std.proofs.lemmas.List.{take_at, length-take}
use Rattle.soc_edge.specs.Disk.{ReadsAt}
use Rattle.soc_journal.specs.Entries.{header}
use Rattle.soc_journal.specs.Text.{version_of, HasHeader}

-- eight bytes at most, of which the first seven are the header's
behind_magic : (front behind : List ℕ) → front ≡ codes "SOCJ000" ++ behind → length front ≤ 8 → MatchOption (slice_get behind 0) (¬ (HasHeader front)) (λ v. front ≡ header v)
behind_magic front [] whole short = λ has.
    omega (arith, ap (λ (x : List ℕ). length x) whole, ap (λ (x : List ℕ). length x) has.whole, length-append (header (version_of front)) has.rest)
behind_magic front (v ∷ []) whole short = whole
behind_magic front (v ∷ w ∷ more) whole short = absurd (omega (arith, ap (λ (x : List ℕ). length x) whole))

pub reads_version : (front magic other behind : List ℕ) (answer : Option ℕ) → magic ≡ take 7 front → behind ≡ drop 7 front → length front ≤ 8 → other ≡ codes "SOCJ000" → bytes_eq magic other ≡ true
    → answer ≡ slice_get behind 0 → MatchOption answer (¬ (HasHeader front)) (λ v. front ≡ header v)
reads_version front magic other behind answer is_magic is_behind short is_other equal is =
    let same : magic ≡ codes "SOCJ000" = (bytes_eq-Decides magic other).0 equal ∙ is_other in
    let whole : front ≡ codes "SOCJ000" ++ behind =
    sym (take-append-drop 7 front) ∙ (ap (λ (x : List ℕ). x ++ drop 7 front) (sym is_magic ∙ same) ∙ ap (λ (x : List ℕ). codes "SOCJ000" ++ x) (sym is_behind)) in
    let P : Option ℕ → Type 0 = λ a. MatchOption a (¬ (HasHeader front)) (λ v. front ≡ header v) in
    subst P (sym is) (behind_magic front behind whole short)

-- ---- on the disk

module _ (bytes head : List ℕ) (count : ℕ) (fills : count ≡ min 8 (length bytes - 0)) (same : take count head ≡ take count (drop 0 bytes)) where
  splits : bytes ≡ take count head ++ drop count bytes
  splits = sym (take-append-drop count bytes) ∙ ap (λ (x : List ℕ). x ++ drop count bytes) (sym same)

  length-front : length (take count head) ≡ count
  length-front = ap (λ (x : List ℕ). length x) same ∙ (length-take count bytes ∙ omega (arith, fills))

  -- the disk has a header where its first eight bytes have one
  has_front : HasHeader bytes → HasHeader (take count head)
  has_front has =
      let long : 8 ≤ length bytes = omega (arith, ap (λ (x : List ℕ). length x) has.whole, length-append (header (version_of bytes)) has.rest) in
      let eight : count ≡ 8 = omega (arith, fills, long) in
      let front : take count head ≡ header (version_of bytes) =
      same ∙ (ap (λ (n : ℕ). take n bytes) eight ∙ (ap (λ (x : List ℕ). take 8 x) has.whole ∙ take_at (header (version_of bytes)) has.rest 8 refl)) in
      let version : version_of bytes ≡ version_of (take count head) = sym (ap version_of front) in
      record { rest = []; whole = front ∙ ap (λ (v : ℕ). header v ++ []) version }

  has_all : (v : ℕ) → take count head ≡ header v → HasHeader bytes × (v ≡ version_of bytes)
  has_all v front =
      let whole : bytes ≡ header v ++ drop count bytes = splits ∙ ap (λ (x : List ℕ). x ++ drop count bytes) front in
      let version : v ≡ version_of bytes = sym (ap version_of whole) in
      (record { rest = drop count bytes; whole = whole ∙ ap (λ (w : ℕ). header w ++ drop count bytes) version }, version)

  version_on : (answer : Option ℕ) → MatchOption answer (¬ (HasHeader (take count head))) (λ v. take count head ≡ header v)
      → MatchOption answer (¬ (HasHeader bytes)) (λ v. HasHeader bytes × (v ≡ version_of bytes))
  version_on None none = λ has. none (has_front has)
  version_on (Some v) is = has_all v is

pub version_told : (told : Option (List ℕ)) (count : ℕ) (head : List ℕ) (answer : Option ℕ) → length head ≡ 8 → IfSome told (λ bytes. ReadsAt bytes 0 count head)
    → MatchOption answer (¬ (HasHeader (take count head))) (λ v. take count head ≡ header v)
    → IfSome told (λ bytes. MatchOption answer (¬ (HasHeader bytes)) (λ v. HasHeader bytes × (v ≡ version_of bytes)))
version_told None count head answer size reads is = tt
version_told (Some bytes) count head answer size reads is = version_on bytes head count (omega (arith, reads.fills, size)) reads.bytes answer is
