-- What a disk reads as from a place on, piece by piece.
use Rattle.std.proofs.Common.{◌≡◌, ℕ, ◌+◌, ◌-◌, ◌*◌, ◌<◌, ◌≤◌, min, Bool, ◌==◌, true, false, IsTrue, ◌↔◌, Option, IfSome, List, [], ◌∷◌, ◌++◌, length, take, drop, refl, sym, ◌∙◌, ap, subst, arith, length-append}
use Rattle.std.specs.Str.{bytes_eq}
use Rattle.std.proofs.lemmas.Slice.Eq.{bytes_eq-Decides}
use Rattle.std.proofs.Math.Seq.{take-add}
use Rattle.std.proofs.lemmas.List.{take_min, length-drop, drop-drop, take-take, take_at, drop_at, drop-take}
use Rattle.std.proofs.lemmas.Option.{IfSome_then}
use Rattle.soc_edge.specs.Disk.{ReadsAt}
use Rattle.std.specs.Int.{div_ceil}
use Rattle.std.proofs.lemmas.Bool.Decides.{nat_tests}
use Rattle.std.proofs.lemmas.Grind.{div_ceil_times}
use Rattle.soc_journal.specs.Bodies.{ReadsFrom, piece_size}
use Rattle.soc_journal.proofs.Options.{IfSome-always, IfSome_both}

pub piece_told : (told : Option (List ℕ)) (place count : ℕ) (into piece : List ℕ) (answer : Bool) → length into ≡ length piece → IfSome told (λ bytes. ReadsAt bytes place count into)
    → answer ≡ bytes_eq (take count into) piece → IfSome told (λ bytes. IsTrue answer ↔ ReadsFrom bytes place piece)
piece_told told place count into piece answer size reads is = IfSome_then told reads (λ bytes read.
    let rest = drop place bytes in
    let low : count ≡ min (length piece) (length rest) = omega (arith, read.fills, size, length-drop place bytes) in
    let same : take count into ≡ take (length piece) rest = read.bytes ∙ (ap (λ (n : ℕ). take n rest) low ∙ take_min (length piece) rest) in
    let decides = bytes_eq-Decides (take (length piece) rest) piece in
    let answers : answer ≡ bytes_eq (take (length piece) rest) piece = is ∙ ap (λ (x : List ℕ). bytes_eq x piece) same in
    (λ holds. decides.0 (sym answers ∙ holds), λ reads_so. answers ∙ decides.1 reads_so))

module _ (bytes : List ℕ) (place : ℕ) (piece behind : List ℕ) where
  count : length (piece ++ behind) ≡ length piece + length behind
  count = length-append piece behind

  whole_is : ReadsFrom bytes place (piece ++ behind) → take (length piece + length behind) (drop place bytes) ≡ piece ++ behind
  whole_is whole = ap (λ (n : ℕ). take n (drop place bytes)) (sym count) ∙ whole

  -- what begins with the whole text begins with its first piece
  pub reads_front : ReadsFrom bytes place (piece ++ behind) → ReadsFrom bytes place piece
  reads_front whole =
      sym (take-take (length piece) (length piece + length behind) (drop place bytes) (omega arith))
      ∙ (ap (λ (x : List ℕ). take (length piece) x) (whole_is whole)
      ∙ take_at piece behind (length piece) refl)

  moved : drop (length piece) (drop place bytes) ≡ drop (place + length piece) bytes
  moved = drop-drop (length piece) place bytes

  -- and goes on with the rest
  pub reads_behind : ReadsFrom bytes place (piece ++ behind) → ReadsFrom bytes (place + length piece) behind
  reads_behind whole =
      ap (λ (x : List ℕ). take (length behind) x) (sym moved)
      ∙ (sym (drop-take (length piece) (length behind) (drop place bytes))
      ∙ (ap (λ (x : List ℕ). drop (length piece) x) (whole_is whole)
      ∙ drop_at piece behind (length piece) refl))

  pub reads_both : ReadsFrom bytes place piece → ReadsFrom bytes (place + length piece) behind → ReadsFrom bytes place (piece ++ behind)
  reads_both front back =
      ap (λ (n : ℕ). take n (drop place bytes)) count
      ∙ (take-add (length piece) (length behind) (drop place bytes)
      ∙ (ap (λ (x : List ℕ). x ++ take (length behind) (drop (length piece) (drop place bytes))) front
      ∙ (ap (λ (x : List ℕ). piece ++ take (length behind) x) moved
      ∙ ap (λ (x : List ℕ). piece ++ x) back)))

pub some_left : (empty : Bool) (n : ℕ) → empty ≡ (n == 0) → empty ≡ false → 0 < n
some_left empty n is some = grind (arith, nat_tests)

-- one piece less is left to be read
pub one_piece : (n behind : ℕ) → 0 < n → behind ≡ n - piece_size → 1 + div_ceil behind piece_size ≤ div_ceil n piece_size
one_piece n behind some is =
    let some_size : 0 < piece_size = omega arith in
    let whole = div_ceil_times n piece_size some_size in
    let left = div_ceil_times behind piece_size some_size in
    fewer (div_ceil behind piece_size) (div_ceil n piece_size) n behind some is whole.0 left.1
  where
    fewer : (q k n behind : ℕ) → 0 < n → behind ≡ n - 65_536 → n ≤ k * 65_536 → q * 65_536 < behind + 65_536 → 1 + q ≤ k
    fewer q k n behind some is low high = omega arith

-- the text was read up to here, where the rest is still to be compared
abbrev pub ReadsTo : Option (List ℕ) → ℕ → List ℕ → ℕ → List ℕ → Type 0
ReadsTo told place text at rest = IfSome told (λ bytes. ReadsFrom bytes place text ↔ ReadsFrom bytes at rest)

pub reads_none : (told : Option (List ℕ)) (place : ℕ) (text : List ℕ) → ReadsTo told place text place text
reads_none told place text = IfSome-always told _ (λ bytes. (λ whole. whole, λ whole. whole))

pub reads_all : (told : Option (List ℕ)) (place : ℕ) (text : List ℕ) (at : ℕ) (rest : List ℕ) → ReadsTo told place text at rest → length rest ≡ 0 → IfSome told (λ bytes. IsTrue true ↔ ReadsFrom bytes place text)
reads_all told place text at rest so_far empty = IfSome_then told so_far (λ bytes same.
    let nothing : ReadsFrom bytes at rest = none_left bytes at rest empty in
    (λ _. same.1 nothing, λ _. refl))
  where
    none_left : (bytes : List ℕ) (n : ℕ) (xs : List ℕ) → length xs ≡ 0 → ReadsFrom bytes n xs
    none_left bytes n [] is = refl
    none_left bytes n (x ∷ xs) is = absurd (omega (arith, is))

module _ (told then_told : Option (List ℕ)) (same_told : then_told ≡ told) (place : ℕ) (text : List ℕ) (at : ℕ) (rest piece behind : List ℕ) (answer : Bool) (parts : piece ++ behind ≡ rest) where
  at_told : IfSome then_told (λ bytes. IsTrue answer ↔ ReadsFrom bytes at piece) → IfSome told (λ bytes. IsTrue answer ↔ ReadsFrom bytes at piece)
  at_told reads = subst (λ (o : Option (List ℕ)). IfSome o (λ bytes. IsTrue answer ↔ ReadsFrom bytes at piece)) same_told reads

  -- one more piece is there
  pub reads_more : ReadsTo told place text at rest → IfSome then_told (λ bytes. IsTrue answer ↔ ReadsFrom bytes at piece) → answer ≡ true → ReadsTo told place text (at + length piece) behind
  reads_more so_far reads holds = IfSome_both told so_far (at_told reads) (λ bytes same read.
      let P : List ℕ → Type 0 = λ x. ReadsFrom bytes at x in (
        λ whole. reads_behind bytes at piece behind (subst P (sym parts) (same.0 whole)),
        λ back. same.1 (subst P parts (reads_both bytes at piece behind (read.0 holds) back)),
      ))

  -- or it isn't
  pub reads_other : ReadsTo told place text at rest → IfSome then_told (λ bytes. IsTrue answer ↔ ReadsFrom bytes at piece) → answer ≡ false → IfSome told (λ bytes. IsTrue false ↔ ReadsFrom bytes place text)
  reads_other so_far reads fails = IfSome_both told so_far (at_told reads) (λ bytes same read.
      let P : List ℕ → Type 0 = λ x. ReadsFrom bytes at x in (
        λ never. absurd (let n : false ≡ true = never in cc),
        λ whole. sym fails ∙ read.1 (reads_front bytes at piece behind (subst P (sym parts) (same.0 whole))),
      ))
