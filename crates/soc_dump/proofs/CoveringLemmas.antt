-- The first interval that covers, and pieces of intervals.
use Rattle.std.proofs.Common.{◌≡◌, ℕ, zero, suc, ◌+◌, ◌<◌, ◌≤◌, ◌^◌, ◌&&◌, take, drop, length-take-le, Bool, true, false, not, List, [], ◌∷◌, ◌++◌, length, get_or, Option, None, Some, refl, sym, ◌∙◌, ap, cond, arith}
use Rattle.std.specs.Prelude.{nat_le, nat_lt, find, map, position, slice_get}
use Rattle.std.specs.List.{position_from, position_or_len}
use Rattle.std.specs.List.Sorted.{IsNonDecreasingBy, IsPartitionPoint}
use Rattle.std.specs.Option.{option_or}
use Rattle.std.proofs.lemmas.Bool.Decides.{nat_tests}
use Rattle.std.proofs.lemmas.Bool.{ltb-true, lt-ltb, le-ltb, leb-true, leb-false}
use Rattle.std.proofs.lemmas.List.Folds.{find_at}
use Rattle.std.proofs.lemmas.Option.{slice_get_past}
use Rattle.std.proofs.lemmas.List.{take-append-drop}
use Rattle.soc_dump.specs.declared.covering.Interval.{Interval}
use Rattle.soc_dump.specs.declared.pieces.Piece.{Piece}
use Rattle.soc_dump.specs.Covering.{covers, interval_from, owner_from}
use Rattle.soc_dump.specs.inner.Pieces.{IsRising, IsOverlay, leads, piece_list}

-- what a count of numbers covers
pub covers-interval_from : (first count x : ℕ) → x < 2 ^ 64 → covers x (interval_from first count) ≡ (nat_le first x && nat_lt x (first + count))
covers-interval_from first zero x small = grind (arith, nat_tests)
covers-interval_from first (suc more) x small = grind (arith, nat_tests)

module _ {A : Type 0} (test : A → Bool) where
  -- the first index, counted from another than 0
  pub position_from-value : (i : ℕ) (xs : List A)
      → position_from test i xs ≡ cond (nat_lt (position_or_len test xs) (length xs)) (Some (i + position_or_len test xs)) None
  position_from-value i [] = refl
  position_from-value i (x ∷ xs) =
      elim (test x) as (λ here. cond here (Some i) (position_from test (i + 1) xs) ≡ cond (nat_lt (cond (not here) (1 + position_or_len test xs) 0) (suc (length xs))) (Some (i + cond (not here) (1 + position_or_len test xs) 0)) None) [
        | true ↦ grind (arith, nat_tests)
        | false ↦ grind (arith, nat_tests, position_from-value (i + 1) xs)
      ]

  pub position_from-zero : (xs : List A) → position_from test 0 xs ≡ position test xs
  position_from-zero xs = grind (arith, position_from-value 0 xs)

  pub position_from-append : (i : ℕ) (xs ys : List A)
      → position_from test i (xs ++ ys) ≡ option_or (position_from test i xs) (position_from test (i + length xs) ys)
  position_from-append i [] ys = let same : i + 0 ≡ i = omega arith in rw same refl
  position_from-append i (x ∷ xs) ys =
      let next : (i + 1) + length xs ≡ i + length (x ∷ xs) = omega arith in
      elim (test x) as (λ here. cond here (Some i) (position_from test (i + 1) (xs ++ ys)) ≡ option_or (cond here (Some i) (position_from test (i + 1) xs)) (position_from test (i + length (x ∷ xs)) ys)) [
        | true ↦ refl
        | false ↦ rw (← next) (position_from-append (i + 1) xs ys)
      ]

  -- the element at the first index is the first that passes
  pub find-position : (xs : List A) (i : ℕ) → position test xs ≡ Some i → find test xs ≡ slice_get xs i
  find-position xs i found =
      let same : position_or_len test xs ≡ i = grind (arith, nat_tests) in
      find_at test xs ∙ ap (slice_get xs) same

  pub find-nowhere : (xs : List A) → position test xs ≡ None → find test xs ≡ None
  find-nowhere xs none =
      let out : length xs ≤ position_or_len test xs = grind (arith, nat_tests) in
      find_at test xs ∙ slice_get_past xs (position_or_len test xs) out

-- the pieces of one interval
pub owner_from-one : (interval : Interval) (index x : ℕ) → interval.last < 2 ^ 64 → x < 2 ^ 64
    → owner_from None (piece_list interval index) x ≡ position_from (covers x) index (interval ∷ [])
owner_from-one interval index x last small = grind (arith, nat_tests)

pub rising-one : (interval : Interval) (index : ℕ) → IsRising 0 (piece_list interval index)
rising-one interval index = grind (arith, nat_tests)

-- an overlay of nothing
pub overlay-end : (above below : Option ℕ) (upper lower : List Piece) → length upper + length lower ≡ 0 → IsOverlay above upper below lower []
overlay-end above below [] [] none = record { owners = λ _. refl; rising = λ _ _ _. tt }
overlay-end above below (piece ∷ upper) lower none = absurd (omega arith)
overlay-end above below [] (piece ∷ lower) none = absurd (omega arith)

before_first : (owner : Option ℕ) (piece : Piece) (x : ℕ) (others : List Piece) → leads piece others ≡ true → x < piece.from → owner_from owner others x ≡ owner
before_first owner piece x [] leading below = refl
before_first owner piece x (other ∷ others) leading below = grind (arith, nat_tests)

rising-from : (piece : Piece) (least : ℕ) (others : List Piece) → leads piece others ≡ true → IsRising least others → IsRising piece.from others
rising-from piece least [] leading rising = tt
rising-from piece least (other ∷ others) leading rising = (grind (arith, nat_tests), rising.1)

-- the owner of a number under two layers, of which the next piece is the upper's
module _ (above below : Option ℕ) (piece : Piece) (upper lower rest : List Piece) (leading : leads piece lower ≡ true)
    (later : IsOverlay piece.owner upper below lower rest) where
  upper-owner : (x : ℕ) (before : Bool) → nat_lt x piece.from ≡ before
      → cond before (option_or above below) (owner_from (option_or piece.owner below) rest x)
      ≡ option_or (cond before above (owner_from piece.owner upper x)) (owner_from below lower x)
  upper-owner x true is = ap (option_or above) (sym (before_first below piece x lower leading (ltb-true x piece.from is)))
  upper-owner x false is = later.owners x

  pub overlay-upper : IsOverlay above (piece ∷ upper) below lower (record { from = piece.from; owner = option_or piece.owner below } ∷ rest)
  overlay-upper = record {
    owners = λ x. upper-owner x (nat_lt x piece.from) refl;
    rising = λ least first second. (first.0, later.rising piece.from first.1 (rising-from piece least lower leading second));
  }

-- the same where it is the lower's
module _ (above below : Option ℕ) (piece : Piece) (upper lower rest : List Piece) (leading : leads piece upper ≡ true)
    (later : IsOverlay above upper piece.owner lower rest) where
  lower-owner : (x : ℕ) (before : Bool) → nat_lt x piece.from ≡ before
      → cond before (option_or above below) (owner_from (option_or above piece.owner) rest x)
      ≡ option_or (owner_from above upper x) (cond before below (owner_from piece.owner lower x))
  lower-owner x true is = ap (λ o. option_or o below) (sym (before_first above piece x upper leading (ltb-true x piece.from is)))
  lower-owner x false is = later.owners x

  pub overlay-lower : IsOverlay above upper below (piece ∷ lower) (record { from = piece.from; owner = option_or above piece.owner } ∷ rest)
  overlay-lower = record {
    owners = λ x. lower-owner x (nat_lt x piece.from) refl;
    rising = λ least first second. (second.0, later.rising piece.from (rising-from piece least upper leading first) second.1);
  }

-- where no piece of the upper list comes next, it is the lower's turn
pub lower-leads : (piece first : Piece) (upper lower : List Piece) → leads first (piece ∷ lower) ≡ false → leads piece (first ∷ upper) ≡ true
lower-leads piece first upper lower other = grind (arith, nat_tests)

-- sorted pieces
rising-least : (pieces : List Piece) (least j : ℕ) (d : Piece) → IsRising least pieces → j < length pieces → least ≤ (get_or pieces j d).from
rising-least [] least j d rising below = absurd (omega arith)
rising-least (piece ∷ pieces) least zero d rising below = rising.0
rising-least (piece ∷ pieces) least (suc j) d rising below =
    let later = rising-least pieces piece.from j d rising.1 (omega arith) in omega (arith, later, rising.0)

pub rising-sorted : (pieces : List Piece) (least : ℕ) → IsRising least pieces → IsNonDecreasingBy (λ piece. piece.from) pieces
rising-sorted [] least rising i j d le below = absurd (omega arith)
rising-sorted (piece ∷ pieces) least rising zero zero d le below = omega arith
rising-sorted (piece ∷ pieces) least rising zero (suc j) d le below = rising-least pieces piece.from j d rising.1 (omega arith)
rising-sorted (piece ∷ pieces) least rising (suc i) zero d le below = absurd (omega arith)
rising-sorted (piece ∷ pieces) least rising (suc i) (suc j) d le below = rising-sorted pieces piece.from rising.1 i j d (omega arith) (omega arith)

-- what is found by the number of pieces that begin at a number or before it
pub owner_from-none : (owner : Option ℕ) (pieces : List Piece) (x : ℕ) → IsPartitionPoint (λ piece. piece.from ≤ x) (λ piece. x < piece.from) pieces 0
    → owner_from owner pieces x ≡ owner
owner_from-none owner [] x point = refl
owner_from-none owner (piece ∷ pieces) x point =
    let later : x < piece.from = point.1 0 piece (omega arith) (omega arith) in
    let test = lt-ltb x piece.from later in rw test refl

pub owner_from-some : (owner : Option ℕ) (pieces : List Piece) (x count : ℕ) (d : Piece) → count < length pieces
    → IsPartitionPoint (λ piece. piece.from ≤ x) (λ piece. x < piece.from) pieces (count + 1)
    → owner_from owner pieces x ≡ (get_or pieces count d).owner
owner_from-some owner [] x count d below point = absurd (omega arith)
owner_from-some owner (piece ∷ pieces) x zero d below point =
    let here : piece.from ≤ x = point.0 0 piece (omega arith) (omega arith) in
    let test = le-ltb x piece.from here in
    rw test (owner_from-none piece.owner pieces x (λ k e above within. absurd (omega arith), λ k e above within. point.1 (suc k) e (omega arith) (omega arith)))
owner_from-some owner (piece ∷ pieces) x (suc count) d below point =
    let here : piece.from ≤ x = point.0 0 piece (omega arith) (omega arith) in
    let test = le-ltb x piece.from here in
    rw test (owner_from-some piece.owner pieces x count d (omega arith)
    (λ k e above within. point.0 (suc k) e (omega arith) (omega arith), λ k e above within. point.1 (suc k) e (omega arith) (omega arith)))

-- the overlay of the pieces of a list's front and of its back
module _ (index middle x : ℕ) (intervals : List Interval) (upper lower pieces : List Piece) (inside : middle ≤ length intervals) where
  pub owner_from-overlay : IsOverlay None upper None lower pieces
      → owner_from None upper x ≡ position_from (covers x) index (take middle intervals)
      → owner_from None lower x ≡ position_from (covers x) (index + middle) (drop middle intervals)
      → owner_from None pieces x ≡ position_from (covers x) index intervals
  owner_from-overlay overlay first second =
      let count : length (take middle intervals) ≡ middle = length-take-le middle intervals inside in
      let split = position_from-append (covers x) index (take middle intervals) (drop middle intervals) in
      overlay.owners x ∙ rw (first, second) (sym (rw (count, take-append-drop middle intervals) at split))

-- what a region or a module covers, by its interval
module _ {A : Type 0} (interval : A → Interval) (test : ℕ → A → Bool) (same : (a : A) (x : ℕ) → x < 2 ^ 64 → covers x (interval a) ≡ test x a) where
  pub position_from-map : (i x : ℕ) (xs : List A) → x < 2 ^ 64 → position_from (covers x) i (map interval xs) ≡ position_from (test x) i xs
  position_from-map i x [] small = refl
  position_from-map i x (a ∷ xs) small = rw (same a x small, position_from-map (i + 1) x xs small) refl

  pub position-map : (x : ℕ) (xs : List A) → x < 2 ^ 64 → position (covers x) (map interval xs) ≡ position (test x) xs
  position-map x xs small =
      sym (position_from-zero (covers x) (map interval xs)) ∙ position_from-map 0 x xs small ∙ position_from-zero (test x) xs

-- what a search by a test tells of the pieces
pub to_point : (pieces : List Piece) (x n : ℕ) → IsPartitionPoint (λ piece. nat_le piece.from x ≡ true) (λ piece. nat_le piece.from x ≡ false) pieces n
    → IsPartitionPoint (λ piece. piece.from ≤ x) (λ piece. x < piece.from) pieces n
to_point pieces x n point = (λ k d low high. leb-true _ _ (point.0 k d low high), λ k d low high. leb-false _ _ (point.1 k d low high))
