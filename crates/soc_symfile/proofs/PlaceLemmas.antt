-- Look-ups among sorted places.
use Rattle.std.proofs.Common.{◌≡◌, ℕ, ◌+◌, ◌-◌, ◌<◌, ◌≤◌, List, length, get_or, Option, Some, None, true, false, MatchOption, refl, sym, ◌∙◌, ap, arith}
use Rattle.std.specs.Prelude.{nat_lt, nat_le}
use Rattle.std.proofs.lemmas.Bool.Decides.{nat_tests}
use Rattle.std.specs.List.Sorted.{IsPartitionPoint}
use Rattle.std.proofs.Math.Nat.{lt_of_not-le}
use Rattle.soc_base.proofs.Folk.{from_lt, from_le}
use Rattle.soc_symfile.specs.declared.places.Place.{Place}
use Rattle.soc_symfile.specs.inner.Places.{IsIndex, IsFirstOf, IsLastOf, IsNearest, HasNone, AllAbove}

le_from_test : (a b : ℕ) → nat_lt a b ≡ false → b ≤ a
le_from_test a b h = grind (arith, nat_tests)

above_from_test : (a b : ℕ) → nat_le a b ≡ false → b < a
above_from_test a b h = grind (arith, nat_tests)

-- a place of a key
pub record IsPlaceOf (places : List Place) (keys : List ℕ) (at i : ℕ) : Type 0 where
  pub inside : i < length places
  pub is : (d : Place) → (get_or places i d).at ≡ at
  pub key : (d : Place) → (get_or places i d).key ≡ get_or keys at 0

place_of : (places : List Place) (keys : List ℕ) (at : ℕ) → IsIndex places keys → at < length keys → (i : ℕ) × IsPlaceOf places keys at i
place_of places keys at index inside =
    let w = index.whole at inside in (
      w.0,
      record {
        inside = w.1;
        is = w.2;
        key = λ d. sym ((index.real w.0 d w.1).1) ∙ ap (λ k. get_or keys k 0) (w.2 d);
      },
    )

none : Place
none = record { key = 0; at = 0 }

pub first-end : (places : List Place) (keys : List ℕ) (key n : ℕ) → IsIndex places keys
    → IsPartitionPoint (λ place. place.key < key) (λ place. key ≤ place.key) places n → length places ≤ n → HasNone keys key
first-end places keys key n index point end = λ at inside is.
    let p = place_of places keys at index inside in
    let below = point.0 p.0 none (omega arith) (omega (arith, p.1.inside)) in
    omega (arith, p.1.key none)

pub first-here : (places : List Place) (keys : List ℕ) (key n : ℕ) (d : Place) → IsIndex places keys
    → IsPartitionPoint (λ place. place.key < key) (λ place. key ≤ place.key) places n → n < length places → (get_or places n d).key ≡ key
    → IsFirstOf keys key (get_or places n d).at
first-here places keys key n d index point within is = record {
  inside = (index.real n d within).0;
  is = (index.real n d within).1 ∙ is;
  first = λ other inside same.
      let p = place_of places keys other index inside in
      let their_key = p.1.key d in
      let past : n < p.0 + 1 = lt_of_not-le {n = p.0 + 1} {m = n} (λ (early : p.0 + 1 ≤ n).
      let low = point.0 p.0 d (omega arith) (omega arith) in omega arith) in
      let behind : n ≤ p.0 = omega arith in
      let order : (get_or places n d).at ≤ (get_or places p.0 d).at = index.ties n p.0 d behind p.1.inside (omega arith) in
      omega (arith, p.1.is d);
}

pub first-else : (places : List Place) (keys : List ℕ) (key n : ℕ) (d : Place) → IsIndex places keys
    → IsPartitionPoint (λ place. place.key < key) (λ place. key ≤ place.key) places n → n < length places → ¬ ((get_or places n d).key ≡ key)
    → HasNone keys key
first-else places keys key n d index point within not = λ other inside same.
    let p = place_of places keys other index inside in
    let their_key = p.1.key d in
    let past : n < p.0 + 1 = lt_of_not-le {n = p.0 + 1} {m = n} (λ (early : p.0 + 1 ≤ n).
    let low = point.0 p.0 d (omega arith) (omega arith) in omega arith) in
    let behind : n ≤ p.0 = omega arith in
    let order = index.sorted n p.0 d behind p.1.inside in
    let here = point.1 n d (omega arith) within in
    not (omega arith)

pub last-start : (places : List Place) (keys : List ℕ) (key n : ℕ) → IsIndex places keys
    → IsPartitionPoint (λ place. place.key ≤ key) (λ place. key < place.key) places n → n ≡ 0 → AllAbove keys key
last-start places keys key n index point start = λ at inside.
    let p = place_of places keys at index inside in
    let above = point.1 p.0 none (omega arith) p.1.inside in
    omega (arith, p.1.key none)

pub none-above : (keys : List ℕ) (key : ℕ) → AllAbove keys key → HasNone keys key
none-above keys key above = λ at inside is. omega (arith, above at inside)

pub last-here : (places : List Place) (keys : List ℕ) (key n : ℕ) (d : Place) → IsIndex places keys
    → IsPartitionPoint (λ place. place.key ≤ key) (λ place. key < place.key) places n → n ≤ length places → ¬ (n ≡ 0) → (get_or places (n - 1) d).key ≡ key
    → IsLastOf keys key (get_or places (n - 1) d).at
last-here places keys key n d index point within some is = record {
  inside = (index.real (n - 1) d (omega arith)).0;
  is = (index.real (n - 1) d (omega arith)).1 ∙ is;
  last = λ other inside same.
      let p = place_of places keys other index inside in
      let their_key = p.1.key d in
      let early : p.0 < n = lt_of_not-le {n = n} {m = p.0} (λ (late : n ≤ p.0).
      let high = point.1 p.0 d late p.1.inside in omega arith) in
      let before : p.0 ≤ n - 1 = omega arith in
      let order : (get_or places p.0 d).at ≤ (get_or places (n - 1) d).at = index.ties p.0 (n - 1) d before (omega arith) (omega arith) in
      omega (arith, p.1.is d);
}

pub last-else : (places : List Place) (keys : List ℕ) (key n : ℕ) (d : Place) → IsIndex places keys
    → IsPartitionPoint (λ place. place.key ≤ key) (λ place. key < place.key) places n → n ≤ length places → ¬ (n ≡ 0) → ¬ ((get_or places (n - 1) d).key ≡ key)
    → HasNone keys key
last-else places keys key n d index point within some not = λ other inside same.
    let p = place_of places keys other index inside in
    let their_key = p.1.key d in
    let early : p.0 < n = lt_of_not-le {n = n} {m = p.0} (λ (late : n ≤ p.0).
    let high = point.1 p.0 d late p.1.inside in omega arith) in
    let before : p.0 ≤ n - 1 = omega arith in
    let order = index.sorted p.0 (n - 1) d before (omega arith) in
    let here = point.0 (n - 1) d (omega arith) (omega arith) in
    not (omega arith)

-- the first place of the key at the place before the count
pub nearest-there : (places : List Place) (keys : List ℕ) (offset n : ℕ) (d : Place) (r : Option ℕ) → IsIndex places keys
    → IsPartitionPoint (λ place. place.key ≤ offset) (λ place. offset < place.key) places n → n ≤ length places → ¬ (n ≡ 0)
    → MatchOption r (HasNone keys (get_or places (n - 1) d).key) (IsFirstOf keys (get_or places (n - 1) d).key)
    → MatchOption r (AllAbove keys offset) (IsNearest keys offset)
nearest-there places keys offset n d None index point within some absent =
    let real = index.real (n - 1) d (omega arith) in absurd (absent _ real.0 real.1)
nearest-there places keys offset n d (Some at) index point within some first = record {
  first = record { inside = first.inside; is = refl; first = λ other inside same. first.first other inside (same ∙ first.is) };
  below = let here = point.0 (n - 1) d (omega arith) (omega arith) in omega (arith, first.is);
  greatest = λ other inside low.
      let p = place_of places keys other index inside in
      let their_key = p.1.key d in
      let early : p.0 < n = lt_of_not-le {n = n} {m = p.0} (λ (late : n ≤ p.0).
      let high = point.1 p.0 d late p.1.inside in omega arith) in
      let before : p.0 ≤ n - 1 = omega arith in
      let order = index.sorted p.0 (n - 1) d before (omega arith) in
      omega (arith, first.is);
}

-- the place before the count, where its key is above the one before it
pub nearest-alone : (places : List Place) (keys : List ℕ) (offset n : ℕ) (d : Place) → IsIndex places keys
    → IsPartitionPoint (λ place. place.key ≤ offset) (λ place. offset < place.key) places n → n ≤ length places → ¬ (n ≡ 0)
    → (1 < n → (get_or places (n - 2) d).key < (get_or places (n - 1) d).key) → IsNearest keys offset (get_or places (n - 1) d).at
nearest-alone places keys offset n d index point within some alone =
    let real = index.real (n - 1) d (omega arith) in
    nearest-there places keys offset n d (Some (get_or places (n - 1) d).at) index point within some (record {
      inside = real.0;
      is = real.1;
      first = λ other inside same.
          let p = place_of places keys other index inside in
          let their_key = p.1.key d in
          let early : p.0 < n = lt_of_not-le {n = n} {m = p.0} (λ (late : n ≤ p.0).
          let high = point.1 p.0 d late p.1.inside in let low = point.0 (n - 1) d (omega arith) (omega arith) in omega arith) in
          let last : n < p.0 + 2 = lt_of_not-le {n = p.0 + 2} {m = n} (λ (before : p.0 + 2 ≤ n).
          let step = alone (omega arith) in
          let order = index.sorted p.0 (n - 2) d (omega arith) (omega arith) in omega arith) in
          let is : p.0 ≡ n - 1 = omega arith in
          let here : (get_or places (n - 1) d).at ≡ other = rw is at (p.1.is d) in
          omega arith;
    })

-- what a search for the first key at or above the key counts, and for the first one above it
pub below_point : (places : List Place) (key n : ℕ) → IsPartitionPoint (λ place. nat_lt place.key key ≡ true) (λ place. nat_lt place.key key ≡ false) places n
    → IsPartitionPoint (λ place. place.key < key) (λ place. key ≤ place.key) places n
below_point places key n h = (λ k d low high. from_lt _ _ (h.0 k d low high), λ k d low high. le_from_test _ _ (h.1 k d low high))

pub to_point : (places : List Place) (key n : ℕ) → IsPartitionPoint (λ place. nat_le place.key key ≡ true) (λ place. nat_le place.key key ≡ false) places n
    → IsPartitionPoint (λ place. place.key ≤ key) (λ place. key < place.key) places n
to_point places key n h = (λ k d low high. from_le _ _ (h.0 k d low high), λ k d low high. above_from_test _ _ (h.1 k d low high))
