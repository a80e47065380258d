-- The places of all records, sorted, are an index of their keys.
use Rattle.std.proofs.Common.{◌≡◌, ℕ, ◌+◌, ◌<◌, ◌≤◌, false, List, [], ◌∷◌, length, map, get_or, refl, ◌∙◌, ap, arith, zero-add}
use Rattle.std.specs.List.{enumerate_from, All, Contains}
use Rattle.std.specs.List.Sorted.{IsPermutation, IsSorted, IsNonDecreasingBy}
use Rattle.std.specs.Ordering.{is_lt, ordering_then, nat_cmp}
use Rattle.std.specs.Cmp.{IsTotalOrder, then_total, on_total, nat_cmp_total}
use Rattle.std.proofs.lemmas.Bool.Decides.{nat_tests}
use Rattle.std.proofs.lemmas.List.{get_or-map, get_or_default, length-map}
use Rattle.std.proofs.lemmas.List.FromFn.{get_or-enumerate_from, length-enumerate_from}
use Rattle.std.proofs.lemmas.List.MinMax.{ranks_by}
use Rattle.std.proofs.lemmas.List.Sorted.{sorted_far, All-permutation, Contains-permutation}
use Rattle.std.proofs.lemmas.List.Elements.{Contains-get_or}
use Rattle.soc_symfile.specs.declared.places.Place.{Place}
use Rattle.soc_symfile.specs.inner.Places.{IsIndex}

place_total : IsTotalOrder (λ (x y : Place). ordering_then (nat_cmp x.key y.key) (nat_cmp x.at y.at))
place_total = then_total (on_total (λ (p : Place). p.key) nat_cmp_total) (on_total (λ (p : Place). p.at) nat_cmp_total)

-- what a test in order says of the numbers
rises : (a b c d : ℕ) → is_lt (ordering_then (nat_cmp a b) (nat_cmp c d)) ≡ false → (b ≤ a) × (b ≡ a → d ≤ c)
rises a b c d h = (grind (arith, nat_tests), λ same. grind (arith, nat_tests))

not_above : (x y : Place) → is_lt (ordering_then (nat_cmp x.key y.key) (nat_cmp x.at y.at)) ≡ false → (y.key ≤ x.key) × (y.key ≡ x.key → y.at ≤ x.at)
not_above x y h = rises x.key y.key x.at y.at h

abbrev placed : ℕ × ℕ → Place
placed r = record { key = r.1; at = r.0 }

abbrev places_of : List ℕ → List Place
places_of keys = map placed (enumerate_from 0 keys)

by_keys : {R : Type 0} (key_of : R → ℕ) (n : ℕ) (records : List R)
    → map (λ (r : ℕ × R). record { key = key_of r.1; at = r.0 }) (enumerate_from n records) ≡ map placed (enumerate_from n (map key_of records))
by_keys key_of n [] = refl
by_keys key_of n (r ∷ records) = ap (λ (ps : List Place). record { key = key_of r; at = n } ∷ ps) (by_keys key_of (n + 1) records)

place_at : (keys : List ℕ) (i : ℕ) (d : Place) → i < length keys → get_or (places_of keys) i d ≡ record { key = get_or keys i 0; at = i }
place_at keys i d inside =
    let within : i < length (enumerate_from 0 keys) = omega (arith, length-enumerate_from 0 keys) in
    get_or-map placed (enumerate_from 0 keys) i (0, 0) d within ∙ ap placed (get_or-enumerate_from 0 keys i (0, 0) inside) ∙ ap (λ k. placed (k, get_or keys i 0)) (zero-add i)

abbrev IsReal : List ℕ → Place → Type 0
IsReal keys place = (place.at < length keys) × (get_or keys place.at 0 ≡ place.key)

all_real : (keys : List ℕ) → All (IsReal keys) (places_of keys)
all_real keys = λ i d inside.
    let within : i < length keys = omega (arith, length-map (enumerate_from 0 keys) placed, length-enumerate_from 0 keys) in
    rw (place_at keys i d within) (within, refl)

each_placed : (keys : List ℕ) (at : ℕ) → at < length keys → Contains (places_of keys) (record { key = get_or keys at 0; at = at })
each_placed keys at inside =
    let e : Place = record { key = 0; at = 0 } in
    let within : at < length (places_of keys) = omega (arith, length-map (enumerate_from 0 keys) placed, length-enumerate_from 0 keys) in
    rw (place_at keys at e inside) at (Contains-get_or (places_of keys) at e within)

index_by_keys : (keys : List ℕ) (sorted : List Place) → IsPermutation (places_of keys) sorted
    → IsSorted (λ (x y : Place). ordering_then (nat_cmp x.key y.key) (nat_cmp x.at y.at)) sorted → IsIndex sorted keys
index_by_keys keys sorted moved order =
    let far = sorted_far (λ (x y : Place). is_lt (ordering_then (nat_cmp x.key y.key) (nat_cmp x.at y.at))) (ranks_by place_total (λ p. p)) sorted order in
    record {
      sorted = λ i j d low high. (not_above (get_or sorted j d) (get_or sorted i d) (far i j d low high)).0;
      ties = λ i j d low high same. (not_above (get_or sorted j d) (get_or sorted i d) (far i j d low high)).1 same;
      real = λ i d inside. All-permutation (IsReal keys) _ _ moved (all_real keys) i d inside;
      whole = λ at inside.
          let here = Contains-permutation _ _ _ moved (each_placed keys at inside) in
          (here.0, here.1, λ d. ap (λ (p : Place). p.at) (get_or_default sorted here.0 d _ here.1 ∙ here.2));
    }

pub index_of : {R : Type 0} (key_of : R → ℕ) (records : List R) (unsorted sorted : List Place)
    → unsorted ≡ map (λ (r : ℕ × R). record { key = key_of r.1; at = r.0 }) (enumerate_from 0 records) → IsPermutation unsorted sorted
    → IsSorted (λ (x y : Place). ordering_then (nat_cmp x.key y.key) (nat_cmp x.at y.at)) sorted → IsIndex sorted (map key_of records)
index_of key_of records unsorted sorted is moved order =
    index_by_keys (map key_of records) sorted (rw (is ∙ by_keys key_of 0 records) at moved) order

-- the places of keys that are in order are an index of them as they stand
index_in_order : (keys : List ℕ) → IsNonDecreasingBy (λ (p : Place). p.key) (places_of keys) → IsIndex (places_of keys) keys
index_in_order keys order =
    let within = λ (i : ℕ) (below : i < length (places_of keys)).
    let inside : i < length keys = omega (arith, length-map (enumerate_from 0 keys) placed, length-enumerate_from 0 keys) in inside in
    record {
      sorted = order;
      ties = λ i j d low high same. rw (place_at keys i d (within i (omega arith)), place_at keys j d (within j high)) low;
      real = λ i d inside. all_real keys i d inside;
      whole = λ at inside.
          let e : Place = record { key = 0; at = 0 } in
          let below : at < length (places_of keys) = omega (arith, length-map (enumerate_from 0 keys) placed, length-enumerate_from 0 keys) in
          (at, below, λ d. ap (λ (p : Place). p.at) (place_at keys at d inside));
    }

pub index_as_is : {R : Type 0} (key_of : R → ℕ) (records : List R) (places : List Place)
    → places ≡ map (λ (r : ℕ × R). record { key = key_of r.1; at = r.0 }) (enumerate_from 0 records)
    → IsNonDecreasingBy (λ (p : Place). p.key) places → IsIndex places (map key_of records)
index_as_is key_of records places is order =
    let same = is ∙ by_keys key_of 0 records in
    rw same (index_in_order (map key_of records) (rw same at order))
