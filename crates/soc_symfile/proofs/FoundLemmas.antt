-- A look-up among sorted places finds what filtering all records finds.
use Rattle.std.proofs.Common.{◌≡◌, ℕ, zero, suc, ◌<◌, ◌≤◌, ◌==◌, Bool, true, false, List, [], ◌∷◌, length, map, get_or, cond, Option, Some, None, refl, sym, ◌∙◌, ap, arith, ◌⊎◌, inl, inr}
use Rattle.std.specs.Prelude.{filter, find, fold, max, nat_lt, nat_le, ◌&&◌, ◌||◌, not, slice_get, option_map}
use Rattle.std.specs.List.{list_any, last_or}
use Rattle.std.proofs.lemmas.Bool.Decides.{nat_tests}
use Rattle.std.proofs.Math.Nat.{lt_of_not-le}
use Rattle.soc_base.proofs.Folk.{from_le, or_true}
use Rattle.soc_symfile.specs.declared.entries.SourceLine.{SourceLine}
use Rattle.soc_symfile.specs.Line.{ExtentEntry, LabelEntry, FileEntry}
use Rattle.soc_symfile.specs.Records.{Records}
use Rattle.soc_symfile.specs.Found.{greatest, nearest, only_if, covers, owner_at, file_named, is_hidden, public_at}
use Rattle.soc_symfile.specs.inner.Places.{IsLastOf, IsNearest, HasNone, AllAbove}
use Rattle.soc_symfile.specs.inner.Tables.{owner_address, label_address, file_number}

-- the first record whose key passes
find-at : {R : Type 0} (key : R → ℕ) (test : ℕ → Bool) (rs : List R) (at : ℕ) → at < length (map key rs) → test (get_or (map key rs) at 0) ≡ true
    → ((j : ℕ) → j < at → test (get_or (map key rs) j 0) ≡ false) → find (λ r. test (key r)) rs ≡ slice_get rs at
find-at key test [] at inside here before = absurd (omega arith)
find-at key test (r ∷ rs) zero inside here before = rw here refl
find-at key test (r ∷ rs) (suc at) inside here before =
    rw (before 0 (omega arith)) (find-at key test rs at (omega arith) here (λ j below. before (suc j) (omega arith)))

find-none : {R : Type 0} (key : R → ℕ) (test : ℕ → Bool) (rs : List R) → ((j : ℕ) → j < length (map key rs) → test (get_or (map key rs) j 0) ≡ false)
    → find (λ r. test (key r)) rs ≡ None
find-none key test [] none = refl
find-none key test (r ∷ rs) none = rw (none 0 (omega arith)) (find-none key test rs (λ j below. none (suc j) (omega arith)))

-- a search among the records that pass another test
find_step : {R : Type 0} (a b : Bool) (r : R) (p : R → Bool) (rs : List R) (rest : Option R) → find p rs ≡ rest → b ≡ p r
    → find p (cond a (r ∷ rs) rs) ≡ cond (a && b) (Some r) rest
find_step true true r p rs rest is test = rw (sym test) refl
find_step true false r p rs rest is test = rw (sym test) is
find_step false b r p rs rest is test = is

find-filter : {R : Type 0} (p q : R → Bool) (rs : List R) → find p (filter q rs) ≡ find (λ r. q r && p r) rs
find-filter p q [] = refl
find-filter p q (r ∷ rs) = find_step (q r) (p r) r p (filter q rs) (find (λ r. q r && p r) rs) (find-filter p q rs) refl

map_step : {R : Type 0} (a : Bool) (key : R → ℕ) (r : R) (rs : List R) → map key (cond a (r ∷ rs) rs) ≡ cond a (key r ∷ map key rs) (map key rs)
map_step true key r rs = refl
map_step false key r rs = refl

map-filter : {R : Type 0} (key : R → ℕ) (test : ℕ → Bool) (rs : List R) → map key (filter (λ r. test (key r)) rs) ≡ filter test (map key rs)
map-filter key test [] = refl
map-filter key test (r ∷ rs) =
    map_step (test (key r)) key r (filter (λ r. test (key r)) rs) ∙ ap (λ ks. cond (test (key r)) (key r ∷ ks) ks) (map-filter key test rs)

-- the greatest key at or below the offset
le_test : (a b : ℕ) → a ≤ b → nat_le a b ≡ true
le_test a b h = grind (arith, nat_tests)

from_above_test : (a b : ℕ) → nat_le a b ≡ false → b < a
from_above_test a b h = grind (arith, nat_tests)

above_test : (a b : ℕ) → b < a → nat_le a b ≡ false
above_test a b h = grind (arith, nat_tests)

abbrev Stands : List ℕ → ℕ → Type 0
Stands keys top = (at : ℕ) × (at < length keys) × (get_or keys at 0 ≡ top)

later_at : (k top : ℕ) (keys : List ℕ) (at : ℕ) → at < length (k ∷ keys) → get_or (k ∷ keys) at 0 ≡ top → (k ≡ top) ⊎ Stands keys top
later_at k top keys zero inside is = inl is
later_at k top keys (suc at) inside is = inr (at, omega arith, is)

later : (k top : ℕ) (keys : List ℕ) → Stands (k ∷ keys) top → (k ≡ top) ⊎ Stands keys top
later k top keys there = later_at k top keys there.0 there.1 there.2

taken_now : (a k top : ℕ) (keys : List ℕ) → a ≤ top → k ≤ top → (k ≡ top) ⊎ Stands keys top → (max a k ≡ top) ⊎ Stands keys top
taken_now a k top keys low here (inl is) = inl (omega arith)
taken_now a k top keys low here (inr there) = inr there

taken : (a k top : ℕ) (keys : List ℕ) → a ≤ top → k ≤ top → (a ≡ top) ⊎ Stands (k ∷ keys) top → (max a k ≡ top) ⊎ Stands keys top
taken a k top keys low here (inl is) = inl (omega arith)
taken a k top keys low here (inr there) = taken_now a k top keys low here (later k top keys there)

passed_now : (k top : ℕ) (keys : List ℕ) → top < k → (k ≡ top) ⊎ Stands keys top → Stands keys top
passed_now k top keys above (inl is) = absurd (omega arith)
passed_now k top keys above (inr there) = there

passed : (a k top : ℕ) (keys : List ℕ) → top < k → (a ≡ top) ⊎ Stands (k ∷ keys) top → (a ≡ top) ⊎ Stands keys top
passed a k top keys above (inl is) = inl is
passed a k top keys above (inr there) = inr (passed_now k top keys above (later k top keys there))

abbrev IsBound : ℕ → ℕ → List ℕ → Type 0
IsBound offset top keys = (j : ℕ) → j < length keys → get_or keys j 0 ≤ offset → get_or keys j 0 ≤ top

abbrev below_offset : ℕ → List ℕ → List ℕ
below_offset offset keys = filter (λ k. nat_le k offset) keys

greatest-step : (offset top a k : ℕ) (keys : List ℕ) → a ≤ top → top ≤ offset → IsBound offset top (k ∷ keys) → (a ≡ top) ⊎ Stands (k ∷ keys) top
    → ((b : ℕ) → b ≤ top → IsBound offset top keys → (b ≡ top) ⊎ Stands keys top → fold max b (below_offset offset keys) ≡ top)
    → (low : Bool) → nat_le k offset ≡ low → fold max a (cond low (k ∷ below_offset offset keys) (below_offset offset keys)) ≡ top
greatest-step offset top a k keys low below bound either rest true test =
    let here : k ≤ top = bound 0 (omega arith) (from_le k offset test) in
    rest (max a k) (omega arith) (λ j inside. bound (suc j) (omega arith)) (taken a k top keys low here either)
greatest-step offset top a k keys low below bound either rest false test =
    let above = from_above_test k offset test in
    rest a low (λ j inside. bound (suc j) (omega arith)) (passed a k top keys (omega arith) either)

greatest-from : (offset top : ℕ) (keys : List ℕ) (a : ℕ) → a ≤ top → top ≤ offset → IsBound offset top keys
    → (a ≡ top) ⊎ Stands keys top → fold max a (below_offset offset keys) ≡ top
greatest-from offset top [] a low below bound (inl is) = is
greatest-from offset top [] a low below bound (inr there) = absurd (omega (arith, there.1))
greatest-from offset top (k ∷ keys) a low below bound either =
    greatest-step offset top a k keys low below bound either (λ b less more one. greatest-from offset top keys b less below more one) (nat_le k offset) refl

-- nothing lies at or below the offset
none-below : (offset : ℕ) (keys : List ℕ) → AllAbove keys offset → below_offset offset keys ≡ []
none-below offset [] above = refl
none-below offset (k ∷ keys) above =
    let here : nat_le k offset ≡ false = above_test k offset (above 0 (omega arith)) in
    rw here (none-below offset keys (λ j inside. above (suc j) (omega arith)))

both_tests : (k offset top : ℕ) → k ≡ top → top ≤ offset → (nat_le k offset && (k == top)) ≡ true
both_tests k offset top is below = grind (arith, nat_tests)

other_tests : (k offset top : ℕ) → (k ≤ offset → k < top) → (nat_le k offset && (k == top)) ≡ false
other_tests k offset top less = grind (arith, nat_tests)

filter-none : {R : Type 0} (key : R → ℕ) (offset : ℕ) (rs : List R) → AllAbove (map key rs) offset → filter (λ r. nat_le (key r) offset) rs ≡ []
filter-none key offset [] above = refl
filter-none key offset (r ∷ rs) above =
    let here : nat_le (key r) offset ≡ false = above_test (key r) offset (above 0 (omega arith)) in
    rw here (filter-none key offset rs (λ j inside. above (suc j) (omega arith)))

pub nearest-none : {R : Type 0} (key : R → ℕ) (offset : ℕ) (rs : List R) → AllAbove (map key rs) offset → nearest key offset rs ≡ None
unfolding nearest
nearest-none key offset rs above = rw (filter-none key offset rs above) refl

pub nearest-some : {R : Type 0} (key : R → ℕ) (offset at : ℕ) (rs : List R) → IsNearest (map key rs) offset at → nearest key offset rs ≡ slice_get rs at
unfolding nearest
nearest-some key offset at rs near =
    let keys = map key rs in
    let top = get_or (map key rs) at 0 in
    let is_top : greatest (map key (filter (λ r. nat_le (key r) offset) rs)) ≡ top =
    ap (λ ks. fold max 0 ks) (map-filter key (λ k. nat_le k offset) rs)
    ∙ greatest-from offset top keys 0 (omega arith) near.below near.greatest (inr (at, near.first.inside, refl)) in
    let earlier = λ (j : ℕ) (before : j < at) (low : get_or (map key rs) j 0 ≤ offset).
    let inside : j < length (map key rs) = omega (arith, near.first.inside) in
    lt_of_not-le {n = top} {m = get_or (map key rs) j 0} (λ (high : top ≤ get_or (map key rs) j 0).
    let bound = near.greatest j inside low in
    let same : get_or (map key rs) j 0 ≡ top = omega arith in
    let first = near.first.first j inside same in
    omega arith) in
    ap (λ t. find (λ r. key r == t) (filter (λ r. nat_le (key r) offset) rs)) is_top
    ∙ find-filter (λ r. key r == top) (λ r. nat_le (key r) offset) rs
    ∙ find-at key (λ k. nat_le k offset && (k == top)) rs at near.first.inside (both_tests top offset top refl near.below)
    (λ j before. other_tests (get_or (map key rs) j 0) offset top (earlier j before))

-- the key of a record that stands there
key-at : {R : Type 0} (key : R → ℕ) (rs : List R) (at : ℕ) (r : R) → slice_get rs at ≡ Some r → get_or (map key rs) at 0 ≡ key r
key-at key [] at r is = cc
key-at key (s ∷ rs) zero r is = let same : s ≡ r = cc in ap key same
key-at key (s ∷ rs) (suc at) r is = key-at key rs at r is

-- a function or an INIT
pub owner-none : {P : Type 0} (owners : List (ExtentEntry × List P)) (offset : ℕ) → AllAbove (map owner_address owners) offset → None ≡ owner_at owners offset
owner-none {P} owners offset above =
    sym (ap (only_if (λ (owner : ExtentEntry × List P). covers offset owner.0.address owner.0.size)) (nearest-none owner_address offset owners above))

owner-there : {P : Type 0} (owners : List (ExtentEntry × List P)) (offset at : ℕ) (owner : ExtentEntry × List P) → IsNearest (map owner_address owners) offset at → slice_get owners at ≡ Some owner
    → owner_at owners offset ≡ only_if (λ (other : ExtentEntry × List P). covers offset other.0.address other.0.size) (Some owner)
owner-there {P} owners offset at owner near there =
    ap (only_if (λ (other : ExtentEntry × List P). covers offset other.0.address other.0.size)) (nearest-some owner_address offset at owners near ∙ there)

pub owner-covers : {P : Type 0} (owners : List (ExtentEntry × List P)) (offset at : ℕ) (owner : ExtentEntry × List P) → IsNearest (map owner_address owners) offset at → slice_get owners at ≡ Some owner
    → true ≡ covers offset owner.0.address owner.0.size → Some owner ≡ owner_at owners offset
owner-covers owners offset at owner near there yes_covers = sym (owner-there owners offset at owner near there ∙ rw (sym yes_covers) refl)

pub owner-ends : {P : Type 0} (owners : List (ExtentEntry × List P)) (offset at : ℕ) (owner : ExtentEntry × List P) → IsNearest (map owner_address owners) offset at → slice_get owners at ≡ Some owner
    → false ≡ covers offset owner.0.address owner.0.size → None ≡ owner_at owners offset
owner-ends owners offset at owner near there ends = sym (owner-there owners offset at owner near there ∙ rw (sym ends) refl)

-- whether a function hides a public symbol
any-at : {R : Type 0} (key : R → ℕ) (test : ℕ → Bool) (rs : List R) (at : ℕ) → at < length (map key rs) → test (get_or (map key rs) at 0) ≡ true → list_any (λ r. test (key r)) rs ≡ true
any-at key test [] at inside here = absurd (omega arith)
any-at key test (r ∷ rs) zero inside here = rw here refl
any-at key test (r ∷ rs) (suc at) inside here = ap (λ b. test (key r) || b) (any-at key test rs at (omega arith) here) ∙ or_true (test (key r))

any-none : {R : Type 0} (key : R → ℕ) (test : ℕ → Bool) (rs : List R) → ((j : ℕ) → j < length (map key rs) → test (get_or (map key rs) j 0) ≡ false) → list_any (λ r. test (key r)) rs ≡ false
any-none key test [] none = refl
any-none key test (r ∷ rs) none = rw (none 0 (omega arith)) (any-none key test rs (λ j inside. none (suc j) (omega arith)))

not_between : (address offset k : ℕ) → (k ≤ offset → k ≤ address) → (nat_lt address k && nat_le k offset) ≡ false
not_between address offset k low = grind (arith, nat_tests)

between : (address offset k : ℕ) → nat_lt address k ≡ true → k ≤ offset → (nat_lt address k && nat_le k offset) ≡ true
between address offset k above low = grind (arith, nat_tests)

from_not_lt : (a b : ℕ) → nat_lt a b ≡ false → b ≤ a
from_not_lt a b h = grind (arith, nat_tests)

hidden-by : {P : Type 0} (owners : List (ExtentEntry × List P)) (offset address at : ℕ) → IsNearest (map owner_address owners) offset at
    → (above : Bool) → nat_lt address (get_or (map owner_address owners) at 0) ≡ above → list_any (λ (owner : ExtentEntry × List P). nat_lt address owner.0.address && nat_le owner.0.address offset) owners ≡ above
hidden-by owners offset address at near true test =
    any-at owner_address (λ k. nat_lt address k && nat_le k offset) owners at near.first.inside (between address offset _ test near.below)
hidden-by owners offset address at near false test =
    let low = from_not_lt address (get_or (map owner_address owners) at 0) test in
    any-none owner_address (λ k. nat_lt address k && nat_le k offset) owners (λ j inside. not_between address offset _ (λ below. omega (arith, near.greatest j inside below)))

pub hidden-some : (records : Records) (offset address at : ℕ) (owner : ExtentEntry × List SourceLine) → IsNearest (map owner_address records.functions) offset at → slice_get records.functions at ≡ Some owner
    → nat_lt address owner.0.address ≡ is_hidden records offset address
hidden-some records offset address at owner near there =
    let key = key-at owner_address records.functions at owner there in
    sym (hidden-by records.functions offset address at near (nat_lt address owner.0.address) (ap (λ k. nat_lt address k) key))

pub hidden-none : (records : Records) (offset address : ℕ) → AllAbove (map owner_address records.functions) offset → false ≡ is_hidden records offset address
hidden-none records offset address above =
    sym (any-none owner_address (λ k. nat_lt address k && nat_le k offset) records.functions (λ j inside. not_between address offset _ (λ below. absurd (omega (arith, above j inside)))))

-- a public symbol
pub public-none : (records : Records) (offset : ℕ) → AllAbove (map label_address records.publics) offset → None ≡ public_at records offset
public-none records offset above =
    sym (ap (only_if (λ (label : LabelEntry). not (is_hidden records offset label.address))) (nearest-none label_address offset records.publics above))

public-there : (records : Records) (offset at : ℕ) (label : LabelEntry) → IsNearest (map label_address records.publics) offset at → slice_get records.publics at ≡ Some label
    → public_at records offset ≡ only_if (λ (other : LabelEntry). not (is_hidden records offset other.address)) (Some label)
public-there records offset at label near there =
    ap (only_if (λ (other : LabelEntry). not (is_hidden records offset other.address))) (nearest-some label_address offset at records.publics near ∙ there)

pub public-hidden : (records : Records) (offset at : ℕ) (label : LabelEntry) → IsNearest (map label_address records.publics) offset at → slice_get records.publics at ≡ Some label
    → true ≡ is_hidden records offset label.address → None ≡ public_at records offset
public-hidden records offset at label near there hidden = sym (public-there records offset at label near there ∙ rw (sym hidden) refl)

pub public-shown : (records : Records) (offset at : ℕ) (label : LabelEntry) → IsNearest (map label_address records.publics) offset at → slice_get records.publics at ≡ Some label
    → false ≡ is_hidden records offset label.address → Some label ≡ public_at records offset
public-shown records offset at label near there shown = sym (public-there records offset at label near there ∙ rw (sym shown) refl)

-- the last record whose key passes
last_step : {R : Type 0} (o : Option R) (b : Bool) (r : R) (rs : List R) (rest : Option R) → ((p : Option R) → last_or p rs ≡ rest) → last_or o (cond b (r ∷ rs) rs) ≡ rest
last_step o true r rs rest all = all (Some r)
last_step o false r rs rest all = all o

filter-empty : {R : Type 0} (key : R → ℕ) (test : ℕ → Bool) (rs : List R) → ((j : ℕ) → j < length (map key rs) → test (get_or (map key rs) j 0) ≡ false) → filter (λ r. test (key r)) rs ≡ []
filter-empty key test [] none = refl
filter-empty key test (r ∷ rs) none = rw (none 0 (omega arith)) (filter-empty key test rs (λ j inside. none (suc j) (omega arith)))

last-at : {R : Type 0} (key : R → ℕ) (test : ℕ → Bool) (rs : List R) (at : ℕ) → at < length (map key rs) → test (get_or (map key rs) at 0) ≡ true
    → ((j : ℕ) → at < j → j < length (map key rs) → test (get_or (map key rs) j 0) ≡ false) → (o : Option R) → last_or o (filter (λ r. test (key r)) rs) ≡ slice_get rs at
last-at key test [] at inside here after o = absurd (omega arith)
last-at key test (r ∷ rs) zero inside here after o =
    rw (here, filter-empty key test rs (λ j within. after (suc j) (omega arith) (omega arith))) refl
last-at key test (r ∷ rs) (suc at) inside here after o =
    last_step o (test (key r)) r (filter (λ r. test (key r)) rs) (slice_get rs at)
    (last-at key test rs at (omega arith) here (λ j past within. after (suc j) (omega arith) (omega arith)))

eq_test : (a b : ℕ) → a ≡ b → (a == b) ≡ true
eq_test a b h = grind (arith, nat_tests)

ne_test : (a b : ℕ) → ¬ (a ≡ b) → (a == b) ≡ false
ne_test a b h = grind (arith, nat_tests)

pub file-none : (files : List FileEntry) (number : ℕ) → HasNone (map file_number files) number → None ≡ file_named files number
file-none files number none =
    sym (ap (λ (fs : List FileEntry). option_map (λ (file : FileEntry). file.name) (last_or None fs)) (filter-empty file_number (λ k. k == number) files (λ j inside. ne_test _ number (none j inside))))

pub file-some : (files : List FileEntry) (number at : ℕ) (file : FileEntry) → IsLastOf (map file_number files) number at → slice_get files at ≡ Some file → Some file.name ≡ file_named files number
file-some files number at file last there =
    sym (ap (option_map (λ (f : FileEntry). f.name)) (last-at file_number (λ k. k == number) files at last.inside (eq_test _ number last.is)
    (λ j past inside. ne_test _ number (λ same. let early = last.last j inside same in omega arith)) None ∙ there))
