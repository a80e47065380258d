-- What one more row leaves of a field's postings.
use Rattle.std.proofs.Common.{◌≡◌, ◌≢◌, ℕ, ◌+◌, ◌<◌, List, [], ◌∷◌, Option, None, Some, Ok, Err, length, set, get_or, map, ap, sym, subst, ◌∙◌, refl, zero, suc, arith}
use Rattle.std.specs.Prelude.{insert, remove, slice_get, option_map}
use Rattle.std.proofs.lemmas.Option.{slice_get-map, slice_get-get_or}
use Rattle.std.specs.declared.cmp.Ordering.TheVariants.{Less, Equal, Greater}
use Rattle.std.specs.List.{AllWithin, AllByRecursion}
use Rattle.soc_schema.specs.declared.value.Value.{Value}
use Rattle.soc_schema.specs.Orders.{value_cmp}
use Rattle.soc_schema.specs.Tables.{Rising, FindsKey}
use Rattle.soc_store.specs.inner.Postings.{Posting, posted, with_posting, with_place, places_in, without_place, shrunk, if_any, unposted, without_posting, IsPosting, ArePostings, index_of}
use Rattle.std.specs.Option.{IfSome}
use Rattle.soc_schema.specs.Tables.{at_key}
use Rattle.soc_schema.specs.declared.value.Cell.{Cell}
use Rattle.soc_schema.specs.Rows.{value_of}
use Rattle.soc_store.proofs.Tables.{alter_found, alter_gap, rising_alter, alter_commutes, below_from, above_from, equal_at, prune-alter, prune_shrinks, prune_goes, prune_gap, rising_prune, all_made, at_key-found, at_key-gap}
use Rattle.std.proofs.lemmas.Cmp.{tied_itself}
use Rattle.soc_schema.proofs.OrderLemmas.{value_total, value_exact}
use Rattle.soc_store.proofs.PlaceLemmas.{places_commute, order-with_place, without_place-with_place, some_place}

abbrev pub value : Posting → Value
value t = t.value

pub rising_posting : (v : Option Value) (p : ℕ) (ts : List Posting) → Rising (λ (t : Posting). t.value) value_cmp ts → Rising (λ (t : Posting). t.value) value_cmp (with_posting v p ts)
rising_posting None p ts rising = rising
rising_posting (Some v) p ts rising = rising_alter value value_total v (posted v p) (λ _. refl) ts rising

-- two rows may come in either order
same_posted : (v : Value) (p q : ℕ) (t : Option Posting) → posted v p (Some (posted v q t)) ≡ posted v q (Some (posted v p t))
same_posted v p q t =
    ap (λ ps. record { value = v; places = ps }) (places_commute p q (places_in t))

pub postings_commute : (v w : Option Value) (p q : ℕ) (ts : List Posting) → with_posting v p (with_posting w q ts) ≡ with_posting w q (with_posting v p ts)
postings_commute None w p q ts = refl
postings_commute (Some v) None p q ts = refl
postings_commute (Some v) (Some w) p q ts =
    alter_commutes value value_total v (posted v p) (λ _. refl) w (posted w q) (λ _. refl)
    (λ tied t. subst (λ u. posted v p (Some (posted u q t)) ≡ posted u q (Some (posted v p t))) (value_exact v w tied) (same_posted v p q t)) ts

pub map-insert : {A B : Type 0} (f : A → B) (xs : List A) (i : ℕ) (x : A) → map f (insert xs i x) ≡ insert (map f xs) i (f x)
map-insert f [] zero x = refl
map-insert f [] (suc i) x = refl
map-insert f (y ∷ xs) zero x = refl
map-insert f (y ∷ xs) (suc i) x = ap (λ t. f y ∷ t) (map-insert f xs i x)

set_itself : {A : Type 0} (xs : List A) (i : ℕ) (x : A) → i < length xs → x ≡ get_or xs i x → set xs i x ≡ xs
set_itself [] i x lt is = absurd (omega arith)
set_itself (y ∷ ys) zero x lt is = ap (λ z. z ∷ ys) is
set_itself (y ∷ ys) (suc i) x lt is = ap (λ t. y ∷ t) (set_itself ys i x (omega arith) is)

-- each posting is one
pub postings_posted : (v : Option Value) (p : ℕ) (ts : List Posting) → ArePostings ts → ArePostings (with_posting v p ts)
postings_posted None p ts all = all
postings_posted (Some v) p ts all =
    all_made value value_total v (posted v p) (λ _. refl) IsPosting ts
    (order-with_place p [] tt, some_place p [])
    (λ t h. (order-with_place p t.places h.0, some_place p t.places)) all

pub postings_of_rows : (f : ℕ) (rows : List (ℕ × List Cell)) → ArePostings (index_of f rows)
postings_of_rows f [] = tt
postings_of_rows f (s ∷ ss) = postings_posted (value_of s.1 f) s.0 (index_of f ss) (postings_of_rows f ss)

any_left : (ps : List ℕ) (t : Posting) → ps ≢ [] → if_any ps t ≡ Some t
any_left [] t some = absurd (some refl)
any_left (p ∷ ps) t some = refl

back : (v : Value) (p : ℕ) (t : Posting) → IsPosting t → value_cmp v t.value ≡ Equal → unposted p (posted v p (Some t)) ≡ Some t
back v p t h tied =
    let places = without_place-with_place p t.places h.0 in
    ap (λ ps. if_any ps (record { value = v; places = ps })) places
    ∙ any_left t.places (record { value = v; places = t.places }) h.1
    ∙ ap (λ u. Some (record { value = u; places = t.places })) (value_exact v t.value tied)

all_back : (v : Value) (p : ℕ) (ts : List Posting) → ArePostings ts → AllByRecursion (λ t. value_cmp v (value t) ≡ Equal → unposted p (posted v p (Some t)) ≡ Some t) ts
all_back v p [] all = tt
all_back v p (t ∷ ts) all = (back v p t all.0, all_back v p ts all.1)

gone : (v : Value) (p : ℕ) → unposted p (posted v p None) ≡ None
gone v p = ap (λ ps. if_any ps (record { value = v; places = ps })) (without_place-with_place p [] tt)

-- what was put in is taken out
pub without_posting-with_posting : (v : Option Value) (p : ℕ) (ts : List Posting) → ArePostings ts → without_posting v p (with_posting v p ts) ≡ ts
without_posting-with_posting None p ts all = refl
without_posting-with_posting (Some v) p ts all =
    prune-alter value value_total v (posted v p) (λ _. refl) (unposted p) (gone v p) ts (all_back v p ts all)

like_any : (ps : List ℕ) (t : Posting) → IfSome (if_any ps t) (λ u. value u ≡ value t)
like_any [] t = tt
like_any (p ∷ ps) t = refl

pub rising_unposted : (v : Value) (p : ℕ) (ts : List Posting) → Rising (λ (t : Posting). t.value) value_cmp ts → Rising (λ (t : Posting). t.value) value_cmp (without_posting (Some v) p ts)
rising_unposted v p ts rising = rising_prune value value_total v (unposted p) (λ t. like_any (without_place p t.places) (shrunk p t)) ts rising

none_left : (ps : List ℕ) (t : Posting) → ps ≡ [] → if_any ps t ≡ None
none_left [] t e = refl
none_left (p ∷ ps) t e = cc

pub map-remove : {A B : Type 0} (f : A → B) (xs : List A) (i : ℕ) → map f (remove xs i) ≡ remove (map f xs) i
map-remove f [] zero = refl
map-remove f [] (suc i) = refl
map-remove f (y ∷ xs) zero = refl
map-remove f (y ∷ xs) (suc i) = ap (λ t. f y ∷ t) (map-remove f xs i)

remove-set : {A : Type 0} (xs : List A) (i : ℕ) (x : A) → remove (set xs i x) i ≡ remove xs i
remove-set [] i x = refl
remove-set (y ∷ ys) zero x = refl
remove-set (y ∷ ys) (suc i) x = ap (λ t. y ∷ t) (remove-set ys i x)

module _ (ts : List Posting) (v : Value) (i : ℕ) where
  -- a step of a binary search
  pub less_terms : (t : Posting) → Rising (λ (t : Posting). t.value) value_cmp ts → i < length ts → t ≡ get_or ts i t → value_cmp t.value v ≡ Less → AllWithin (λ (t : Posting). value_cmp t.value v ≡ Less) ts 0 (i + 1)
  less_terms t rising lt is less = below_from value value_total v ts i t rising lt (subst (λ u. value_cmp (value u) v ≡ Less) is less)

  pub greater_terms : (t : Posting) → Rising (λ (t : Posting). t.value) value_cmp ts → i < length ts → t ≡ get_or ts i t → value_cmp t.value v ≡ Greater → AllWithin (λ (t : Posting). value_cmp t.value v ≡ Greater) ts i (length ts)
  greater_terms t rising lt is greater = above_from value value_total v ts i t rising lt (subst (λ u. value_cmp (value u) v ≡ Greater) is greater)

  pub equal_terms : (t : Posting) → i < length ts → t ≡ get_or ts i t → value_cmp t.value v ≡ Equal → FindsKey (λ (t : Posting). t.value) value_cmp v ts (Ok i)
  equal_terms t lt is equal = (lt, equal_at value value_total v ts i t lt is equal)

  tied : (t : Posting) → FindsKey (λ (t : Posting). t.value) value_cmp v ts (Ok i) → t ≡ get_or ts i t → value_cmp t.value v ≡ Equal
  tied t place is = subst (λ u. value_cmp (value u) v ≡ Equal) (sym is) (place.1 t)

  -- the posting that is there gets one more row
  pub added_found : (p : ℕ) (t t' : Posting) → Rising (λ (t : Posting). t.value) value_cmp ts → FindsKey (λ (t : Posting). t.value) value_cmp v ts (Ok i)
      → t ≡ get_or ts i t → t' ≡ posted t.value p (Some t) → set ts i t' ≡ with_posting (Some v) p ts
  added_found p t t' rising place is new =
      ap (λ u. set ts i u) (new ∙ ap (λ u. posted u p (Some t)) (value_exact t.value v (tied t place is)))
      ∙ sym (alter_found value value_total v (posted v p) ts i t rising place.0 is (tied t place is))

  -- or nothing
  pub kept_found : (t t' : Posting) → FindsKey (λ (t : Posting). t.value) value_cmp v ts (Ok i) → t ≡ get_or ts i t → t' ≡ t → set ts i t' ≡ ts
  kept_found t t' place is same = ap (λ u. set ts i u) same ∙ set_itself ts i t place.0 is

  -- a posting of one row is put in
  pub added_gap : (p : ℕ) (t : Posting) → FindsKey (λ (t : Posting). t.value) value_cmp v ts (Err i) → t ≡ posted v p None → insert ts i t ≡ with_posting (Some v) p ts
  added_gap p t place new = ap (λ u. insert ts i u) new ∙ sym (alter_gap value value_total v (posted v p) ts i place.0 place.1)

  -- the posting that is there has one row less
  pub taken_found : (p : ℕ) (t t' : Posting) → Rising (λ (t : Posting). t.value) value_cmp ts → FindsKey (λ (t : Posting). t.value) value_cmp v ts (Ok i)
      → t ≡ get_or ts i t → t' ≡ shrunk p t → t'.places ≢ [] → set ts i t' ≡ without_posting (Some v) p ts
  taken_found p t t' rising place is new some =
      let left : without_place p t.places ≢ [] = λ e. some (ap (λ u. u.places) new ∙ e) in
      ap (λ u. set ts i u) new
      ∙ sym (prune_shrinks value value_total v (unposted p) ts i t (shrunk p t) rising place.0 is (tied t place is) (any_left (without_place p t.places) (shrunk p t) left))

  -- or none, and goes
  pub gone_found : (p : ℕ) (t t' : Posting) → Rising (λ (t : Posting). t.value) value_cmp ts → FindsKey (λ (t : Posting). t.value) value_cmp v ts (Ok i)
      → t ≡ get_or ts i t → t' ≡ shrunk p t → t'.places ≡ [] → remove (set ts i t') i ≡ without_posting (Some v) p ts
  gone_found p t t' rising place is new none =
      remove-set ts i t'
      ∙ sym (prune_goes value value_total v (unposted p) ts i t rising place.0 is (tied t place is) (none_left (without_place p t.places) (shrunk p t) (sym (ap (λ u. u.places) new) ∙ none)))

  pub taken_gap : (p : ℕ) → FindsKey (λ (t : Posting). t.value) value_cmp v ts (Err i) → ts ≡ without_posting (Some v) p ts
  taken_gap p place = sym (prune_gap value value_total v (unposted p) ts i place.0 place.1)

  -- what a look-up finds
  pub found_at : (t : Posting) → Rising (λ (t : Posting). t.value) value_cmp ts → FindsKey (λ (t : Posting). t.value) value_cmp v ts (Ok i) → t ≡ get_or ts i t → at_key (λ (t : Posting). t.value) value_cmp v ts ≡ Some t
  found_at t rising place is = at_key-found value value_total v ts i t rising place.0 is (tied t place is)

  pub missing_at : FindsKey (λ (t : Posting). t.value) value_cmp v ts (Err i) → at_key (λ (t : Posting). t.value) value_cmp v ts ≡ None
  missing_at place = at_key-gap value value_total v ts i place.0 place.1

-- what stands at a place
pub item_there : (t : Posting) (view ts : List Posting) (i : ℕ) → view ≡ ts → i < length ts → t ≡ get_or view i t → slice_get ts i ≡ Some t
item_there t view ts i same lt is = slice_get-get_or ts i t lt ∙ ap Some (ap (λ l. get_or l i t) (sym same) ∙ sym is)

pub value_there : (t : Posting) (view ts : List Posting) (i : ℕ) → view ≡ ts → i < length ts → t ≡ get_or view i t → slice_get (map (λ (t : Posting). t.value) ts) i ≡ Some t.value
value_there t view ts i same lt is = slice_get-map value ts i ∙ ap (option_map value) (item_there t view ts i same lt is)

pub count_there : (t : Posting) (view ts : List Posting) (i n : ℕ) → view ≡ ts → i < length ts → t ≡ get_or view i t → n ≡ length t.places → IfSome (slice_get ts i) (λ (u : Posting). n ≡ length u.places)
count_there t view ts i n same lt is count = rw (item_there t view ts i same lt is) count

-- a posting that stands there is found by its value
pub found_there : (t : Posting) (ts : List Posting) (i : ℕ) → Rising (λ (t : Posting). t.value) value_cmp ts → i < length ts → slice_get ts i ≡ Some t → at_key (λ (t : Posting). t.value) value_cmp t.value ts ≡ Some t
found_there t ts i rising lt is =
    let there : Some (get_or ts i t) ≡ Some t = sym (slice_get-get_or ts i t lt) ∙ is in
    let at : t ≡ get_or ts i t = cc in
    at_key-found value value_total t.value ts i t rising lt at (tied_itself value_total t.value)

pub value_of_item : (t : Posting) (ts : List Posting) (i : ℕ) → slice_get ts i ≡ Some t → slice_get (map (λ (t : Posting). t.value) ts) i ≡ Some t.value
value_of_item t ts i is = slice_get-map value ts i ∙ ap (option_map value) is

-- and its rows are those of its value
pub count_found : (ts : List Posting) (i n : ℕ) → Rising (λ (t : Posting). t.value) value_cmp ts → i < length ts → IfSome (slice_get ts i) (λ (t : Posting). n ≡ length t.places)
    → IfSome (slice_get (map (λ (t : Posting). t.value) ts) i) (λ v. n ≡ length (places_in (at_key (λ (t : Posting). t.value) value_cmp v ts)))
count_found ts i n rising lt given = rw (slice_get-map value ts i) (found (slice_get ts i) refl given)
  where
    found : (o : Option Posting) → slice_get ts i ≡ o → IfSome o (λ (t : Posting). n ≡ length t.places) → IfSome (option_map value o) (λ v. n ≡ length (places_in (at_key (λ (t : Posting). t.value) value_cmp v ts)))
    found None is count = tt
    found (Some t) is count = count ∙ ap (λ o. length (places_in o)) (sym (found_there t ts i rising lt is))
