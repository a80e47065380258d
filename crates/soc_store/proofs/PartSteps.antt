-- What one more or one less row leaves of a field's parts.
use Rattle.std.proofs.Common.{◌≡◌, ℕ, zero, suc, ◌+◌, ◌<◌, ◌≤◌, List, [], ◌∷◌, ◌++◌, Option, None, Some, length, get_or, set, map, take, drop, drop-cons, sym, ap, subst, ◌∙◌, refl, arith}
use Rattle.std.specs.Prelude.{insert, remove, slice_get}
use Rattle.std.specs.declared.cmp.Ordering.TheVariants.{Less, Equal, Greater}
use Rattle.std.specs.Ordering.{match_ordering}
use Rattle.std.specs.List.{AllByRecursion}
use Rattle.std.specs.Option.{option_to_list}
use Rattle.std.proofs.lemmas.List.{get_or-map, get_or_default, length-map, map-set, take-append-drop}
use Rattle.soc_schema.specs.declared.value.Value.{Value}
use Rattle.soc_schema.specs.declared.value.Value.TheVariants.{Number}
use Rattle.soc_store.specs.declared.parts.Part.{Part}
use Rattle.soc_schema.specs.Orders.{value_cmp}
use Rattle.soc_schema.specs.Tables.{alter, prune, at_key, Rising}
use Rattle.soc_store.specs.inner.Postings.{Posting, posted, unposted, with_posting, without_posting}
use Rattle.soc_store.specs.inner.Parts.{AreFilled, blocks_of, joined, postings_in}
use Rattle.soc_schema.proofs.OrderLemmas.{value_total}
use Rattle.soc_store.proofs.IndexLemmas.{value, map-insert, map-remove}
use Rattle.soc_store.proofs.PartLemmas.{alter_block, prune_block, at_key-block, itself, joined_cut, joined_less, from_less, before_equal, before_greater}

pub block_in : (ps : List Part) (k : ℕ) (p : Part) → k < length ps → p ≡ get_or ps k p → p.block ≡ get_or (blocks_of ps) k p.block
block_in ps k p lt is = ap (λ (q : Part). q.block) is ∙ sym (get_or-map (λ (q : Part). q.block) ps k p p.block lt)

pub in_blocks : (ps : List Part) (k : ℕ) → k < length ps → k < length (blocks_of ps)
in_blocks ps k lt = subst (λ n. k < n) (sym (length-map ps (λ (q : Part). q.block))) lt

pub blocks_set : (ps : List Part) (k : ℕ) (q : Part) → blocks_of (set ps k q) ≡ set (blocks_of ps) k q.block
blocks_set ps k q = map-set (λ (q : Part). q.block) ps k q

module _ (ps : List Part) (k : ℕ) (p q : Part) (v : Value) (lt : k < length ps) (is : p ≡ get_or ps k p) (before : AllByRecursion (λ (t : Posting). value_cmp v t.value ≡ Greater) (joined (take k (blocks_of ps)))) (after : AllByRecursion (λ (t : Posting). value_cmp v t.value ≡ Less) (joined (drop (k + 1) (blocks_of ps)))) where
  behind : AllByRecursion (λ (t : Posting). value_cmp v t.value ≡ Less) (joined (drop (suc k) (blocks_of ps)))
  behind = let one : k + 1 ≡ suc k = omega arith in subst (λ n. AllByRecursion (λ (t : Posting). value_cmp v t.value ≡ Less) (joined (drop n (blocks_of ps)))) one after

  pub added_in : (place : ℕ) → q.block ≡ with_posting (Some v) place p.block → postings_in (set ps k q) ≡ with_posting (Some v) place (postings_in ps)
  added_in place new =
      ap joined (blocks_set ps k q) ∙ ap (λ b. joined (set (blocks_of ps) k b)) new
      ∙ alter_block value value_total v (blocks_of ps) k p.block (in_blocks ps k lt) (block_in ps k p lt is) before behind (posted v place)

  pub removed_in : (place : ℕ) → q.block ≡ without_posting (Some v) place p.block → postings_in (set ps k q) ≡ without_posting (Some v) place (postings_in ps)
  removed_in place new =
      ap joined (blocks_set ps k q) ∙ ap (λ b. joined (set (blocks_of ps) k b)) new
      ∙ prune_block value value_total v (blocks_of ps) k p.block (in_blocks ps k lt) (block_in ps k p lt is) before behind (unposted place)

  pub found_in : at_key (λ (t : Posting). t.value) value_cmp v p.block ≡ at_key (λ (t : Posting). t.value) value_cmp v (postings_in ps)
  found_in = at_key-block value value_total v (blocks_of ps) k p.block (in_blocks ps k lt) (block_in ps k p lt is) before behind

-- a part that is put back cs it was
pub kept_in : (ps : List Part) (k : ℕ) (p q : Part) → k < length ps → p ≡ get_or ps k p → q ≡ p → set ps k q ≡ ps
kept_in [] k p q lt is same = absurd (omega arith)
kept_in (a ∷ cs) zero p q lt is same = ap (λ u. u ∷ cs) (same ∙ is)
kept_in (a ∷ cs) (suc k) p q lt is same = ap (λ t. a ∷ t) (kept_in cs k p q (omega arith) is same)

-- an alteration leaves something, and at most one more
alter_some : (v : Value) (make : Option Posting → Posting) (ts : List Posting) → (0 < length (alter value value_cmp v make ts)) × (length (alter value value_cmp v make ts) ≤ length ts + 1)
alter_some v make [] = (omega arith, omega arith)
alter_some v make (t ∷ ts) =
    elim (value_cmp v t.value) as (λ r. (0 < length (match_ordering r (make None ∷ t ∷ ts) (make (Some t) ∷ ts) (t ∷ alter value value_cmp v make ts))) × (length (match_ordering r (make None ∷ t ∷ ts) (make (Some t) ∷ ts) (t ∷ alter value value_cmp v make ts)) ≤ length (t ∷ ts) + 1)) [
      | Less ↦ (omega arith, omega arith)
      | Equal ↦ (omega arith, omega arith)
      | Greater ↦ let later = alter_some v make ts in let few : length (alter value value_cmp v make ts) ≤ length ts + 1 = later.1 in (omega arith, omega arith)
    ]

pub some_added : (v : Value) (place : ℕ) (ts : List Posting) → 0 < length (with_posting (Some v) place ts)
some_added v place ts = (alter_some v (posted v place) ts).0

pub one_added : (v : Value) (place : ℕ) (ts : List Posting) → length (with_posting (Some v) place ts) ≤ length ts + 1
one_added v place ts = (alter_some v (posted v place) ts).1

abbrev filled : List (List Posting) → Type 0
filled bs = AllByRecursion (λ b. 0 < length b) bs

all_set : (bs : List (List Posting)) (k : ℕ) (b : List Posting) → filled bs → 0 < length b → filled (set bs k b)
all_set [] k b all some = tt
all_set (a ∷ cs) zero b all some = (some, all.1)
all_set (a ∷ cs) (suc k) b all some = (all.0, all_set cs k b all.1 some)

pub filled_set : (bs : List (List Posting)) (k : ℕ) (b : List Posting) → AreFilled bs → 0 < length b → AreFilled (set bs k b)
filled_set [] k b all some = tt
filled_set (a ∷ cs) zero b all some = all
filled_set (a ∷ cs) (suc k) b all some = all_set cs k b all some

set_twice : (bs : List (List Posting)) (k : ℕ) (b c : List Posting) → set (set bs k b) k c ≡ set bs k c
set_twice [] k b c = refl
set_twice (a ∷ cs) zero b c = refl
set_twice (a ∷ cs) (suc k) b c = ap (λ t. a ∷ t) (set_twice cs k b c)

-- whatever a block becomes, the others are filled
pub filled_others : (ps : List Part) (k : ℕ) (q : Part) → AreFilled (blocks_of ps) → (b : List Posting) → 0 < length b → AreFilled (set (blocks_of (set ps k q)) k b)
filled_others ps k q all b some =
    subst AreFilled (sym (ap (λ bs. set bs k b) (blocks_set ps k q) ∙ set_twice (blocks_of ps) k q.block b)) (filled_set (blocks_of ps) k b all some)

all_left : (bs : List (List Posting)) (k : ℕ) (b : List Posting) → filled (set bs k b) → filled (remove bs k)
all_left [] zero b all = tt
all_left [] (suc k) b all = tt
all_left (a ∷ cs) zero b all = all.1
all_left (a ∷ cs) (suc k) b all = (all.0, all_left cs k b all.1)

-- a block that is not the first may go
filled_left : (bs : List (List Posting)) (k : ℕ) (b : List Posting) → AreFilled (set bs k b) → 0 < k → AreFilled (remove bs k)
filled_left [] zero b all more = absurd (omega arith)
filled_left [] (suc k) b all more = tt
filled_left (a ∷ cs) zero b all more = absurd (omega arith)
filled_left (a ∷ cs) (suc k) b all more = all_left cs k b all

filled_first : (bs : List (List Posting)) (k : ℕ) (b : List Posting) → AreFilled (set bs k b) → k ≤ 0 → AreFilled bs
filled_first [] k b all least = tt
filled_first (a ∷ cs) zero b all least = all
filled_first (a ∷ cs) (suc k) b all least = absurd (omega arith)

some_block : List Posting
some_block = record { value = Number 0; places = [] } ∷ []

some_there : 0 < length some_block
unfolding some_block
some_there = omega arith

module _ (ps : List Part) (k : ℕ) (lt : k < length ps) (others : (b : List Posting) → 0 < length b → AreFilled (set (blocks_of ps) k b)) where
  pub drop_filled : 0 < k → AreFilled (blocks_of (remove ps k))
  drop_filled more = subst AreFilled (sym (map-remove (λ (q : Part). q.block) ps k)) (filled_left (blocks_of ps) k some_block (others some_block some_there) more)

  pub drop_same : (p : Part) → p ≡ get_or ps k p → length p.block ≤ 0 → postings_in (remove ps k) ≡ postings_in ps
  drop_same p is none =
      ap joined (map-remove (λ (q : Part). q.block) ps k)
      ∙ joined_less (blocks_of ps) k (in_blocks ps k lt) (get_or_default (blocks_of ps) k [] p.block (in_blocks ps k lt) ∙ sym (block_in ps k p lt is) ∙ none_there p.block none)
    where
      none_there : (b : List Posting) → length b ≤ 0 → b ≡ []
      none_there [] h = refl
      none_there (x ∷ xs) h = absurd (omega arith)

  pub first_filled : k ≤ 0 → AreFilled (blocks_of ps)
  first_filled least = filled_first (blocks_of ps) k some_block (others some_block some_there) least

  pub kept_filled : (p : Part) → p ≡ get_or ps k p → 0 < length p.block → AreFilled (blocks_of ps)
  kept_filled p is some = subst AreFilled (itself (blocks_of ps) k p.block (in_blocks ps k lt) (block_in ps k p lt is)) (others p.block some)

-- a block that is not the first has a posting
all_at : (bs : List (List Posting)) (m : ℕ) (d : List Posting) → filled bs → m < length bs → 0 < length (get_or bs m d)
all_at [] m d all lt = absurd (omega arith)
all_at (a ∷ cs) zero d all lt = all.0
all_at (a ∷ cs) (suc m) d all lt = all_at cs m d all.1 (omega arith)

filled_at : (bs : List (List Posting)) (m : ℕ) (d : List Posting) → AreFilled bs → 0 < m → m < length bs → 0 < length (get_or bs m d)
filled_at [] m d all more lt = absurd (omega arith)
filled_at (a ∷ cs) zero d all more lt = absurd (omega arith)
filled_at (a ∷ cs) (suc m) d all more lt = all_at cs m d all (omega arith)

pub some_in : (ps : List Part) (m : ℕ) (p : Part) → AreFilled (blocks_of ps) → 0 < m → m < length ps → 0 < length (get_or ps m p).block
some_in ps m p all more lt =
    subst (λ (b : List Posting). 0 < length b) (get_or-map (λ (q : Part). q.block) ps m p p.block lt) (filled_at (blocks_of ps) m p.block all more (in_blocks ps m lt))

-- a step of a binary search
module _ (ps : List Part) (m : ℕ) (d : Part) (v w : Value) (rising : Rising (λ (t : Posting). t.value) value_cmp (postings_in ps)) (lt : m < length ps) (begins : slice_get (map (λ (t : Posting). t.value) (get_or ps m d).block) 0 ≡ Some w) where
  this : (get_or ps m d).block ≡ get_or (blocks_of ps) m (get_or ps m d).block
  this = sym (get_or-map (λ (q : Part). q.block) ps m d (get_or ps m d).block lt)

  pub step_less : (n : ℕ) → n + 1 ≡ m → value_cmp v w ≡ Less → AllByRecursion (λ (t : Posting). value_cmp v t.value ≡ Less) (joined (drop (n + 1) (blocks_of ps)))
  step_less n at less =
      let b = (get_or ps m d).block in
      let here : drop m (blocks_of ps) ≡ get_or (blocks_of ps) m b ∷ drop (suc m) (blocks_of ps) = drop-cons (blocks_of ps) m b (in_blocks ps m lt) in
      subst (λ bs. AllByRecursion (λ (t : Posting). value_cmp v t.value ≡ Less) (joined bs)) (ap (λ c. c ∷ drop (suc m) (blocks_of ps)) this ∙ sym here ∙ ap (λ u. drop u (blocks_of ps)) (sym at))
      (from_less value value_total v w (blocks_of ps) m b rising (in_blocks ps m lt) this begins less)

  pub step_equal : value_cmp v w ≡ Equal → AllByRecursion (λ (t : Posting). value_cmp v t.value ≡ Greater) (joined (take m (blocks_of ps)))
  step_equal equal = before_equal value value_total v w (blocks_of ps) m (get_or ps m d).block rising (in_blocks ps m lt) this begins equal

  pub step_greater : value_cmp v w ≡ Greater → AllByRecursion (λ (t : Posting). value_cmp v t.value ≡ Greater) (joined (take m (blocks_of ps)))
  step_greater greater = before_greater value value_total v w (blocks_of ps) m (get_or ps m d).block rising (in_blocks ps m lt) this begins greater

-- one row less leaves no more postings
no_more : (v : Value) (shrink : Posting → Option Posting) (ts : List Posting) → length (prune value value_cmp v shrink ts) ≤ length ts
no_more v shrink [] = omega arith
no_more v shrink (t ∷ ts) =
    elim (value_cmp v t.value) as (λ r. length (match_ordering r (t ∷ ts) (option_to_list (shrink t) ++ ts) (t ∷ prune value value_cmp v shrink ts)) ≤ length (t ∷ ts)) [
      | Less ↦ omega arith
      | Equal ↦ at_most (shrink t)
      | Greater ↦ let later = no_more v shrink ts in omega arith
    ]
  where
    at_most : (o : Option Posting) → length (option_to_list o ++ ts) ≤ length (t ∷ ts)
    at_most None = omega arith
    at_most (Some u) = omega arith

pub none_added : (v : Value) (place : ℕ) (ts : List Posting) → length (without_posting (Some v) place ts) ≤ length ts
none_added v place ts = no_more v (unposted place) ts

-- the same as a search in a slice finds it
module _ (found ps : List Part) (k : ℕ) (p q : Part) (v : Value) (same : found ≡ ps) (lt : k < length found) (before : AllByRecursion (λ (t : Posting). value_cmp v t.value ≡ Greater) (joined (take k (blocks_of found)))) (after : AllByRecursion (λ (t : Posting). value_cmp v t.value ≡ Less) (joined (drop (k + 1) (blocks_of found)))) (is : p ≡ get_or ps k p) where
  in_found : k < length ps
  in_found = subst (λ l. k < length l) same lt

  before_found : AllByRecursion (λ (t : Posting). value_cmp v t.value ≡ Greater) (joined (take k (blocks_of ps)))
  before_found = subst (λ l. AllByRecursion (λ (t : Posting). value_cmp v t.value ≡ Greater) (joined (take k (blocks_of l)))) same before

  after_found : AllByRecursion (λ (t : Posting). value_cmp v t.value ≡ Less) (joined (drop (k + 1) (blocks_of ps)))
  after_found = subst (λ l. AllByRecursion (λ (t : Posting). value_cmp v t.value ≡ Less) (joined (drop (k + 1) (blocks_of l)))) same after

  pub added_at : (place : ℕ) → q.block ≡ with_posting (Some v) place p.block → postings_in (set ps k q) ≡ with_posting (Some v) place (postings_in ps)
  added_at place new = added_in ps k p q v in_found is before_found after_found place new

  pub removed_at : (place : ℕ) → q.block ≡ without_posting (Some v) place p.block → postings_in (set ps k q) ≡ without_posting (Some v) place (postings_in ps)
  removed_at place new = removed_in ps k p q v in_found is before_found after_found place new

  pub found_at_part : at_key (λ (t : Posting). t.value) value_cmp v p.block ≡ at_key (λ (t : Posting). t.value) value_cmp v (postings_in ps)
  found_at_part = found_in ps k p q v in_found is before_found after_found

-- the parts with a block cut in two
all_cut : (bs : List (List Posting)) (k : ℕ) (front back : List Posting) → k < length bs → filled bs → 0 < length front → 0 < length back → filled (set (set (insert bs (suc k) []) k front) (suc k) back)
all_cut [] k front back lt all first last = absurd (omega arith)
all_cut (a ∷ cs) zero front back lt all first last = (first, (last, all.1))
all_cut (a ∷ cs) (suc k) front back lt all first last = (all.0, all_cut cs k front back (omega arith) all.1 first last)

filled_cut : (bs : List (List Posting)) (k : ℕ) (front back : List Posting) → k < length bs → AreFilled bs → 0 < length front → 0 < length back → AreFilled (set (set (insert bs (suc k) []) k front) (suc k) back)
filled_cut [] k front back lt all first last = absurd (omega arith)
filled_cut (a ∷ cs) zero front back lt all first last = (last, all)
filled_cut (a ∷ cs) (suc k) front back lt all first last = all_cut cs k front back (omega arith) all first last

still_there : {X : Type 0} (xs : List X) (k : ℕ) (e d : X) → k < length xs → get_or (insert xs (suc k) e) k d ≡ get_or xs k d
still_there [] k e d lt = absurd (omega arith)
still_there (x ∷ xs) zero e d lt = refl
still_there (x ∷ xs) (suc k) e d lt = still_there xs k e d (omega arith)

module _ (more ps : List Part) (k : ℕ) (e p q r : Part) (lt : k < length ps) (inserted : more ≡ insert ps (k + 1) e) (empty : e.block ≡ []) where
  blocks_cut : blocks_of (set (set more k q) (k + 1) r) ≡ set (set (insert (blocks_of ps) (suc k) []) k q.block) (suc k) r.block
  blocks_cut =
      let one : k + 1 ≡ suc k = omega arith in
      let here : blocks_of more ≡ insert (blocks_of ps) (suc k) [] = ap blocks_of (inserted ∙ ap (λ n. insert ps n e) one) ∙ map-insert (λ (q : Part). q.block) ps (suc k) e ∙ ap (insert (blocks_of ps) (suc k)) empty in
      blocks_set (set more k q) (k + 1) r ∙ ap (λ n. set (blocks_of (set more k q)) n r.block) one
      ∙ ap (λ bs. set bs (suc k) r.block) (blocks_set more k q ∙ ap (λ bs. set bs k q.block) here)

  pub cut_filled : AreFilled (blocks_of ps) → 0 < length q.block → 0 < length r.block → AreFilled (blocks_of (set (set more k q) (k + 1) r))
  cut_filled all first last = subst AreFilled (sym blocks_cut) (filled_cut (blocks_of ps) k q.block r.block (in_blocks ps k lt) all first last)

  pub cut_same : p ≡ get_or more k p → p.block ≡ q.block ++ r.block → postings_in (set (set more k q) (k + 1) r) ≡ postings_in ps
  cut_same is halves =
      let one : k + 1 ≡ suc k = omega arith in
      let there : p ≡ get_or ps k p = is ∙ ap (λ l. get_or l k p) (inserted ∙ ap (λ n. insert ps n e) one) ∙ still_there ps k e p lt in
      ap joined blocks_cut ∙ joined_cut (blocks_of ps) k q.block r.block p.block (in_blocks ps k lt) (block_in ps k p lt there) halves

-- two halves of a list
pub halves : (ts fs bs : List Posting) (h : ℕ) → fs ≡ take h ts → bs ≡ drop h ts → ts ≡ fs ++ bs
halves ts fs bs h front back = sym (take-append-drop h ts) ∙ ap (λ l. l ++ drop h ts) (sym front) ∙ ap (λ l. fs ++ l) (sym back)
