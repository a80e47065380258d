-- Reading pairs one after the other, as a loop does.
use Rattle.std.proofs.Common.{◌≡◌, ℕ, zero, suc, ◌+◌, ◌-◌, ◌<◌, ◌≤◌, List, [], ◌∷◌, ◌++◌, length, Option, Some, None, true, false, refl, sym, ap, ◌∙◌, append_assoc, arith}
use Rattle.std.specs.Prelude.{slice_get}
use Rattle.std.specs.Ordering.{nat_cmp, match_ordering, ordering_reverse, is_lt}
use Rattle.std.specs.List.Sorted.{IsStrictlySortedBy}
use Rattle.std.specs.Cmp.Lexicographic.{slice_cmp, nat_list_cmp_total}
use Rattle.std.specs.BTreeMap.{insert_entry}
use Rattle.std.specs.declared.cmp.Ordering.{Ordering}
use Rattle.std.specs.declared.cmp.Ordering.TheVariants.{Less, Equal, Greater}
use Rattle.std.proofs.lemmas.List.{append-nil}
use Rattle.soc_raw.specs.declared.record_error.RecordError.{RecordError}
use Rattle.soc_raw.specs.declared.record_error.RecordError.TheVariants.{BadRecord, NoMemory}
use Rattle.soc_base.specs.Names.{IsRising, with_value}
use Rattle.soc_base.specs.Options.{◌>>=◌}
use Rattle.soc_raw.specs.inner.Reading.{is_above, last_name, pairs_at}
use Rattle.soc_raw.specs.Refusals.{Refuses}
use Rattle.soc_base.proofs.Folk.{some_same}

-- the last name, from the last pair
pub last_none : {V : Type 0} (ps : List (List ℕ × V)) → length ps ≡ 0 → last_name ps ≡ None
unfolding last_name
last_none [] e = refl
last_none (p ∷ ps) e = absurd (omega arith)

pub last_some : {V : Type 0} (ps : List (List ℕ × V)) (k : ℕ) (n : List ℕ) (v : V) → suc k ≡ length ps → slice_get ps k ≡ Some (n, v) → last_name ps ≡ Some n
unfolding last_name
last_some [] k n v e at = cc
last_some (p ∷ []) zero n v e at = ap (λ u. Some u.0) (some_same p (n, v) at)
last_some (p ∷ []) (suc k) n v e at = absurd (omega arith)
last_some (p ∷ q ∷ ps) zero n v e at = absurd (omega arith)
last_some (p ∷ q ∷ ps) (suc k) n v e at = last_some (q ∷ ps) k n v (omega arith) at

pub last_pushed : {V : Type 0} (ps : List (List ℕ × V)) (e : List ℕ × V) → last_name (ps ++ e ∷ []) ≡ Some e.0
unfolding last_name
last_pushed [] e = refl
last_pushed (p ∷ []) e = refl
last_pushed (p ∷ q ∷ ps) e = last_pushed (q ∷ ps) e

less_is : (o : Ordering) → is_lt o ≡ true → o ≡ Less
less_is Less e = refl
less_is Equal e = cc
less_is Greater e = cc

-- a name above the last one is above the first
above_first : {V : Type 0} (p : List ℕ × V) (ps : List (List ℕ × V)) (n : List ℕ) → IsRising (p ∷ ps) → is_above (last_name (p ∷ ps)) n ≡ true → slice_cmp nat_cmp p.0 n ≡ Less
unfolding last_name IsStrictlySortedBy
above_first p [] n rising above = less_is (slice_cmp nat_cmp p.0 n) above
above_first p (q ∷ ps) n rising above =
    nat_list_cmp_total.trans p.0 q.0 n rising.0.0 (above_first q ps n rising.1 above)

above_rest : {V : Type 0} (p : List ℕ × V) (ps : List (List ℕ × V)) (n : List ℕ) → is_above (last_name (p ∷ ps)) n ≡ true → is_above (last_name ps) n ≡ true
unfolding last_name
above_rest p [] n above = refl
above_rest p (q ∷ ps) n above = above

-- a name above all others goes to the end
pub set_end : {V : Type 0} (ps : List (List ℕ × V)) (n : List ℕ) (v : V) → IsRising ps → is_above (last_name ps) n ≡ true → with_value ps n v ≡ ps ++ (n, v) ∷ []
unfolding last_name IsStrictlySortedBy
set_end [] n v rising above = refl
set_end (p ∷ ps) n v rising above =
    let less : slice_cmp nat_cmp p.0 n ≡ Less = above_first p ps n rising above in
    let greater : slice_cmp nat_cmp n p.0 ≡ Greater = nat_list_cmp_total.antisymm n p.0 ∙ ap ordering_reverse less in
    ap (λ o. match_ordering o ((n, v) ∷ p ∷ ps) ((p.0, v) ∷ ps) (p ∷ insert_entry (slice_cmp nat_cmp) ps n v)) greater
    ∙ ap (λ t. p ∷ t) (set_end ps n v rising.1 (above_rest p ps n above))

abbrev pub Pairs : Type 0
Pairs = List (List ℕ × List ℕ)

abbrev pub Item : Type 0
Item = List ℕ → Option ((List ℕ × List ℕ) × List ℕ)

-- what was read before, and what is still read
abbrev pub with_front : Pairs → Option (Pairs × List ℕ) → Option (Pairs × List ℕ)
with_front front read = read >>= λ x. Some (front ++ x.0, x.1)

regroup : (front : Pairs) (p : List ℕ × List ℕ) (read : Option (Pairs × List ℕ)) → with_front front (read >>= λ x. Some (p ∷ x.0, x.1)) ≡ with_front (front ++ p ∷ []) read
regroup front p None = refl
regroup front p (Some x) = ap (λ ps. Some (ps, x.1)) (sym (append_assoc front (p ∷ []) x.0))

pub begins : (read : Option (Pairs × List ℕ)) → with_front [] read ≡ read
begins None = refl
begins (Some x) = refl

pub goes_on : (item : Item) (front next : Pairs) (count i : ℕ) (bytes after : List ℕ) (p : List ℕ × List ℕ) (total : Option (Pairs × List ℕ)) → i < count → item bytes ≡ Some (p, after) → true ≡ is_above (last_name front) p.0 → next ≡ front ++ p ∷ []
    → with_front front (pairs_at item (last_name front) (count - i) bytes) ≡ total → with_front next (pairs_at item (last_name next) (count - (i + 1)) after) ≡ total
unfolding pairs_at
goes_on item front next count i bytes after p total lt read above is_next so_far =
    let k : count - i ≡ suc (count - (i + 1)) = omega arith in
    let is_above_last : is_above (last_name front) p.0 ≡ true = sym above in
    let one : with_front front (pairs_at item (last_name front) (count - i) bytes) ≡ with_front (front ++ p ∷ []) (pairs_at item (Some p.0) (count - (i + 1)) after) =
    rw (k, read, is_above_last) (regroup front p (pairs_at item (Some p.0) (count - (i + 1)) after)) in
    let two : with_front next (pairs_at item (last_name next) (count - (i + 1)) after) ≡ with_front (front ++ p ∷ []) (pairs_at item (Some p.0) (count - (i + 1)) after) =
    rw (is_next, last_pushed front p) refl in
    two ∙ sym one ∙ so_far

pub ends : (item : Item) (e : RecordError) (front : Pairs) (count i : ℕ) (bytes : List ℕ) (total : Option (Pairs × List ℕ)) → i < count → Refuses e (item bytes ≡ None)
    → with_front front (pairs_at item (last_name front) (count - i) bytes) ≡ total → Refuses e (total ≡ None)
unfolding pairs_at
ends item NoMemory front count i bytes total lt refused so_far = tt
ends item BadRecord front count i bytes total lt refused so_far =
    let k : count - i ≡ suc (count - (i + 1)) = omega arith in
    let one : with_front front (pairs_at item (last_name front) (count - i) bytes) ≡ None = rw (k, refused) refl in
    sym so_far ∙ one

pub ends_low : (item : Item) (front : Pairs) (count i : ℕ) (bytes after : List ℕ) (p : List ℕ × List ℕ) (total : Option (Pairs × List ℕ)) → i < count → item bytes ≡ Some (p, after) → is_above (last_name front) p.0 ≡ false
    → with_front front (pairs_at item (last_name front) (count - i) bytes) ≡ total → total ≡ None
unfolding pairs_at
ends_low item front count i bytes after p total lt read low so_far =
    let k : count - i ≡ suc (count - (i + 1)) = omega arith in
    let one : with_front front (pairs_at item (last_name front) (count - i) bytes) ≡ None = rw (k, read, low) refl in
    sym so_far ∙ one

pub is_done : (item : Item) (front : Pairs) (count i : ℕ) (bytes : List ℕ) (total : Option (Pairs × List ℕ)) → count ≤ i
    → with_front front (pairs_at item (last_name front) (count - i) bytes) ≡ total → total ≡ Some (front, bytes)
unfolding pairs_at
is_done item front count i bytes total le so_far =
    let k : count - i ≡ 0 = omega arith in
    let one : with_front front (pairs_at item (last_name front) (count - i) bytes) ≡ Some (front, bytes) = rw k (ap (λ ps. Some (ps, bytes)) (append-nil front)) in
    sym so_far ∙ one

pub started : (item : Item) (front : Pairs) (count : ℕ) (bytes : List ℕ) → front ≡ [] → with_front front (pairs_at item (last_name front) (count - 0) bytes) ≡ pairs_at item None count bytes
unfolding last_name
started item front count bytes e =
    let k : count - 0 ≡ count = omega arith in
    rw (e, k) (begins (pairs_at item None count bytes))
