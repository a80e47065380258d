-- Pairs that a test keeps, put into a map one behind the other.
use Rattle.std.proofs.Common.{◌≡◌, ℕ, List, [], ◌∷◌, ◌++◌, sym, ap, subst, ◌∙◌, refl, Bool, true, false, append_assoc}
use Rattle.std.specs.Prelude.{filter, if◌then◌else◌}
use Rattle.std.specs.Ordering.{nat_cmp, match_ordering, ordering_reverse}
use Rattle.std.specs.List.{AllByRecursion}
use Rattle.std.specs.List.Sorted.{IsStrictlySortedBy}
use Rattle.std.specs.Cmp.Lexicographic.{slice_cmp, nat_list_cmp_total}
use Rattle.std.specs.Map.{keys_of}
use Rattle.std.specs.BTreeMap.{insert_entry}
use Rattle.std.specs.declared.cmp.Ordering.TheVariants.{Less, Greater}
use Rattle.soc_base.specs.Names.{IsRising, with_value}

abbrev pub Pairs : Type 0
Pairs = List (List ℕ × List ℕ)

key_within : (P : List ℕ → Type 0) (front rest : Pairs) (e : List ℕ × List ℕ) → AllByRecursion P (keys_of (front ++ e ∷ rest)) → P e.0
key_within P [] rest e all = all.0
key_within P (p ∷ front) rest e all = key_within P front rest e all.1

-- a pair that stands behind others is put behind them
put_behind : (front rest : Pairs) (e : List ℕ × List ℕ) → IsRising (front ++ e ∷ rest) → with_value front e.0 e.1 ≡ front ++ e ∷ []
unfolding IsStrictlySortedBy
put_behind [] rest e rising = refl
put_behind (p ∷ front) rest e rising =
    let less : slice_cmp nat_cmp p.0 e.0 ≡ Less = key_within (λ y. slice_cmp nat_cmp p.0 y ≡ Less) front rest e rising.0 in
    let greater : slice_cmp nat_cmp e.0 p.0 ≡ Greater = nat_list_cmp_total.antisymm e.0 p.0 ∙ ap ordering_reverse less in
    ap (λ o. match_ordering o (e ∷ p ∷ front) ((p.0, e.1) ∷ front) (p ∷ insert_entry (slice_cmp nat_cmp) front e.0 e.1)) greater
    ∙ ap (λ t. p ∷ t) (put_behind front rest e rising.1)

all_of : (P : List ℕ → Type 0) (keeps : Bool) (p : List ℕ × List ℕ) (kept : Pairs) → P p.0 → AllByRecursion P (keys_of kept) → AllByRecursion P (keys_of (if keeps then p ∷ kept else kept))
all_of P true p kept here there = (here, there)
all_of P false p kept here there = there

all_kept : (P : List ℕ → Type 0) (test : List ℕ × List ℕ → Bool) (ps : Pairs) → AllByRecursion P (keys_of ps) → AllByRecursion P (keys_of (filter test ps))
all_kept P test [] all = all
all_kept P test (p ∷ ps) all = all_of P (test p) p (filter test ps) all.0 (all_kept P test ps all.1)

rises_of : (keeps : Bool) (p : List ℕ × List ℕ) (kept : Pairs) → AllByRecursion (λ y. slice_cmp nat_cmp p.0 y ≡ Less) (keys_of kept) → IsRising kept → IsRising (if keeps then p ∷ kept else kept)
unfolding IsStrictlySortedBy
rises_of true p kept above rising = (above, rising)
rises_of false p kept above rising = rising

-- what is kept of rising pairs rises
kept_rises : (test : List ℕ × List ℕ → Bool) (ps : Pairs) → IsRising ps → IsRising (filter test ps)
unfolding IsStrictlySortedBy
kept_rises test [] rising = rising
kept_rises test (p ∷ ps) rising =
    rises_of (test p) p (filter test ps) (all_kept (λ y. slice_cmp nat_cmp p.0 y ≡ Less) test ps rising.0) (kept_rises test ps rising.1)

-- one pair more is put
pub keeps : (test : List ℕ × List ℕ → Bool) (all shown left rest new : Pairs) (n m v w : List ℕ) → IsRising all → left ≡ (n, v) ∷ rest → m ≡ n → w ≡ v → test (n, v) ≡ true → new ≡ with_value shown m w → shown ++ filter test left ≡ filter test all → new ++ filter test rest ≡ filter test all
keeps test all shown left rest new n m v w rising next is_name is_value passes set so_far =
    let chosen : filter test left ≡ (n, v) ∷ filter test rest = ap (λ t. filter test t) next ∙ ap (λ b. if b then (n, v) ∷ filter test rest else filter test rest) passes in
    let whole : shown ++ (n, v) ∷ filter test rest ≡ filter test all = ap (λ t. shown ++ t) (sym chosen) ∙ so_far in
    let put : new ≡ shown ++ (n, v) ∷ [] = set ∙ ap (λ k. with_value shown k w) is_name ∙ ap (λ u. with_value shown n u) is_value ∙ put_behind shown (filter test rest) (n, v) (subst (λ t. IsRising t) (sym whole) (kept_rises test all rising)) in
    ap (λ t. t ++ filter test rest) put ∙ append_assoc shown ((n, v) ∷ []) (filter test rest) ∙ whole

-- a pair is passed over
pub passes_over : (test : List ℕ × List ℕ → Bool) (all shown left rest : Pairs) (n v : List ℕ) → left ≡ (n, v) ∷ rest → test (n, v) ≡ false → shown ++ filter test left ≡ filter test all → shown ++ filter test rest ≡ filter test all
passes_over test all shown left rest n v next fails so_far =
    ap (λ t. shown ++ t) (sym (ap (λ t. filter test t) next ∙ ap (λ b. if b then (n, v) ∷ filter test rest else filter test rest) fails)) ∙ so_far
