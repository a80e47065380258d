-- Of two values the lower one has no higher key.
use Rattle.std.proofs.Common.{◌≡◌, ◌≢◌, ℕ, zero, suc, ◌+◌, ◌-◌, ◌*◌, ◌^◌, ◌<◌, ◌≤◌, List, [], ◌∷◌, true, false, drop, get_or, ap, sym, subst, ◌∙◌, refl, arith, ⊎_elim}
use Rattle.std.specs.Ordering.{nat_cmp, ordering_then, ordering_reverse}
use Rattle.std.specs.Cmp.Lexicographic.{slice_cmp}
use Rattle.std.specs.declared.cmp.Ordering.TheVariants.{Less, Equal, Greater}
use Rattle.std.proofs.lemmas.Bool.{lt-ltb, le-ltb, eq-eqb, ne_eqb, cases_lt, cases_eq}
use Rattle.soc_schema.specs.declared.value.Value.{Value}
use Rattle.soc_schema.specs.declared.value.Value.TheVariants.{Text, Number, Flag}
use Rattle.soc_schema.specs.Orders.{value_cmp}
use Rattle.soc_store.specs.inner.Postings.{Posting}
use Rattle.soc_store.specs.inner.Keys.{filled_up, packed, key_of}
use Rattle.soc_schema.proofs.OrderLemmas.{value_total, value_exact}

filled_rises : (n k l : ℕ) → k ≤ l → filled_up k n ≤ filled_up l n
filled_rises zero k l le = le
filled_rises (suc n) k l le = filled_rises n (k * 256 + 255) (l * 256 + 255) (omega arith)

less_filled : (n k l : ℕ) → k < l → filled_up k n < filled_up l n
less_filled zero k l lt = lt
less_filled (suc n) k l lt = less_filled n (k * 256 + 255) (l * 256 + 255) (omega arith)

-- bytes make no more
most_packed : (n k l : ℕ) (bs : List ℕ) → k ≤ l → packed k n bs ≤ filled_up l n
most_packed zero k l bs le = le
most_packed (suc n) k l [] le = most_packed n (k * 256) (l * 256 + 255) [] (omega arith)
most_packed (suc n) k l (b ∷ bs) le =
    ⊎_elim
    (λ (lt : b < 256). rw (lt-ltb b 256 lt) (most_packed n (k * 256 + b) (l * 256 + 255) bs (omega arith)))
    (λ (ge : 256 ≤ b). rw (le-ltb b 256 ge) (filled_rises n (k * 256 + 255) (l * 256 + 255) (omega arith)))
    (cases_lt b 256)

above_filled : (n k l : ℕ) (bs : List ℕ) → k < l → filled_up k n < packed l n bs
above_filled zero k l bs lt = lt
above_filled (suc n) k l [] lt = above_filled n (k * 256 + 255) (l * 256) [] (omega arith)
above_filled (suc n) k l (b ∷ bs) lt =
    ⊎_elim
    (λ (under : b < 256). rw (lt-ltb b 256 under) (above_filled n (k * 256 + 255) (l * 256 + b) bs (omega arith)))
    (λ (ge : 256 ≤ b). rw (le-ltb b 256 ge) (less_filled n (k * 256 + 255) (l * 256 + 255) (omega arith)))
    (cases_lt b 256)

less_packed : (n k l : ℕ) (xs ys : List ℕ) → k < l → packed k n xs < packed l n ys
less_packed n k l xs ys lt =
    let most : packed k n xs ≤ filled_up k n = most_packed n k k xs (omega arith) in
    let above : filled_up k n < packed l n ys = above_filled n k l ys lt in
    omega arith

-- and none the least
least_packed : (n k l : ℕ) (bs : List ℕ) → k ≤ l → packed k n [] ≤ packed l n bs
least_packed zero k l bs le = le
least_packed (suc n) k l [] le = least_packed n (k * 256) (l * 256) [] (omega arith)
least_packed (suc n) k l (b ∷ bs) le =
    ⊎_elim
    (λ (lt : b < 256). rw (lt-ltb b 256 lt) (least_packed n (k * 256) (l * 256 + b) bs (omega arith)))
    (λ (ge : 256 ≤ b). rw (le-ltb b 256 ge) (most_packed n (k * 256) (l * 256 + 255) [] (omega arith)))
    (cases_lt b 256)

grows : (n k : ℕ) (bs : List ℕ) → k ≤ packed k n bs
grows zero k bs = omega arith
grows (suc n) k bs =
    let least : packed k (suc n) [] ≤ packed k (suc n) bs = least_packed (suc n) k k bs (omega arith) in
    let later : k * 256 ≤ packed (k * 256) n [] = grows n (k * 256) [] in
    omega arith

-- texts in order have keys in order
order_packed : (n k : ℕ) (xs ys : List ℕ) → slice_cmp nat_cmp xs ys ≡ Less → packed k n xs ≤ packed k n ys
order_packed zero k xs ys less = omega arith
order_packed (suc n) k [] ys less = least_packed (suc n) k k ys (omega arith)
order_packed (suc n) k (x ∷ xs) [] less = cc
order_packed (suc n) k (x ∷ xs) (y ∷ ys) less =
    ⊎_elim
    (λ (lower : x < y).
    ⊎_elim
    (λ (small : y < 256).
    let smaller : x < 256 = omega arith in
    let later = less_packed n (k * 256 + x) (k * 256 + y) xs ys (omega arith) in
    rw (lt-ltb x 256 smaller, lt-ltb y 256 small) (omega arith))
    (λ (large : 256 ≤ y). rw (le-ltb y 256 large) (most_packed (suc n) k k (x ∷ xs) (omega arith)))
    (cases_lt y 256))
    (λ (no_lower : y ≤ x).
    ⊎_elim
    (λ (same : x ≡ y).
    let tied : nat_cmp x y ≡ Equal = rw (le-ltb x y no_lower, eq-eqb x y same) refl in
    let rest : slice_cmp nat_cmp xs ys ≡ Less = sym (ap (λ r. ordering_then r (slice_cmp nat_cmp xs ys)) tied) ∙ less in
    subst (λ u. packed k (suc n) (x ∷ xs) ≤ packed k (suc n) (u ∷ ys)) same
    (⊎_elim
    (λ (small : x < 256). rw (lt-ltb x 256 small) (order_packed n (k * 256 + x) xs ys rest))
    (λ (large : 256 ≤ x). rw (le-ltb x 256 large) (omega arith))
    (cases_lt x 256)))
    (λ (other : x ≢ y).
    let higher : nat_cmp x y ≡ Greater = rw (le-ltb x y no_lower, ne_eqb x y other) refl in
    let wrong : Greater ≡ Less = sym (ap (λ r. ordering_then r (slice_cmp nat_cmp xs ys)) higher) ∙ less in
    cc)
    (cases_eq x y))
    (cases_lt x y)

lower_number : (n m : ℕ) → ordering_then (nat_cmp n m) Equal ≡ Less → n < m
lower_number n m less =
    ⊎_elim
    (λ (lower : n < m). lower)
    (λ (no_lower : m ≤ n).
    ⊎_elim
    (λ (same : n ≡ m).
    let tied : nat_cmp n m ≡ Equal = rw (le-ltb n m no_lower, eq-eqb n m same) refl in
    let wrong : Equal ≡ Less = sym (ap (λ r. ordering_then r Equal) tied) ∙ less in
    cc)
    (λ (other : n ≢ m).
    let higher : nat_cmp n m ≡ Greater = rw (le-ltb n m no_lower, ne_eqb n m other) refl in
    let wrong : Greater ≡ Less = sym (ap (λ r. ordering_then r Equal) higher) ∙ less in
    cc)
    (cases_eq n m))
    (cases_lt n m)

few_packed : (t : List ℕ) → packed 0 7 t < 2 ^ 56
few_packed t = less_packed 7 0 1 t [] (omega arith)

pub order_key : (v w : Value) → value_cmp v w ≡ Less → key_of v ≤ key_of w
order_key (Text a) (Text b) less = order_packed 7 0 a b less
order_key (Text a) (Number n) less = let few = few_packed a in omega arith
order_key (Text a) (Flag b) less = let few = few_packed a in omega arith
order_key (Number n) (Text b) less = cc
order_key (Number n) (Number m) less = let lower = lower_number n m less in omega arith
order_key (Number n) (Flag b) less = omega arith
order_key (Flag a) (Text b) less = cc
order_key (Flag a) (Number n) less = cc
order_key (Flag true) (Flag true) less = cc
order_key (Flag true) (Flag false) less = cc
order_key (Flag false) (Flag true) less = omega arith
order_key (Flag false) (Flag false) less = cc

-- so keys that differ tell how the values compare
pub lower_key : (v w : Value) → key_of v < key_of w → value_cmp v w ≡ Less
lower_key v w lower =
    elim (value_cmp v w) as (λ r. value_cmp v w ≡ r → r ≡ Less) [
      | Less ↦ λ is. refl
      | Equal ↦ λ is. let same : key_of v ≡ key_of w = ap key_of (value_exact v w is) in absurd (omega arith)
      | Greater ↦ λ is. let other = order_key w v (value_total.antisymm w v ∙ ap ordering_reverse is) in absurd (omega arith)
    ] refl

pub higher_key : (v w : Value) → key_of w < key_of v → value_cmp v w ≡ Greater
higher_key v w higher = value_total.antisymm v w ∙ ap ordering_reverse (lower_key w v higher)

-- a key is made byte by byte
pub step_packed : (bs : List ℕ) (i n k b : ℕ) → b ≡ get_or bs i 0 → b < 256 → packed (k * 256 + b) n (drop (suc i) bs) ≡ packed k (suc n) (drop i bs)
step_packed [] zero n k b is lt = let e : k * 256 + b ≡ k * 256 = omega arith in ap (λ u. packed u n []) e
step_packed [] (suc i) n k b is lt = let e : k * 256 + b ≡ k * 256 = omega arith in ap (λ u. packed u n []) e
step_packed (x ∷ xs) zero n k b is lt = let under : x < 256 = omega arith in rw (lt-ltb x 256 under) (ap (λ u. packed (k * 256 + u) n xs) is)
step_packed (x ∷ xs) (suc i) n k b is lt = step_packed xs i n k b is lt

pub key_fits : (t bs : List ℕ) (n k : ℕ) → packed k n bs ≡ packed 0 7 t → k < 2 ^ 56
key_fits t bs n k is = let few = few_packed t in let least = grows n k bs in omega arith

pub key_step : (t : List ℕ) (i k b byte : ℕ) → packed k (7 - i) (drop i t) ≡ packed 0 7 t → i < 7 → byte ≡ b → b ≡ get_or t i 0 → b < 256 → packed (k * 256 + byte) (7 - (i + 1)) (drop (i + 1) t) ≡ packed 0 7 t
key_step t i k b byte so_far lt same is small =
    let one : i + 1 ≡ suc i = omega arith in
    let rest : suc (7 - (i + 1)) ≡ 7 - i = omega arith in
    ap (λ u. packed (k * 256 + u) (7 - (i + 1)) (drop (i + 1) t)) same ∙ ap (λ u. packed (k * 256 + b) (7 - (i + 1)) (drop u t)) one
    ∙ step_packed t i (7 - (i + 1)) k b is small ∙ ap (λ u. packed k u (drop i t)) rest ∙ so_far

-- what a slot's key and a value's tell
module _ (t now : Posting) (v : Value) (k l : ℕ) (own : k ≡ key_of t.value) (view : t ≡ now) (given : l ≡ key_of v) where
  here : k ≡ key_of now.value
  here = own ∙ ap (λ (u : Posting). key_of u.value) view

  pub tells_lower : k < l → Less ≡ value_cmp now.value v
  tells_lower lt = sym (lower_key now.value v (subst (λ n. n < key_of v) here (subst (λ n. k < n) given lt)))

  pub tells_higher : l < k → Greater ≡ value_cmp now.value v
  tells_higher gt = sym (higher_key now.value v (subst (λ n. key_of v < n) here (subst (λ n. n < k) given gt)))
