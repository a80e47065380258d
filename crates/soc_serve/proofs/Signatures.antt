-- The signatures of a log, in rising order, as a search counts them.
use Rattle.std.proofs.Common.{◌≡◌, ℕ, zero, suc, ◌<◌, Bool, true, false, cond, List, [], ◌∷◌, ◌++◌, length, map, filter, take, Some, refl, sym, ap, ◌∙◌, subst, inl, inr, arith}
use Rattle.std.specs.Prelude.{if◌then◌else◌, slice_get, Result, Ok, codes}
use Rattle.std.specs.List.{AllByRecursion}
use Rattle.std.specs.Ordering.{is_eq, is_gt, nat_cmp}
use Rattle.std.specs.declared.cmp.Ordering.{Ordering}
use Rattle.std.specs.declared.cmp.Ordering.TheVariants.{Less}
use Rattle.std.specs.Cmp.{IsTotalOrder}
use Rattle.std.proofs.lemmas.Cmp.{on_total}
use Rattle.soc_base.proofs.Folk.{equal_from, some-injective}
use Rattle.soc_schema.specs.declared.caller.Products.TheVariants.{All as AllProducts}
use Rattle.soc_schema.specs.declared.permission.Permissions.{Permissions}
use Rattle.soc_schema.specs.Permits.{public_alone}
use Rattle.soc_schema.specs.declared.value.Value.{Value}
use Rattle.soc_schema.specs.declared.value.Cell.{Cell}
use Rattle.soc_schema.specs.Fields.{signature_field, field_named, permission_of, field_entry, field_table}
use Rattle.soc_schema.specs.Orders.{value_cmp, in_order, put_in_order}
use Rattle.soc_schema.specs.Values.{rows_with, values_of}
use Rattle.soc_schema.specs.Tables.{Rising}
use Rattle.soc_schema.proofs.OrderLemmas.{value_total}
use Rattle.soc_store.proofs.DistinctLemmas.{rise_values}
use Rattle.soc_query.specs.declared.answer.Answer.{Answer}
use Rattle.soc_query.specs.declared.answer.Facet.{Facet}
use Rattle.soc_query.specs.declared.answer.Term.{Term}
use Rattle.soc_query.specs.Answers.{answer_of, facet_of, matching_rows, terms_of}
use Rattle.soc_query.specs.Queries.{Asked, query_of}
use Rattle.soc_search.proofs.SortLemmas.{Up, order_kind, order_up, unique}
use Rattle.soc_desk.specs.Basis.{Basis}
use Rattle.soc_desk.specs.Log.{Change}
use Rattle.soc_desk.specs.State.{State}
use Rattle.soc_desk.specs.Desk.{Step, StepSearching}
use Rattle.soc_desk.specs.declared.desk.Command.TheVariants as C
use Rattle.soc_desk.specs.declared.desk.Reply.{Reply}
use Rattle.soc_desk.specs.declared.desk.Reply.TheVariants as R
use Rattle.soc_desk.specs.View.{rows_in, view_of}
use Rattle.soc_serve.specs.Storm.{onlooker, signatures_of}
use Rattle.soc_serve.specs.inner.Storm.{by_value, signature_asked, signature_pairs}

pub asks_signatures : query_of onlooker signature_pairs ≡ Ok signature_asked
unfolding field_named permission_of field_entry field_table
asks_signatures = refl

-- ---- one of a kind

module _ {X : Type 0} (p : X → Bool) where
  -- no two pass the test
  abbrev pub Lone : List X → Type 0
  Lone [] = Unit {0}
  Lone (x ∷ xs) = (p x ≡ true → filter p xs ≡ []) × Lone xs

  kept_head : (x : X) (xs : List X) (b : Bool) → p x ≡ b → filter p (x ∷ xs) ≡ cond b (x ∷ filter p xs) (filter p xs)
  kept_head x xs b is = ap (λ t. cond t (x ∷ filter p xs) (filter p xs)) is

  none_then : (x : X) (xs : List X) (b : Bool) → p x ≡ b → filter p (x ∷ xs) ≡ [] → (b ≡ false) × (filter p xs ≡ [])
  none_then x xs true is none = let e : x ∷ filter p xs ≡ [] = sym (kept_head x xs true is) ∙ none in absurd (cc)
  none_then x xs false is none = (refl, sym (kept_head x xs false is) ∙ none)

  module _ (R : X → X → Ordering) where
    past : (x y : X) (ys : List X) (b : Bool) → p x ≡ b → (p x ≡ true → filter p (y ∷ ys) ≡ []) → filter p (put_in_order R x ys) ≡ filter p (x ∷ ys)
        → filter p (y ∷ put_in_order R x ys) ≡ filter p (x ∷ y ∷ ys)
    past x y ys true is lone put =
        let none = none_then y ys (p y) refl (lone is) in
        kept_head y (put_in_order R x ys) false none.0 ∙ (put ∙ (kept_head x ys true is ∙ (ap (λ l. x ∷ l) (none.1 ∙ sym (lone is)) ∙ sym (kept_head x (y ∷ ys) true is))))
    past x y ys false is lone put =
        ap (λ l. cond (p y) (y ∷ l) l) (put ∙ kept_head x ys false is) ∙ sym (kept_head x (y ∷ ys) false is)

    put_lone : (x : X) (ys : List X) → (p x ≡ true → filter p ys ≡ []) → filter p (put_in_order R x ys) ≡ filter p (x ∷ ys)
    put_lone x [] lone = refl
    put_lone x (y ∷ ys) lone =
        elim (is_gt (R x y)) as (λ b. filter p (if b then y ∷ put_in_order R x ys else x ∷ y ∷ ys) ≡ filter p (x ∷ y ∷ ys)) [
          | true ↦ past x y ys (p x) refl lone (put_lone x ys (λ is. (none_then y ys (p y) refl (lone is)).1))
          | false ↦ refl
        ]

    pub order_lone : (xs : List X) → Lone xs → filter p (in_order R xs) ≡ filter p xs
    order_lone [] lone = refl
    order_lone (x ∷ xs) lone =
        put_lone x (in_order R xs) (λ is. order_lone xs lone.1 ∙ lone.0 is) ∙ ap (λ l. cond (p x) (x ∷ l) l) (order_lone xs lone.1)

-- ---- terms

pub term_total : IsTotalOrder by_value
term_total = on_total (λ t. t.value) value_total

module _ (f : ℕ) (rows : List (ℕ × List Cell)) where
  abbrev made : Value → Term
  made v = record { value = v; count = length (rows_with f v rows) }

  above_all : (v : Value) (vs : List Value) → AllByRecursion (λ w. value_cmp v w ≡ Less) vs → AllByRecursion (λ t. is_gt (by_value (made v) t) ≡ false) (map made vs)
  above_all v [] all = tt
  above_all v (w ∷ ws) all = (ap is_gt all.0, above_all v ws all.1)

  terms_up : (vs : List Value) → Rising (λ (v : Value). v) value_cmp vs → Up by_value term_total (map made vs)
  terms_up [] rising = tt
  terms_up (v ∷ vs) rising = (above_all v vs rising.0, terms_up vs rising.1)

  none_of_kind : (u : Term) (v : Value) (vs : List Value) → is_eq (by_value u (made v)) ≡ true → AllByRecursion (λ w. value_cmp v w ≡ Less) vs
      → filter (λ t. is_eq (by_value u t)) (map made vs) ≡ []
  none_of_kind u v [] same all = refl
  none_of_kind u v (w ∷ ws) same all =
      let less : by_value u (made w) ≡ Less = term_total.congr u (made v) (made w) (equal_from (by_value u (made v)) same) ∙ all.0 in
      ap (λ r. cond (is_eq r) (made w ∷ filter (λ t. is_eq (by_value u t)) (map made ws)) (filter (λ t. is_eq (by_value u t)) (map made ws))) less
      ∙ none_of_kind u v ws same all.1

  terms_lone : (u : Term) (vs : List Value) → Rising (λ (v : Value). v) value_cmp vs → Lone (λ t. is_eq (by_value u t)) (map made vs)
  terms_lone u [] rising = tt
  terms_lone u (v ∷ vs) rising = ((λ same. none_of_kind u v vs same rising.0), terms_lone u vs rising.1)

  -- by count and then by value, they stand as they did
  pub ordered_back : (S : Term → Term → Ordering) → in_order by_value (in_order S (terms_of f rows)) ≡ terms_of f rows
  ordered_back S =
      let rising = rise_values f rows in
      unique by_value term_total (in_order by_value (in_order S (terms_of f rows))) (terms_of f rows)
      (order_up by_value term_total (in_order S (terms_of f rows)))
      (terms_up (values_of f rows) rising)
      (λ u. order_kind by_value term_total u (in_order S (terms_of f rows)) ∙ order_lone (λ t. is_eq (by_value u t)) S (terms_of f rows) (terms_lone u (values_of f rows) rising))

-- ---- the answer to a search

uncut : {X : Type 0} (k : ℕ) (xs : List X) → length (take k xs) < k → take k xs ≡ xs
uncut zero xs few = absurd (omega (arith, few))
uncut (suc k) [] few = refl
uncut (suc k) (x ∷ xs) few = ap (λ l. x ∷ l) (uncut k xs (omega (arith, few)))

all_match : (rows : List (ℕ × List Cell)) → matching_rows signature_asked rows ≡ rows
all_match [] = refl
all_match (s ∷ ss) = ap (λ l. s ∷ l) (all_match ss)

abbrev by_count : Term → Term → Ordering
by_count t u = nat_cmp u.count t.count

facet_told : (rows : List (ℕ × List Cell)) (facet : Facet) → facet ≡ facet_of 10000 rows signature_field → length facet.terms < 10000 → in_order by_value facet.terms ≡ terms_of signature_field rows
facet_told rows facet is few =
    let terms : facet.terms ≡ take 10000 (in_order by_count (terms_of signature_field rows)) = ap (λ f. f.terms) is in
    let whole : take 10000 (in_order by_count (terms_of signature_field rows)) ≡ in_order by_count (terms_of signature_field rows)
    = uncut 10000 (in_order by_count (terms_of signature_field rows)) (subst (λ l. length l < 10000) terms few) in
    ap (in_order by_value) (terms ∙ whole) ∙ ordered_back signature_field rows by_count

ok_is : {A E : Type 0} (result : Result A E) (x y : A) → result ≡ Ok x → result ≡ Ok y → x ≡ y
ok_is result x y is also = cc

pub asked_is : (public : Permissions) (none one two three : List (List ℕ × List ℕ)) (query : Asked) → none ≡ [] → one ≡ none ++ (codes "_facets", codes "signature") ∷ []
    → two ≡ one ++ (codes "_facets_size", codes "10000") ∷ [] → three ≡ two ++ (codes "_results_number", codes "0") ∷ []
    → public ≡ public_alone → query_of (record { permissions = public; products = AllProducts }) three ≡ Ok query → query ≡ signature_asked
asked_is public none one two three query none_is one_is two_is three_is alone read =
    let pairs : three ≡ signature_pairs =
    three_is ∙ ap (λ l. l ++ (codes "_results_number", codes "0") ∷ []) (two_is ∙ ap (λ l. l ++ (codes "_facets_size", codes "10000") ∷ []) (one_is ∙ ap (λ l. l ++ (codes "_facets", codes "signature") ∷ []) none_is)) in
    let both : query_of (record { permissions = public; products = AllProducts }) three ≡ query_of onlooker signature_pairs =
    ap (λ p. query_of (record { permissions = p; products = AllProducts }) three) alone ∙ ap (query_of onlooker) pairs in
    ok_is (query_of (record { permissions = public; products = AllProducts }) three) query signature_asked read (both ∙ asks_signatures)

signatures_are : (basis : Basis) (log : List Change) (answer : Answer) (facet : Facet) → answer ≡ answer_of signature_asked (rows_in (view_of basis log onlooker))
    → slice_get answer.facets 0 ≡ Some facet → length facet.terms < 10000 → in_order by_value facet.terms ≡ signatures_of basis log
signatures_are basis log answer facet is first few =
    let rows = rows_in (view_of basis log onlooker) in
    let facets : answer.facets ≡ facet_of 10000 (matching_rows signature_asked rows) signature_field ∷ [] = ap (λ a. a.facets) is in
    let one : Some (facet_of 10000 (matching_rows signature_asked rows) signature_field) ≡ Some facet = sym (ap (λ l. slice_get l 0) facets) ∙ first in
    facet_told rows facet (sym (some-injective one) ∙ ap (λ l. facet_of 10000 l signature_field) (all_match rows)) few

found : (basis : Basis) (before after : State) (answer : Answer) → StepSearching basis before onlooker (C.Search signature_asked) (R.Found answer) after
    → answer ≡ answer_of signature_asked (rows_in (view_of basis before.log onlooker))
found basis before after answer (inl read) = cc (read.0)
found basis before after answer (inr refuses) = absurd (cc (refuses.0))

-- what a search for the signatures finds
pub signatures_found : (basis : Basis) (before after : State) (query : Asked) (reply : Reply) (answer : Answer) (facet : Facet) → query ≡ signature_asked → reply ≡ R.Found answer
    → Step basis before (C.Search query) reply after → slice_get answer.facets 0 ≡ Some facet → length facet.terms < 10000 → in_order by_value facet.terms ≡ signatures_of basis before.log
signatures_found basis before after query reply answer facet asked replied step first few =
    let searched : Step basis before (C.Search signature_asked) (R.Found answer) after =
    subst (λ q. Step basis before (C.Search q) (R.Found answer) after) asked (subst (λ r. Step basis before (C.Search query) r after) replied step) in
    signatures_are basis before.log answer facet (found basis before after answer searched) first few
