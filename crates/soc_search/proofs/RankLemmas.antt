-- Signatures that are ranked by index, and by value.
use Rattle.std.proofs.Common.{◌≡◌, ◌≢◌, ℕ, zero, suc, ◌+◌, ◌<◌, ◌≤◌, eqb, ltb, Bool, true, false, cond, List, [], ◌∷◌, ◌++◌, Option, None, Some, length, map, filter, take, drop, get_or, set, refl, sym, ap, ◌∙◌, arith, subst, add-one, append_assoc, append-nil, replicate, ⊎_elim}
use Rattle.std.specs.Prelude.{slice_get}
use Rattle.std.proofs.lemmas.Option.{slice_get_within, slice_get-get_or}
use Rattle.std.proofs.lemmas.Bool.{lt-ltb, le-ltb, eq-eqb, ne_eqb, cases_eq}
use Rattle.std.proofs.lemmas.List.{map-append, take_more, get_or-map, get_or-set_same, get_or-set_other, get_or_default}
use Rattle.std.proofs.lemmas.List.Elements.{filter_agree}
use Rattle.std.specs.List.{AllByRecursion, enumerate_from}
use Rattle.std.specs.Cmp.{IsTotalOrder}
use Rattle.std.specs.Ordering.{nat_cmp, is_eq}
use Rattle.std.specs.declared.cmp.Ordering.{Ordering}
use Rattle.std.proofs.lemmas.Cmp.{on_total, back_total, nat_cmp_total}
use Rattle.soc_base.proofs.Folk.{drop_past}
use Rattle.soc_schema.specs.declared.value.Value.{Value}
use Rattle.soc_schema.specs.declared.value.Value.TheVariants.{Text}
use Rattle.soc_schema.specs.declared.value.Cell.{Cell}
use Rattle.soc_schema.specs.Orders.{value_cmp, in_order}
use Rattle.soc_schema.specs.Tables.{Rising}
use Rattle.soc_schema.specs.Values.{rows_with, values_of, text_in}
use Rattle.soc_store.specs.Stored.{some_has}
use Rattle.soc_search.specs.declared.ranking.Ranked.{Ranked}
use Rattle.soc_tops.specs.declared.tops.Top.{Top}
use Rattle.soc_tops.specs.declared.tops.Tops.{Tops}
use Rattle.soc_schema.specs.Fields.{signature_field}
use Rattle.soc_tops.specs.Tops.{counted_in, rank_from, ranking_of, top_of}
use Rattle.soc_search.specs.inner.Ranks.{AreBelow, index_rank, named, numbered, top_at}
use Rattle.soc_search.proofs.CountedLemmas.{counted_has}
use Rattle.soc_search.proofs.HitLemmas.{map_take, mapped_more}
use Rattle.soc_search.proofs.OrderLemmas.{same_index}
use Rattle.soc_search.proofs.SelectionLemmas.{here_at}
use Rattle.soc_search.proofs.SortLemmas.{order_all, order_map}

-- one more of those that a list is mapped to
pub mapped_at : {X Y : Type 0} (f : X → Y) (xs : List X) (i : ℕ) (x : X) (y : Y) (done now : List Y) → slice_get xs i ≡ Some x → y ≡ f x → done ≡ map f (take i xs) → now ≡ done ++ y ∷ [] → now ≡ map f (take (i + 1) xs)
mapped_at f xs i x y done now at is so_far pushed =
    let here = here_at xs i x at in
    mapped_more f xs done now i x y here.0 here.1 is so_far pushed

-- greater counts first
abbrev pub by_count : Ranked → Ranked → Ordering
by_count a b = nat_cmp b.count a.count

pub counts_fall : IsTotalOrder by_count
counts_fall = back_total (on_total (λ (r : Ranked). r.count) nat_cmp_total)

take_each : {X : Type 0} (P : X → Type 0) (n : ℕ) (xs : List X) → AllByRecursion P xs → AllByRecursion P (take n xs)
take_each P zero [] all = tt
take_each P zero (x ∷ xs) all = tt
take_each P (suc n) [] all = tt
take_each P (suc n) (x ∷ xs) all = (all.0, take_each P n xs all.1)

numbered_below : (i n : ℕ) (ns : List ℕ) → i + length ns ≤ n → AreBelow n (numbered i ns)
numbered_below i n [] h = tt
numbered_below i n (m ∷ ms) h =
    elim (ltb 0 m) as (λ b. AreBelow n (cond b (record { index = i; count = m } ∷ numbered (i + 1) ms) (numbered (i + 1) ms))) [
      | true ↦ (omega arith, numbered_below (i + 1) n ms (omega arith))
      | false ↦ numbered_below (i + 1) n ms (omega arith)
    ]

-- each index in a ranking of counts is that of a count
pub ranking_below : (ns : List ℕ) (n : ℕ) (ranking : List Ranked) → ranking ≡ in_order by_count (numbered 0 ns) → length ns ≡ n → AreBelow n ranking
ranking_below ns n ranking is whole = subst (AreBelow n) (sym is) (order_all by_count (λ r. r.index < n) (numbered 0 ns) (numbered_below 0 n ns (omega (arith, whole))))

pub first_below : (n limit : ℕ) (ranking : List Ranked) → AreBelow n ranking → AreBelow n (take limit ranking)
first_below n limit ranking all = take_each (λ r. r.index < n) limit ranking all

drop_get : {X : Type 0} (xs : List X) (i : ℕ) (d : X) → i < length xs → drop i xs ≡ get_or xs i d ∷ drop (suc i) xs
drop_get [] i d h = absurd (omega arith)
drop_get (x ∷ xs) zero d h = refl
drop_get (x ∷ xs) (suc i) d h = drop_get xs i d (omega arith)

drop_step : {X : Type 0} (xs : List X) (i : ℕ) (d : X) → i < length xs → drop i xs ≡ get_or xs i d ∷ drop (i + 1) xs
drop_step xs i d h = rw add-one (drop_get xs i d h)

-- the counts that are left of a list that is numbered
abbrev pub Numbers : List ℕ → ℕ → List Ranked → Type 0
Numbers ns i done = done ++ numbered i (drop i ns) ≡ numbered 0 ns

module _ (ns : List ℕ) (i n : ℕ) (done : List Ranked) (within : i < length ns) (here : get_or ns i n ≡ n) (so_far : Numbers ns i done) where
  left : (b : Bool) → ltb 0 n ≡ b → done ++ cond b (record { index = i; count = n } ∷ numbered (i + 1) (drop (i + 1) ns)) (numbered (i + 1) (drop (i + 1) ns)) ≡ numbered 0 ns
  left b is =
      ap (λ t. done ++ cond t (record { index = i; count = n } ∷ numbered (i + 1) (drop (i + 1) ns)) (numbered (i + 1) (drop (i + 1) ns))) (sym is)
      ∙ ap (λ l. done ++ numbered i l) (sym (drop_step ns i n within ∙ ap (λ m. m ∷ drop (i + 1) ns) here)) ∙ so_far

  pub numbers_put : (now : List Ranked) → 0 < n → now ≡ done ++ record { index = i; count = n } ∷ [] → Numbers ns (i + 1) now
  numbers_put now some put =
      ap (λ l. l ++ numbered (i + 1) (drop (i + 1) ns)) put ∙ append_assoc done (record { index = i; count = n } ∷ []) (numbered (i + 1) (drop (i + 1) ns)) ∙ left true (lt-ltb 0 n some)

  pub numbers_over : (now : List Ranked) → n ≤ 0 → now ≡ done → Numbers ns (i + 1) now
  numbers_over now none kept = ap (λ l. l ++ numbered (i + 1) (drop (i + 1) ns)) kept ∙ left false (le-ltb 0 n none)

pub numbers_all : (ns : List ℕ) (i : ℕ) (done : List Ranked) → length ns ≤ i → Numbers ns i done → done ≡ numbered 0 ns
numbers_all ns i done all so_far = sym (append-nil done) ∙ ap (λ l. done ++ numbered i l) (sym (drop_past ns i all)) ∙ so_far

-- the ranks of what stands from an index on
abbrev pub RanksFrom : List Ranked → ℕ → List (Option ℕ) → Type 0
RanksFrom ranking i ranks = (j : ℕ) → get_or ranks j None ≡ index_rank (i + 1) j (drop i ranking)

none_ranked : (n j : ℕ) → get_or (replicate {A = Option ℕ} n None) j None ≡ None
none_ranked zero j = refl
none_ranked (suc n) zero = refl
none_ranked (suc n) (suc j) = none_ranked n j

pub ranks_first : (ranking : List Ranked) (n : ℕ) (ranks : List (Option ℕ)) → ranks ≡ replicate n None → RanksFrom ranking (length ranking) ranks
ranks_first ranking n ranks is j =
    ap (λ l. get_or l j None) is ∙ none_ranked n j ∙ sym (ap (index_rank (length ranking + 1) j) (drop_past ranking (length ranking) (omega arith)))

-- one rank more, before the others
pub ranks_more : (ranking : List Ranked) (i : ℕ) (r : Ranked) (old new : List (Option ℕ)) → i < length ranking → get_or ranking i r ≡ r → r.index < length old → new ≡ set old r.index (Some (i + 1)) → RanksFrom ranking (i + 1) old → RanksFrom ranking i new
ranks_more ranking i r old new within here below put so_far j =
    let opened : index_rank (i + 1) j (drop i ranking) ≡ cond (eqb j r.index) (Some (i + 1)) (index_rank ((i + 1) + 1) j (drop (i + 1) ranking)) = ap (index_rank (i + 1) j) (drop_step ranking i r within ∙ ap (λ q. q ∷ drop (i + 1) ranking) here) in
    ap (λ l. get_or l j None) put
    ∙ ⊎_elim
    (λ (e : j ≡ r.index). ap (λ k. get_or (set old r.index (Some (i + 1))) k None) e ∙ get_or-set_same old r.index (Some (i + 1)) None below
    ∙ sym (ap (λ b. cond b (Some (i + 1)) (index_rank ((i + 1) + 1) j (drop (i + 1) ranking))) (eq-eqb j r.index e)))
    (λ (ne : j ≢ r.index). get_or-set_other old r.index j (Some (i + 1)) None ne ∙ so_far j
    ∙ sym (ap (λ b. cond b (Some (i + 1)) (index_rank ((i + 1) + 1) j (drop (i + 1) ranking))) (ne_eqb j r.index ne)))
    (cases_eq j r.index)
    ∙ sym opened

-- a rank by index is one by value
pub same_rank : (vs : List Value) (rank i : ℕ) (ranking : List Ranked) → Rising (λ v. v) value_cmp vs → i < length vs → AreBelow (length vs) ranking → index_rank rank i ranking ≡ rank_from rank (get_or vs i (Text [])) (map (named vs) ranking)
same_rank vs rank i [] rise within all = refl
same_rank vs rank i (r ∷ rs) rise within all =
    ap (λ b. cond b (Some rank) (index_rank (rank + 1) i rs)) (same_index vs i r.index (Text []) rise within all.0)
    ∙ ap (λ o. cond (is_eq (value_cmp (get_or vs i (Text [])) (get_or vs r.index (Text [])))) (Some rank) o) (same_rank vs (rank + 1) i rs rise within all.1)

named_numbered : (vs us : List Value) (i : ℕ) (rows : List (ℕ × List Cell)) → ((j : ℕ) → get_or vs (i + j) (Text []) ≡ get_or us j (Text []))
    → map (named vs) (numbered i (map (λ v. length (rows_with signature_field v rows)) us)) ≡ map (counted_in rows) (filter (λ v. ltb 0 (length (rows_with signature_field v rows))) us)
named_numbered vs [] i rows at = refl
named_numbered vs (u ∷ us) i rows at =
    let n : ℕ = length (rows_with signature_field u rows) in
    let same : i + 0 ≡ i = omega arith in
    let here : get_or vs i (Text []) ≡ u = ap (λ k. get_or vs k (Text [])) (sym same) ∙ at 0 in
    let further : (j : ℕ) → (i + 1) + j ≡ i + suc j = λ j. omega arith in
    let rest = named_numbered vs us (i + 1) rows (λ j. ap (λ k. get_or vs k (Text [])) (further j) ∙ at (suc j)) in
    elim (ltb 0 n) as (λ b. map (named vs) (cond b (record { index = i; count = n } ∷ numbered (i + 1) (map (λ v. length (rows_with signature_field v rows)) us)) (numbered (i + 1) (map (λ v. length (rows_with signature_field v rows)) us)))
    ≡ map (counted_in rows) (cond b (u ∷ filter (λ v. ltb 0 (length (rows_with signature_field v rows))) us) (filter (λ v. ltb 0 (length (rows_with signature_field v rows))) us))) [
      | true ↦ ap (λ v. record { signature = v; count = n } ∷ map (named vs) (numbered (i + 1) (map (λ v. length (rows_with signature_field v rows)) us))) here ∙ ap (λ l. counted_in rows u ∷ l) rest
      | false ↦ rest
    ]

-- the ranking of counts by index is that of the signatures
pub ranking_is : (vs : List Value) (rows : List (ℕ × List Cell)) (counts : List ℕ) (ranking : List Ranked) → values_of signature_field rows ≡ filter (some_has signature_field rows) vs → counts ≡ map (λ v. length (rows_with signature_field v rows)) vs
    → ranking ≡ in_order by_count (numbered 0 counts) → map (named vs) ranking ≡ ranking_of rows
ranking_is vs rows counts ranking some are is =
    let same : (j : ℕ) → 0 + j ≡ j = λ j. omega arith in
    ap (map (named vs)) is ∙ order_map (named vs) (λ c d. nat_cmp d.count c.count) (numbered 0 counts)
    ∙ ap (in_order (λ c d. nat_cmp d.count c.count))
    (ap (λ ns. map (named vs) (numbered 0 ns)) are ∙ named_numbered vs vs 0 rows (λ j. ap (λ k. get_or vs k (Text [])) (same j))
    ∙ ap (map (counted_in rows)) (sym (some ∙ filter_agree (some_has signature_field rows) (λ v. ltb 0 (length (rows_with signature_field v rows))) (λ v. counted_has signature_field v rows) vs)))

-- one top more
pub listed_more : (f : ℕ × Ranked → Top) (ranking : List Ranked) (i : ℕ) (r : Ranked) (done now : List Top) (t : Top) → i < length ranking → get_or ranking i r ≡ r → t ≡ f (i + 1, r) → done ≡ map f (enumerate_from 1 (take i ranking)) → now ≡ done ++ t ∷ [] → now ≡ map f (enumerate_from 1 (take (i + 1) ranking))
listed_more f ranking i r done now t within here is so_far put =
    let at : 1 + length (take i ranking) ≡ i + 1 = omega (arith, length_taken ranking i within) in
    put ∙ ap (λ l. l ++ t ∷ []) so_far ∙ ap (λ u. map f (enumerate_from 1 (take i ranking)) ++ u ∷ []) (is ∙ ap (λ k. f (k, r)) (sym at))
    ∙ sym (map-append f (enumerate_from 1 (take i ranking)) ((1 + length (take i ranking), r) ∷ []))
    ∙ ap (map f) (sym (ap (enumerate_from 1) (take_more ranking i r within ∙ ap (λ q. take i ranking ++ q ∷ []) here) ∙ enumerate_push 1 (take i ranking) r))
  where
    length_taken : {X : Type 0} (xs : List X) (i : ℕ) → i < length xs → length (take i xs) ≡ i
    length_taken [] i h = absurd (omega arith)
    length_taken (x ∷ xs) zero h = refl
    length_taken (x ∷ xs) (suc i) h = ap suc (length_taken xs i (omega arith))

    enumerate_push : {X : Type 0} (n : ℕ) (xs : List X) (x : X) → enumerate_from n (xs ++ x ∷ []) ≡ enumerate_from n xs ++ (n + length xs, x) ∷ []
    enumerate_push n [] x = let same : n ≡ n + 0 = omega arith in ap (λ k. (k, x) ∷ []) same
    enumerate_push n (y ∷ ys) x =
        let same : (n + 1) + length ys ≡ n + suc (length ys) = omega arith in
        ap (λ l. (n, y) ∷ l) (enumerate_push (n + 1) ys x ∙ ap (λ k. enumerate_from (n + 1) ys ++ (k, x) ∷ []) same)

pub same_top : (s : List ℕ) (n k a b : ℕ) (c d : Option ℕ) → a ≡ b → c ≡ d → ◌≡◌ {A = Top} (record { signature = s; count = n; rank = k; old_count = a; old_rank = c }) (record { signature = s; count = n; rank = k; old_count = b; old_rank = d })
same_top s n k a b c d e h =
    let one : ◌≡◌ {A = Top} (record { signature = s; count = n; rank = k; old_count = a; old_rank = c }) (record { signature = s; count = n; rank = k; old_count = b; old_rank = c }) = ap (λ x. record { signature = s; count = n; rank = k; old_count = x; old_rank = c }) e in
    let two : ◌≡◌ {A = Top} (record { signature = s; count = n; rank = k; old_count = b; old_rank = c }) (record { signature = s; count = n; rank = k; old_count = b; old_rank = d }) = ap (λ x. record { signature = s; count = n; rank = k; old_count = b; old_rank = x }) h in
    one ∙ two

module _ (vs : List Value) (old : List (ℕ × List Cell)) (counts : List ℕ) (ranks : List (Option ℕ)) (each_count : (i : ℕ) → i < length vs → get_or counts i 0 ≡ length (rows_with signature_field (get_or vs i (Text [])) old))
    (each_rank : (i : ℕ) → i < length vs → get_or ranks i None ≡ rank_from 1 (get_or vs i (Text [])) (ranking_of old)) where
  same_listed : (n : ℕ) (ranking : List Ranked) → AreBelow (length vs) ranking → map (top_at vs counts ranks) (enumerate_from n ranking) ≡ map (top_of old) (enumerate_from n (map (named vs) ranking))
  same_listed n [] all = refl
  same_listed n (r ∷ rs) all =
      ap (λ t. t ∷ map (top_at vs counts ranks) (enumerate_from (n + 1) rs))
      (same_top (text_in (get_or vs r.index (Text []))) r.count n (get_or counts r.index 0) (length (rows_with signature_field (get_or vs r.index (Text [])) old)) (get_or ranks r.index None) (rank_from 1 (get_or vs r.index (Text [])) (ranking_of old)) (each_count r.index all.0) (each_rank r.index all.0))
      ∙ ap (λ l. top_of old (n, named vs r) ∷ l) (same_listed (n + 1) rs all.1)

-- the tops by index are those of the rows
pub tops_are : (vs : List Value) (new old : List (ℕ × List Cell)) (ranked old_ranked : List Ranked) (old_counts : List ℕ) (old_ranks : List (Option ℕ)) (limit : ℕ) → Rising (λ v. v) value_cmp vs
    → AreBelow (length vs) ranked → AreBelow (length vs) old_ranked → map (named vs) ranked ≡ ranking_of new → map (named vs) old_ranked ≡ ranking_of old
    → old_counts ≡ map (λ v. length (rows_with signature_field v old)) vs → ((i : ℕ) → get_or old_ranks i None ≡ index_rank 1 i old_ranked)
    → map (top_at vs old_counts old_ranks) (enumerate_from 1 (take limit ranked)) ≡ map (top_of old) (enumerate_from 1 (take limit (ranking_of new)))
tops_are vs new old ranked old_ranked old_counts old_ranks limit rise below old_below is old_is counts ranks =
    same_listed vs old old_counts old_ranks
    (λ i h. ap (λ l. get_or l i 0) counts ∙ get_or-map (λ v. length (rows_with signature_field v old)) vs i (Text []) 0 h)
    (λ i h. ranks i ∙ same_rank vs 1 i old_ranked rise h old_below ∙ ap (rank_from 1 (get_or vs i (Text []))) old_is)
    1 (take limit ranked) (take_each (λ r. r.index < length vs) limit ranked below)
    ∙ ap (λ l. map (top_of old) (enumerate_from 1 l)) (map_take (named vs) limit ranked ∙ ap (take limit) is)

-- a top with its parts
pub top_is : (vs : List Value) (counts : List ℕ) (ranks : List (Option ℕ)) (r : Ranked) (rank : ℕ) (v : Value) (s : List ℕ) (a : ℕ) (b : Option ℕ) → slice_get vs r.index ≡ Some v → s ≡ text_in v → a ≡ get_or counts r.index 0 → b ≡ get_or ranks r.index None
    → ◌≡◌ {A = Top} (record { signature = s; count = r.count; rank = rank; old_count = a; old_rank = b }) (top_at vs counts ranks (rank, r))
top_is vs counts ranks r rank v s a b at is old_count old_rank =
    let within : r.index < length vs = slice_get_within vs r.index v at in
    let here : get_or vs r.index (Text []) ≡ v = get_or_default vs r.index (Text []) v within ∙ same_some (sym (slice_get-get_or vs r.index v within) ∙ at) in
    let one : ◌≡◌ {A = Top} (record { signature = s; count = r.count; rank = rank; old_count = a; old_rank = b }) (record { signature = text_in (get_or vs r.index (Text [])); count = r.count; rank = rank; old_count = a; old_rank = b }) =
    ap (λ t. record { signature = t; count = r.count; rank = rank; old_count = a; old_rank = b }) (is ∙ ap text_in (sym here)) in
    one ∙ same_top (text_in (get_or vs r.index (Text []))) r.count rank a (get_or counts r.index 0) b (get_or ranks r.index None) old_count old_rank
  where
    same_some : {X : Type 0} {x y : X} → Some x ≡ Some y → x ≡ y
    same_some e = cc

pub same_tops : (n m : ℕ) (ts us : List Top) → n ≡ m → ts ≡ us → ◌≡◌ {A = Tops} (record { total = n; tops = ts }) (record { total = m; tops = us })
same_tops n m ts us e h =
    let one : ◌≡◌ {A = Tops} (record { total = n; tops = ts }) (record { total = m; tops = ts }) = ap (λ x. record { total = x; tops = ts }) e in
    let two : ◌≡◌ {A = Tops} (record { total = m; tops = ts }) (record { total = m; tops = us }) = ap (λ x. record { total = m; tops = x }) h in
    one ∙ two
