use Rattle.std.proofs.Common.{Bool, ◌≡◌, ◌∙◌, ap, sym, subst, arith, ℕ, List, length, map, take}
use Rattle.std.specs.Prelude.{◌&&◌}
use Rattle.std.proofs.lemmas.List.{length-map}
use Rattle.std.specs.List.{enumerate_from}
use Rattle.soc_schema.specs.declared.value.Value.{Value}
use Rattle.soc_schema.specs.declared.value.Cell.{Cell}
use Rattle.soc_schema.specs.Permits.{shows}
use Rattle.soc_schema.specs.Values.{product_of, rows_with, values_of}
use Rattle.soc_schema.specs.Fields.{signature_field}
use Rattle.soc_schema.specs.Orders.{in_order}
use Rattle.soc_tops.specs.Tops.{is_asked, ranking_of, rows_between, top_of}
use Rattle.soc_search.specs.inner.Ranks.{AreBelow, index_rank, numbered, top_at}
use Rattle.soc_search.proofs.RankLemmas.{by_count, first_below, ranking_below, ranking_is, same_tops, tops_are}
use Rattle.soc_search.proofs.tops.tops_of.Goals as goal

pub ranks-requires : goal.ranks-requires
ranks-requires g c =
    let q = c.args.query.now in
    let vs : List Value = values_of signature_field c.args.store.now in
    let count : Value → ℕ = λ v. length (rows_with signature_field v (rows_between q q.old_days c.args.store.now)) in
    let counts : c.in_ok-old_counts.old_counts.items ≡ map count vs = c.in_ok-old_counts.ensures (λ s. shows q.caller.products (product_of s.1) && is_asked q q.old_days s.1) (c.as_slice-3.ensures.value ∙ c.in_ok-found.ensures.old) in
    let ranking : c.in_ok-old_ranked.old_ranked.items ≡ in_order by_count (numbered 0 c.in_ok-old_counts.old_counts.items) = c.in_ok-old_ranked.ensures ∙ ap (λ ns. in_order by_count (numbered 0 ns)) c.as_slice-4.ensures.value in
    subst (λ n. AreBelow n c.as_slice-5.result.now) (sym c.values.ensures.count)
    (subst (AreBelow (length vs)) (sym c.as_slice-5.ensures.value) (ranking_below c.in_ok-old_counts.old_counts.items (length vs) c.in_ok-old_ranked.old_ranked.items ranking (ap length counts ∙ length-map vs count)))

pub listed-requires-clause-within : goal.listed-requires-clause-within
listed-requires-clause-within g c =
    let q = c.args.query.now in
    let vs : List Value = values_of signature_field c.args.store.now in
    let count : Value → ℕ = λ v. length (rows_with signature_field v (rows_between q q.days c.args.store.now)) in
    let counts : c.in_ok-counts.counts.items ≡ map count vs = c.in_ok-counts.ensures (λ s. shows q.caller.products (product_of s.1) && is_asked q q.days s.1) (c.as_slice.ensures.value ∙ c.in_ok-found.ensures.new) in
    let ranking : c.in_ok-ranked.ranked.items ≡ in_order by_count (numbered 0 c.in_ok-counts.counts.items) = c.in_ok-ranked.ensures ∙ ap (λ ns. in_order by_count (numbered 0 ns)) c.as_slice-2.ensures.value in
    subst (AreBelow (length vs)) (sym (c.first.ensures ∙ ap (take q.limit) c.as_slice-6.ensures.value))
    (first_below (length vs) q.limit c.in_ok-ranked.ranked.items (ranking_below c.in_ok-counts.counts.items (length vs) c.in_ok-ranked.ranked.items ranking (ap length counts ∙ length-map vs count)))

pub returns-clause-value : goal.returns-clause-value
returns-clause-value g c =
    let q = c.args.query.now in
    let store = c.args.store.now in
    let vs : List Value = values_of signature_field store in
    let new : List (ℕ × List Cell) = rows_between q q.days store in
    let old : List (ℕ × List Cell) = rows_between q q.old_days store in
    let test : ℕ × List Cell → Bool = λ s. shows q.caller.products (product_of s.1) && is_asked q q.days s.1 in
    let old_test : ℕ × List Cell → Bool = λ s. shows q.caller.products (product_of s.1) && is_asked q q.old_days s.1 in
    let counts : c.in_ok-counts.counts.items ≡ map (λ v. length (rows_with signature_field v new)) vs = c.in_ok-counts.ensures test (c.as_slice.ensures.value ∙ c.in_ok-found.ensures.new) in
    let ranking : c.in_ok-ranked.ranked.items ≡ in_order by_count (numbered 0 c.in_ok-counts.counts.items) = c.in_ok-ranked.ensures ∙ ap (λ ns. in_order by_count (numbered 0 ns)) c.as_slice-2.ensures.value in
    let old_counts : c.in_ok-old_counts.old_counts.items ≡ map (λ v. length (rows_with signature_field v old)) vs = c.in_ok-old_counts.ensures old_test (c.as_slice-3.ensures.value ∙ c.in_ok-found.ensures.old) in
    let old_ranking : c.in_ok-old_ranked.old_ranked.items ≡ in_order by_count (numbered 0 c.in_ok-old_counts.old_counts.items) = c.in_ok-old_ranked.ensures ∙ ap (λ ns. in_order by_count (numbered 0 ns)) c.as_slice-4.ensures.value in
    let below : AreBelow (length vs) c.in_ok-ranked.ranked.items = ranking_below c.in_ok-counts.counts.items (length vs) c.in_ok-ranked.ranked.items ranking (ap length counts ∙ length-map vs (λ v. length (rows_with signature_field v new))) in
    let old_below : AreBelow (length vs) c.in_ok-old_ranked.old_ranked.items = ranking_below c.in_ok-old_counts.old_counts.items (length vs) c.in_ok-old_ranked.old_ranked.items old_ranking (ap length old_counts ∙ length-map vs (λ v. length (rows_with signature_field v old))) in
    same_tops c.len.result (length new) c.in_ok-tops.tops (map (top_of old) (enumerate_from 1 (take q.limit (ranking_of new))))
    (let kept : length c.in_ok-found.found.places.items ≡ length new = ap length c.in_ok-found.ensures.new ∙ length-map new (λ s. s.0) in omega (arith, c.len.ensures, c.in_ok-found.found.places.ok.0, kept))
    (c.in_ok-tops.ensures
    ∙ ap (λ l. map (top_at vs l c.as_slice-8.result.now) (enumerate_from 1 c.first.result.now)) c.as_slice-7.ensures.value
    ∙ ap (λ l. map (top_at vs c.in_ok-old_counts.old_counts.items l) (enumerate_from 1 c.first.result.now)) c.as_slice-8.ensures.value
    ∙ ap (λ l. map (top_at vs c.in_ok-old_counts.old_counts.items c.in_ok-old_ranks.old_ranks.items) (enumerate_from 1 l)) (c.first.ensures ∙ ap (take q.limit) c.as_slice-6.ensures.value)
    ∙ tops_are vs new old c.in_ok-ranked.ranked.items c.in_ok-old_ranked.old_ranked.items c.in_ok-old_counts.old_counts.items c.in_ok-old_ranks.old_ranks.items q.limit c.values.ensures.rising below old_below
    (ranking_is vs new c.in_ok-counts.counts.items c.in_ok-ranked.ranked.items (c.values.ensures.of_some test) counts ranking)
    (ranking_is vs old c.in_ok-old_counts.old_counts.items c.in_ok-old_ranked.old_ranked.items (c.values.ensures.of_some old_test) old_counts old_ranking)
    old_counts
    (λ i. c.in_ok-old_ranks.ensures.each i ∙ ap (index_rank 1 i) c.as_slice-5.ensures.value))
