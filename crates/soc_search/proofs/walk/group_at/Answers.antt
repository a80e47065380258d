use Rattle.std.proofs.Common.{◌≡◌, ◌∙◌, ap, arith, map, filter}
use Rattle.std.specs.Prelude.{◌&&◌}
use Rattle.soc_search.specs.inner.Selections.{selected}
use Rattle.soc_search.specs.inner.Walks.{is_in_group}
use Rattle.soc_search.proofs.SelectionLemmas.{ok_map}
use Rattle.soc_search.proofs.WalkLemmas.{both_kept, keyless_group}
use Rattle.soc_search.proofs.walk.group_at.Goals as goal

pub returns-then-i-values : goal.returns-then-i-values
returns-then-i-values c =
    let set = selected c.args.set.now in
    let store = c.args.store.now in
    ok_map c.chosen_among.result (λ chosen. chosen.items ≡ filter set c.nth_places.result.now)
    (λ places. places.items ≡ map (λ s. s.0) (filter (λ s. set s.0 && is_in_group c.args.sort store c.args.i s.1) store))
    (λ chosen e. e ∙ ap (filter set) c.nth_places.ensures ∙ both_kept set (is_in_group c.args.sort store c.args.i) store) c.chosen_among.ensures

pub returns : goal.returns
returns c =
    let set = selected c.args.set.now in
    let store = c.args.store.now in
    ok_map c.chosen_among-2.result (λ chosen. chosen.items ≡ filter set c.as_slice.result.now)
    (λ places. places.items ≡ map (λ s. s.0) (filter (λ s. set s.0 && is_in_group c.args.sort store c.args.i s.1) store))
    (λ chosen e.
    e ∙ ap (filter set) (c.as_slice.ensures.value ∙ c.in_ok-places.ensures ∙ keyless_group c.args.sort store c.args.i (omega (arith, c.if-i-values.false, c.values.ensures.count)))
    ∙ both_kept set (is_in_group c.args.sort store c.args.i) store) c.chosen_among-2.ensures
