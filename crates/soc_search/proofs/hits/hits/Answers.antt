use Rattle.std.proofs.Common.{◌≡◌, ◌∙◌, ap, sym, arith, map, take, filter, length, ◌+◌, List, IfOk, subst}
use Rattle.std.proofs.lemmas.List.{length-map}
use denote.Ref.{Bor}
use Rattle.soc_schema.specs.declared.value.Cell.{Cell}
use Rattle.soc_schema.specs.Orders.{in_order}
use Rattle.soc_query.specs.Answers.{columns_of, row_order}
use Rattle.soc_search.specs.inner.Selections.{selected}
use Rattle.soc_search.proofs.HitLemmas.{none_wanted, wanted_part}
use Rattle.soc_search.proofs.SortLemmas.{order_length}
use Rattle.soc_search.proofs.hits.hits.Goals as goal

pub returns-then-wanted-eq0-clause-value : goal.returns-then-wanted-eq0-clause-value
returns-then-wanted-eq0-clause-value g c =
    let q = c.args.query.now in
    let chosen : List (List Cell) = map (λ s. s.1) (filter (λ s. selected c.args.found.now.set s.0) c.args.store.now) in
    let total : c.args.total ≡ length (in_order (row_order q.sorts) chosen) = c.requires.total ∙ sym (length-map (filter (λ s. selected c.args.found.now.set s.0) c.args.store.now) (λ s. s.1)) ∙ sym (order_length (row_order q.sorts) chosen) in
    c.new.ensures
    ∙ ap (map (columns_of q.columns))
    (none_wanted q.number q.offset c.args.total c.min-wanted.result (in_order (row_order q.sorts) chosen) total (omega (arith, c.min-wanted.ensures, c.number.ensures, c.saturating_sub-left.ensures, c.offset.ensures)) c.if-wanted-eq0.true)

pub returns-then-total-gt-FEW-clause-value : goal.returns-then-total-gt-FEW-clause-value
returns-then-total-gt-FEW-clause-value g c =
    let q = c.args.query.now in
    let seen : Bor (List Cell) → List Cell = λ row. row.now in
    let chosen : List (List Cell) = map (λ s. s.1) (filter (λ s. selected c.args.found.now.set s.0) c.args.store.now) in
    let sorted : List (List Cell) = in_order (row_order q.sorts) chosen in
    let wanted = c.min-wanted.result in
    let total : c.args.total ≡ length sorted = c.requires.total ∙ sym (length-map (filter (λ s. selected c.args.found.now.set s.0) c.args.store.now) (λ s. s.1)) ∙ sym (order_length (row_order q.sorts) chosen) in
    let first : take (q.offset + wanted) (map seen c.as_slice.result.now) ≡ take (q.offset + wanted) sorted =
    ap (λ l. take (q.offset + wanted) (map seen l)) c.as_slice.ensures.value
    ∙ subst (λ n. take n (map seen c.in_ok-rows.rows.items) ≡ take n sorted) (omega (arith, c.offset-then-total-gt-FEW.ensures)) (c.in_ok-rows.ensures.rows ∙ ap (λ ss. take (c.offset-then-total-gt-FEW.result + wanted) (in_order (row_order ss) chosen)) c.sorts.ensures) in
    subst (λ l. IfOk c.copied.result (λ hits. hits ≡ map (columns_of q.columns) l))
    (wanted_part q.number q.offset c.args.total wanted (map seen c.as_slice.result.now) sorted total (omega (arith, c.min-wanted.ensures, c.number.ensures, c.saturating_sub-left.ensures, c.offset.ensures)) first) c.copied.ensures

pub returns-clause-value : goal.returns-clause-value
returns-clause-value g c =
    let q = c.args.query.now in
    let seen : Bor (List Cell) → List Cell = λ row. row.now in
    let chosen : List (List Cell) = map (λ s. s.1) (filter (λ s. selected c.args.found.now.set s.0) c.args.store.now) in
    let sorted : List (List Cell) = in_order (row_order q.sorts) chosen in
    let wanted = c.min-wanted.result in
    let total : c.args.total ≡ length sorted = c.requires.total ∙ sym (length-map (filter (λ s. selected c.args.found.now.set s.0) c.args.store.now) (λ s. s.1)) ∙ sym (order_length (row_order q.sorts) chosen) in
    let first : map seen c.as_slice-2.result.now ≡ sorted =
    ap (map seen) c.as_slice-2.ensures.value ∙ c.in_ok-rows-2.ensures.rows ∙ ap (λ ss. in_order (row_order ss) chosen) c.sorts-2.ensures in
    subst (λ l. IfOk c.copied-2.result (λ hits. hits ≡ map (columns_of q.columns) l))
    (wanted_part q.number q.offset c.args.total wanted (map seen c.as_slice-2.result.now) sorted total (omega (arith, c.min-wanted.ensures, c.number.ensures, c.saturating_sub-left.ensures, c.offset.ensures)) (ap (take (q.offset + wanted)) first)) c.copied-2.ensures
