use Rattle.std.proofs.Common.{◌≡◌, ◌+◌, ◌∙◌, ℕ, Bool, List, ap, arith, map, filter, take, length, ◌++◌}
use Rattle.std.specs.Prelude.{◌&&◌}
use Rattle.std.proofs.lemmas.List.{length-map, map-append}
use denote.Ref.{Bor}
use Rattle.soc_schema.specs.declared.value.Cell.{Cell}
use Rattle.soc_schema.specs.Orders.{in_order}
use Rattle.soc_query.specs.Answers.{row_order}
use Rattle.soc_search.specs.inner.Places.{has}
use Rattle.soc_search.specs.inner.Selections.{selected}
use Rattle.soc_search.specs.inner.Walks.{is_in_group}
use Rattle.soc_search.proofs.SelectionLemmas.{inn}
use Rattle.soc_search.proofs.WalkLemmas.{filled_all, filled_enough, filled_more, rows_placed, steps_all, steps_more}
use Rattle.soc_search.proofs.walk.+add_rows.Goals as goal
use Rattle.soc_search.proofs.walk.+add_rows.Goals.{then-len-gt-FEW+then-not-is_empty+in_ok-of+in_ok-add_rows, else-len-gt-FEW+in_ok-group+in_ok-append}

pub returns-then-len-goal-clause-rows : goal.returns-then-len-goal-clause-rows
returns-then-len-goal-clause-rows g t c =
    let seen : Bor (List Cell) → List Cell = λ row. row.now in
    filled_enough c.args.sorts.now c.args.store.now (selected c.args.set.now) c.first_sort-sort.result c.first_sort-sort.ensures c.values-i-end.ensures.rising c.values-i-end.ensures.each c.args.goal c.loop-i.i (map seen c.args.rows.now.items) (map seen c.loop-i.rows.items)
    (omega (arith, c.if-len-goal.true, c.len.ensures, c.loop-i.rows.ok.0, length-map c.loop-i.rows.items seen)) c.loop-i.invariant.0

pub returns-then-len-goal-clause-few : goal.returns-then-len-goal-clause-few
returns-then-len-goal-clause-few g t c =
    steps_all c.args.sorts.now c.args.store.now (selected c.args.set.now) c.first_sort-sort.result c.first_sort-sort.ensures c.values-i-end.ensures.rising c.values-i-end.ensures.each c.loop-i.i c.args.steps.now c.loop-i.steps c.loop-i.invariant.1

pub returns-in_err-places-clause-few : goal.returns-in_err-places-clause-few
returns-in_err-places-clause-few g t c =
    steps_all c.args.sorts.now c.args.store.now (selected c.args.set.now) c.first_sort-sort.result c.first_sort-sort.ensures c.values-i-end.ensures.rising c.values-i-end.ensures.each c.loop-i.i c.args.steps.now c.loop-i.steps c.loop-i.invariant.1

pub returns-in_err-of-clause-few : goal.returns-in_err-of-clause-few
returns-in_err-of-clause-few g t c =
    steps_all c.args.sorts.now c.args.store.now (selected c.args.set.now) c.first_sort-sort.result c.first_sort-sort.ensures c.values-i-end.ensures.rising c.values-i-end.ensures.each c.loop-i.i c.args.steps.now c.loop-i.steps c.loop-i.invariant.1

pub returns-in_err-add_rows-clause-few : goal.returns-in_err-add_rows-clause-few
returns-in_err-add_rows-clause-few g t c =
    let group : ℕ → Bool = has c.in_ok-of.field-0 in
    let rows = rows_placed group (λ s. selected c.args.set.now s.0 && is_in_group c.first_sort-sort.result c.args.store.now c.loop-i.i s.1) c.args.store.now c.in_ok-places.places.items c.places_rise.ensures.rise c.in_ok-places.ensures (λ p. c.in_ok-of.ensures p ∙ ap (inn p) c.as_slice.ensures.value) in
    steps_all c.args.sorts.now c.args.store.now (selected c.args.set.now) c.first_sort-sort.result c.first_sort-sort.ensures c.values-i-end.ensures.rising c.values-i-end.ensures.each (c.loop-i.i + 1) c.args.steps.now c.add_rows.new.steps
    (steps_more c.args.sorts.now c.args.store.now (selected c.args.set.now) c.first_sort-sort.result c.first_sort-sort.ensures c.values-i-end.ensures.rising c.values-i-end.ensures.each c.loop-i.i c.args.steps.now c.loop-i.steps c.add_rows.new.steps (length (filter (λ s. group s.0) c.args.store.now)) (omega (arith, c.loop-i-test.true, c.values-i-end.ensures.count)) c.loop-i.invariant.1 c.add_rows.ensures.few (ap length rows))

pub returns-in_err-group-clause-few : goal.returns-in_err-group-clause-few
returns-in_err-group-clause-few g t c =
    let count = ap length (c.as_slice-else-len-gt-FEW.ensures.value ∙ c.in_ok-places.ensures) ∙ length-map (filter (λ s. selected c.args.set.now s.0 && is_in_group c.first_sort-sort.result c.args.store.now c.loop-i.i s.1) c.args.store.now) (λ s. s.0) in
    steps_all c.args.sorts.now c.args.store.now (selected c.args.set.now) c.first_sort-sort.result c.first_sort-sort.ensures c.values-i-end.ensures.rising c.values-i-end.ensures.each (c.loop-i.i + 1) c.args.steps.now c.sorted_rows.new.steps
    (steps_more c.args.sorts.now c.args.store.now (selected c.args.set.now) c.first_sort-sort.result c.first_sort-sort.ensures c.values-i-end.ensures.rising c.values-i-end.ensures.each c.loop-i.i c.args.steps.now c.loop-i.steps c.sorted_rows.new.steps (length c.as_slice-else-len-gt-FEW.result.now) (omega (arith, c.loop-i-test.true, c.values-i-end.ensures.count)) c.loop-i.invariant.1 c.sorted_rows.ensures.few count)

pub returns-in_err-append-clause-few : goal.returns-in_err-append-clause-few
returns-in_err-append-clause-few g t c =
    let count = ap length (c.as_slice-else-len-gt-FEW.ensures.value ∙ c.in_ok-places.ensures) ∙ length-map (filter (λ s. selected c.args.set.now s.0 && is_in_group c.first_sort-sort.result c.args.store.now c.loop-i.i s.1) c.args.store.now) (λ s. s.0) in
    steps_all c.args.sorts.now c.args.store.now (selected c.args.set.now) c.first_sort-sort.result c.first_sort-sort.ensures c.values-i-end.ensures.rising c.values-i-end.ensures.each (c.loop-i.i + 1) c.args.steps.now c.sorted_rows.new.steps
    (steps_more c.args.sorts.now c.args.store.now (selected c.args.set.now) c.first_sort-sort.result c.first_sort-sort.ensures c.values-i-end.ensures.rising c.values-i-end.ensures.each c.loop-i.i c.args.steps.now c.loop-i.steps c.sorted_rows.new.steps (length c.as_slice-else-len-gt-FEW.result.now) (omega (arith, c.loop-i-test.true, c.values-i-end.ensures.count)) c.loop-i.invariant.1 c.sorted_rows.ensures.few count)

pub loop-i-preserved : goal.loop-i-preserved
loop-i-preserved g t c =
    let seen : Bor (List Cell) → List Cell = λ row. row.now in
    let store = c.args.store.now in
    let test : ℕ × List Cell → Bool = (λ s. selected c.args.set.now s.0 && is_in_group c.first_sort-sort.result c.args.store.now c.loop-i.i s.1) in
    let old : List (List Cell) = map seen c.args.rows.now.items in
    let now : List (List Cell) = map seen c.loop-i.rows.items in
    let next : List (List Cell) = map seen c.if-len-gt-FEW.rows.items in
    let others = c.other_sorts-others.result.now in
    elim c.if-len-gt-FEW.branch [
      | then-len-gt-FEW+then-not-is_empty+in_ok-of+in_ok-add_rows w ↦
          let group : ℕ → Bool = has w.in_ok-of.field-0 in
          let rows : filter (λ s. group s.0) store ≡ filter test store = rows_placed group test store c.in_ok-places.places.items c.places_rise.ensures.rise c.in_ok-places.ensures (λ p. w.in_ok-of.ensures p ∙ ap (inn p) w.as_slice.ensures.value) in (
            filled_more c.args.sorts.now c.args.store.now (selected c.args.set.now) c.first_sort-sort.result c.first_sort-sort.ensures c.values-i-end.ensures.rising c.values-i-end.ensures.each c.args.goal c.loop-i.i old now next others (omega (arith, c.loop-i-test.true, c.values-i-end.ensures.count)) c.other_sorts-others.ensures c.loop-i.invariant.0
                (ap (λ v. take c.args.goal (map seen v.items)) w.rows-is ∙ w.in_ok-add_rows.ensures.rows ∙ ap (λ ss. take c.args.goal (now ++ in_order (row_order others) (map (λ s. s.1) ss))) rows),
            steps_more c.args.sorts.now c.args.store.now (selected c.args.set.now) c.first_sort-sort.result c.first_sort-sort.ensures c.values-i-end.ensures.rising c.values-i-end.ensures.each c.loop-i.i c.args.steps.now c.loop-i.steps c.if-len-gt-FEW.steps (length (filter (λ s. group s.0) store)) (omega (arith, c.loop-i-test.true, c.values-i-end.ensures.count)) c.loop-i.invariant.1 (omega (arith, w.steps-is, w.add_rows.ensures.few)) (ap length rows),
          )
      | else-len-gt-FEW+in_ok-group+in_ok-append w ↦
          let are = w.as_slice-else-len-gt-FEW.ensures.value ∙ c.in_ok-places.ensures in
          let sorted : map seen w.in_ok-group.group.items ≡ in_order (row_order others) (map (λ s. s.1) (filter test store)) = w.in_ok-group.ensures.rows test are in (
            filled_more c.args.sorts.now c.args.store.now (selected c.args.set.now) c.first_sort-sort.result c.first_sort-sort.ensures c.values-i-end.ensures.rising c.values-i-end.ensures.each c.args.goal c.loop-i.i old now next others (omega (arith, c.loop-i-test.true, c.values-i-end.ensures.count)) c.other_sorts-others.ensures c.loop-i.invariant.0
                (ap (λ v. take c.args.goal (map seen v.items)) w.rows-is
                ∙ ap (take c.args.goal) (ap (map seen) w.in_ok-append.ensures.items ∙ map-append seen c.loop-i.rows.items w.in_ok-group.group.items ∙ ap (λ l. now ++ l) sorted)),
            steps_more c.args.sorts.now c.args.store.now (selected c.args.set.now) c.first_sort-sort.result c.first_sort-sort.ensures c.values-i-end.ensures.rising c.values-i-end.ensures.each c.loop-i.i c.args.steps.now c.loop-i.steps c.if-len-gt-FEW.steps (length w.as_slice-else-len-gt-FEW.result.now) (omega (arith, c.loop-i-test.true, c.values-i-end.ensures.count)) c.loop-i.invariant.1 (omega (arith, w.steps-is, w.sorted_rows.ensures.few))
                (ap length are ∙ length-map (filter test store) (λ s. s.0)),
          )
    ]

pub returns-after-len-gt-FEW-clause-rows : goal.returns-after-len-gt-FEW-clause-rows
returns-after-len-gt-FEW-clause-rows g t c =
    let seen : Bor (List Cell) → List Cell = λ row. row.now in
    let store = c.args.store.now in
    let test : ℕ × List Cell → Bool = (λ s. selected c.args.set.now s.0 && is_in_group c.first_sort-sort.result c.args.store.now c.loop-i.i s.1) in
    let old : List (List Cell) = map seen c.args.rows.now.items in
    let now : List (List Cell) = map seen c.loop-i.rows.items in
    let next : List (List Cell) = map seen c.if-len-gt-FEW.rows.items in
    let others = c.other_sorts-others.result.now in
    elim c.if-len-gt-FEW.branch [
      | then-len-gt-FEW+then-not-is_empty+in_ok-of+in_ok-add_rows w ↦
          let group : ℕ → Bool = has w.in_ok-of.field-0 in
          let rows : filter (λ s. group s.0) store ≡ filter test store = rows_placed group test store c.in_ok-places.places.items c.places_rise.ensures.rise c.in_ok-places.ensures (λ p. w.in_ok-of.ensures p ∙ ap (inn p) w.as_slice.ensures.value) in
          filled_all c.args.sorts.now c.args.store.now (selected c.args.set.now) c.first_sort-sort.result c.first_sort-sort.ensures c.values-i-end.ensures.rising c.values-i-end.ensures.each c.args.goal (c.loop-i.i + 1) old next (omega (arith, c.values-i-end.ensures.count))
          (filled_more c.args.sorts.now c.args.store.now (selected c.args.set.now) c.first_sort-sort.result c.first_sort-sort.ensures c.values-i-end.ensures.rising c.values-i-end.ensures.each c.args.goal c.loop-i.i old now next others (omega (arith, c.loop-i-test.true, c.values-i-end.ensures.count)) c.other_sorts-others.ensures c.loop-i.invariant.0
          (ap (λ v. take c.args.goal (map seen v.items)) w.rows-is ∙ w.in_ok-add_rows.ensures.rows ∙ ap (λ ss. take c.args.goal (now ++ in_order (row_order others) (map (λ s. s.1) ss))) rows))
      | else-len-gt-FEW+in_ok-group+in_ok-append w ↦
          let are = w.as_slice-else-len-gt-FEW.ensures.value ∙ c.in_ok-places.ensures in
          let sorted : map seen w.in_ok-group.group.items ≡ in_order (row_order others) (map (λ s. s.1) (filter test store)) = w.in_ok-group.ensures.rows test are in
          filled_all c.args.sorts.now c.args.store.now (selected c.args.set.now) c.first_sort-sort.result c.first_sort-sort.ensures c.values-i-end.ensures.rising c.values-i-end.ensures.each c.args.goal (c.loop-i.i + 1) old next (omega (arith, c.values-i-end.ensures.count))
          (filled_more c.args.sorts.now c.args.store.now (selected c.args.set.now) c.first_sort-sort.result c.first_sort-sort.ensures c.values-i-end.ensures.rising c.values-i-end.ensures.each c.args.goal c.loop-i.i old now next others (omega (arith, c.loop-i-test.true, c.values-i-end.ensures.count)) c.other_sorts-others.ensures c.loop-i.invariant.0
          (ap (λ v. take c.args.goal (map seen v.items)) w.rows-is
          ∙ ap (take c.args.goal) (ap (map seen) w.in_ok-append.ensures.items ∙ map-append seen c.loop-i.rows.items w.in_ok-group.group.items ∙ ap (λ l. now ++ l) sorted)))
    ]

pub returns-after-len-gt-FEW-clause-few : goal.returns-after-len-gt-FEW-clause-few
returns-after-len-gt-FEW-clause-few g t c =
    let seen : Bor (List Cell) → List Cell = λ row. row.now in
    let store = c.args.store.now in
    let test : ℕ × List Cell → Bool = (λ s. selected c.args.set.now s.0 && is_in_group c.first_sort-sort.result c.args.store.now c.loop-i.i s.1) in
    let old : List (List Cell) = map seen c.args.rows.now.items in
    let now : List (List Cell) = map seen c.loop-i.rows.items in
    let next : List (List Cell) = map seen c.if-len-gt-FEW.rows.items in
    let others = c.other_sorts-others.result.now in
    elim c.if-len-gt-FEW.branch [
      | then-len-gt-FEW+then-not-is_empty+in_ok-of+in_ok-add_rows w ↦
          let group : ℕ → Bool = has w.in_ok-of.field-0 in
          let rows : filter (λ s. group s.0) store ≡ filter test store = rows_placed group test store c.in_ok-places.places.items c.places_rise.ensures.rise c.in_ok-places.ensures (λ p. w.in_ok-of.ensures p ∙ ap (inn p) w.as_slice.ensures.value) in
          steps_all c.args.sorts.now c.args.store.now (selected c.args.set.now) c.first_sort-sort.result c.first_sort-sort.ensures c.values-i-end.ensures.rising c.values-i-end.ensures.each (c.loop-i.i + 1) c.args.steps.now c.if-len-gt-FEW.steps
          (steps_more c.args.sorts.now c.args.store.now (selected c.args.set.now) c.first_sort-sort.result c.first_sort-sort.ensures c.values-i-end.ensures.rising c.values-i-end.ensures.each c.loop-i.i c.args.steps.now c.loop-i.steps c.if-len-gt-FEW.steps (length (filter (λ s. group s.0) store)) (omega (arith, c.loop-i-test.true, c.values-i-end.ensures.count)) c.loop-i.invariant.1 (omega (arith, w.steps-is, w.add_rows.ensures.few)) (ap length rows))
      | else-len-gt-FEW+in_ok-group+in_ok-append w ↦
          let are = w.as_slice-else-len-gt-FEW.ensures.value ∙ c.in_ok-places.ensures in
          let sorted : map seen w.in_ok-group.group.items ≡ in_order (row_order others) (map (λ s. s.1) (filter test store)) = w.in_ok-group.ensures.rows test are in
          steps_all c.args.sorts.now c.args.store.now (selected c.args.set.now) c.first_sort-sort.result c.first_sort-sort.ensures c.values-i-end.ensures.rising c.values-i-end.ensures.each (c.loop-i.i + 1) c.args.steps.now c.if-len-gt-FEW.steps
          (steps_more c.args.sorts.now c.args.store.now (selected c.args.set.now) c.first_sort-sort.result c.first_sort-sort.ensures c.values-i-end.ensures.rising c.values-i-end.ensures.each c.loop-i.i c.args.steps.now c.loop-i.steps c.if-len-gt-FEW.steps (length w.as_slice-else-len-gt-FEW.result.now) (omega (arith, c.loop-i-test.true, c.values-i-end.ensures.count)) c.loop-i.invariant.1 (omega (arith, w.steps-is, w.sorted_rows.ensures.few))
          (ap length are ∙ length-map (filter test store) (λ s. s.0)))
    ]

pub returns-clause-rows : goal.returns-clause-rows
returns-clause-rows g t c =
    let seen : Bor (List Cell) → List Cell = λ row. row.now in
    filled_all c.args.sorts.now c.args.store.now (selected c.args.set.now) c.first_sort-sort.result c.first_sort-sort.ensures c.values-i-end.ensures.rising c.values-i-end.ensures.each c.args.goal c.loop-i.i (map seen c.args.rows.now.items) (map seen c.loop-i.rows.items) (omega (arith, c.loop-i-test.false, c.values-i-end.ensures.count)) c.loop-i.invariant.0

pub returns-clause-few : goal.returns-clause-few
returns-clause-few g t c =
    steps_all c.args.sorts.now c.args.store.now (selected c.args.set.now) c.first_sort-sort.result c.first_sort-sort.ensures c.values-i-end.ensures.rising c.values-i-end.ensures.each c.loop-i.i c.args.steps.now c.loop-i.steps c.loop-i.invariant.1
