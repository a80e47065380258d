use Rattle.std.proofs.Common.{◌∙◌, ap, map, length, arith}
use Rattle.std.specs.Prelude.{◌&&◌}
use Rattle.soc_query.specs.Answers.{facet_of, hits_of, matching_rows, meets}
use Rattle.soc_schema.specs.Values.{sees}
use Rattle.soc_search.specs.inner.Selections.{selected}
use Rattle.soc_search.proofs.AnswerLemmas.{same_answer, selected_rows}
use Rattle.soc_search.proofs.answering.answer_of.Goals as goal

pub returns-in_err-hits-clause-few : goal.returns-in_err-hits-clause-few
returns-in_err-hits-clause-few g c =
    let q = c.args.query.now in
    let rows = selected_rows (selected c.in_ok-found.found.set) (λ row. sees q.caller row && meets q.conditions row) c.args.store.now c.in_ok-found.ensures.0 in
    omega (arith, c.hits.ensures.few, ap length rows)

pub returns-in_err-facets-clause-few : goal.returns-in_err-facets-clause-few
returns-in_err-facets-clause-few g c =
    let q = c.args.query.now in
    let rows = selected_rows (selected c.in_ok-found.found.set) (λ row. sees q.caller row && meets q.conditions row) c.args.store.now c.in_ok-found.ensures.0 in
    omega (arith, c.hits.ensures.few, ap length rows)

pub returns-in_err-from_slice-clause-few : goal.returns-in_err-from_slice-clause-few
returns-in_err-from_slice-clause-few g c =
    let q = c.args.query.now in
    let rows = selected_rows (selected c.in_ok-found.found.set) (λ row. sees q.caller row && meets q.conditions row) c.args.store.now c.in_ok-found.ensures.0 in
    omega (arith, c.hits.ensures.few, ap length rows)

pub returns-clause-value : goal.returns-clause-value
returns-clause-value g c =
    let q = c.args.query.now in
    let store = c.args.store.now in
    let rows = selected_rows (selected c.in_ok-found.found.set) (λ row. sees q.caller row && meets q.conditions row) store c.in_ok-found.ensures.0 in
    same_answer c.selected_count-total.result (length (matching_rows q store)) c.from-columns.result q.columns c.in_ok-hits.hits (hits_of q (matching_rows q store)) c.in_ok-facets.facets (map (facet_of q.facet_size (matching_rows q store)) q.facets)
    (c.selected_count-total.ensures ∙ ap length rows)
    (c.from-columns.ensures ∙ c.in_ok-from_slice.ensures.items ∙ c.columns.ensures)
    (c.in_ok-hits.ensures.value ∙ ap (hits_of q) rows)
    (c.in_ok-facets.ensures ∙ ap (λ rs. map (facet_of q.facet_size rs) q.facets) rows)

pub returns-clause-few : goal.returns-clause-few
returns-clause-few g c =
    let q = c.args.query.now in
    let rows = selected_rows (selected c.in_ok-found.found.set) (λ row. sees q.caller row && meets q.conditions row) c.args.store.now c.in_ok-found.ensures.0 in
    omega (arith, c.hits.ensures.few, ap length rows)

pub selected_count-total-requires : goal.selected_count-total-requires
selected_count-total-requires g c = c.in_ok-found.ensures.1

pub hits-requires-clause-listed : goal.hits-requires-clause-listed
hits-requires-clause-listed g c = c.in_ok-found.ensures.1

pub returns-in_err-hits-clause-past : goal.returns-in_err-hits-clause-past
returns-in_err-hits-clause-past g c =
    λ few.
    let q = c.args.query.now in
    let rows = selected_rows (selected c.in_ok-found.found.set) (λ row. sees q.caller row && meets q.conditions row) c.args.store.now c.in_ok-found.ensures.0 in
    c.hits.ensures.past (omega (arith, few, c.selected_count-total.ensures, ap length rows))

pub returns-in_err-facets-clause-past : goal.returns-in_err-facets-clause-past
returns-in_err-facets-clause-past g c =
    λ few.
    let q = c.args.query.now in
    let rows = selected_rows (selected c.in_ok-found.found.set) (λ row. sees q.caller row && meets q.conditions row) c.args.store.now c.in_ok-found.ensures.0 in
    c.hits.ensures.past (omega (arith, few, c.selected_count-total.ensures, ap length rows))

pub returns-in_err-from_slice-clause-past : goal.returns-in_err-from_slice-clause-past
returns-in_err-from_slice-clause-past g c =
    λ few.
    let q = c.args.query.now in
    let rows = selected_rows (selected c.in_ok-found.found.set) (λ row. sees q.caller row && meets q.conditions row) c.args.store.now c.in_ok-found.ensures.0 in
    c.hits.ensures.past (omega (arith, few, c.selected_count-total.ensures, ap length rows))

pub returns-clause-past : goal.returns-clause-past
returns-clause-past g c =
    λ few.
    let q = c.args.query.now in
    let rows = selected_rows (selected c.in_ok-found.found.set) (λ row. sees q.caller row && meets q.conditions row) c.args.store.now c.in_ok-found.ensures.0 in
    c.hits.ensures.past (omega (arith, few, c.selected_count-total.ensures, ap length rows))
