use Rattle.std.proofs.Common.{ap, sym, ◌∙◌, ◌++◌}
use Rattle.std.specs.Prelude.{slice_get}
use Rattle.soc_schema.specs.Orders.{in_order}
use Rattle.soc_serve.specs.Storm.{term_lines}
use Rattle.soc_serve.specs.inner.Storm.{by_value}
use Rattle.soc_serve.proofs.Signatures.{signatures_found}
use Rattle.soc_serve.proofs.summary.push_signatures.Goals as goal

pub returns-clause-pushed : goal.returns-clause-pushed
returns-clause-pushed g c basis state rows told stands =
    let did = c.search.ensures.does basis state rows stands in
    let facet = c.in-Some.facet.now in
    c.in_ok-push_terms.ensures
    ∙ (ap (λ terms. c.args.text.now.items ++ term_lines (in_order by_value terms)) c.as_slice-2.ensures
    ∙ ap (λ terms. c.args.text.now.items ++ term_lines terms)
    (signatures_found basis state did.0 c.in_ok-query.query c.search.result c.in-Found.answer facet c.in_ok-query.ensures c.in-Found.is (did.2.step told)
    (ap (λ l. slice_get l 0) (sym c.as_slice.ensures) ∙ sym c.in-Some.ensures.value) (rw c.len.ensures at c.if-len-ge-TOO_MANY.false)))
