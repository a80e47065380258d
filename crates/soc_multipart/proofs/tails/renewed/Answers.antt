use Rattle.soc_multipart.proofs.TailLemmas.{begins_none_anew, ends_otherwise, ends_so, line_end_renews}
use Rattle.soc_multipart.proofs.tails.renewed.Goals as goal

pub returns-then-ends_in_line_end-clause-watches : goal.returns-then-ends_in_line_end-clause-watches
returns-then-ends_in_line_end-clause-watches c =
    line_end_renews c.args.tail.bytes.items c.args.tail.line
    (ends_so _ _ c.as_slice.ensures.value c.if-ends_in_line_end.ensures)

pub returns-clause-watches : goal.returns-clause-watches
returns-clause-watches c = λ b before h.
    begins_none_anew b before c.args.tail.bytes.items c.args.tail.line
    (ends_otherwise _ _ c.as_slice.ensures.value c.if-ends_in_line_end.ensures) h
