use Rattle.std.proofs.Common.{◌≡◌, length, rules}
use Rattle.soc_multipart.proofs.TailLemmas.{begins_none, ends_otherwise, ends_so, line_end_begins}
use Rattle.soc_multipart.proofs.tails.moved_on.Goals as goal

pub returns-then-not-ends_in_line_end-clause-watches : goal.returns-then-not-ends_in_line_end-clause-watches
returns-then-not-ends_in_line_end-clause-watches c = λ b before h.
    begins_none b before c.args.tail.bytes.items c.args.tail.line
    (ends_otherwise _ _ c.as_slice.ensures.value c.if-not-ends_in_line_end.ensures) h

pub returns-clause-watches : goal.returns-clause-watches
returns-clause-watches c =
    let count : c.len.result ≡ length c.args.tail.bytes.items = search rules in
    line_end_begins c.args.tail.bytes.items _ c.args.tail.line
    (ends_so _ _ c.as_slice.ensures.value c.if-not-ends_in_line_end.ensures) count
