use Rattle.std.proofs.Common.{sym, ◌∙◌}
use Rattle.std.proofs.lemmas.Result.{err_from_is_err_and}
use Rattle.soc_dump.proofs.DirectoryLemmas.{entry_unused, entry_refused, entry_kept}
use Rattle.soc_dump.proofs.directory.read_streams.Goals as goal
use Rattle.soc_dump.proofs.directory.read_streams.Goals.{then-is_used_stream+in_ok-check_stream+in_ok-push, else-is_used_stream}

pub returns-in_err-check_stream : goal.returns-in_err-check_stream
returns-in_err-check_stream c =
    let used = sym c.is_used_stream.ensures ∙ c.if-is_used_stream.true in
    let found = rw c.as_slice.ensures.value at c.in_err-check_stream.ensures in
    let refused = entry_refused _ _ c.loop-index.streams.items c.args.directory.place c.args.directory.count c.loop-index.index c.loop-index-test.true c.loop-index.invariant c.read_stream-stream.result c.read_stream-stream.ensures used c.in_err-check_stream.field-0.0 found in
    let p = err_from_is_err_and c.from_residual.result c.from_residual.ensures.1 in rw (p.1, p.2) refused

pub loop-index-preserved : goal.loop-index-preserved
loop-index-preserved c = elim c.if-is_used_stream.branch [
  | then-is_used_stream+in_ok-check_stream+in_ok-push w ↦
      let kept = w.in_ok-push.ensures.items in
      let used = sym c.is_used_stream.ensures ∙ w.if-is_used_stream.true in
      let found = rw w.as_slice.ensures.value at w.in_ok-check_stream.ensures in
      rw (w.streams-is, kept) (entry_kept _ _ _ c.args.directory.place c.args.directory.count c.loop-index.index c.loop-index-test.true c.loop-index.invariant c.read_stream-stream.result c.read_stream-stream.ensures used found)
  | else-is_used_stream w ↦ rw w.streams-is (entry_unused _ _ _ c.args.directory.place c.args.directory.count c.loop-index.index c.loop-index-test.true c.loop-index.invariant c.read_stream-stream.result c.read_stream-stream.ensures (sym c.is_used_stream.ensures ∙ w.if-is_used_stream.false))
]
