use Rattle.std.proofs.Common.{drop}
use Rattle.soc_multipart.specs.Heads.{head_limit}
use Rattle.soc_multipart.proofs.HeadLemmas.{lines_front, tail_is, window_fits, head_end_is}
use Rattle.soc_multipart.proofs.heads.head_lines.Goals as goal

pub overflow_sub-window : goal.overflow_sub-window
overflow_sub-window c = (window_fits c.args.piece.now _ _ _ c.first_bytes-window.ensures c.in_ok-lines.ensures.0).0

pub head_end-requires : goal.head_end-requires
head_end-requires c = (
  drop head_limit c.args.piece.now,
  tail_is c.args.piece.now _ _ _ _ c.first_bytes-window.ensures (lines_front _ _ _ c.in_ok-lines.ensures.0).1 c.after-tail.ensures,
)

pub returns : goal.returns
returns c =
    head_end_is c.args.piece.now _ _ _ _ _ c.first_bytes-window.ensures c.in_ok-lines.ensures.0 c.in_ok-lines.ensures.1
    (tail_is c.args.piece.now _ _ _ _ c.first_bytes-window.ensures (lines_front _ _ _ c.in_ok-lines.ensures.0).1 c.after-tail.ensures)
    c.head_end.ensures
