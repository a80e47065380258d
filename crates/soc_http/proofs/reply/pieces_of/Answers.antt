use Rattle.std.proofs.Common.{append_assoc, append-nil}
use Rattle.soc_http.proofs.reply.pieces_of.Goals as goal

pub returns : goal.returns
returns c = λ status body_length.
    rw (status, body_length, c.phrase_of-phrase.ensures, c.media_type-kind.ensures, c.policy_lines-policy.ensures, c.allow_line-allow.ensures, c.close_line-close.ensures, c.as_slice.ensures)
    (simp (append_assoc, append-nil))
