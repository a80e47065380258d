use Rattle.soc_multipart.specs.Delimiters.{mark_of}
use Rattle.soc_multipart.proofs.SectionLemmas.{if_ok_weaker, judged_lines, too_long_so}
use Rattle.soc_multipart.proofs.sections.judge.Goals as goal

pub returns-then-bad : goal.returns-then-bad
returns-then-bad c = λ b w.
    too_long_so b c.args.tail.now.bytes.items _ _ c.decided_len-decided.result c.as_slice-bytes.ensures.value c.before-front.ensures
    c.decided_len-decided.ensures.inside (c.decided_len-decided.ensures.clear (mark_of b) w) (c.in_ok-bad.ensures c.if-bad.true)

pub returns : goal.returns
returns c = λ b w.
    let f = c.ends_in_empty_line.ensures c.if-not-ends_in_empty_line.false in
    if_ok_weaker c.judge_lines.result _ _
    (judged_lines b c.args.tail.now.bytes.items c.as_slice-bytes.result.now f.0 c.args.tail.now.line c.as_slice-bytes.ensures.value f.1 w)
    (c.judge_lines.ensures f.0 f.1)
