use Rattle.std.proofs.Common.{◌≡◌, length, rules}
use Rattle.soc_multipart.proofs.SectionLemmas.{bad_head_so, good_head_so}
use Rattle.soc_multipart.proofs.sections.judge_head.Goals as goal

pub returns-in-Bad-clause-refused : goal.returns-in-Bad-clause-refused
returns-in-Bad-clause-refused c = λ b fed h.
    let count : c.len.result ≡ length c.args.state.parts.items = search rules in
    bad_head_so b fed c.args.state _ c.len.result c.bad_part.result c.if-not-is_in_head.ensures c.in_ok-judge.ensures c.in-Bad.is count c.bad_part.ensures h

pub returns-in-Good-clause-found : goal.returns-in-Good-clause-found
returns-in-Good-clause-found c = λ b fed h.
    good_head_so b fed c.args.state c.in_content.result _ c.in-Good.good c.if-not-is_in_head.ensures c.in_ok-judge.ensures c.in-Good.is c.in_content.ensures h
