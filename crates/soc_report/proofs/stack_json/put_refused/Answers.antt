use Rattle.std.proofs.lemmas.Result.{on_ok_weaker}
use Rattle.soc_report.specs.StackText.{refused_json}
use Rattle.soc_report.proofs.JsonLemmas.{follows}
use Rattle.soc_report.proofs.stack_json.put_refused.Goals as goal

pub returns : goal.returns
unfolding refused_json
returns c =
    on_ok_weaker c.put-2.result
    (λ last. follows c.args.out.now.items _ _ c.in_ok-text_member.ensures
    (follows c.text_member.new.out.items _ _ c.in_ok-put.ensures
    (follows c.put.new.out.items _ _ c.in_ok-put_refusal.ensures last)))
    c.put-2.ensures
