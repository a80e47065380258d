use Rattle.std.proofs.lemmas.Result.{on_ok_weaker}
use Rattle.soc_report.specs.StackText.{named_json}
use Rattle.soc_report.proofs.JsonLemmas.{follows}
use Rattle.soc_report.proofs.module_json.put_named.Goals as goal

pub returns : goal.returns
unfolding named_json
returns c =
    on_ok_weaker c.put-3.result
    (λ last. follows c.args.out.now.items _ _ c.in_ok-place_member.ensures
    (follows c.place_member.new.out.items _ _ c.in_ok-text_member.ensures
    (follows c.text_member.new.out.items _ _ c.in_ok-text_member-2.ensures
    (follows c.text_member-2.new.out.items _ _ c.in_ok-text_member-3.ensures
    (follows c.text_member-3.new.out.items _ _ (rw c.from.ensures at c.in_ok-number_member.ensures)
    (follows c.number_member.new.out.items _ _ c.in_ok-put.ensures
    (follows c.put.new.out.items _ _ (rw c.flag_text.ensures at c.in_ok-put-2.ensures) last)))))))
    c.put-3.ensures
