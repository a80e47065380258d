use Rattle.std.proofs.lemmas.Result.{on_ok_weaker}
use Rattle.soc_report.specs.StackText.{told_json}
use Rattle.soc_report.proofs.JsonLemmas.{follows}
use Rattle.soc_report.proofs.stack_json.put_told.Goals as goal

pub returns : goal.returns
unfolding told_json
returns c =
    on_ok_weaker c.put-3.result
    (λ last. follows c.args.out.now.items _ _ (rw c.text_in.ensures at c.in_ok-text_member.ensures)
    (follows c.text_member.new.out.items _ _ c.in_ok-text_member-2.ensures
    (follows c.text_member-2.new.out.items _ _ (rw c.thread_number.ensures at c.in_ok-number_member.ensures)
    (follows c.number_member.new.out.items _ _ c.in_ok-put.ensures
    (follows c.put.new.out.items _ _ c.in_ok-put_stack.ensures
    (follows c.put_stack.new.out.items _ _ c.in_ok-put-2.ensures
    (follows c.put-2.new.out.items _ _ c.in_ok-put_modules.ensures
    (follows c.put_modules.new.out.items _ _ (rw c.text_in-2.ensures at c.in_ok-text_member-3.ensures) last))))))))
    c.put-3.ensures
