use Rattle.std.proofs.lemmas.Result.{on_ok_weaker}
use Rattle.soc_report.specs.StackText.{known_json}
use Rattle.soc_report.proofs.JsonLemmas.{follows}
use Rattle.soc_report.proofs.frame_json.put_known.Goals as goal

pub returns : goal.returns
unfolding known_json
returns c =
    on_ok_weaker c.put.result
    (λ last. follows c.args.out.now.items _ _ (rw c.text_in.ensures at c.in_ok-text_member.ensures)
    (follows c.text_member.new.out.items _ _ c.in_ok-number_member.ensures
    (follows c.number_member.new.out.items _ _ (rw c.text_in-2.ensures at c.in_ok-text_member-2.ensures)
    (follows c.text_member-2.new.out.items _ _ (rw c.lookup_address-address.ensures at (rw c.into_function-offset.ensures at c.in_ok-place_member.ensures))
    (follows c.place_member.new.out.items _ _ c.in_ok-text_member-3.ensures
    (follows c.text_member-3.new.out.items _ _ (rw c.line_of.ensures at c.in_ok-number_member-2.ensures)
    (follows c.number_member-2.new.out.items _ _ (rw c.text_in-3.ensures at c.in_ok-text_member-4.ensures)
    (follows c.text_member-4.new.out.items _ _ (rw c.module_offset.ensures at c.in_ok-place_member-2.ensures)
    (follows c.place_member-2.new.out.items _ _ c.in_ok-text_member-5.ensures
    (follows c.text_member-5.new.out.items _ _ (rw c.trust_name.ensures at c.in_ok-text_member-6.ensures) last))))))))))
    c.put.ensures
