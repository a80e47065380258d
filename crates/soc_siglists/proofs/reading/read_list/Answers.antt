use Rattle.std.proofs.Common.{◌≤◌, ◌+◌, length, arith}
use Rattle.std.proofs.lemmas.Grind.{common_steps}
use Rattle.soc_siglists.proofs.FileLemmas.{reads-pass, reads-entry, reads-refused}
use Rattle.soc_siglists.proofs.reading.read_list.Goals.{then-is_entry+in-Ok+in_ok-push-in-Ok, else-is_entry}
use Rattle.soc_siglists.proofs.reading.read_list.Goals as goal

pub returns-in-Err-clause-refuses : goal.returns-in-Err-clause-refuses
returns-in-Err-clause-refuses g c =
    rw c.refusal.ensures
    (reads-refused c.args.bytes.now c.loop-rest.rest.now _ _ _ _ _ c.args.list c.loop-rest.invariant.reads_on
    c.split_line.ensures.line c.split_line.ensures.others c.text_of-text.ensures c.if-is_entry.ensures c.in-Err.error c.in-Err.ensures.made)

pub loop-rest-preserved : goal.loop-rest-preserved
loop-rest-preserved g c =
    let others : length c.split_line.result.1.now + 1 ≤ length c.loop-rest.rest.now = grind (arith, common_steps, c.split_line.ensures.others) in
    let counted : (c.loop-rest.line + 1) + length c.split_line.result.1.now ≤ length c.args.bytes.now + 1 = omega arith in
    elim c.if-is_entry.branch [
      | then-is_entry+in-Ok+in_ok-push-in-Ok w ↦
          let more =
          reads-entry c.args.bytes.now c.loop-rest.rest.now _ _ _ _ _ c.loop-rest.invariant.reads_on
          c.split_line.ensures.line c.split_line.ensures.others c.text_of-text.ensures w.if-is_entry.ensures w.in-Ok.pattern w.in-Ok.ensures.made in
          record {
            reads_on = rw (w.patterns-is, w.in_ok-push-in-Ok.ensures.items) more;
            counted = counted;
            never_fall = rw w.maker-is (omega (arith, c.loop-rest.invariant.never_fall, w.in-Ok.ensures.never_fall));
          }
      | else-is_entry w ↦ record {
        reads_on =
            rw w.patterns-is
            (reads-pass c.args.bytes.now c.loop-rest.rest.now _ _ _ _ _ c.loop-rest.invariant.reads_on
            c.split_line.ensures.line c.split_line.ensures.others c.text_of-text.ensures w.if-is_entry.ensures);
        counted = counted;
        never_fall = rw w.maker-is c.loop-rest.invariant.never_fall;
      }
    ]
