use Rattle.std.proofs.Common.{ℕ, List, length, take, ◌++◌, refl, ◌∙◌, ap, arith, take-append-drop}
use Rattle.soc_edge.proofs.Disks.{Looks-none, Looks-append}
use Rattle.soc_journal.proofs.Pieces.{reads_none, reads_more, some_left, one_piece}
use Rattle.soc_journal.proofs.reading.reads_from.Goals as goal

pub loop-rest-init : goal.loop-rest-init
loop-rest-init g c = record {
  reads = reads_none (g.D.Disk.state c.args.disk.now).content c.args.place c.args.text.now;
  ends = refl;
  calls = omega arith;
  stays = Looks-none (g.D.Disk.state c.args.disk.now) (g.met.D.Disk.sound c.args.disk.now);
}

pub loop-rest-preserved : goal.loop-rest-preserved
loop-rest-preserved g c =
    let parts = ap (λ (x : List ℕ). x ++ c.split_at.result.1.now) c.split_at.ensures.front
    ∙ (ap (λ (x : List ℕ). take c.min.result c.loop-rest.rest.now ++ x) c.split_at.ensures.back
    ∙ take-append-drop c.min.result c.loop-rest.rest.now) in
    record {
      reads = reads_more (g.D.Disk.state c.args.disk.now).content (g.D.Disk.state c.loop-rest.disk).content c.loop-rest.invariant.stays.same c.args.place c.args.text.now c.loop-rest.place c.loop-rest.rest.now _ _ _ parts
          c.loop-rest.invariant.reads c.in_ok-reads_piece.ensures.holds c.if-not-branch.false;
      ends = omega (arith, c.loop-rest.invariant.ends, c.split_at.ensures.front_len, c.split_at.ensures.back_len);
      calls = omega (arith, c.loop-rest.invariant.calls, c.reads_piece.ensures.calls, one_piece (length c.loop-rest.rest.now) (length c.split_at.result.1.now) (some_left _ _ c.is_empty.ensures c.loop-rest-test.true) (omega (arith, c.split_at.ensures.back_len, c.min.ensures)));
      stays = Looks-append _ _ _ c.loop-rest.invariant.stays c.reads_piece.ensures.disk_stays;
    }
