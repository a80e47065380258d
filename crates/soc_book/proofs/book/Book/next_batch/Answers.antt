use Rattle.std.proofs.Common.{◌+◌, ℕ, List, [], inl, inr, refl, sym, ap, subst, length, arith}
use Rattle.soc_book.proofs.Words.{HasGathered}
use Rattle.soc_book.proofs.Gatherings.{batch_none, batch_same, gathered_none}
use Rattle.soc_book.proofs.book.Book.next_batch.Goals as goal

pub loop-batch-init : goal.loop-batch-init
loop-batch-init g c =
    let s = c.args.self.now in
    let b = c.new-batch.result in
    let e = c.new-batch.ensures in
    let next = e.next in
    let within = c.requires in
    record {
      batch = batch_none s.ledger s.vault.journal b e.entries e.numbers e.bytes;
      begun = inl (e.next, e.numbers, e.bytes);
      few = omega (arith, next, ap (λ (ns : List ℕ). length ns) e.numbers);
      within = omega (arith, within, next);
      gathered = λ basis log digest tell stands. ([], gathered_none basis log s.ledger c.args.from b stands.legal.log e.next e.numbers e.entries);
    }

pub loop-batch-preserved : goal.loop-batch-preserved
loop-batch-preserved g c =
    let s = c.args.self.now in
    let i = c.loop-batch.invariant in
    let few = i.few in
    let next = c.gather.ensures.next in
    let one = c.in-Ok.ensures.one in
    let test = c.loop-batch-test.true in
    let count = c.accepted.ensures.count in
    record {
      batch = batch_same s.ledger s.vault.journal c.gather.new.batch _ (record { entries = refl; numbers = refl; bytes = refl }) c.gather.ensures.batch;
      begun = inr (omega (arith, few, next));
      few = omega (arith, few, next, one);
      within = omega (arith, next, test, count);
      gathered = λ basis log digest tell stands.
          let before = i.gathered basis log digest tell stands in
          let more = c.in-Ok.ensures.gathered basis log c.args.from before.0 digest tell stands before.1 in
          (more.0, subst (λ n. HasGathered basis log s.ledger c.args.from (n + 1) c.gather.new.batch.numbers.items c.gather.new.batch.entries.items more.0) (sym next) more.1);
    }

pub returns-in-Err-2-clause-gathered : goal.returns-in-Err-2-clause-gathered
returns-in-Err-2-clause-gathered g c basis log digest tell stands =
    let before = c.loop-batch.invariant.gathered basis log digest tell stands in
    c.in-Err-2.ensures.gathered basis log c.args.from before.0 digest tell stands before.1
