use Rattle.std.proofs.Common.{ap, arith}
use Rattle.std.specs.Prelude.{List, ℕ, length}
use Rattle.soc_book.proofs.Words.{receipt_of}
use Rattle.soc_book.proofs.Joinings.{told_one}
use Rattle.soc_book.proofs.book.Book.tell.Goals as goal

pub loop-id-preserved : goal.loop-id-preserved
loop-id-preserved g c =
    let i = c.loop-id.invariant in
    let next = c.in-Some.ensures.cases.0 in
    let pushed = rw c.unwrap.ensures at c.push.ensures.items in
    let longer = rw c.unwrap.ensures at c.push.ensures.len in
    let capacity = c.push.ensures.capacity in
    let before = i.capacity in
    let count = i.count in
    record {
      told = told_one (receipt_of c.front-front.result c.is_stopped-stopped.result c.args.written.now) c.loop-id.receipts.items c.push.new.self.items _ c.loop-id.rest.now c.in-Some.id.now c.in-Some.behind.now next
          (rw c.reply_to.ensures at pushed) i.told;
      count = omega (arith, count, longer, ap (λ (xs : List (List ℕ)). length xs) next);
      capacity = omega (arith, before, capacity);
    }
