use Rattle.std.proofs.Common.{sym, subst}
use Rattle.soc_book.proofs.Words.{NewCrashes, IsEmpty, StoresBook}
use Rattle.soc_book.proofs.Joinings.{way_stored}
use Rattle.soc_book.proofs.book.Book.store_all.Goals as goal

pub returns-then-not-is_empty-clause-goes_on : goal.returns-then-not-is_empty-clause-goes_on
returns-then-not-is_empty-clause-goes_on g c before commands way =
    let stores = subst (λ (b : NewCrashes). StoresBook c.args.self.now b c.args.receipts.now.items c.store.new.self c.store.new.receipts.items) c.replace-waiting.ensures.value c.store.ensures.stores in
    way_stored way c.store.ensures.setting c.store.new.receipts.items stores c.replace-waiting.new.dest (subst IsEmpty (sym c.replace-waiting.ensures.after) c.new.ensures)
