use Rattle.std.proofs.Common.{rules}
use Rattle.soc_book.proofs.Joinings.{settled_by}
use Rattle.soc_book.proofs.book.Book.fits_behind.Goals as goal

pub returns : goal.returns
returns g c less =
    let s = c.args.self.now in
    record {
      settled = settled_by s.vault.journal.doubt c.is_in_doubt.ensures c.if-is_in_doubt.false;
      count = search rules;
      bytes = search rules;
      few = search rules;
      below = search rules;
      room = search rules;
      short = search rules;
    }
