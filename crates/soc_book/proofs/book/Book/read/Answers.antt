use Rattle.soc_book.proofs.Reading.{altered_untold, decoded, id_here}
use Rattle.soc_book.proofs.book.Book.read.Goals as goal

pub returns-in-Err-Altered-clause-read : goal.returns-in-Err-Altered-clause-read
returns-in-Err-Altered-clause-read g c basis state stands =
    let e = rw c.in-Err-Altered.field-0-is at c.in-Err-Altered.ensures in
    let f = c.crash.result.now.filed in (
      id_here stands c.args.number f c.crash.ensures.filed,
      altered_untold stands c.args.number f c.crash.ensures.filed e.body,
    )

pub returns-clause-read : goal.returns-clause-read
returns-clause-read g c basis state stands =
    let f = c.crash.result.now.filed in
    decoded stands c.args.number f c.crash.ensures.filed
    c.in-Ok.record c.as_slice.result.now c.raw_of_record.result (g.D.Disk.state c.read.new.self.disk.now) c.as_slice.ensures c.in-Ok.ensures.body c.raw_of_record.ensures
