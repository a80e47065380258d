-- A book may go to another thread where its disk may go and its reporter may be shared.
use denote.RattleType.{RattleType}
use denote.Param.Send.{IsSend, IsSync, sendable}
use denote.Ref.{NamedLft}
use Rattle.std.proofs.Crossing.{crosses}
use Rattle.soc_edge.specs.declared.disk.Disk as disk
use Rattle.soc_schema.specs.declared.reporter.Reporter as reporter
use Rattle.soc_store.proofs.Crossing.{store_send}
use Rattle.soc_book.specs.contracts.book.Book as Book

pub book_send : (κ : NamedLft) (D R : RattleType) (d : disk.Ghosts D.Denot) (r : reporter.Ghosts R.Denot) → IsSend D → IsSync R → IsSend (Book.the_row κ D R d r)
book_send κ D R d r lent shared =
    let store = store_send in
    search (sendable, crosses) depth 300 fits 200000
