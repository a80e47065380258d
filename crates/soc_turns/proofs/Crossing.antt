-- A shared book may go to another thread where its disk may go and its reporter may be shared.
use denote.RattleType.{RattleType}
use denote.Param.Send.{IsSend, IsSync, sendable}
use denote.Param.SendFields.{declared_send}
use denote.Ref.{NamedLft}
use Rattle.std.proofs.Crossing.{crosses}
use Rattle.std.specs.contracts.snapshot.Snapshot as Snapshot
use Rattle.soc_edge.specs.declared.disk.Disk as disk
use Rattle.soc_schema.specs.declared.reporter.Reporter as reporter
use Rattle.soc_book.proofs.Crossing.{book_send}
use Rattle.soc_book.specs.contracts.book.Book as Book
use Rattle.soc_edge.specs.declared.telling.Telling as telling
use Rattle.soc_turns.specs.contracts.shared.SharedBook as Shared

opened_send : (D : RattleType) → IsSend D → IsSend (Snapshot.the_row D)
opened_send D state = search (sendable, crosses) depth 60 fits 20000

pub shared_send : (κ : NamedLft) (D R : RattleType) (t : telling.Ghosts D.Denot) (d : disk.Ghosts D.Denot) (r : reporter.Ghosts R.Denot) → IsSend D → IsSync R → IsSend (Shared.the_row κ D R t d r)
shared_send κ D R t d r lent shared = declared_send (Shared.the_type κ D R t d r) (book_send κ D R d r lent shared, (opened_send (Book.the_row κ D R d r) (book_send κ D R d r lent shared), tt))
