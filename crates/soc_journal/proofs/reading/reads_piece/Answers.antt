use Rattle.std.proofs.Common.{arith}
use Rattle.soc_journal.proofs.Pieces.{piece_told}
use Rattle.soc_journal.proofs.reading.reads_piece.Goals as goal

pub returns-clause-holds : goal.returns-clause-holds
returns-clause-holds g c =
    piece_told (g.D.Disk.state c.args.disk.now).content c.args.place _ _ c.args.piece.now _ (omega (arith, c.read_at.auto.into)) c.in_ok-count.ensures.bytes c.eq.ensures
