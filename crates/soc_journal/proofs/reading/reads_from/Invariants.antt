use Rattle.std.proofs.Common.{◌≡◌, ◌+◌, ◌≤◌, length}
use Rattle.std.specs.Int.{div_ceil}
use Rattle.soc_edge.specs.Disk.{Looks}
use Rattle.soc_journal.specs.Bodies.{piece_size}
use Rattle.soc_journal.proofs.Pieces.{ReadsTo}
use Rattle.soc_journal.proofs.reading.reads_from.Given as goal

abbrev pub invariant-loop-rest : goal.invariant-loop-rest
invariant-loop-rest g l = record {
  reads : ReadsTo (g.D.Disk.state l.fn.disk).content l.fn.place l.fn.text l.place l.rest;
  ends : l.place + length l.rest ≡ l.fn.place + length l.fn.text;
  calls : (g.D.Disk.state l.disk).calls + div_ceil (length l.rest) piece_size ≤ (g.D.Disk.state l.fn.disk).calls + div_ceil (length l.fn.text) piece_size;
  stays : Looks (g.D.Disk.state l.fn.disk) (g.D.Disk.state l.disk);
}

abbrev pub decreases-loop-rest : goal.decreases-loop-rest
decreases-loop-rest g l = length l.rest
