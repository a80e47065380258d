use Rattle.std.proofs.Common.{◌≡◌, ◌<◌, List, ℕ, ◌++◌}
use Rattle.std.specs.Slice.Iter.{chunks_rest, chunks_size}
use Rattle.soc_multipart.specs.Readers.{WasFed}
use Rattle.soc_bench.proofs.bodies.fed.Given as goal

abbrev pub invariant-loop-piece : goal.invariant-loop-piece
invariant-loop-piece l =
    goal.iterator-loop-piece.can_next l.piece-iterator
    × goal.iterator-loop-piece.is_finite l.piece-iterator
    × (0 < chunks_size l.piece-iterator)
    × (l.reader.boundary ≡ l.fn.boundary)
    × ((done : List ℕ) × WasFed l.reader done × (done ++ chunks_rest l.piece-iterator ≡ l.fn.body))
