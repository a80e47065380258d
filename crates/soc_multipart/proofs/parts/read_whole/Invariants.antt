use Rattle.std.proofs.Common.{List, ℕ, ◌≤◌, length}
use Rattle.soc_multipart.specs.Delimiters.{IsAt, mark_of}
use Rattle.soc_multipart.specs.Parts.{HoldsParts, parts_limit}
use Rattle.soc_multipart.specs.PartViews.{part_texts}
use Rattle.soc_multipart.proofs.EndLemmas.{left_behind}
use Rattle.soc_multipart.proofs.parts.read_whole.Given as goal

-- the parts so far stand in the body up to a delimiter that ends so
abbrev pub invariant-loop-end : goal.invariant-loop-end
invariant-loop-end l = record {
  few : length l.parts.items ≤ parts_limit;
  held : (next : List ℕ) × HoldsParts l.boundary l.body (part_texts l.parts.items) next × IsAt (mark_of l.boundary) next l.end;
}

abbrev pub decreases-loop-end : goal.decreases-loop-end
decreases-loop-end l = left_behind l.end
