use Rattle.std.proofs.Common.{◌∷◌, [], ◌+◌, ◌≤◌, List, length, map}
use Rattle.std.specs.Str.Lines.{lines}
use Rattle.soc_symfile.specs.Line.{LineEntry, Other, line_of}
use Rattle.soc_symfile.specs.inner.Tables.{outcome_after}
use Rattle.soc_symfile.proofs.ReadingLemmas.{ReadsOn}
use Rattle.soc_symfile.proofs.reading.read_lines.Given as goal

-- what was said so far stands in the tables, and no more lines were counted than there are bytes
abbrev pub invariant-loop-line : goal.invariant-loop-line
invariant-loop-line l =
    ((said : List LineEntry) × ReadsOn (outcome_after (Other ∷ []) (map line_of (lines l.fn.text))) l.tables l.number l.rest said)
    × (l.number + length l.rest ≤ length l.fn.text + 1)

abbrev pub decreases-loop-line : goal.decreases-loop-line
decreases-loop-line l = length l.rest
