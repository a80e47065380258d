use Rattle.std.proofs.Common.{◌≡◌, ◌≤◌, ◌-◌, length, take}
use Rattle.std.specs.List.{position_or_len}
use Rattle.soc_edge.specs.Told.{Reads}
use Rattle.soc_export.specs.Keys.{is_line_feed}
use Rattle.soc_export.proofs.key.read_line.Given as goal

-- what was read stands in front, and none of it is a line feed
abbrev pub invariant-loop-filled : goal.invariant-loop-filled
invariant-loop-filled g l =
    record {
      within : l.filled ≤ length l.line;
      reads : Reads (g.S.Tells.told l.fn.input) (g.S.Tells.told l.input) (take l.filled l.line);
      no_feed : position_or_len is_line_feed (take l.filled l.line) ≡ l.filled;
    }

abbrev pub decreases-loop-filled : goal.decreases-loop-filled
decreases-loop-filled g l = length l.line - l.filled
