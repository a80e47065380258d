use Rattle.std.proofs.Common.{◌≡◌, ◌+◌, ◌*◌, ◌≤◌, length, take, not}
use Rattle.std.specs.List.{suffix_len}
use Rattle.soc_text.specs.Paths.{is_separator}
use Rattle.soc_dump.specs.Entries.{units}
use Rattle.soc_dump.proofs.utf16.name_start.Given as goal

abbrev pub invariant-loop-start : goal.invariant-loop-start
invariant-loop-start l = record {
  within : l.start * 2 ≤ length l.path;
  passed : l.start + suffix_len (λ unit. not (is_separator unit)) (units l.path)
      ≡ length (units l.path) + suffix_len (λ unit. not (is_separator unit)) (take l.start (units l.path));
}

abbrev pub decreases-loop-start : goal.decreases-loop-start
decreases-loop-start l = l.start
