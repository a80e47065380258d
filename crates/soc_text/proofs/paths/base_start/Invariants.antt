use Rattle.std.proofs.Common.{◌≡◌, ◌+◌, ◌≤◌, length, take, not}
use Rattle.std.specs.List.{suffix_len}
use Rattle.soc_text.specs.Paths.{is_separator}
use Rattle.soc_text.proofs.paths.base_start.Given as goal

abbrev pub invariant-loop-start : goal.invariant-loop-start
invariant-loop-start l = record {
  within : l.start ≤ length l.path;
  passed : l.start + suffix_len (λ byte. not (is_separator byte)) l.path
      ≡ length l.path + suffix_len (λ byte. not (is_separator byte)) (take l.start l.path);
}

abbrev pub decreases-loop-start : goal.decreases-loop-start
decreases-loop-start l = l.start
