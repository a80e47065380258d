use Rattle.std.proofs.Common.{◌≤◌, length}
use Rattle.soc_system.proofs.disk.read_up_to.Given as goal

abbrev pub invariant-loop : goal.invariant-loop
invariant-loop l = l.count ≤ length l.into
