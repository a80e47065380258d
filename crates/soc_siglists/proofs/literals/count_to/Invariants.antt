use Rattle.std.proofs.Common.{◌≡◌, true, ◌≤◌, ◌-◌, length}
use Rattle.std.specs.List.{AllWithin}
use Rattle.std.specs.Ordering.{is_gt}
use Rattle.soc_base.specs.Names.{byte_cmp}
use Rattle.soc_siglists.specs.inner.Literals.{IsUpTo}
use Rattle.soc_siglists.proofs.literals.count_to.Given as goal

-- what stands below `low` isn't behind the frame, and what stands from `high` on is
abbrev pub invariant-loop-low : goal.invariant-loop-low
invariant-loop-low l = record {
  order : l.low ≤ l.high;
  bound : l.high ≤ length l.texts;
  front : AllWithin (IsUpTo l.frame) l.texts 0 l.low;
  back : AllWithin (λ text. is_gt (byte_cmp text l.frame) ≡ true) l.texts l.high (length l.texts);
}

abbrev pub decreases-loop-low : goal.decreases-loop-low
decreases-loop-low l = l.high - l.low
