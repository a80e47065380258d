use Rattle.std.proofs.Common.{◌≡◌, take, string_bytes}
use Rattle.soc_sigrules.specs.Chars.{joined}
use Rattle.soc_sigrules.proofs.joins.join.Given as goal

abbrev pub invariant-loop-place : goal.invariant-loop-place
invariant-loop-place l = string_bytes l.out ≡ joined l.separator (take l.place l.texts)
