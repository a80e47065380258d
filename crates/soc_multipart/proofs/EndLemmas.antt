-- How much of a body is left behind a delimiter.
use Rattle.std.proofs.Common.{ℕ, ◌+◌, length}
use Rattle.soc_multipart.specs.declared.delimiters.Ending.{Ending}
use Rattle.soc_multipart.specs.declared.delimiters.Ending.TheVariants.{Opening, Closing}

abbrev pub left_behind : Ending → ℕ
left_behind (Opening rest) = 1 + length rest.now
left_behind Closing = 0
