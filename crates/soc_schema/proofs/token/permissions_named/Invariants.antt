use Rattle.std.proofs.Common.{◌≡◌}
use Rattle.soc_schema.specs.Permits.{public_alone}
use Rattle.soc_schema.specs.TokenFile.{with_named}
use Rattle.soc_schema.proofs.token.permissions_named.Given as goal

-- the words that are left add the same
abbrev pub invariant-loop-word : goal.invariant-loop-word
invariant-loop-word l = with_named public_alone l.words ≡ with_named l.permissions l.word-iterator
