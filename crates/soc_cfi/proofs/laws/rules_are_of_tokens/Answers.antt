use Rattle.soc_cfi.proofs.TokenLemmas.{rules_of_tokens}
use Rattle.soc_cfi.proofs.laws.rules_are_of_tokens.Goals as goal

pub returns : goal.returns
returns c = rules_of_tokens
