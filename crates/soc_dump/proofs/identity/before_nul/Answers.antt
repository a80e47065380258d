use Rattle.soc_dump.proofs.IdentityLemmas.{before_nul-some, before_nul-none}
use Rattle.soc_dump.proofs.identity.before_nul.Goals as goal

pub returns-in-Some : goal.returns-in-Some
returns-in-Some c = before_nul-some c.args.bytes.now c.in-Some.end c.in-Some.ensures

pub returns-in-None : goal.returns-in-None
returns-in-None c = before_nul-none c.args.bytes.now c.in-None.ensures
