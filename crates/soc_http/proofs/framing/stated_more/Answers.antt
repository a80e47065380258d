use Rattle.soc_http.proofs.LengthLemmas.{stated-number, stated-other}
use Rattle.soc_http.proofs.framing.stated_more.Goals as goal

pub returns-in-Some : goal.returns-in-Some
returns-in-Some c = stated-number c.args.stated c.args.value.now c.in-Some.length c.in-Nothing.is c.in-Some.ensures.0 c.in-Some.ensures.1

pub returns-in-None : goal.returns-in-None
returns-in-None c = stated-other c.args.stated c.args.value.now c.in-Nothing.is c.in-None.ensures
