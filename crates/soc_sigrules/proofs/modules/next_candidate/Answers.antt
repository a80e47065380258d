use Rattle.soc_sigrules.proofs.ModuleLemmas.{no-candidate, next-candidate}
use Rattle.soc_sigrules.proofs.modules.next_candidate.Goals as goal

pub returns-in-None : goal.returns-in-None
returns-in-None c = no-candidate c.args.frame.now c.after.result.now c.args.place c.after.ensures c.requires c.in-None.ensures

pub returns-in-Some : goal.returns-in-Some
returns-in-Some c = next-candidate c.args.frame.now c.after.result.now c.args.place c.after.ensures c.requires c.in-Some.found c.in-Some.ensures
