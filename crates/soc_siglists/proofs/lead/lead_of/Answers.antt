use Rattle.std.proofs.Common.{refl}
use Rattle.soc_siglists.proofs.PatternLemmas.{no_lead}
use Rattle.soc_siglists.proofs.lead.lead_of.Goals as goal

pub returns-in_ok-of-in-Err : goal.returns-in_ok-of-in-Err
returns-in_ok-of-in-Err c = no_lead _ _ c.in_ok-of-in-Err.ensures refl
