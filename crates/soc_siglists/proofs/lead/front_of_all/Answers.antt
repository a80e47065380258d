use Rattle.std.proofs.Common.{refl}
use Rattle.soc_siglists.proofs.PatternLemmas.{front_unknown}
use Rattle.soc_siglists.proofs.lead.front_of_all.Goals as goal

pub returns-in_default : goal.returns-in_default
returns-in_default c = front_unknown _ _ refl refl

pub returns-in_default-first : goal.returns-in_default-first
returns-in_default-first c = front_unknown _ _ refl refl
