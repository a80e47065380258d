use Rattle.soc_multipart.proofs.Basics.{match_none}
use Rattle.soc_multipart.proofs.ParamLemmas.{no_param_name, no_param_value}
use Rattle.soc_multipart.proofs.params.read_param.Goals as goal

pub returns-in_default : goal.returns-in_default
returns-in_default c = no_param_name _ _ c.in_default.ensures

pub returns-in_default-2 : goal.returns-in_default-2
returns-in_default-2 c =
    no_param_value _ _ _ _ c.in-Some.ensures (match_none _ _ _ c.in_ok-read.ensures c.in_default-2.is)
