use Rattle.soc_multipart.proofs.TailLemmas.{apart, rules_out_none}
use Rattle.soc_multipart.proofs.tails.agree.Goals as goal

pub returns-in-None : goal.returns-in-None
returns-in-None c =
    rules_out_none c.strip_front-in-None.result c.is_some.result _ _ _ c.strip_front-in-None.ensures c.is_some.ensures
    (apart c.args.one.now c.args.other.now c.in-None.ensures)
