use Rattle.std.proofs.Common.{◌∷◌, ◌++◌}
use Rattle.soc_multipart.proofs.TailLemmas.{apart_behind, rules_out}
use Rattle.soc_multipart.proofs.tails.may_begin.Goals as goal

pub returns-in-Some : goal.returns-in-Some
returns-in-Some c =
    rules_out c.agree.result _ _ c.agree.ensures (apart_behind c.args.line.now c.in-Some.rest.now c.args.boundary.now c.in-Some.ensures)

pub returns-in-None : goal.returns-in-None
returns-in-None c = rules_out c.agree-in-None.result _ _ c.agree-in-None.ensures (λ h x y. h x (c.args.boundary.now ++ y))
