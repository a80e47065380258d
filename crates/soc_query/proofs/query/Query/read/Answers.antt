use Rattle.soc_query.proofs.GrantLemmas.{query_granted}
use Rattle.soc_query.proofs.query.Query.read.Goals as goal

pub invariant_of-result : goal.invariant_of-result
invariant_of-result c = query_granted c.args.caller c.args.pairs.now c.in_ok-draft.draft c.in_ok-draft.ensures.ok

pub returns-clause-granted : goal.returns-clause-granted
returns-clause-granted c = query_granted c.args.caller c.args.pairs.now c.in_ok-draft.draft c.in_ok-draft.ensures.ok
