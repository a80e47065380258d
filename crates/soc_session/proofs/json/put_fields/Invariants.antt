use Rattle.soc_session.proofs.JsonLemmas.{PutFields}
use Rattle.soc_session.proofs.json.put_fields.Given as goal

abbrev pub invariant-loop-place : goal.invariant-loop-place
invariant-loop-place l = PutFields l.caller l.initial.out.items l.out.items l.count l.place
