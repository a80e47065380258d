use Rattle.std.proofs.lemmas.Option.{get_or_from_slice_get}
use Rattle.std.proofs.Common.{arith, ℕ, List}
use Rattle.soc_session.specs.Json.{annotation_json}
use Rattle.soc_schema.proofs.CommaLemmas.{joined_step}
use Rattle.soc_session.proofs.json.put_annotations.Goals as goal

pub loop-i-preserved : goal.loop-i-preserved
loop-i-preserved c =
    let here : List ℕ × List ℕ = (c.at.result.0.now, c.at.result.1.now) in
    joined_step annotation_json c.args.annotations.now c.loop-i.i here c.args.out.now.items c.loop-i.out.items c.put_comma.new.out.items _
    (omega arith) (get_or_from_slice_get c.args.annotations.now c.loop-i.i here here c.at.ensures) c.loop-i.invariant c.in_ok-put_comma.ensures c.in_ok-put_annotation.ensures
