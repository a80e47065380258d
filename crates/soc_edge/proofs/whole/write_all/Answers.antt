use Rattle.std.proofs.Common.{◌≡◌, ◌-◌, ap, ℕ, List, length, take, drop, arith, length-drop, ◌∙◌}
use Rattle.std.proofs.lemmas.List.{take_rest}
use Rattle.soc_edge.proofs.Told.{Writes-more}
use Rattle.soc_edge.proofs.whole.write_all.Goals as goal

pub loop-at-preserved : goal.loop-at-preserved
loop-at-preserved g c =
    let bytes = c.args.bytes.now in
    let at = c.loop-at.at in
    let is = take_rest bytes at in
    let rest_len : length (take (length bytes - at) (drop at bytes)) ≡ length bytes - at = ap (λ (x : List ℕ). length x) is ∙ length-drop at bytes in (
      omega (arith, rest_len, c.in_ok-at.ensures.count, c.loop-at.invariant.0),
      Writes-more _ _ _ bytes _ at c.in_ok-at.field-0 is c.loop-at.invariant.1 c.in_ok-at.ensures.writes,
    )
