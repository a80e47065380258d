use Rattle.std.proofs.Common.{◌∙◌, ◌++◌, ap, arith, string_bytes}
use Rattle.soc_sigrules.proofs.JoinLemmas.{joined-later, joined-first}
use Rattle.soc_sigrules.proofs.joins.join.Goals.{then-place-gt0+in_ok-push_str, else-place-gt0}
use Rattle.soc_sigrules.proofs.joins.join.Goals as goal

pub loop-place-preserved : goal.loop-place-preserved
loop-place-preserved c =
    let added = c.in_ok-push_str-2.ensures.bytes in
    elim c.if-place-gt0.branch [
      | then-place-gt0+in_ok-push_str w ↦
          let out = ap string_bytes w.out-is ∙ w.in_ok-push_str.ensures.bytes in
          joined-later c.args.separator.now _ _ c.args.texts.now c.loop-place.place _ c.at.ensures w.if-place-gt0.true c.loop-place.invariant
          (added ∙ ap (λ xs. xs ++ c.at.result.now) out)
      | else-place-gt0 w ↦
          joined-first c.args.separator.now _ _ c.args.texts.now c.loop-place.place _ c.at.ensures (omega (arith, w.if-place-gt0.false)) c.loop-place.invariant
          (added ∙ ap (λ xs. string_bytes xs ++ c.at.result.now) w.out-is)
    ]
