use Rattle.std.proofs.Common.{◌∙◌, ap, sym, arith}
use Rattle.soc_sigrules.specs.Modules.{begins_with_mark}
use Rattle.soc_sigrules.proofs.ModuleLemmas.{mark-next}
use Rattle.soc_sigrules.proofs.modules.mark_place.Goals as goal

pub loop-found-preserved : goal.loop-found-preserved
loop-found-preserved c =
    let found = c.in-Some.ensures in (
      c.loop-found.invariant.0
          ∙ found.2
          ∙ mark-next c.args.frame.now c.in-Some.found found.1 (sym (c.if-begins_with_mark.ensures ∙ ap begins_with_mark c.after.ensures)),
      omega (arith, found.1),
    )
