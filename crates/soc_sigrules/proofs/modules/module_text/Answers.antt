use Rattle.std.proofs.Common.{◌∙◌, ap, sym, drop}
use Rattle.soc_sigrules.specs.Modules.{begins_with_mark}
use Rattle.soc_sigrules.proofs.ModuleLemmas.{mark_boundary}
use Rattle.soc_sigrules.proofs.modules.module_text.Goals as goal

pub range-requires-clause-end_boundary : goal.range-requires-clause-end_boundary
range-requires-clause-end_boundary c =
    mark_boundary c.args.frame.now c.in_ok-place.place
    (ap (λ xs. begins_with_mark (drop c.in_ok-place.place xs)) (sym c.as_bytes.ensures.value) ∙ c.in_ok-place.ensures.mark)
