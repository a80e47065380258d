use Rattle.std.proofs.Common.{◌≡◌, ◌∙◌, Some, ap, arith, length, option_map, subst}
use Rattle.std.specs.Prelude.{slice_get}
use Rattle.std.proofs.lemmas.Option.{slice_get_within}
use Rattle.soc_report.specs.Texts.{KitTexts, SymbolText}
use Rattle.soc_report.specs.inner.Kits.{HaveRecords}
use Rattle.soc_report.proofs.KitLemmas.{none_longer, up_to_next}
use Rattle.soc_report.proofs.kit.KitSymbols.longest_name.Goals as goal

pub loop-place-init : goal.loop-place-init
loop-place-init c = λ other symbol below at. absurd (omega (arith, below))

pub loop-place-preserved : goal.loop-place-preserved
loop-place-preserved c =
    let path = subst (λ (k : KitTexts). option_map (λ (s : SymbolText). s.path) (slice_get k.symbols c.loop-place.place) ≡ Some c.path.result.now) c.self.view_is c.path.ensures in
    up_to_next c.args.self.now.symbols c.loop-place.place c.loop-place.longest c.max-longest.result c.path.result.now c.loop-place.invariant path (omega arith) (omega arith)

pub returns : goal.returns
returns c =
    let count = c.count-place-end.ensures ∙ ap (λ (k : KitTexts). length k.symbols) c.self.view_is in
    let have : HaveRecords c.args.self.now.symbols c.self.inside.files.items = subst (λ (k : KitTexts). HaveRecords k.symbols c.self.inside.files.items) c.self.view_is c.self.invariant.files in
    none_longer c.args.self.now c.self.inside.files.items c.loop-place.longest have
    (λ place symbol at. c.loop-place.invariant place symbol (omega (arith, c.loop-place-test.false, count, slice_get_within c.args.self.now.symbols place symbol at)) at)
