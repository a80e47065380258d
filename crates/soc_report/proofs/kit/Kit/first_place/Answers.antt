use Rattle.std.proofs.Common.{◌∙◌, sym, subst}
use Rattle.soc_report.specs.Texts.{KitTexts}
use Rattle.soc_report.specs.inner.Kits.{LeadsOn}
use Rattle.soc_report.proofs.KitLemmas.{kit_first}
use Rattle.soc_report.proofs.kit.Kit.first_place.Goals as goal

pub returns-then-slashes-eq0 : goal.returns-then-slashes-eq0
returns-then-slashes-eq0 c =
    subst (λ (k : KitTexts). LeadsOn k.symbols c.args.debug_id.now 0 c.first.result) c.self.view_is
    (kit_first c.self.inside.texts.now.symbols c.self.inside.index c.args.debug_id.now c.first.result c.self.invariant.index c.first.ensures (sym c.slashes.ensures ∙ c.if-slashes-eq0.true))
