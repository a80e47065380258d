use Rattle.std.proofs.Common.{◌≡◌, ◌+◌, ◌∙◌, Some, sym, subst}
use Rattle.std.specs.Prelude.{slice_get}
use Rattle.soc_report.specs.Texts.{KitTexts}
use Rattle.soc_report.specs.inner.Kits.{LeadsOn, ids_of}
use Rattle.soc_report.proofs.KitLemmas.{kit_next}
use Rattle.soc_report.proofs.kit.Kit.next_place.Goals as goal

pub returns-then-slashes-eq0 : goal.returns-then-slashes-eq0
returns-then-slashes-eq0 c =
    let plain = sym c.slashes.ensures ∙ c.if-slashes-eq0.true in
    let here = subst (λ (k : KitTexts). slice_get (ids_of k.symbols) c.args.place ≡ Some c.args.debug_id.now) (sym c.self.view_is) (c.requires.on_chain plain) in
    subst (λ (k : KitTexts). LeadsOn k.symbols c.args.debug_id.now (c.args.place + 1) c.next.result) c.self.view_is
    (kit_next c.self.inside.texts.now.symbols c.self.inside.index c.args.debug_id.now c.args.place c.next.result c.self.invariant.index here c.next.ensures plain)
