use Rattle.std.proofs.Common.{◌∙◌, sym, ap, List, subst}
use Rattle.std.specs.Option.{option_copied}
use Rattle.std.specs.Prelude.{slice_get}
use Rattle.soc_symfile.specs.Path.{path_of}
use Rattle.soc_symfile.specs.Records.{Records}
use Rattle.soc_report.specs.Texts.{KitTexts}
use Rattle.soc_report.specs.inner.Kits.{HaveRecords}
use Rattle.soc_report.proofs.LookupLemmas.{found_first, found_nowhere, got}
use Rattle.soc_report.proofs.kit.KitSymbols.symbols.Goals as goal

pub returns-in_err-place_of : goal.returns-in_err-place_of
returns-in_err-place_of c =
    let have : HaveRecords c.args.self.now.symbols c.self.inside.files.items = subst (λ (k : KitTexts). HaveRecords k.symbols c.self.inside.files.items) c.self.view_is c.self.invariant.files in
    let none = found_nowhere (path_of c.args.debug_file.now c.args.debug_id.now) c.args.self.now.symbols c.self.inside.files.items have c.in_err-place_of.ensures in
    ap option_copied c.from_residual.ensures ∙ sym none

pub returns : goal.returns
returns c =
    let have : HaveRecords c.args.self.now.symbols c.self.inside.files.items = subst (λ (k : KitTexts). HaveRecords k.symbols c.self.inside.files.items) c.self.view_is c.self.invariant.files in
    let first = found_first (path_of c.args.debug_file.now c.args.debug_id.now) c.args.self.now.symbols c.self.inside.files.items c.in_ok-place_of.field-0 have c.in_ok-place_of.ensures in
    got c.deref.result.now c.in_ok-place_of.field-0 c.get.result c.get.ensures.lookup.0 c.get.ensures.lookup.1 ∙ ap (λ (l : List Records). slice_get l c.in_ok-place_of.field-0) c.deref.ensures.value ∙ first
