use Rattle.std.proofs.Common.{◌∙◌, sym, ap, List, ℕ, refl, subst}
use Rattle.soc_siglists.specs.Reading.{first_bad}
use Rattle.soc_report.specs.Texts.{SymbolText}
use Rattle.soc_report.specs.inner.Kits.{HaveRecords}
use Rattle.soc_report.proofs.KitLemmas.{all_read}
use Rattle.soc_report.proofs.kit.Kit.read.Goals as goal

pub returns-clause-reads : goal.returns-clause-reads
returns-clause-reads g c =
    let texts = c.args.texts.now in
    all_read texts texts c.in_ok-files.files.items
    (sym (ap (λ (l : List ℕ). first_bad l c.prefix.result.now c.sentinel.result.now) c.irrelevant.ensures ∙ ap (λ (l : List ℕ). first_bad texts.irrelevant l c.sentinel.result.now) c.prefix.ensures
    ∙ ap (λ (l : List ℕ). first_bad texts.irrelevant texts.prefix l) c.sentinel.ensures) ∙ c.in_ok-lists.ensures.reads.0)
    (subst (λ (ss : List SymbolText). HaveRecords ss c.in_ok-files.files.items) c.symbols.ensures c.in_ok-files.ensures.reads) refl
