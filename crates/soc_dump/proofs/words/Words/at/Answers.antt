use Rattle.std.proofs.Common.{◌∙◌, sym, ap, Some}
use Rattle.std.proofs.Math.Facts.{Fits-lt-pow}
use Rattle.soc_dump.specs.inner.Words.{words_held}
use Rattle.soc_dump.proofs.TableLemmas.{word_in-nowhere, word_in-at, holds-at}
use Rattle.soc_dump.proofs.words.Words.at.Goals as goal

pub returns-in_err-index-clause-value : goal.returns-in_err-index-clause-value
returns-in_err-index-clause-value c =
    let held = words_held c.self.inside in
    let found = c.self.invariant.found c.args.address (Fits-lt-pow c.ranges.address) in
    rw (← c.self.view_is) (c.from_residual.ensures ∙ word_in-nowhere held.regions c.args.address held.width (sym found ∙ sym c.in_err-index.ensures))

pub word_of_region-requires-clause-held : goal.word_of_region-requires-clause-held
word_of_region-requires-clause-held c =
    let held = words_held c.self.inside in
    let found = c.self.invariant.found c.args.address (Fits-lt-pow c.ranges.address) in
    holds-at held.regions c.args.address held.width c.in_ok-index.index _ (sym found ∙ sym c.in_ok-index.ensures) c.region_at-region.ensures

pub returns-clause-value : goal.returns-clause-value
returns-clause-value c =
    let held = words_held c.self.inside in
    let found = c.self.invariant.found c.args.address (Fits-lt-pow c.ranges.address) in
    rw (← c.self.view_is) (ap Some c.word_of_region.ensures.value
    ∙ word_in-at held.regions c.args.address held.width c.in_ok-index.index _ (sym found ∙ sym c.in_ok-index.ensures) c.region_at-region.ensures)
