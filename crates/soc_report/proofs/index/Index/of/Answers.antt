use Rattle.std.proofs.Common.{◌≡◌, ◌<◌, ◌+◌, ◌-◌, ◌∙◌, ℕ, length, map, ap, sym, subst, arith}
use Rattle.soc_report.specs.declared.texts.SymbolFile.{SymbolFile}
use Rattle.soc_report.specs.inner.Index.{IsChain}
use Rattle.soc_report.specs.inner.Kits.{ids_of}
use Rattle.soc_report.specs.inner.Parts.{middle_of}
use Rattle.soc_report.specs.inner.Reading.{symbol_view}
use Rattle.soc_report.proofs.ChainLemmas.{chain_put}
use Rattle.soc_report.proofs.LookupLemmas.{id_here}
use Rattle.soc_report.proofs.index.Index.of.Goals as goal

pub loop-place-preserved : goal.loop-place-preserved
loop-place-preserved c =
    let place = c.loop-place.place - 1 in
    let symbols = c.args.symbols.now in
    let some : 0 < c.loop-place.place = c.loop-place-test.true in
    let next : c.loop-place.place ≡ place + 1 = omega arith in
    let inside : place < length symbols = let within = c.loop-place.invariant.within in omega arith in
    let here = id_here symbols place c.index-symbols-place.result c.middle_part-id.result.now inside c.index-symbols-place.is (c.middle_part-id.ensures ∙ (ap middle_of c.as_str.ensures ∙ ap (λ (f : SymbolFile). middle_of f.path) (sym c.index-symbols-place.is))) in
    record {
      within = omega arith;
      chain =
          chain_put (ids_of (map symbol_view symbols)) place c.middle_part-id.result.now _ _ _ _ here
          (subst (λ (n : ℕ). IsChain (ids_of (map symbol_view symbols)) n c.loop-place.index.first c.loop-place.index.next.items) next c.loop-place.invariant.chain)
          c.in_ok-put.ensures.first c.in_ok-put.ensures.next;
    }
