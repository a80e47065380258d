use Rattle.std.proofs.Common.{◌≡◌, ◌∙◌, ap, arith, length, ◌+◌}
use Rattle.soc_store.specs.declared.parts.Part.{Part}
use Rattle.soc_store.specs.inner.Parts.{postings_in}
use Rattle.soc_store.proofs.CountedLemmas.{last_end}
use Rattle.soc_store.proofs.parts.total.Goals as goal

pub returns-in-Some : goal.returns-in-Some
returns-in-Some c =
    let last = c.in-Some.ensures in
    let none_before : 0 + length (postings_in c.args.parts.now) ≡ length (postings_in c.args.parts.now) = omega arith in
    ap (λ (p : Part). p.end) last.item.1 ∙ last_end 0 c.args.parts.now c.in-Some.part.now c.requires last.item.3.0 ∙ none_before
