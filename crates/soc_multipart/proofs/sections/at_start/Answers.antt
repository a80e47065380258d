use Rattle.std.proofs.Common.{◌≡◌, [], rules}
use Rattle.soc_multipart.proofs.SectionLemmas.{starts_so}
use Rattle.soc_multipart.proofs.sections.at_start.Goals as goal

pub returns : goal.returns
returns c = λ b good.
    let none : c.new.result.items ≡ [] = search rules in
    record { good = good; stands = starts_so b _ _ _ good none c.empty.ensures.bytes c.empty.ensures.line }
