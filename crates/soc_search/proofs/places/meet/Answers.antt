use Rattle.std.proofs.Common.{◌∙◌, ap, sym, arith}
use Rattle.soc_search.specs.inner.Places.{bit, met}
use Rattle.soc_search.proofs.BitLemmas.{bit_and_is, bit_without_is}
use Rattle.soc_search.proofs.places.meet.Goals as goal

pub returns-in-And : goal.returns-in-And
returns-in-And c = λ k lt. bit_and_is c.args.a c.args.b k ∙ ap (λ h. met h (bit c.args.a k) (bit c.args.b k)) (sym c.in-And.is)

pub returns-in-Without : goal.returns-in-Without
returns-in-Without c = λ k lt. bit_without_is c.args.a c.args.b k (omega arith) lt ∙ ap (λ h. met h (bit c.args.a k) (bit c.args.b k)) (sym c.in-Without.is)
