use Rattle.std.proofs.Common.{length, ap, arith}
use Rattle.soc_journal.specs.inner.Sealed.{entry_in}
use Rattle.soc_journal.proofs.Texts.{length-sealed}
use Rattle.soc_journal.proofs.entry_text.EntryText.body.Goals as goal

pub body_of-requires : goal.body_of-requires
body_of-requires c =
    let text = c.self.inside.text.items in
    omega (arith, ap (λ x. length x) c.as_slice.ensures.value, ap (λ x. length x) c.self.invariant.whole, length-sealed (entry_in text))
