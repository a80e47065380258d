use Rattle.std.proofs.Common.{ap, ◌∙◌}
use Rattle.soc_sigrules.specs.Signatures.{Summary}
use Rattle.soc_sigrules.proofs.OrderLemmas.{signed}
use Rattle.soc_sigrules.proofs.builder.SignatureBuilder.end.Goals as goal

pub returns : goal.returns
returns c lists frames is =
    let seen = c.self.view_is ∙ is in
    signed lists frames c.self.inside.texts c.args.input.now c.self.inside.watched c.into_text-2.result c.in_ok-text.text c.in_ok-marked.marked
    (ap (λ (s : Summary). s.watched) seen) (ap (λ (s : Summary). s.texts) seen) (c.into_text-2.ensures ∙ ap (λ (s : Summary). s.proto) seen)
    c.in_ok-text.ensures c.in_ok-marked.ensures
