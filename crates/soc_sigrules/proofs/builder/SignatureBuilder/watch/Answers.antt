use Rattle.std.proofs.Common.{true, ap, ◌∙◌}
use Rattle.soc_sigrules.specs.Signatures.{Summary}
use Rattle.soc_sigrules.proofs.SummaryLemmas.{watched, unwatched}
use Rattle.soc_sigrules.proofs.builder.SignatureBuilder.watch.Goals as goal

pub returns-then-eq : goal.returns-then-eq
returns-then-eq c = ap (λ (s : Summary). record s { watched = true }) c.self.view_is ∙ watched c.args.self.now _ c.if-eq.ensures

pub returns-else-eq : goal.returns-else-eq
returns-else-eq c = unwatched c.args.self.now _ c.if-eq.ensures
