use Rattle.std.proofs.Common.{[], ◌∷◌, refl, ap, ◌∙◌}
use Rattle.std.proofs.lemmas.List.{map_push}
use Rattle.std.proofs.lemmas.Slice.{pushed}
use Rattle.soc_multipart.specs.Heads.{ReadsLine}
use Rattle.soc_multipart.specs.inner.Views.{line_text, line_texts}
use Rattle.soc_multipart.proofs.ChainLemmas.{chain_grow}
use Rattle.soc_multipart.proofs.heads.read_lines.Goals as goal

pub loop-line-preserved : goal.loop-line-preserved
loop-line-preserved c =
    chain_grow ReadsLine _ _ _ _ _ _ c.loop-line.invariant c.in-Some.ensures
    (ap line_texts (pushed (c.in-Some.line ∷ []) refl c.in_ok-push.was c.push.ensures.items) ∙ map_push line_text c.loop-line.lines.items c.in-Some.line)
