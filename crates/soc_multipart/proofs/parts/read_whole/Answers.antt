use Rattle.std.proofs.Common.{[], ◌∷◌, refl, ◌∙◌, arith, rules, ◌≡◌, ◌<◌, length}
use Rattle.std.proofs.lemmas.Result.{err_from_is_err_and}
use Rattle.std.proofs.lemmas.Slice.{pushed}
use Rattle.soc_multipart.specs.Parts.{parts_limit}
use Rattle.soc_multipart.proofs.Basics.{from_yes}
use Rattle.soc_multipart.proofs.CutLemmas.{refusal_lifts, held_more}
use Rattle.soc_multipart.proofs.parts.read_whole.Goals as goal

pub returns-in_err-read-clause-refused : goal.returns-in_err-read-clause-refused
returns-in_err-read-clause-refused c =
    let p = err_from_is_err_and c.from_residual-in_err-read.result c.from_residual-in_err-read.ensures.1 in
    let few : c.len-in-Opening.result < parts_limit = omega (arith, c.len.ensures, c.len-in-Opening.ensures, c.if-len-ge-PARTS_LIMIT.false) in
    let count : c.len-in-Opening.result ≡ length c.loop-end.parts.items = search rules in
    rw (p.1, p.2)
    (refusal_lifts _ _ _ _ _ _ _ _ (c.new-finder.ensures ∙ (c.as_slice.ensures.value ∙ c.in_ok-mark.ensures)) c.in-Opening.is
    (from_yes _ c.is_boundary.ensures c.if-not-is_boundary.false) c.loop-end.invariant.held count few c.in_err-read.ensures.refused)

pub loop-end-preserved : goal.loop-end-preserved
loop-end-preserved c = record {
  few = search rules;
  held =
      held_more _ _ _ _ _ c.in_ok-read.read.part _ _ _ (c.new-finder.ensures ∙ (c.as_slice.ensures.value ∙ c.in_ok-mark.ensures)) c.in-Opening.is
      c.loop-end.invariant.held c.in_ok-read.ensures.found (pushed (c.in_ok-read.read.part ∷ []) refl c.in_ok-push.was c.push.ensures.items);
}
