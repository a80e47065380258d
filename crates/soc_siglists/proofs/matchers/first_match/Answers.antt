use Rattle.std.proofs.Common.{◌∙◌, sym, ap, arith}
use Rattle.soc_siglists.specs.Lists.{matches_one}
use Rattle.soc_siglists.proofs.FrameLemmas.{first_here, first_nowhere, none_more}
use Rattle.soc_siglists.proofs.matchers.first_match.Goals as goal

pub returns-then-branch : goal.returns-then-branch
returns-then-branch c =
    first_here (matches_one c.args.matchers.now) c.args.frames.now c.loop-place.place c.at.result.now c.loop-place.invariant.none c.at.ensures
    (sym c.if-branch.true ∙ c.in_ok-match_one.ensures.value ∙ ap (λ ms. matches_one ms c.at.result.now) c.loop-place.invariant.same)

pub loop-place-preserved : goal.loop-place-preserved
loop-place-preserved c = record {
  same = c.in_ok-match_one.ensures.same ∙ c.loop-place.invariant.same;
  none =
      none_more (matches_one c.args.matchers.now) c.args.frames.now c.loop-place.place c.at.result.now c.loop-place.invariant.none c.at.ensures
      (sym c.if-branch.false ∙ c.in_ok-match_one.ensures.value ∙ ap (λ ms. matches_one ms c.at.result.now) c.loop-place.invariant.same);
}

pub returns : goal.returns
returns c = first_nowhere (matches_one c.args.matchers.now) c.args.frames.now c.loop-place.place c.loop-place.invariant.none (omega arith)
