use Rattle.std.proofs.Common.{subst}
use Rattle.soc_multipart.specs.Delimiters.{EndsAs, EndsNowise}
use Rattle.soc_multipart.proofs.DelimiterLemmas.{none_from, none_in_rest, clear_more, meets_at, found_in_rest, found_inside, behind}
use Rattle.soc_multipart.proofs.delimiters.next_delimiter.Goals as goal

pub returns : goal.returns
returns c =
    none_from _ _ c.loop-at.from c.requires c.loop-at.invariant.1 (none_in_rest _ _ _ c.after.ensures c.in_default.ensures)

pub returns-in-Some-end_of : goal.returns-in-Some-end_of
returns-in-Some-end_of c =
    meets_at _ _ _ _ _ c.loop-at.invariant.0 c.requires c.loop-at.invariant.1
    (found_in_rest _ _ _ _ c.after.ensures c.in-Some.ensures)
    (subst (λ x. EndsAs x c.in-Some-end_of.end) (behind _ _ _ _ _ c.needle.ensures c.after-in-Some.ensures) c.in-Some-end_of.ensures)

pub loop-at-preserved : goal.loop-at-preserved
loop-at-preserved c = (
  found_inside _ _ _ _ c.loop-at.invariant.0 c.requires (found_in_rest _ _ _ _ c.after.ensures c.in-Some.ensures),
  clear_more _ _ _ _ c.requires c.loop-at.invariant.1
      (found_in_rest _ _ _ _ c.after.ensures c.in-Some.ensures)
      (subst EndsNowise (behind _ _ _ _ _ c.needle.ensures c.after-in-Some.ensures) c.in_default-end_of.ensures),
)
