use Rattle.std.proofs.Common.{◌∙◌, sym, ap, subst, arith}
use Rattle.soc_store.specs.inner.Parts.{AreFilled, blocks_of, postings_in}
use Rattle.soc_store.proofs.PartSteps.{drop_filled, drop_same, first_filled, kept_filled}
use Rattle.soc_store.proofs.parts.drop_empty.Goals as goal
use Rattle.soc_store.proofs.parts.drop_empty.Goals.{else-k-gt0-via-then-k-gt0+else-len-eq0, else-k-gt0-via-else-k-gt0}

pub returns-then-len-eq0-clause-filled : goal.returns-then-len-eq0-clause-filled
returns-then-len-eq0-clause-filled c =
    subst (λ l. AreFilled (blocks_of l)) (sym c.remove.ensures.items) (drop_filled c.args.parts.now.items c.args.k c.requires.within c.requires.filled c.if-k-gt0.true)

pub returns-then-len-eq0-clause-same : goal.returns-then-len-eq0-clause-same
returns-then-len-eq0-clause-same c =
    ap postings_in c.remove.ensures.items ∙ drop_same c.args.parts.now.items c.args.k c.requires.within c.requires.filled c.index.result.now c.index.ensures (omega (arith, c.len.ensures))

pub returns-else-k-gt0-clause-filled : goal.returns-else-k-gt0-clause-filled
returns-else-k-gt0-clause-filled c =
    elim c.else-k-gt0.branch [
      | else-k-gt0-via-then-k-gt0+else-len-eq0 w ↦ kept_filled c.args.parts.now.items c.args.k c.requires.within c.requires.filled w.index.result.now w.index.ensures (omega (arith, w.len.ensures))
      | else-k-gt0-via-else-k-gt0 w ↦ first_filled c.args.parts.now.items c.args.k c.requires.within c.requires.filled (omega arith)
    ]
