use Rattle.std.proofs.Common.{◌≡◌, ◌+◌, List, length, subst, arith}
use Rattle.soc_journal.specs.Entries.{Entry, entry_text}
use Rattle.soc_journal.specs.inner.Staging.{HasLooked}
use Rattle.soc_journal.proofs.Behinds.{looked_more}
use Rattle.soc_journal.proofs.staging.length_within.Goals as goal

pub loop-entry-preserved : goal.loop-entry-preserved
loop-entry-preserved c =
    let looked = subst (λ (rest : List Entry). HasLooked c.args.entries.now rest c.args.most c.loop-entry.left) c.in-Some.ensures.cases.0 c.loop-entry.invariant in
    let left = c.in_ok-left-2.ensures in
    let count = c.count.ensures.count in
    looked_more c.args.entries.now c.in-Some.entry.now c.in-Some.behind.now c.args.most c.loop-entry.left looked c.in_ok-left-2.left (omega (arith, left.0, left.1, count)) c.count.ensures.legal
