use Rattle.std.proofs.Common.{sym, subst, arith}
use Rattle.soc_http.proofs.HeadLemmas.{Fills-none, Fills-more, HasNoBlock-empty, HasNoBlock-grown, HasNoBlockInLimit-late, HasNoBlockInLimit-none, EndsInHead-at}
use Rattle.soc_http.specs.Reading.{IsWithinHead}
use Rattle.soc_http.proofs.heads.find_block.Goals as goal

pub loop-end-init : goal.loop-end-init
loop-end-init g c = (Fills-none _ _, omega arith, HasNoBlock-empty c.args.buffer.now)

pub block_end-requires-clause-none_before : goal.block_end-requires-clause-none_before
block_end-requires-clause-none_before g c = rw c.unread-unread.ensures.value c.loop-end.invariant.2

pub returns-then-end-gt-BLOCK_LIMIT-clause-found :
    goal.returns-then-end-gt-BLOCK_LIMIT-clause-found
returns-then-end-gt-BLOCK_LIMIT-clause-found g c =
    let found = rw c.unread-unread.ensures.value at c.in-Some.ensures in
    HasNoBlockInLimit-late _ _ c.if-end-gt-BLOCK_LIMIT.true found.0 found.1

pub returns-then-searched-gt-BLOCK_LIMIT-clause-found :
    goal.returns-then-searched-gt-BLOCK_LIMIT-clause-found
returns-then-searched-gt-BLOCK_LIMIT-clause-found g c =
    let none = rw c.unread-unread.ensures.value at c.in_default.ensures in
    let longer = rw c.unread-unread.ensures.value at c.if-searched-gt-BLOCK_LIMIT.true in
    HasNoBlockInLimit-none _ longer none

pub returns-else-searched-eq0-clause-found : goal.returns-else-searched-eq0-clause-found
returns-else-searched-eq0-clause-found g c =
    let none = rw c.unread-unread.ensures.value at c.in_default.ensures in
    let within = rw c.unread-unread.ensures.value at c.if-searched-gt-BLOCK_LIMIT.false in
    let begun = rw c.unread-unread.ensures.value at c.if-searched-eq0.false in (
      EndsInHead-at _ _ _ _ _ c.in-Ok.ensures.fills c.in-Ok.ensures.count c.if-count-eq0.true begun within none,
      c.in-Ok.ensures.ended c.if-count-eq0.true,
    )

pub returns-in_default-fill-clause-found : goal.returns-in_default-fill-clause-found
returns-in_default-fill-clause-found g c =
    let none = rw c.unread-unread.ensures.value at c.in_default.ensures in
    let within = rw c.unread-unread.ensures.value at c.if-searched-gt-BLOCK_LIMIT.false in
    subst IsWithinHead (sym c.in_default-fill.ensures.kept) (omega arith, none)

pub loop-end-preserved : goal.loop-end-preserved
loop-end-preserved g c =
    let none = rw c.unread-unread.ensures.value at c.in_default.ensures in
    rw c.unread-unread.ensures.value (
      Fills-more _ _ _ _ _ _ c.loop-end.invariant.0 c.in-Ok.ensures.fills,
      omega (arith, c.in-Ok.ensures.count),
      HasNoBlock-grown _ _ _ c.in-Ok.ensures.fills.grown none,
    )
