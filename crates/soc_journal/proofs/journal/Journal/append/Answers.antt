use Rattle.std.proofs.Common.{◌≡◌, ◌+◌, ◌<◌, [], ◌∷◌, ℕ, List, subst, sym, ap, length, arith}
use Rattle.soc_journal.specs.Entries.{Entry}
use Rattle.soc_journal.proofs.Singles.{sealed_is, count_is, size_is}
use Rattle.soc_journal.proofs.journal.Journal.append.Goals as goal

pub returns-clause-full : goal.returns-clause-full
returns-clause-full g c =
    let size = size_is c.from_ref.result.now c.args.entry.now c.from_ref.ensures.value in
    let full = c.append_all.ensures.full in
    (λ is. let over = full.0 is in omega (arith, over, size), λ over. full.1 (omega (arith, over, size)))
