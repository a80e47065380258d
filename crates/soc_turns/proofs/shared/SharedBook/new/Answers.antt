use Rattle.std.proofs.Common.{subst, sym}
use Rattle.soc_turns.specs.Grounds.{basis_of}
use Rattle.soc_turns.specs.Runs.{RunsFrom}
use Rattle.soc_turns.proofs.Runs.{no_turns}
use Rattle.soc_turns.proofs.shared.SharedBook.new.Goals as goal

pub invariant_of-result-clause-runs : goal.invariant_of-result-clause-runs
invariant_of-result-clause-runs g c =
    let book = c.args.book in
    let basis = basis_of g.D.Telling.tells book in
    ∣ subst (λ opened. RunsFrom basis opened book) (sym c.of-opened.ensures) (no_turns basis book (g.met.D.Disk.sound book.vault.disk.now)) ∣₁
