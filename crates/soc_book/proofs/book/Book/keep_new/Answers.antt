use Rattle.std.proofs.Common.{ℕ, ◌<◌, ◌≤◌, subst}
use Rattle.soc_book.proofs.Accepting.{accepted_as, accepted_entry, accepted_is, accepted_legal}
use Rattle.soc_book.proofs.Submitting.{fresh_now, stores, too_many}
use Rattle.soc_book.proofs.book.Book.keep_new.Goals as goal

pub returns-then-accepted-self-clause-decided : goal.returns-then-accepted-self-clause-decided
returns-then-accepted-self-clause-decided g c raw of basis log stands =
    let s = c.args.self.now in
    too_many stands (g.met.D.Disk.sound s.vault.disk.now) raw c.args.submission.new of.is of.tells c.requires.is_new
    (subst (λ (n : ℕ). s.limits.crashes ≤ n) c.accepted.ensures.count c.if-accepted-self.true)

pub returns-clause-decided : goal.returns-clause-decided
returns-clause-decided g c raw of basis log stands =
    let s = c.args.self.now in
    let sound = g.met.D.Disk.sound s.vault.disk.now in
    let new = c.args.submission.new in
    let wrote = c.write.ensures.writes basis log (accepted_as basis raw) stands (accepted_is basis raw new of.tells)
    (accepted_legal basis raw log stands.legal.log (fresh_now stands sound raw new of.is of.tells c.requires.is_new) of.is) (accepted_entry basis raw c.args.submission.entry of.entry) in (
      wrote.0,
      wrote.1,
      stores stands sound raw new of.is of.tells c.requires.is_new
          (g.D.Disk.state c.write.new.self.vault.disk.now) c.is_due_at_once.result c.write.result wrote.0
          (subst (λ (n : ℕ). n < s.limits.crashes) c.accepted.ensures.count c.if-accepted-self.false) c.is_due_at_once.ensures wrote.2,
    )
