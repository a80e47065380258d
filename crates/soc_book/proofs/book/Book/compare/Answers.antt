use Rattle.std.proofs.Common.{sym, ap, ◌∙◌}
use Rattle.soc_book.proofs.Words.{Standing, crash_of}
use Rattle.soc_book.proofs.Submitting.{differs_on_disk, fails_read, other_digest, repeats, texts_agree, texts_differ, withdrawn}
use Rattle.soc_book.proofs.book.Book.compare.Goals as goal

pub returns-then-crash-clause-decided : goal.returns-then-crash-clause-decided
returns-then-crash-clause-decided g c raw of basis log stands =
    let s = c.args.self.now in
    let f = c.crash-crash.result.now.filed in
    withdrawn stands (g.met.D.Disk.sound s.vault.disk.now) raw c.args.submission.now.new of.is of.tells c.args.number c.requires.within c.requires.number f c.crash-crash.ensures.filed
    (sym (ap (λ (s : Standing). s.withdrawn) c.crash-crash.ensures.standing) ∙ c.if-crash.true)

pub returns-then-ne-clause-decided : goal.returns-then-ne-clause-decided
returns-then-ne-clause-decided g c raw of basis log stands =
    let s = c.args.self.now in
    let f = c.crash-crash.result.now.filed in
    other_digest stands (g.met.D.Disk.sound s.vault.disk.now) raw c.args.submission.now.new of.is of.tells c.args.number c.requires.within c.requires.number f c.crash-crash.ensures.filed
    (sym (ap (λ (s : Standing). s.withdrawn) c.crash-crash.ensures.standing) ∙ c.if-crash.false) (texts_differ f.digest c.args.submission.now.new.digest c.if-ne.ensures)

pub returns-in-Ok-true-clause-decided : goal.returns-in-Ok-true-clause-decided
returns-in-Ok-true-clause-decided g c raw of basis log stands =
    let s = c.args.self.now in
    let f = c.crash-crash.result.now.filed in
    repeats stands (g.met.D.Disk.sound s.vault.disk.now) raw c.args.submission.now.new of.is of.tells c.args.number c.requires.within c.requires.number f c.crash-crash.ensures.filed
    (sym (ap (λ (s : Standing). s.withdrawn) c.crash-crash.ensures.standing) ∙ c.if-crash.false) (texts_agree f.digest c.args.submission.now.new.digest c.if-ne.ensures) (g.D.Disk.state c.holds.new.self.disk.now) c.holds.new.self.journal c.in-Ok-true.ensures.disk_stays c.in-Ok-true.ensures.journal_stays c.in-Ok-true.ensures.entries_stay
    c.content.result.now (c.content.ensures (crash_of raw) of) c.in-Ok-true.field-0 c.in-Ok-true.ensures.holds c.in-Ok-true.field-0-test

pub returns-in-Ok-false-clause-decided : goal.returns-in-Ok-false-clause-decided
returns-in-Ok-false-clause-decided g c raw of basis log stands =
    let s = c.args.self.now in
    let f = c.crash-crash.result.now.filed in
    differs_on_disk stands (g.met.D.Disk.sound s.vault.disk.now) raw c.args.submission.now.new of.is of.tells c.args.number c.requires.within c.requires.number f c.crash-crash.ensures.filed
    (sym (ap (λ (s : Standing). s.withdrawn) c.crash-crash.ensures.standing) ∙ c.if-crash.false) (texts_agree f.digest c.args.submission.now.new.digest c.if-ne.ensures) (g.D.Disk.state c.holds.new.self.disk.now) c.holds.new.self.journal c.in-Ok-false.ensures.disk_stays c.in-Ok-false.ensures.journal_stays c.in-Ok-false.ensures.entries_stay
    c.content.result.now (c.content.ensures (crash_of raw) of) c.in-Ok-false.field-0 c.in-Ok-false.ensures.holds c.in-Ok-false.field-0-test

pub returns-in-Err-clause-decided : goal.returns-in-Err-clause-decided
returns-in-Err-clause-decided g c raw of basis log stands =
    let s = c.args.self.now in
    let f = c.crash-crash.result.now.filed in
    fails_read stands (g.met.D.Disk.sound s.vault.disk.now) raw c.args.submission.now.new of.is of.tells c.args.number c.requires.within c.requires.number f c.crash-crash.ensures.filed
    (sym (ap (λ (s : Standing). s.withdrawn) c.crash-crash.ensures.standing) ∙ c.if-crash.false) (texts_agree f.digest c.args.submission.now.new.digest c.if-ne.ensures) (g.D.Disk.state c.holds.new.self.disk.now) c.holds.new.self.journal c.in-Err.ensures.disk_stays c.in-Err.ensures.journal_stays c.in-Err.ensures.entries_stay c.in-Err.ensures.cause
