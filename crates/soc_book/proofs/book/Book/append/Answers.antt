use Rattle.std.proofs.Common.{ap, refl}
use Rattle.std.specs.Prelude.{◌≡◌, ℕ, length, Result, Ok, Err, IsErrOf}
use Rattle.soc_book.proofs.Words.{entries_text}
use Rattle.soc_journal.specs.declared.error.AppendError.{AppendError}
use Rattle.soc_journal.specs.declared.error.AppendError.TheVariants.{StoreFault, JournalFull}
use Rattle.soc_book.proofs.Standing.{append_fails, append_full, append_ok, none_waits, pushed_crashes}
use Rattle.soc_book.proofs.book.Book.append.Goals as goal

written_fits : (answer : Result ℕ AppendError) (place : ℕ) → answer ≡ Ok place → IsErrOf answer JournalFull → ⊥
written_fits answer place is full = cc

failed_fits : (answer : Result ℕ AppendError) → answer ≡ Err StoreFault → IsErrOf answer JournalFull → ⊥
failed_fits answer is full = cc

pub returns-in-Ok-clause-crashes : goal.returns-in-Ok-clause-crashes
returns-in-Ok-clause-crashes g c none =
    pushed_crashes c.args.self.now.ledger c.args.self.now.store c.in-Ok.place c.push.new.ledger c.push.new.store c.args.change none c.push.ensures

pub returns-in-Ok-clause-appended : goal.returns-in-Ok-clause-appended
returns-in-Ok-clause-appended g c basis log changes stands are next same =
    let s = c.args.self.now in
    let e = c.in-Ok.ensures in
    append_ok stands (none_waits s.ledger s.vault.journal s.doubt s.safe c.requires.settled) c.args.change c.requires.fits changes are next
    c.args.entries.now same (g.D.Disk.state c.keep_all.new.self.disk.now) e.goes_on e.any_moment
    c.in-Ok.place c.push.new.ledger c.push.new.store c.keep_all.new.self.journal (length (entries_text c.args.entries.now)) e.place (λ over. written_fits (Ok c.in-Ok.place) c.in-Ok.place refl (e.full.1 over)) e.journal c.push.ensures e.kept

pub returns-in-Err-StoreFault-clause-appended : goal.returns-in-Err-StoreFault-clause-appended
returns-in-Err-StoreFault-clause-appended g c basis log changes stands are next same =
    let s = c.args.self.now in
    let e = rw c.in-Err-StoreFault.field-0-is at c.in-Err-StoreFault.ensures in
    append_fails stands (none_waits s.ledger s.vault.journal s.doubt s.safe c.requires.settled) c.args.change c.requires.fits changes are next
    c.args.entries.now same (g.D.Disk.state c.keep_all.new.self.disk.now) e.goes_on e.any_moment
    c.keep_all.new.self.journal (length (entries_text c.args.entries.now)) (λ over. failed_fits (Err StoreFault) refl (e.full.1 over)) (e.doubt refl) (e.cause refl) (e.in_doubt refl)

pub returns-in-Err-JournalFull-clause-appended : goal.returns-in-Err-JournalFull-clause-appended
returns-in-Err-JournalFull-clause-appended g c basis log changes stands are next same =
    let s = c.args.self.now in
    let e = rw c.in-Err-JournalFull.field-0-is at c.in-Err-JournalFull.ensures in
    append_full stands (none_waits s.ledger s.vault.journal s.doubt s.safe c.requires.settled) c.args.change c.requires.fits changes are next
    c.args.entries.now same (g.D.Disk.state c.keep_all.new.self.disk.now) e.goes_on e.any_moment
    c.keep_all.new.self.journal (g.met.D.Disk.sound s.vault.disk.now) (e.full.0 refl) (e.full_journal refl) (ap g.D.Disk.state (e.full_disk refl))
