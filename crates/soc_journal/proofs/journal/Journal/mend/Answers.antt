use Rattle.soc_edge.proofs.Disks.{Looks-none}
use Rattle.std.proofs.Common.{refl, sym, ◌∙◌, ap}
use Rattle.soc_journal.specs.States.{JournalState}
use Rattle.soc_journal.proofs.Mends.{kept_told, dropped_told}
use Rattle.soc_journal.proofs.journal.Journal.mend.Goals as goal

pub returns-then-is_open-clause-agrees : goal.returns-then-is_open-clause-agrees
returns-then-is_open-clause-agrees g c =
    let at = sym (ap (λ (x : JournalState). x.gate) c.self.view_is) in
    let doubt = sym (ap (λ (x : JournalState). x.doubt) c.self.view_is) ∙ c.in-Some.is in
    kept_told c.args.self.now _ _ _ at doubt refl _ _ _ _ refl c.if-is_open.true c.in_ok-is_open.ensures.only c.in_ok-is_open.ensures.open_gate

pub returns-else-is_open-clause-agrees : goal.returns-else-is_open-clause-agrees
returns-else-is_open-clause-agrees g c =
    let at = sym (ap (λ (x : JournalState). x.gate) c.self.view_is) in
    let doubt = sym (ap (λ (x : JournalState). x.doubt) c.self.view_is) ∙ c.in-Some.is in
    dropped_told c.args.self.now _ _ _ at doubt refl _ _ _ _ refl c.if-is_open.false c.in_ok-is_open.ensures.only c.in_ok-is_open.ensures.open_gate

pub returns-in_default-clause-disk_stays : goal.returns-in_default-clause-disk_stays
returns-in_default-clause-disk_stays g c = Looks-none _ (g.met.D.Disk.sound c.args.disk.now)
