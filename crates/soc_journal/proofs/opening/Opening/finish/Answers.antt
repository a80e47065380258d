use Rattle.std.proofs.Common.{sym, ◌∙◌, ap}
use Rattle.soc_journal.specs.Openings.{OpeningState}
use Rattle.soc_journal.specs.States.{JournalState}
use Rattle.soc_journal.proofs.Finishes.{any_migrated, rests_told, stands_torn, stands_told}
use Rattle.soc_journal.proofs.opening.Opening.finish.Goals as goal

pub returns-in_err-write_and_sync-clause-any_moment : goal.returns-in_err-write_and_sync-clause-any_moment
returns-in_err-write_and_sync-clause-any_moment g c =
    let first = sym (ap (λ (x : OpeningState). x.version) c.self.view_is) ∙ c.if-self-ne-FIRST_VERSION.false in
    any_migrated c.args.self (g.D.Disk.state c.args.disk.now).content _ _ first c.write_and_sync.ensures.tears

pub returns-in_err-write_and_sync-clause-stands : goal.returns-in_err-write_and_sync-clause-stands
returns-in_err-write_and_sync-clause-stands g c =
    let first = sym (ap (λ (x : OpeningState). x.version) c.self.view_is) ∙ c.if-self-ne-FIRST_VERSION.false in
    stands_torn c.args.self (g.D.Disk.state c.args.disk.now).images (g.D.Disk.state c.args.disk.now).images _ _ first c.in_err-write_and_sync.ensures.torn

pub returns-clause-at_rest : goal.returns-clause-at_rest
returns-clause-at_rest g c =
    let first = sym (ap (λ (x : OpeningState). x.version) c.self.view_is) ∙ c.if-self-ne-FIRST_VERSION.false in
    let gate = ap (λ (x : JournalState). x.gate) c.behind-journal.ensures ∙ ap (λ (x : OpeningState). x.place) c.self.view_is in
    let doubt = ap (λ (x : JournalState). x.doubt) c.behind-journal.ensures in
    rests_told c.args.self _ (g.D.Disk.state c.write_and_sync.new.disk).images _ _ c.behind-journal.result first gate doubt c.in_ok-write_and_sync.ensures.written c.in_ok-write_and_sync.ensures.durable

pub returns-clause-any_moment : goal.returns-clause-any_moment
returns-clause-any_moment g c =
    let first = sym (ap (λ (x : OpeningState). x.version) c.self.view_is) ∙ c.if-self-ne-FIRST_VERSION.false in
    any_migrated c.args.self (g.D.Disk.state c.args.disk.now).content _ _ first c.write_and_sync.ensures.tears

pub returns-clause-stands : goal.returns-clause-stands
returns-clause-stands g c =
    let first = sym (ap (λ (x : OpeningState). x.version) c.self.view_is) ∙ c.if-self-ne-FIRST_VERSION.false in
    let gate = ap (λ (x : JournalState). x.gate) c.behind-journal.ensures ∙ ap (λ (x : OpeningState). x.place) c.self.view_is in
    let doubt = ap (λ (x : JournalState). x.doubt) c.behind-journal.ensures in
    stands_told c.args.self _ (g.D.Disk.state c.write_and_sync.new.disk).images _ _ c.behind-journal.result first gate doubt c.in_ok-write_and_sync.ensures.written c.in_ok-write_and_sync.ensures.durable
