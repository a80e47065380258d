use Rattle.std.proofs.Common.{◌≡◌, ◌+◌, ℕ, List, [], Result, Ok, Err, OnOk, MatchResult, sym, ◌∙◌, subst}
use Rattle.soc_book.proofs.Words.{err_from_is_err_and, Entry, Kept, entries_of, kept_of, HasGathered, LeavesSome}
use Rattle.soc_book.proofs.Gatherings.{batch_added, gathers, not_gathered, unadded_left, unmade_left, without_entry}
use Rattle.soc_book.proofs.Standing.{gate_behind}
use Rattle.soc_book.proofs.book.Book.gather.Goals as goal

-- what was added, where it could be
added : {E : Type 0} (Q : List ℕ → List Entry → List Kept → Type 0) (L : Type 0) (answer : Result (Unit {0}) E) (numbers ns : List ℕ) (entries es : List Entry) (reports : List Kept) → OnOk answer (es ≡ entries) → OnOk answer (ns ≡ numbers) → Q numbers entries reports → L
    → MatchResult answer (λ _. (more : List Kept) × Q ns es more) (λ _. L)
added Q L (Ok done) numbers ns entries es reports same_entries same_numbers holds left =
    (reports, subst (λ x. Q x es reports) (sym same_numbers) (subst (λ x. Q numbers x reports) (sym same_entries) holds))
added Q L (Err error) numbers ns entries es reports same_entries same_numbers holds left = left

pub returns-then-not-is_to_keep-clause-gathered : goal.returns-then-not-is_to_keep-clause-gathered
returns-then-not-is_to_keep-clause-gathered g c basis log from reports digest tell stands gathered =
    let s = c.args.self.now in
    let b = c.args.batch.now in (
      reports,
      not_gathered basis log s.ledger s.store stands.legal.log stands.holds c.args.digest.now c.told-digest digest tell from b.next b.numbers.items b.entries.items reports gathered c.requires.within (sym c.is_to_keep.ensures ∙ c.if-not-is_to_keep.true),
    )

pub returns-in_err-entry-clause-gathered : goal.returns-in_err-entry-clause-gathered
returns-in_err-entry-clause-gathered g c basis log from reports digest tell stands gathered =
    let s = c.args.self.now in
    let j = s.vault.journal in
    let b = c.args.batch.now in
    let p = err_from_is_err_and c.from_residual.result c.from_residual.ensures.1 in
    rw p.1
    (unmade_left basis log s.ledger s.store stands.legal.log stands.holds c.args.digest.now c.told-digest digest tell from b.next b.numbers.items b.entries.items reports gathered c.requires.within (sym c.is_to_keep.ensures ∙ c.if-not-is_to_keep.false)
    j.gate j.limit b.bytes c.most_body-most.result (λ is_told. gate_behind (g.D.Disk.state s.vault.disk.now) j (entries_of (kept_of log)) [] (stands.told is_told).means) stands.bounds.limit c.requires.batch.bytes_are c.most_body-most.ensures c.in_err-entry.ensures)

pub returns-in-Some-clause-batch : goal.returns-in-Some-clause-batch
returns-in-Some-clause-batch g c =
    let s = c.args.self.now in
    let j = s.vault.journal in
    let b = c.args.batch.now in
    batch_added s.ledger j b c.push.new.self b.next _ _ _ _ c.most_body-most.result c.in-Some.entry (rw c.in-Some.is at c.in_ok-entry.ensures) c.most_body-most.ensures c.requires.within (sym c.is_to_keep.ensures ∙ c.if-not-is_to_keep.false) c.requires.few
    c.push.result c.push.ensures.entries c.push.ensures.numbers c.push.ensures.bytes c.push.ensures.unchanged c.requires.batch

pub returns-in-Some-clause-gathered : goal.returns-in-Some-clause-gathered
returns-in-Some-clause-gathered g c basis log from reports digest tell stands gathered =
    let s = c.args.self.now in
    let j = s.vault.journal in
    let b = c.args.batch.now in
    let makes = rw c.in-Some.is at c.in_ok-entry.ensures in
    added (λ ns es more. HasGathered basis log s.ledger from (b.next + 1) ns es more) (LeavesSome basis log from) c.push.result _ _ _ _ _ c.push.ensures.entries c.push.ensures.numbers
    (gathers basis log s.ledger s.store stands.legal.log stands.holds c.args.digest.now c.told-digest digest tell from b.next b.numbers.items b.entries.items reports gathered c.requires.within (sym c.is_to_keep.ensures ∙ c.if-not-is_to_keep.false)
    j.gate j.limit b.bytes c.most_body-most.result (λ is_told. gate_behind (g.D.Disk.state s.vault.disk.now) j (entries_of (kept_of log)) [] (stands.told is_told).means) stands.bounds.limit c.requires.batch.bytes_are c.most_body-most.ensures c.in-Some.entry makes)
    (unadded_left basis log s.ledger s.store stands.legal.log stands.holds c.args.digest.now c.told-digest digest tell from b.next b.numbers.items b.entries.items reports gathered c.requires.within (sym c.is_to_keep.ensures ∙ c.if-not-is_to_keep.false)
    j.gate j.limit b.bytes c.most_body-most.result (λ is_told. gate_behind (g.D.Disk.state s.vault.disk.now) j (entries_of (kept_of log)) [] (stands.told is_told).means) stands.bounds.limit c.requires.batch.bytes_are c.most_body-most.ensures c.in-Some.entry makes)

pub returns-in-None-clause-gathered : goal.returns-in-None-clause-gathered
returns-in-None-clause-gathered g c basis log from reports digest tell stands gathered =
    let s = c.args.self.now in
    let j = s.vault.journal in
    let b = c.args.batch.now in
    let none = rw c.in-None.is at c.in_ok-entry.ensures in (
      reports,
      without_entry basis log s.ledger s.store stands.legal.log stands.holds c.args.digest.now c.told-digest digest tell from b.next b.numbers.items b.entries.items reports gathered c.requires.within (sym c.is_to_keep.ensures ∙ c.if-not-is_to_keep.false)
          j.gate j.limit b.bytes c.most_body-most.result (λ is_told. gate_behind (g.D.Disk.state s.vault.disk.now) j (entries_of (kept_of log)) [] (stands.told is_told).means) stands.bounds.limit c.requires.batch.bytes_are c.most_body-most.ensures none,
    )
