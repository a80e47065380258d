use Rattle.std.proofs.Common.{true, false, ap, ◌∙◌, ◌∷◌, []}
use Rattle.soc_book.proofs.Words.{Looks-none, is_due, id_of, with_done}
use Rattle.soc_book.proofs.Turnings.{due_by, finish_absent, finish_idle, finish_no_memory, finished, looks_same, row_finished}
use Rattle.soc_book.proofs.book.Book.finish.Goals as goal

pub returns-in_default-clause-does : goal.returns-in_default-clause-does
returns-in_default-clause-does g c = λ basis state allowed stands. (
  state,
  stands,
  finish_absent stands _ (Looks-none _ (g.met.D.Disk.sound c.args.self.now.vault.disk.now)) c.args.processed c.raw.result.now.id (ap (λ crash. crash.id) c.raw.ensures) c.in_default.ensures,
)

pub returns-then-is_none-clause-does : goal.returns-then-is_none-clause-does
returns-then-is_none-clause-does g c = λ basis state allowed stands. (
  state,
  stands,
  finish_idle stands _ (Looks-none _ (g.met.D.Disk.sound c.args.self.now.vault.disk.now)) c.args.processed c.raw.result.now.id (ap (λ crash. crash.id) c.raw.ensures)
      (due_by c.args.self.now.ledger c.raw.result.now.id c.in-Some.number c.crash.result.now.filed c.crash.result.now.standing false c.in-Some.ensures c.crash.ensures.filed c.crash.ensures.standing c.if-is_none.ensures),
)

pub returns-in-Ok-clause-does : goal.returns-in-Ok-clause-does
returns-in-Ok-clause-does g c = λ basis state allowed stands.
    let s = c.args.self.now in
    let same = c.in-Some.ensures.id_is ∙ ap (λ crash. crash.id) c.raw.ensures in
    let due = ap (is_due s.ledger.log) c.in-Some.ensures.id_is ∙ due_by s.ledger c.raw.result.now.id c.in-Some.number c.crash.result.now.filed c.crash.result.now.standing true c.in-Some.ensures c.crash.ensures.filed c.crash.ensures.standing c.if-is_none.ensures in
    let looks = looks_same _ _ (g.met.D.Disk.sound s.vault.disk.now) (ap g.D.Disk.state c.in-Ok.ensures.disk) in
    let is_row = row_finished stands _ looks c.args.processed c.in-Some.number c.into_row.result same c.into_row.ensures.value due allowed in
    (with_done state (id_of s.ledger c.in-Some.number ∷ []), c.in-Ok.ensures.puts basis state is_row stands, finished stands _ looks c.args.processed c.in-Some.number same due)

pub returns-in-Err-clause-does : goal.returns-in-Err-clause-does
returns-in-Err-clause-does g c = λ basis state allowed stands.
    let s = c.args.self.now in
    let same = c.in-Some.ensures.id_is ∙ ap (λ crash. crash.id) c.raw.ensures in
    let due = ap (is_due s.ledger.log) c.in-Some.ensures.id_is ∙ due_by s.ledger c.raw.result.now.id c.in-Some.number c.crash.result.now.filed c.crash.result.now.standing true c.in-Some.ensures c.crash.ensures.filed c.crash.ensures.standing c.if-is_none.ensures in
    let looks = looks_same _ _ (g.met.D.Disk.sound s.vault.disk.now) (ap g.D.Disk.state c.in-Err.ensures.disk) in
    let is_row = row_finished stands _ looks c.args.processed c.in-Some.number c.into_row.result same c.into_row.ensures.value due allowed in
    let puts = c.in-Err.ensures.puts basis state is_row stands in
    (state, puts.1, rw puts.0 (finish_no_memory stands _ looks c.args.processed))
