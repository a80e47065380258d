use Rattle.std.proofs.Common.{List, Err, ◌∙◌, ap, length, arith}
use Rattle.soc_book.proofs.Words.{Entry, err_from_is_err_and, sealed_all, settled}
use Rattle.soc_book.proofs.Gatherings.{batch_done, batch_empty, batch_fails, batch_unmade, no_reports, reports_roomy, reports_there, reports_wait}
use Rattle.soc_book.proofs.Quiets.{stands_roomy}
use Rattle.soc_book.proofs.book.Book.keep_batch.Goals as goal

pub returns-then-count-eq0-clause-keeps : goal.returns-then-count-eq0-clause-keeps
returns-then-count-eq0-clause-keeps g c basis log reports stands are legal same =
    let s = c.args.self.now in
    let none = c.if-count-eq0.true in
    let count = c.len-count.ensures in
    (settled log, stands, batch_empty stands (g.met.D.Disk.sound s.vault.disk.now) reports (no_reports basis log s.ledger c.args.batch.numbers.items reports (omega (arith, none, count)) are))

pub returns-in_err-make_room-clause-keeps : goal.returns-in_err-make_room-clause-keeps
returns-in_err-make_room-clause-keeps g c basis log reports stands are legal same =
    let s = c.args.self.now in
    let some = c.if-count-eq0.false in
    let count = c.len-count.ensures in
    let p = err_from_is_err_and c.from_residual.result c.from_residual.ensures.1 in
    rw (p.1, p.2, c.in_err-make_room.ensures.0) (
      settled log,
      stands_roomy c.in_err-make_room.ensures.1 stands,
      batch_unmade stands (g.met.D.Disk.sound s.vault.disk.now) reports (reports_there basis log s.ledger c.args.batch.numbers.items reports (λ none. some (omega (arith, none, count))) are),
    )

pub returns-in_err-append-clause-keeps : goal.returns-in_err-append-clause-keeps
returns-in_err-append-clause-keeps g c basis log reports stands are legal same =
    let some = c.if-count-eq0.false in
    let count = c.len-count.ensures in
    let there = reports_there basis log c.args.self.now.ledger c.args.batch.numbers.items reports (λ none. some (omega (arith, none, count))) are in
    let l = c.make_room.new.ledger in
    let waits = reports_wait basis log l c.args.batch.numbers reports there (reports_roomy basis log c.args.self.now.ledger l c.args.batch.numbers.items reports c.in_ok-make_room.ensures.0 are) in
    let did = c.in_err-append.ensures.appended basis log reports (stands_roomy c.in_ok-make_room.ensures.0 stands) waits legal (λ is_told. c.as_slice.ensures.value ∙ same) in
    let same_count = c.requires.batch.same_count in
    let room = c.requires.batch.room (omega (arith, some, count, same_count)) in
    let size = ap (λ (es : List Entry). length (sealed_all es)) c.as_slice.ensures.value in
    let p = err_from_is_err_and c.from_residual-in_err-append.result c.from_residual-in_err-append.ensures.1 in
    rw (p.1, p.2) (did.0, did.1, batch_fails c.in_err-append.field-0.0 there (λ full. let over = c.in_err-append.ensures.full (ap Err full) in omega (arith, over, room, size)) did.2)

pub returns-clause-keeps : goal.returns-clause-keeps
returns-clause-keeps g c basis log reports stands are legal same =
    let some = c.if-count-eq0.false in
    let count = c.len-count.ensures in
    let there = reports_there basis log c.args.self.now.ledger c.args.batch.numbers.items reports (λ none. some (omega (arith, none, count))) are in
    let l = c.make_room.new.ledger in
    let waits = reports_wait basis log l c.args.batch.numbers reports there (reports_roomy basis log c.args.self.now.ledger l c.args.batch.numbers.items reports c.in_ok-make_room.ensures.0 are) in
    let did = c.in_ok-append.ensures.appended basis log reports (stands_roomy c.in_ok-make_room.ensures.0 stands) waits legal (λ is_told. c.as_slice.ensures.value ∙ same) in
    (did.0, did.1, batch_done c.len-count.result did.2)
