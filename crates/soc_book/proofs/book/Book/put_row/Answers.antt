use Rattle.std.proofs.Common.{refl, ap, ◌∙◌}
use Rattle.soc_ledger.specs.declared.event.Event.TheVariants.{Done}
use Rattle.soc_book.proofs.Words.{id_of, with_row}
use Rattle.soc_book.proofs.Quiets.{safe_after, stands_roomy}
use Rattle.soc_book.proofs.Turnings.{stands_finished}
use Rattle.soc_book.proofs.book.Book.put_row.Goals as goal

pub invariant_of-self-2 : goal.invariant_of-self-2
invariant_of-self-2 g c =
    let s = c.args.self.now in
    record { safe = safe_after s.ledger c.make_room.new.ledger c.finish.new.self s.vault.journal s.doubt (Done (id_of c.make_room.new.ledger c.args.number)) c.in_ok-make_room.ensures.0 c.in_ok-make_room.ensures.1 c.finish.ensures refl refl s.safe }

pub returns-clause-puts : goal.returns-clause-puts
returns-clause-puts g c = λ basis state is_row stands.
    let put = c.in-Ok.ensures.ok ∙ ap (λ row. with_row (c.args.number, row) c.args.self.now.store) c.with_product-row.ensures in
    stands_finished stands c.args.number c.args.row c.make_room.new.ledger c.finish.new.self c.put.new.self c.in_ok-make_room.ensures.0 c.finish.ensures put c.requires.within c.requires.due is_row

pub returns-in_default-clause-puts : goal.returns-in_default-clause-puts
returns-in_default-clause-puts g c = λ basis state is_row stands. (refl, rw c.in_default.ensures.err (stands_roomy c.in_ok-make_room.ensures.0 stands))
