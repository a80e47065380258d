use Rattle.std.proofs.Common.{refl, sym, ◌∙◌, ◌++◌, ◌∷◌, []}
use Rattle.soc_book.proofs.Words.{Looks-none, stop}
use Rattle.soc_ledger.specs.declared.event.Event.TheVariants.{Stopped}
use Rattle.soc_book.proofs.Quiets.{safe_after}
use Rattle.soc_book.proofs.Turnings.{stands_stopping, stopped_now}
use Rattle.soc_book.proofs.book.Book.stop.Goals as goal

pub invariant_of-self-2 : goal.invariant_of-self-2
invariant_of-self-2 g c =
    let s = c.args.self.now in
    record { safe = safe_after s.ledger c.make_room.new.ledger c.stop.new.self s.vault.journal s.doubt Stopped c.in_ok-make_room.ensures.0 c.in_ok-make_room.ensures.1 c.stop.ensures refl refl s.safe }

pub returns-clause-does : goal.returns-clause-does
returns-clause-does g c = λ basis state stands.
    let none = sym c.is_stopped.ensures ∙ c.if-is_stopped.false in (
      record state { log = state.log ++ stop ∷ [] },
      stands_stopping stands c.make_room.new.ledger c.stop.new.self c.in_ok-make_room.ensures.0 c.stop.ensures none,
      stopped_now stands _ (Looks-none _ (g.met.D.Disk.sound c.args.self.now.vault.disk.now)) c.args.caller.now c.in_ok-check.ensures none,
    )
