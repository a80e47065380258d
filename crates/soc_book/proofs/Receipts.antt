-- What a receipt tells of the log.
use Rattle.std.proofs.Common.{◌≡◌, ℕ, ◌<◌, ◌^◌, List, length, Option, ap, subst, ◌∙◌}
use Rattle.soc_book.proofs.Words.{length-map, Cell, DiskTold, JournalState, Event, has_stop, LedgerState, Command, Limits, Receipt, Asks, Basis, event_of, State, Pending, Does, Stands}
use Rattle.soc_book.proofs.Standing.{allowed_in}

pub asks_of : {basis : Basis} {limits : Limits} {ledger : LedgerState} {rows : List (ℕ × List Cell)} {pending : Option Pending} {journal : JournalState} {before after : State} {disk disk' : DiskTold} {command : Command} (receipt : Receipt)
    → Stands basis limits ledger rows pending journal disk' after → Does basis before disk command receipt.reply after disk'
    → receipt.front ≡ length ledger.log → receipt.front < 2 ^ 60 → receipt.stopped ≡ has_stop ledger.log → Asks basis before disk command receipt after disk'
asks_of {basis = basis} {after = after} receipt stands does front below stopped =
    let count : receipt.front ≡ length after.log =
    front ∙ (ap (λ (l : List Event). length l) stands.holds.events_are ∙ length-map after.log (event_of basis)) in
    record {
      kind = does.kind;
      gains = does.gains;
      legal = stands.legal;
      front = count;
      short = subst (λ (n : ℕ). n < 2 ^ 60) count below;
      stopped = stopped ∙ ap has_stop stands.holds.events_are;
      goes_on = does.goes_on;
      fault = does.fault;
      altered = does.altered;
      step = does.step;
      survives = does.survives;
      allowed = allowed_in stands;
    }
