-- What a book's tables owe each other is a proposition.
use Rattle.std.specs.Prelude.{ℕ, List, [], ◌∷◌, ◌++◌, Option, None, Some, IfSome}
use Rattle.std.proofs.Props.{props}
use Rattle.soc_journal.specs.States.{JournalState}
use Rattle.soc_ledger.specs.Events.{accepted_ids}
use Rattle.soc_ledger.specs.State.{LedgerState}
use Rattle.soc_book.specs.declared.book.Change.{Change as Pending}
use Rattle.soc_book.specs.declared.book.Change.TheVariants as P
use Rattle.soc_book.specs.declared.submission.NewCrash.{NewCrash}
use Rattle.soc_book.specs.inner.Stands.{AreHeld, AreNew, Fits, IsSafe}

held_prop : (ledger : LedgerState) (numbers : List ℕ) → IsProp (AreHeld ledger numbers)
held_prop ledger [] = hlevel props
held_prop ledger (number ∷ numbers) = hlevel (props, held_prop ledger numbers)

new_prop : (ids : List (List ℕ)) (news : List NewCrash) → IsProp (AreNew ids news)
new_prop ids [] = hlevel props
new_prop ids (new ∷ news) = hlevel (props, new_prop (ids ++ new.id ∷ []) news)

fits_prop : (ledger : LedgerState) (pending : Pending) → IsProp (Fits ledger pending)
fits_prop ledger (P.Accept new) = hlevel props
fits_prop ledger (P.Accepts news) = hlevel (props, new_prop (accepted_ids ledger.log) news.items)
fits_prop ledger (P.Ask number) = hlevel props
fits_prop ledger (P.Withdraw number) = hlevel props
fits_prop ledger (P.Reports numbers) = hlevel (props, held_prop ledger numbers.items)

some_prop : (ledger : LedgerState) (pending : Option Pending) → IsProp (IfSome pending (Fits ledger))
some_prop ledger None = hlevel props
some_prop ledger (Some pending) = fits_prop ledger pending

pub IsSafe-prop : (ledger : LedgerState) (journal : JournalState) (pending : Option Pending) → IsProp (IsSafe ledger journal pending)
IsSafe-prop ledger journal pending = hlevel (props, some_prop ledger pending)
