-- What a book's tables tell of a held crash, and what its view has of it.
use Rattle.std.proofs.Common.{◌≡◌, ℕ, Bool, true, false, IsTrue, List, Option, Some, None, sym, ap, ◌∙◌, ◌⊎◌, inl, ⊎_elim}
use Rattle.soc_book.proofs.Words.{is_some, slice_get, if◌then◌else◌, option_map, option_and_then, value_of, Crash, Caller, Cell, shows, product_of, DiskTold, Looks, LeavesOnly-weaker, JournalState, Filed, LedgerState, is_held, Limits, Basis, Change, events, raw_of, row_in, State, Allowed, Survives, entries_of, kept_of, seen_of, view_of, is_in, accepted_apart, shown, Pending, IsHeldAs, Sees, product_at, Stands}
use Rattle.std.specs.Prelude.{Ok, Err}
use Rattle.soc_desk.specs.declared.desk.Refusal.TheVariants as F
use Rattle.soc_book.proofs.Views.{sight, sight_of, seen_is}
use Rattle.soc_book.proofs.Changes.{sound_crashes}
use Rattle.soc_book.proofs.Filing.{IsKnown, known, got, id_of-got}
use Rattle.soc_book.proofs.Standing.{allowed_in}

-- ---- what is told of it

-- the raw crash of the log, with the product that is kept
pub record TellsOf (log : List Change) (ledger : LedgerState) (id : List ℕ) (number : ℕ) : Type 0 where
  pub raw : Crash
  pub raw_is : raw_of log id ≡ Some raw
  pub product : product_at ledger number ≡ product_of raw

module _ {basis : Basis} {limits : Limits} {ledger : LedgerState} {rows : List (ℕ × List Cell)} {pending : Option Pending} {journal : JournalState} {disk : DiskTold} {state : State}
    (stands : Stands basis limits ledger rows pending journal disk state) where
  pub held_is : (id : List ℕ) (held : Bool) → is_held ledger.log id ≡ held → is_held (events basis state.log) id ≡ held
  held_is id held is = ap (λ l. is_held l id) (sym stands.holds.events_are) ∙ is

  -- what the log tells of a number
  pub known_at : IsTrue basis.is_told → (number : ℕ) (f : Filed) → slice_get ledger.crashes number ≡ Some f → IsKnown (entries_of (kept_of state.log)) state.log f
  known_at is_told number f is =
      let legal = stands.legal.log in
      known (entries_of (kept_of state.log)) state.log ledger.crashes number f stands.holds.filed (accepted_apart basis state.log legal.events_legal) (sound_crashes state.log legal.sound) (legal.told is_told) is

  pub tells_of : (id : List ℕ) (number : ℕ) → IsTrue basis.is_told → IsHeldAs ledger id number → TellsOf state.log ledger id number
  tells_of id number is_told held =
      let f = got ledger.crashes number held.within in
      let k = known_at is_told number f.0 f.1 in
      record {
        raw = k.raw;
        raw_is = ap (raw_of state.log) (sym held.id_is ∙ id_of-got ledger number f.0 f.1) ∙ k.is;
        product = ap (λ (o : Option Filed). option_and_then (λ (filed : Filed). filed.product) o) f.1 ∙ k.filed.product;
      }

  -- ---- the view

  module _ (caller : Caller) (id : List ℕ) where
    view_is : value_of (view_of basis state.log caller) id ≡ sight_of basis state.log caller id
    view_is = seen_is basis state.log caller id stands.legal.log.events_legal

    -- nothing is seen of what isn't held
    pub unheld_view : is_held ledger.log id ≡ false → value_of (view_of basis state.log caller) id ≡ None
    unheld_view gone = view_is ∙ ap (λ b. sight caller b (raw_of state.log id) (row_in basis state.log id)) (held_is id false gone)

    held_sight : (number : ℕ) (known : IsHeldAs ledger id number) (told : TellsOf state.log ledger id number) (shows_it : Bool) → shows caller.products (product_at ledger number) ≡ shows_it
        → value_of (view_of basis state.log caller) id ≡ option_map (λ crash. seen_of caller crash (row_in basis state.log id)) (if shows_it then Some told.raw else None)
    held_sight number known told shows_it is =
        view_is
        ∙ (ap (λ b. sight caller b (raw_of state.log id) (row_in basis state.log id)) (held_is id true known.held)
        ∙ (ap (λ o. option_map (λ crash. seen_of caller crash (row_in basis state.log id)) (shown caller o)) told.raw_is
        ∙ ap (λ b. option_map (λ crash. seen_of caller crash (row_in basis state.log id)) (if b then Some told.raw else None)) (ap (shows caller.products) (sym told.product) ∙ is)))

    -- of a held crash that is shown, its annotations, dumps and row
    pub shown_view : (number : ℕ) → IsHeldAs ledger id number → (told : TellsOf state.log ledger id number) → shows caller.products (product_at ledger number) ≡ true
        → value_of (view_of basis state.log caller) id ≡ Some (seen_of caller told.raw (row_in basis state.log id))
    shown_view number known told is = held_sight number known told true is

    pub shown_in : IsTrue basis.is_told → (number : ℕ) → Sees ledger caller id (Ok number) → IsTrue (is_in (view_of basis state.log caller) id)
    shown_in is_told number sees = ap is_some (shown_view number sees.0 (tells_of id number is_told sees.0) sees.1)

    -- nothing is seen of a crash that isn't found for the caller
    pub unseen_view : IsTrue basis.is_told → Sees ledger caller id (Err F.NoCrash) → value_of (view_of basis state.log caller) id ≡ None
    unseen_view is_told sees =
        ⊎_elim
        (λ (gone : is_held ledger.log id ≡ false). unheld_view gone)
        (λ (hidden : (number : ℕ) × IsHeldAs ledger id number × (shows caller.products (product_at ledger number) ≡ false)).
        held_sight hidden.0 hidden.1 (tells_of id hidden.0 is_told hidden.1) false hidden.2)
        sees

  -- looking at the disk leaves what was allowed
  pub survives_looking : (disk' : DiskTold) (after : State) → IsTrue basis.is_told → Looks disk disk' → Survives disk disk' state after
  survives_looking disk' after is_told looks =
      LeavesOnly-weaker disk disk' disk.images (λ image. Allowed state image ⊎ Allowed after image) (λ image may. inl (allowed_in stands is_told image may)) looks.any_moment
