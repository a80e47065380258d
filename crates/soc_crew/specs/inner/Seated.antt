-- What the seats of a hall know once their threads have ended.
use Rattle.std.specs.Prelude.{◌≡◌, ℕ, List, All, Some, sum_by}
use Rattle.soc_hall.specs.Log.{pieces}
use Rattle.soc_hall.specs.Seats.{known_of}
use Rattle.soc_service.specs.declared.change.Change.{Change}
use Rattle.soc_service.specs.Changes.{events_in, kept_in}
use Rattle.soc_service.specs.Turns.{SeatOf}

module _ {S A B : Type 0} where
  -- how many changes and stops the pieces of its turns keep
  abbrev pub kept_of : SeatOf S A B → ℕ
  kept_of seat = kept_in (events_in (pieces (known_of seat).turns))

  -- the hall opened with this basis and this log
  pub record Knows (basis : B) (opening : List Change) (seat : SeatOf S A B) : Type 0 where
    pub basis_is : (known_of seat).basis ≡ Some basis
    pub opening_is : (known_of seat).opening ≡ opening

  -- so do all these seats, whose turns together have kept so much
  pub record AreSeated (basis : B) (opening : List Change) (kept : ℕ) (seats : List (SeatOf S A B)) : Type 0 where
    pub each : All (Knows basis opening) seats
    pub kept_are : sum_by kept_of seats ≡ kept
