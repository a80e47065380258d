-- What each step on the hall's table tells its seat.
use Rattle.std.specs.Prelude.{None, Some, ◌≡◌, ◌≢◌, ℕ, ◌+◌, ◌-◌, ◌%◌, ◌^◌, ◌<◌, List, [], ◌∷◌, ◌++◌, length, drop}
use Rattle.atomic_table.specs.Table.{Me, Step}
use Rattle.soc_hall.specs.declared.view.Place.{Place}
use Rattle.soc_hall.specs.declared.view.Place.TheVariants.{Done}
use Rattle.soc_hall.specs.declared.view.Entry.{Entry}
use Rattle.soc_hall.specs.declared.view.Stage.{Stage}
use Rattle.soc_hall.specs.declared.view.Stage.TheVariants.{Fresh, Idle, Waits, Turns, Away}
use Rattle.soc_hall.specs.declared.view.Known.{Known}
use Rattle.soc_hall.specs.declared.view.View.{View}
use mathlib.Core.List.{IsPrefix}
use Rattle.soc_hall.specs.Log.{tagged, whole, IsLonger}
use Rattle.soc_hall.specs.Seats.{known}
use Rattle.soc_hall.specs.Asked.{turn_of, Right, IsState, Owns}
use Rattle.soc_hall.specs.inner.Rule.{Holds}

module _ {B X C P : Type 0} where
  -- a seat gives one of its parts away ..
  abbrev pub keeping : View B X C P → View B X C P
  keeping v = record v { parts = v.parts - 1 }

  -- .. to a new seat, which has no number yet
  abbrev pub given : View B X C P → View B X C P
  given v = record v { parts = 1; stage = Fresh; turns = []; gone = [] }

  -- no seat: what it was has gone to another
  abbrev pub spent : View B X C P
  spent = record { number = 0; parts = 0; stage = Away; basis = None; opening = []; seen = []; told = []; turns = []; gone = [] }

  -- a note of what a seat has seen
  abbrev pub note_of : View B X C P → View B X C P
  note_of v = record { number = 0; parts = 0; stage = Away; basis = None; opening = []; seen = []; told = v.seen; turns = []; gone = [] }

  abbrev pub hearing : View B X C P → View B X C P → View B X C P
  hearing v w = record v { told = w.told }

  -- a seat takes another in
  abbrev pub taking_in : View B X C P → View B X C P → View B X C P
  taking_in v w = record v { parts = v.parts + w.parts; gone = v.gone ++ known w ∷ [] }

  -- the same of these seats, each of which stands for one
  abbrev pub having_taken : List (Known B X C P) → View B X C P → View B X C P
  having_taken others v = record v { parts = v.parts + length others; gone = v.gone ++ others }

  abbrev pub seeing : List (Entry X) → View B X C P → View B X C P
  seeing s v = record v { seen = s; told = [] }

  abbrev pub numbered_as : ℕ → View B X C P → View B X C P
  numbered_as n v = record v { number = n; stage = Idle }

  abbrev pub staged : Stage → View B X C P → View B X C P
  staged st v = record v { stage = st }

  -- a seat that has its turn, and has seen the whole log
  abbrev pub taken : View B X C P → ℕ → List (Entry X) → View B X C P
  taken v t between = record v { stage = Turns t; seen = v.seen ++ between }

  abbrev pub front_of : View B X C P → ℕ
  front_of v = length (whole v.opening v.seen)

  -- the view after a turn of this piece, command and reply
  abbrev pub turned_by : View B X C P → List X → C → P → View B X C P
  turned_by v piece c p = record v { seen = v.seen ++ tagged v.number piece; turns = v.turns ++ turn_of (known v) piece c p ∷ [] }

abbrev Sat : Type 0 → Type 0 → Type 0 → Type 0 → Type 0 → Type 0
Sat T B X C P = Me (Place T C P) (View B X C P)

module _ {T B X C P : Type 0} where
  abbrev pub numbered : Step (Place T C P) → Sat T B X C P → ℕ → Sat T B X C P → Type 0
  numbered st m n m' = (k : ℕ) × (m' ≡ (numbered_as k m.0, m.1))

  abbrev pub drew : Step (Place T C P) → Sat T B X C P → ℕ → Sat T B X C P → Type 0
  drew st m n m' = (t : ℕ) × (n ≡ t % 2 ^ 64) × (m' ≡ (staged (Waits t) m.0, m.1))

  -- with the turn: the word is the length of the log
  abbrev pub fronted : Step (Place T C P) → Sat T B X C P → ℕ → Sat T B X C P → Type 0
  fronted st m n m' = (m' ≡ m) × (n ≡ front_of m.0)

  -- the slot is given back, and the changes that bear the seat's number are the pieces of its turns, each of which stands in the log
  abbrev pub passed : (B → List X → C → P → List X → Type 0) → Step (Place T C P) → Sat T B X C P → ℕ → Sat T B X C P → Type 0
  passed answers st m n m' = (m' ≡ (staged Idle m.0, [])) × Owns answers (known m'.0)

module _ {T B X C P : Type 0} where
  -- the seat has now seen the longer of what it had seen and what it was told
  abbrev pub compared : (B → List X → C → P → List X → Type 0) → Step (Place T C P) → Sat T B X C P → ℕ → Sat T B X C P → Type 0
  compared answers st m n m' = (s : List (Entry X)) × (m' ≡ (seeing s m.0, m.1)) × IsLonger s m.0.seen m.0.told × Owns answers (known m'.0)

module _ {T B X C P : Type 0} (log_of : T → List X) (basis_of : T → B) where
  -- the seat has the turn, and the state with the log that it has now seen
  abbrev pub Takes : View B X C P → ℕ → List (ℕ × Place T C P) → View B X C P → List (ℕ × Place T C P) → Type 0
  Takes v t c w d = (between : List (Entry X)) × (x : Place T C P)
      × (w ≡ taken v t between) × (d ≡ (0, x) ∷ c)
      × Holds (IsState log_of basis_of v.basis v.opening w.seen) x

  abbrev pub looked : Step (Place T C P) → Sat T B X C P → ℕ → Sat T B X C P → Type 0
  looked st m n m' = (t : ℕ) → m.0.stage ≡ Waits t
      → (n ≡ t % 2 ^ 64 → Takes m.0 t m.1 m'.0 m'.1) × (n ≢ t % 2 ^ 64 → m' ≡ m)

module _ {T B X C P : Type 0} (log_of : T → List X) where
  -- the piece is what the state has behind the log that the seat had seen
  abbrev pub counted : Step (Place T C P) → Sat T B X C P → ℕ → Sat T B X C P → Type 0
  counted st m n m' = (x : T) (c : _) (p : _) → m.1 ≡ (0, Done x c p) ∷ []
      → m' ≡ (turned_by m.0 (drop (front_of m.0) (log_of x)) c.value p.value, m.1)

module _ {T B X C P : Type 0} (log_of : T → List X) (basis_of : T → B) where
  -- the state after a turn of a seat with this view: its log is longer by k than what the seat had seen, and the answer is right
  pub record IsAfter (answers : B → List X → C → P → List X → Type 0) (v : View B X C P) (k : ℕ) (x : T) (c : C) (p : P) : Type 0 where
    pub longer : IsPrefix (whole v.opening v.seen) (log_of x)
    pub basis_is : v.basis ≡ Some (basis_of x)
    pub length_is : front_of v + k ≡ length (log_of x)
    pub small : front_of v + k < 2 ^ 64
    pub right : Right answers v.basis (whole v.opening v.seen) c p (log_of x)

  -- the held slot has that state, with what was said
  abbrev pub IsDone : (B → List X → C → P → List X → Type 0) → Sat T B X C P → ℕ → Type 0
  IsDone answers m k = (x : T) × (c : _) × (p : _) × (m.1 ≡ (0, Done x c p) ∷ []) × IsAfter answers m.0 k x c.value p.value
