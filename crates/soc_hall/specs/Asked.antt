-- What a turn gives its seat, what seats tell one another, and what the closed state is.
use Rattle.std.specs.Prelude.{Option, Some, ◌⊎◌, ◌≡◌, ℕ, List, [], ◌∷◌, ◌++◌, length, All}
use mathlib.Core.Option.{some}
use mathlib.Core.List.{IsPrefix}
use lib.ListN.{get_elem?}
use Rattle.soc_hall.specs.declared.view.Entry.{Entry}
use Rattle.soc_hall.specs.declared.view.Turn.{Turn}
use Rattle.soc_hall.specs.declared.view.Known.{Known}
use Rattle.soc_hall.specs.declared.hall.HallReceipt.{HallReceipt}
use Rattle.soc_hall.specs.Log.{tagged, changes_by, whole, pieces, IsLonger}
use Rattle.soc_hall.specs.Seats.{seen_of}

module _ {B X C P : Type 0} where
  -- what the seat had seen was a beginning of the log, and it has now seen more
  abbrev pub sees : List (Entry X) → Known B X C P → Known B X C P
  sees between v = record v { seen = v.seen ++ between }

  -- a turn that adds this piece to all that the seat has seen
  abbrev pub turn_of : Known B X C P → List X → C → P → Turn X C P
  turn_of v piece command reply =
      record { command = command; reply = reply; start = length (seen_of v); front = length (whole v.opening (v.seen ++ tagged v.number piece)); piece = piece }

  -- what the seat knows after that turn
  abbrev pub with_turn : Known B X C P → List X → C → P → Known B X C P
  with_turn v piece command reply = record v { seen = v.seen ++ tagged v.number piece; turns = v.turns ++ turn_of v piece command reply ∷ [] }

  -- the answer is right by the basis that is known
  abbrev pub Right : (B → List X → C → P → List X → Type 0) → Option B → List X → C → P → List X → Type 0
  Right answers known log command reply log' = (basis : B) × (known ≡ Some basis) × answers basis log command reply log'

  -- The turn stands in what the seat has seen: its piece bears the seat's number and goes from its start to its front, and the answer is right for the logs there
  pub record Stands (answers : B → List X → C → P → List X → Type 0) (v : Known B X C P) (turn : Turn X C P) : Type 0 where
    pub before : List (Entry X)
    pub after : List (Entry X)
    pub there : v.seen ≡ (before ++ tagged v.number turn.piece) ++ after
    pub start_is : turn.start ≡ length (whole v.opening before)
    pub front_is : turn.front ≡ length (whole v.opening (before ++ tagged v.number turn.piece))
    pub right : Right answers v.basis (whole v.opening before) turn.command turn.reply (whole v.opening (before ++ tagged v.number turn.piece))

  -- of what the seat has seen, the changes that bear its number are the pieces of its turns, in order, and each turn stands there
  pub record Owns (answers : B → List X → C → P → List X → Type 0) (v : Known B X C P) : Type 0 where
    pub mine : changes_by v.number v.seen ≡ pieces v.turns
    pub turns : (k : ℕ) (turn : Turn X C P) → get_elem? v.turns k ≡ some turn → Stands answers v turn

  -- both seats have now seen the longer of their logs, of which the other is a beginning
  abbrev pub Meets : Known B X C P → Known B X C P → Known B X C P → Known B X C P → Type 0
  Meets v w v' w' = (longer : List (Entry X)) × (v' ≡ record v { seen = longer }) × (w' ≡ record w { seen = longer }) × IsLonger longer v.seen w.seen

  -- the seat has seen a beginning of the log, in which each of its turns stands, and the changes that bear its number are the
  -- pieces of its turns, in order
  pub record HasPart (answers : B → List X → C → P → List X → Type 0) (basis : B) (opening : List X) (entries : List (Entry X)) (v : Known B X C P) : Type 0 where
    pub basis_is : v.basis ≡ Some basis
    pub opening_is : v.opening ≡ opening
    pub seen : IsPrefix v.seen entries
    pub mine : changes_by v.number entries ≡ pieces v.turns
    pub turns : (k : ℕ) (turn : Turn X C P) → get_elem? v.turns k ≡ some turn → Stands answers v turn

  -- Of the closed state: behind the opening its log is the pieces of the turns of these seats, each once.
  -- No change bears a number that is no seat's, and the numbers differ
  pub record Closes (answers : B → List X → C → P → List X → Type 0) (log : List X) (basis : B) (seats : List (Known B X C P)) : Type 0 where
    pub opening : List X
    pub entries : List (Entry X)
    pub log_is : log ≡ whole opening entries
    pub parts : All (HasPart answers basis opening entries) seats
    pub owners : (number : ℕ) → (changes_by number entries ≡ []) ⊎ ((k : ℕ) × (v : Known B X C P) × (get_elem? seats k ≡ some v) × (v.number ≡ number))
    pub distinct : (j k : ℕ) (v w : Known B X C P) → get_elem? seats j ≡ some v → get_elem? seats k ≡ some w → v.number ≡ w.number → j ≡ k

module _ {T B X : Type 0} (log_of : T → List X) (basis_of : T → B) where
  -- the state has this log, and the basis that is known
  abbrev pub IsState : Option B → List X → List (Entry X) → T → Type 0
  IsState known opening entries state = (log_of state ≡ whole opening entries) × (known ≡ Some (basis_of state))

module _ {T B X C P : Type 0} (log_of : T → List X) (basis_of : T → B) where
  -- The turn went on from a log that begins with all that the seat had seen, and added one piece to it, which bears the seat's number.
  -- Start and front are the lengths of the log before and after it. The states before and after it have these logs, and the step between them is the command's, with this reply
  pub record Asks (asks : T → C → P → T → Type 0) (answers : B → List X → C → P → List X → Type 0) (v : Known B X C P) (command : C) (receipt : HallReceipt P) (w : Known B X C P) : Type 0 where
    pub between : List (Entry X)
    pub piece : List X
    pub knows : w ≡ with_turn (sees between v) piece command receipt.reply
    pub start_is : receipt.start ≡ length (seen_of (sees between v))
    pub front_is : receipt.front ≡ length (seen_of w)
    pub right : Right answers v.basis (seen_of (sees between v)) command receipt.reply (seen_of w)
    pub before : T
    pub after : T
    pub was : IsState log_of basis_of v.basis v.opening (v.seen ++ between) before
    pub is_now : IsState log_of basis_of w.basis w.opening w.seen after
    pub stepped : asks before command receipt.reply after
