-- The rule of the hall's table: there is one log, of which each seat has seen a beginning. Where no seat has the turn, the state lies at home and has that log.
-- `drawn` and `served` count the tickets on and on. As many are out as there are seats that wait or have the turn, at most 64.
use Rattle.std.specs.Prelude.{Some, ◌≡◌, ◌⊎◌, ℕ, ◌+◌, ◌%◌, ◌^◌, ◌<◌, ◌≤◌, List, [], ◌∷◌, length}
use mathlib.Core.Option.{some, none}
use mathlib.Core.List.{IsPrefix}
use lib.ListN.{get_elem?}
use Rattle.atomic_table.specs.Table.{State}
use Rattle.soc_hall.specs.declared.view.Place.{Place}
use Rattle.soc_hall.specs.declared.view.Place.TheVariants.{Empty, Rest, Done}
use Rattle.soc_hall.specs.declared.view.Entry.{Entry}
use Rattle.soc_hall.specs.declared.view.Turn.{Turn}
use Rattle.soc_hall.specs.declared.view.Stage.{Stage}
use Rattle.soc_hall.specs.declared.view.Stage.TheVariants.{Fresh, Idle, Waits, Turns, Away}
use Rattle.soc_hall.specs.declared.view.Known.{Known}
use Rattle.soc_hall.specs.declared.view.View.{View}
use Rattle.soc_hall.specs.Log.{changes_by, pieces}
use Rattle.soc_hall.specs.Seats.{known}
use Rattle.soc_hall.specs.Asked.{Stands, HasPart, IsState}

-- how many tickets a seat at this stage has
abbrev pub tickets : Stage → ℕ
tickets Fresh = 0
tickets Idle = 0
tickets (Waits t) = 1
tickets (Turns t) = 1
tickets Away = 0

abbrev pub HasTicket : ℕ → Stage → Type 0
HasTicket t Fresh = ⊥
HasTicket t Idle = ⊥
HasTicket t (Waits u) = u ≡ t
HasTicket t (Turns u) = u ≡ t
HasTicket t Away = ⊥

abbrev pub HasTurn : Stage → Type 0
HasTurn Fresh = ⊥
HasTurn Idle = ⊥
HasTurn (Waits u) = ⊥
HasTurn (Turns u) = Unit {0}
HasTurn Away = ⊥

-- it has a number, and may take turns
abbrev pub Sits : Stage → Type 0
Sits Fresh = ⊥
Sits Idle = Unit {0}
Sits (Waits u) = Unit {0}
Sits (Turns u) = Unit {0}
Sits Away = ⊥

-- f of each, added up
abbrev pub total : {V : Type 0} → (V → ℕ) → List V → ℕ
total f [] = 0
total f (v ∷ vs) = f v + total f vs

abbrev pub Holds : {T C P : Type 0} → (T → Type 0) → Place T C P → Type 0
Holds Q Empty = ⊥
Holds Q (Rest x) = Q x
Holds Q (Done x c p) = Q x

module _ {B X C P : Type 0} where
  abbrev pub starting : B → List X → ℕ → View B X C P
  starting b xs seats = record { number = 0; parts = seats; stage = Idle; basis = Some b; opening = xs; seen = []; told = []; turns = []; gone = [] }

  -- The seat j: the changes that bear its number are the pieces of its turns, in order, and it has seen them all
  pub record IsMine (basis : B) (opening : List X) (log : List (Entry X)) (j : ℕ) (v : View B X C P) : Type 0 where
    pub basis_is : v.basis ≡ Some basis
    pub opening_is : v.opening ≡ opening
    pub some_part : 0 < v.parts
    pub number_is : v.number ≡ j
    pub in_log : changes_by j log ≡ pieces v.turns
    pub in_seen : changes_by j v.seen ≡ pieces v.turns

  abbrev pub FitsStage : B → List X → List (Entry X) → ℕ → ℕ → ℕ → View B X C P → Stage → Type 0
  FitsStage basis opening log drawn served j v Fresh = (v.basis ≡ Some basis) × (v.opening ≡ opening) × (0 < v.parts) × (changes_by j log ≡ []) × (v.turns ≡ [])
  FitsStage basis opening log drawn served j v Idle = IsMine basis opening log j v
  FitsStage basis opening log drawn served j v (Waits t) = IsMine basis opening log j v × (served ≤ t) × (t < drawn)
  FitsStage basis opening log drawn served j v (Turns t) = IsMine basis opening log j v × (t ≡ served) × (t < drawn) × (v.seen ≡ log)
  FitsStage basis opening log drawn served j v Away = v.turns ≡ []

  -- the seat itself has the number j, or one that it took in had
  abbrev pub Speaks : ℕ → View B X C P → Type 0
  Speaks j u = Sits u.stage × ((u.number ≡ j) ⊎ ((k : ℕ) × (g : Known B X C P) × (get_elem? u.gone k ≡ some g) × (g.number ≡ j)))

  -- whose number changes bear is a seat's, or was one's that a seat took in
  abbrev pub HasOwners : List (Entry X) → List (View B X C P) → Type 0
  HasOwners log vs = (j : ℕ) → (changes_by j log ≡ []) ⊎ ((i : ℕ) × (u : View B X C P) × (get_elem? vs i ≡ some u) × Speaks j u)

  -- a seat that was taken in is away
  abbrev pub AreAway : List (View B X C P) → Type 0
  AreAway vs = (j k : ℕ) (v : View B X C P) (g : Known B X C P) → get_elem? vs j ≡ some v → get_elem? v.gone k ≡ some g → (u : View B X C P) × (get_elem? vs g.number ≡ some u) × (u.stage ≡ Away)

  pub record Fits (answers : B → List X → C → P → List X → Type 0) (basis : B) (opening : List X) (log : List (Entry X)) (drawn served j : ℕ) (v : View B X C P) : Type 0 where
    pub seen : IsPrefix v.seen log
    pub told : IsPrefix v.told log
    pub stage : FitsStage basis opening log drawn served j v v.stage
    pub stands : (k : ℕ) (t : Turn X C P) → get_elem? v.turns k ≡ some t → Stands answers (known v) t
    pub gone : (k : ℕ) (g : Known B X C P) → get_elem? v.gone k ≡ some g → HasPart answers basis opening log g
    pub distinct : (k l : ℕ) (g h : Known B X C P) → get_elem? v.gone k ≡ some g → get_elem? v.gone l ≡ some h → g.number ≡ h.number → k ≡ l

module _ {T B X C P : Type 0} where
  -- somebody has the turn, and the state with it
  abbrev pub IsOut : State (Place T C P) (View B X C P) → Type 0
  IsOut s = (j : ℕ) × (v : View B X C P) × (s.homes ≡ none ∷ []) × (get_elem? s.views j ≡ some v) × HasTurn v.stage

module _ {T B X C P : Type 0} (log_of : T → List X) (basis_of : T → B) where
  -- nobody has the turn, and the state is at home
  abbrev pub IsHome : B → List X → List (Entry X) → State (Place T C P) (View B X C P) → Type 0
  IsHome basis opening log s = (x : Place T C P) × (s.homes ≡ some x ∷ []) × Holds (IsState log_of basis_of (Some basis) opening log) x
      × ((j : ℕ) (v : View B X C P) → get_elem? s.views j ≡ some v → HasTurn v.stage → ⊥)

  pub record Kept (answers : B → List X → C → P → List X → Type 0) (basis : B) (opening : List X) (seats : ℕ) (s : State (Place T C P) (View B X C P)) : Type 0 where
    pub log : List (Entry X)
    pub drawn : ℕ
    pub served : ℕ
    pub words : s.words ≡ (length opening + length log) ∷ (drawn % 2 ^ 64) ∷ (served % 2 ^ 64) ∷ []
    pub few : total (λ v. v.parts) s.views ≡ seats
    pub at_most : seats ≤ 64
    pub out : total (λ v. tickets v.stage) s.views + served ≡ drawn
    pub each_seat : (j : ℕ) (v : View B X C P) → get_elem? s.views j ≡ some v → Fits answers basis opening log drawn served j v
    pub apart : (i j t : ℕ) (v w : View B X C P) → get_elem? s.views i ≡ some v → get_elem? s.views j ≡ some w → HasTicket t v.stage → HasTicket t w.stage → i ≡ j
    pub unused : (j : ℕ) → length s.views ≤ j → changes_by j log ≡ []
    pub away : AreAway s.views
    pub owners : HasOwners log s.views
    pub place : IsHome basis opening log s ⊎ IsOut s
