-- Of which runs each stop ends a life: those whose every answer says what a stop since then may leave.
use Rattle.std.specs.Prelude.{◌≡◌, ◌⊎◌, ℕ, IfSome, IsTrue, List, [], ◌∷◌, ◌++◌, map, Option, None}
use Rattle.soc_edge.specs.Disk.{DiskTold, GoesOn, LeavesOnly}
use Rattle.soc_journal.specs.Entries.{Entry}
use Rattle.soc_vault.specs.Openings.{AreEntriesOf}
use Rattle.soc_desk.specs.declared.desk.Command.{Command}
use Rattle.soc_desk.specs.declared.desk.Receipt.{Receipt}
use Rattle.soc_desk.specs.declared.desk.Reply.{Reply}
use Rattle.soc_desk.specs.Basis.{Basis}
use Rattle.soc_desk.specs.Batches.{AllFail, AreStored, AsksGroup, Group, alone, together}
use Rattle.soc_desk.specs.Keeps.{KeepAllows, StepKeep}
use Rattle.soc_desk.specs.Log.{Change, IsLegal, Kept}
use Rattle.soc_desk.specs.Opens.{OpensWith, log_of}
use Rattle.soc_desk.specs.Runs.{Answers, DeskAt}
use Rattle.soc_desk.specs.State.{State, Allowed, IsLegalState, settled}
use Rattle.soc_lives.specs.Lives.{Action, asking, storing, failing, keeping, Follow, IsFound, IsTransition, Leaves, LeavesInside, Life, Lives, Transition, last_state}

-- `left` has, for each moment, what a stop since then might have left by now. The action began at one moment and was
-- answered at another.
pub record IsCarried (basis : Basis) (left : ℕ → List ℕ → Type 0) (before : State) (begun : ℕ)
    (transition : Transition) (answered : ℕ) : Type 0 where
  pub is : IsTransition basis before transition
  pub survives : (image : List ℕ) → left begun image
      → LeavesInside before transition.action transition.after image ⊎ left answered image

-- actions one behind the other, each with the moment of its answer; a stop since then leaves what the last state allows
abbrev pub AreCarried : Basis → (ℕ → List ℕ → Type 0) → State → ℕ → List (Transition × ℕ) → Type 0
AreCarried basis left before moment [] = (image : List ℕ) → left moment image → Allowed before image
AreCarried basis left before moment (step ∷ steps) =
    IsCarried basis left before moment step.0 step.1 × AreCarried basis left step.0.after step.1 steps

-- an action that is cut short is the next of these
abbrev pub IsNext : Option Transition → List Transition → Type 0
IsNext cut rest = IfSome cut (λ next. (more : List Transition) × (rest ≡ next ∷ more))

-- behind the first of these transitions, or inside the next one, a stop leaves this image
pub record EndsBehind (basis : Basis) (before : State) (transitions : List Transition) (image : List ℕ) : Type 0 where
  pub made : List Transition
  pub rest : List Transition
  pub whole : transitions ≡ made ++ rest
  pub goes : Follow basis before made
  pub cut : Option Transition
  pub is_next : IsNext cut rest
  pub leaves : Leaves basis (last_state before made) cut image

-- a life with this opening, which ends with these bytes behind the first of these transitions, or inside the next one
pub record EndsLife (basis : Basis) (found : List ℕ) (opening : List Kept) (transitions : List Transition)
    (image : List ℕ) : Type 0 where
  pub life : Life
  pub lives : Lives found life
  pub basis_is : life.basis ≡ basis
  pub opening_is : life.opening ≡ opening
  pub image_is : life.image ≡ image
  pub rest : List Transition
  pub transitions_are : transitions ≡ life.transitions ++ rest
  pub is_next : IsNext life.cut rest

-- Where the journal opened with these changes and each answer says what a stop since then may leave, each stop ends a life.
abbrev pub StopsEndLives : (ℕ → List ℕ → Type 0) → Type 0
StopsEndLives left = (basis : Basis) (found : List ℕ) (opening : List Kept) (begun : ℕ) (steps : List (Transition × ℕ))
    → IsTrue basis.is_told → IsFound found opening → IsLegal basis (log_of opening)
    → AreCarried basis left (settled (log_of opening)) begun steps
    → (image : List ℕ) → left begun image → EndsLife basis found opening (map (λ step. step.0) steps) image

-- a journal that is opened over a disk with these bytes is found so
abbrev pub OpensLife : Type 0
OpensLife = (basis : Basis) (found : List ℕ) (entries : List Entry) (log : List Change)
    → IsTrue basis.is_told → AreEntriesOf found entries → OpensWith basis entries log
    → (opening : List Kept) × (log ≡ log_of opening) × IsFound found opening × IsLegal basis (log_of opening)

-- the action that a group of commands is
abbrev pub IsActionOf : Group → Action → Type 0
IsActionOf (alone command receipt) action = action ≡ asking command receipt.reply
IsActionOf (together raws receipts) action =
    ((action ≡ storing raws) × AreStored raws receipts) ⊎ ((action ≡ failing raws) × AllFail raws receipts)

-- what a desk over a disk does with commands is carried so, whatever it does later
abbrev pub GroupsAreCarried : DiskTold → DiskTold → DiskTold → Type 0
GroupsAreCarried disk disk' last = (basis : Basis) (before : State) (group : Group) (after : State) → IsTrue basis.is_told
    → AsksGroup basis before disk group after disk' → GoesOn disk' last
    → (action : Action) × IsActionOf group action
    × IsCarried basis last.since before disk.moment (record { action = action; after = after }) disk'.moment

-- and so is the keeping of reports
abbrev pub KeepingIsCarried : DiskTold → DiskTold → DiskTold → Type 0
KeepingIsCarried disk disk' last = (basis : Basis) (before : State) (reply : Reply) (after : State)
    → StepKeep basis before reply after → IsLegalState basis after → GoesOn disk disk' → LeavesOnly disk disk' (KeepAllows before after)
    → GoesOn disk' last
    → IsCarried basis last.since before disk.moment (record { action = keeping reply; after = after }) disk'.moment

-- ---- a run of a desk

-- what a desk was asked, one command behind the other, with the receipts
abbrev pub RunsAlong : Basis → (ℕ → List ℕ → Type 0) → DeskAt → List (Command × Receipt) → DeskAt → Type 0
RunsAlong basis left before [] after = after ≡ before
RunsAlong basis left before (asked ∷ more) after =
    (between : DeskAt) × Answers basis left before asked.0 asked.1 between × RunsAlong basis left between more after

abbrev pub actions_of : List (Command × Receipt) → List Action
actions_of asked = map (λ (one : Command × Receipt). asking one.0 one.1.reply) asked

-- Over these bytes and from this opening on, these actions are a life. They come to a last state: what is allowed there ends
-- the life behind all of them. Each stop since the moment ends it behind the first of them, or inside the next one.
pub record IsLife (basis : Basis) (left : ℕ → List ℕ → Type 0) (found : List ℕ) (opening : List Kept) (moment : ℕ)
    (actions : List Action) (last : State) : Type 0 where
  pub transitions : List Transition
  pub actions_are : map (λ transition. transition.action) transitions ≡ actions
  pub last_is : last_state (settled (log_of opening)) transitions ≡ last
  pub ends : (image : List ℕ) → Allowed last image
      → Lives found (record { basis = basis; opening = opening; transitions = transitions; cut = None; image = image })
  pub stops : (image : List ℕ) → left moment image → EndsLife basis found opening transitions image

-- a run of a desk from the opening on, and the transitions behind it, are a life
abbrev pub RunsAreLives : (ℕ → List ℕ → Type 0) → Type 0
RunsAreLives left = (basis : Basis) (found : List ℕ) (opening : List Kept) (opened served : DeskAt)
    (asked : List (Command × Receipt)) (later : List Transition)
    → IsTrue basis.is_told → IsFound found opening → IsLegal basis (log_of opening) → opened.state ≡ settled (log_of opening)
    → RunsAlong basis left opened asked served → Follow basis served.state later
    → ((image : List ℕ) → left served.moment image → EndsBehind basis served.state later image)
    → IsLife basis left found opening opened.moment
    (actions_of asked ++ map (λ transition. transition.action) later) (last_state served.state later)
