-- The lives of a desk that follow one another on one disk: each opens with the journal that the one before it left. This
-- project's profile. The disk tells its content.
use Rattle.std.specs.Prelude.{◌≡◌, ◌⊎◌, ℕ, IsTrue, List, [], ◌∷◌, ◌++◌, map, Option, None, Some, ⊤}
use Rattle.soc_raw.specs.declared.raw_crash.RawCrash.{RawCrash}
use Rattle.soc_desk.specs.declared.desk.Command.{Command}
use Rattle.soc_desk.specs.declared.desk.Reply.{Reply}
use Rattle.soc_desk.specs.Basis.{Basis}
use Rattle.soc_desk.specs.Batches.{AcceptNew}
use Rattle.soc_desk.specs.Desk.{Step}
use Rattle.soc_desk.specs.Keeps.{KeepAllows, StepKeep}
use Rattle.soc_desk.specs.Log.{Kept, Change, keep, IsLegal}
use Rattle.soc_desk.specs.Opens.{log_of}
use Rattle.soc_desk.specs.State.{State, settled, Settles, IsLegalState, StandsFor, Allowed}

-- ---- what a desk does

-- a command is answered; crashes are written together, and each is answered as stored, or their one write fails; reports
-- are kept for later lives
pub data Action : Type 0 where
  asking : Command → Reply → Action
  storing : List RawCrash → Action
  failing : List RawCrash → Action
  keeping : Reply → Action

abbrev pub all_kept : List Change → List Kept → State
all_kept log changes = settled (log ++ map keep changes)

abbrev pub all_doubted : List Change → List Kept → State
all_doubted log changes = record { log = log; doubt = changes }

-- the doubt is settled, the crashes are new to the settled log, and their acceptances come to this
pub record Writes (basis : Basis) (before : State) (raws : List RawCrash)
    (comes : List Change → List Kept → State) (after : State) : Type 0 where
  pub log : List Change
  pub settles : Settles before.log before.doubt log
  pub changes : List Kept
  pub accepts : AcceptNew basis log raws changes
  pub after_is : after ≡ comes log changes

abbrev pub Does : Basis → State → Action → State → Type 0
Does basis before (asking command reply) after = Step basis before command reply after
Does basis before (storing raws) after = Writes basis before raws all_kept after
Does basis before (failing raws) after = Writes basis before raws all_doubted after
Does basis before (keeping reply) after = StepKeep basis before reply after

-- an action, and the state that it left
pub record Transition : Type 0 where
  pub action : Action
  pub after : State

abbrev pub IsTransition : Basis → State → Transition → Type 0
IsTransition basis before transition =
    Does basis before transition.action transition.after × IsLegalState basis transition.after

-- each action begins with the state that the one before it left
abbrev pub Follow : Basis → State → List Transition → Type 0
Follow basis before [] = ⊤
Follow basis before (transition ∷ transitions) =
    IsTransition basis before transition × Follow basis transition.after transitions

abbrev pub last_state : State → List Transition → State
last_state before [] = before
last_state before (transition ∷ transitions) = last_state transition.after transitions

-- ---- stops

-- what a stop inside an action may leave
abbrev pub LeavesInside : State → Action → State → List ℕ → Type 0
LeavesInside before (keeping reply) after image = KeepAllows before after image
LeavesInside before _ after image = Allowed before image ⊎ Allowed after image

-- what is left behind the last answer: by an end between two actions, or by a stop that cuts this one short
abbrev pub Leaves : Basis → State → Option Transition → List ℕ → Type 0
Leaves basis last None image = Allowed last image
Leaves basis last (Some cut) image = IsTransition basis last cut × LeavesInside last cut.action cut.after image

-- ---- lives

-- what a life goes by, the kept changes that it opens with, what it does, the action that a stop cuts short, and the bytes
-- that it leaves
pub record Life : Type 0 where
  pub basis : Basis
  pub opening : List Kept
  pub transitions : List Transition
  pub cut : Option Transition
  pub image : List ℕ

abbrev pub opened : Life → State
opened life = settled (log_of life.opening)

abbrev pub ended : Life → State
ended life = last_state (opened life) life.transitions

-- there are no bytes yet, or they are a journal of these changes
abbrev pub IsFound : List ℕ → List Kept → Type 0
IsFound bytes kept = ((bytes ≡ []) × (kept ≡ [])) ⊎ StandsFor bytes kept

-- a life over a disk with these bytes
pub record Lives (found : List ℕ) (life : Life) : Type 0 where
  pub is_told : IsTrue life.basis.is_told
  pub is_found : IsFound found life.opening
  pub legal : IsLegal life.basis (log_of life.opening)
  pub goes : Follow life.basis (opened life) life.transitions
  pub ends : Leaves life.basis (ended life) life.cut life.image

-- each life is one over the bytes that the one before it left
abbrev pub AllLive : List ℕ → List Life → Type 0
AllLive found [] = ⊤
AllLive found (life ∷ lives) = Lives found life × AllLive life.image lives
