-- One connection served at a desk. This project's profile.
use Rattle.std.specs.Prelude.{◌≡◌, ℕ, ◌+◌, Bool, true, false, ◌||◌, List, [], ◌∷◌, Option, None, Some, codes}
use Rattle.soc_desk.specs.declared.desk.Command.{Command}
use Rattle.soc_desk.specs.declared.desk.Command.TheVariants as C
use Rattle.soc_desk.specs.declared.desk.Receipt.{Receipt}
use Rattle.soc_session.specs.declared.ending.SessionEnd.{SessionEnd}
use Rattle.soc_session.specs.Desk.{Ways, says_stopped}
use Rattle.soc_session.specs.Session.{Around, Response, met, refused, Serves}
use Rattle.soc_collect.specs.Tallies.{Counts}

-- an id that is never drawn: a turn that asks for it looks whether the desk has stopped
abbrev pub no_crash : List ℕ
no_crash = codes "00000000-0000-0000-0000-000000000101"

-- some receipt of these responses said stopped
abbrev pub any_stopped : List Response → Bool
any_stopped [] = false
any_stopped (met exchange ∷ responses) = says_stopped exchange.asked || any_stopped responses
any_stopped (refused error ∷ responses) = any_stopped responses

module _ {K : Type 0} (asks : K → Command → Receipt → K → Type 0) (ways : Ways) where
  -- Behind the first turn the connection stays unread where its receipt said stopped; else one session serves it. This tells
  -- whether a receipt said stopped.
  abbrev pub GoesOn : Around K → Around K → List ℕ → Receipt → Option SessionEnd → Bool → Type 0
  GoesOn before after window receipt None stopped = (receipt.stopped ≡ true) × (stopped ≡ true) × (after ≡ before) × (window ≡ [])
  GoesOn before after window receipt (Some end) stopped =
      (receipt.stopped ≡ false) × (session : Serves asks ways before after window end) × (stopped ≡ any_stopped session.responses)

  -- one turn that looks whether the desk has stopped, and what follows
  pub record ServesOne (before after : Around K) (window : List ℕ) (end : Option SessionEnd) (stopped : Bool) : Type 0 where
    pub receipt : Receipt
    pub between : K
    pub looks : asks before.desk (C.Fetch no_crash) receipt between
    pub goes_on : GoesOn (record before { desk = between }) after window receipt end stopped

-- the count gained one connection, what the desk has added meanwhile, and the stop
pub record Tallied (before after : Counts) (added_before added_after : ℕ) (said_stopped : Bool) : Type 0 where
  pub connections : after.connections ≡ before.connections + 1
  pub kept : after.kept + added_before ≡ before.kept + added_after
  pub stopped : after.stopped ≡ (before.stopped || said_stopped)
