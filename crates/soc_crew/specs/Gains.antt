-- What all turns of a crew together have added to the log of a shared desk.
use Rattle.std.specs.Prelude.{◌≡◌, ℕ, List, ◌++◌}
use Rattle.soc_hall.specs.Asked.{Closes}
use Rattle.soc_desk.specs.declared.desk.Receipt.{Receipt}
use Rattle.soc_service.specs.declared.change.Change.{Change}
use Rattle.soc_service.specs.Changes.{events_in, kept_in}
use Rattle.soc_service.specs.Turns.{Knows}

-- the log begins with what it was, and of what stands behind that so many changes and stops count as kept
pub record Gains (before after : List Change) (kept : ℕ) : Type 0 where
  pub piece : List Change
  pub behind : after ≡ before ++ piece
  pub kept_are : kept_in (events_in piece) ≡ kept

-- the same of a whole desk, whose basis stays: all of it is the turns of these seats, with their replies
pub record Ends {A B : Type 0} (answers : B → List Change → A → Receipt → List Change → Type 0) (before after : List Change) (basis basis' : B) (kept : ℕ) : Type 0 where
  pub gains : Gains before after kept
  pub same_basis : basis' ≡ basis
  pub seats : List (Knows A B)
  pub closes : Closes answers after basis' seats
  pub opened : closes.opening ≡ before
