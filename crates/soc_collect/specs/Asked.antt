-- What a desk was asked, one command after another.
use Rattle.std.specs.Prelude.{◌≡◌, List, [], ◌∷◌}
use Rattle.soc_desk.specs.declared.desk.Command.{Command}
use Rattle.soc_desk.specs.declared.desk.Receipt.{Receipt}

-- a command and what it was answered
pub record Step : Type 0 where
  pub command : Command
  pub receipt : Receipt

-- the desk was asked these commands, in this order, and nothing else
abbrev pub AsksAll : {K : Type 0} → (K → Command → Receipt → K → Type 0) → K → List Step → K → Type 0
AsksAll asks before [] after = after ≡ before
AsksAll {K} asks before (step ∷ steps) after = (between : K) × asks before step.command step.receipt between × AsksAll asks between steps after
