-- What a step looks up beside the frame's registers.
use Rattle.std.specs.Prelude.{ℕ, Bool, List, Option}
use Rattle.soc_cfi.specs.Rules.{Rule}

pub record Surroundings : Type 0 where
  -- the word at an address, of so many bytes
  pub word : ℕ → ℕ → Option ℕ
  -- whether an address lies in a module
  pub is_in_module : ℕ → Bool
  -- whether a word of the stack counts as a return address
  pub takes : ℕ → Bool
  -- the rules in force at an address, where its module has symbols with an INIT that covers it
  pub rules : ℕ → Option (List Rule)

abbrev pub surroundings : (ℕ → ℕ → Option ℕ) → (ℕ → Bool) → (ℕ → Bool) → (ℕ → Option (List Rule)) → Surroundings
surroundings word is_in_module takes rules = record { word = word; is_in_module = is_in_module; takes = takes; rules = rules }
