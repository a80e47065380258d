-- The rules of a text by its tokens alone.
use Rattle.std.specs.Prelude.{ℕ, List, [], ◌∷◌, Option, None, Some}
use Rattle.std.specs.List.{before_first}
use Rattle.soc_cfi.specs.Rules.{Rule, is_name, named_by}
use Rattle.soc_cfi.specs.Words.{tokens}

-- a register and the tokens of its rule
pub record TokenRule : Type 0 where
  pub register : List ℕ
  pub tokens : List (List ℕ)

abbrev pub with_token_rule : Option (List ℕ) → List (List ℕ) → List TokenRule → List TokenRule
with_token_rule None words rules = rules
with_token_rule (Some register) words rules = record { register = register; tokens = words } ∷ rules

-- a token that ends in a colon begins a rule, whose tokens are those up to the next such one
abbrev pub token_rules : List (List ℕ) → List TokenRule
token_rules [] = []
token_rules (token ∷ later) = with_token_rule (named_by token) (before_first is_name later) (token_rules later)

-- a rule by its tokens
abbrev pub by_tokens : Rule → TokenRule
by_tokens rule = record { register = rule.register; tokens = tokens rule.text }
