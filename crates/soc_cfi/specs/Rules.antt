-- The rules that stand in a text, and those in force at an offset, in this project's profile of Breakpad's `STACK CFI` records.
use Rattle.std.specs.Prelude.{ℕ, ◌-◌, ◌++◌, Bool, nat_eq, nat_le, if◌then◌else◌, List, [], ◌∷◌, length, take, fold, Option, None, Some, is_some, codes}
use Rattle.std.specs.List.{before_first, ends_with, join_with_byte}
use Rattle.std.specs.Option.{option_or}
use Rattle.std.specs.Str.{bytes_eq}
use Rattle.soc_symfile.specs.Cfi.{Span}
use Rattle.soc_symfile.specs.Line.{LabelEntry}
use Rattle.soc_cfi.specs.Words.{space, parts}

-- a register and its rule, a postfix expression
pub record Rule : Type 0 where
  pub register : List ℕ
  pub text : List ℕ

-- the register that a part names: what stands before the colon at its end
abbrev pub named_by : List ℕ → Option (List ℕ)
named_by part = if ends_with nat_eq part (codes ":") then Some (take (length part - 1) part) else None

abbrev pub is_name : List ℕ → Bool
is_name part = is_some (named_by part)

-- the text of the rule that these parts begin with: all of them up to the next name, with the spaces between them
abbrev pub rule_text : List (List ℕ) → List ℕ
rule_text later = join_with_byte space (before_first is_name later)

abbrev pub with_rule : Option (List ℕ) → List ℕ → List Rule → List Rule
with_rule None text rules = rules
with_rule (Some register) text rules = record { register = register; text = text } ∷ rules

-- each name begins a rule; parts before the first name belong to none
abbrev pub rules_in : List (List ℕ) → List Rule
rules_in [] = []
rules_in (part ∷ later) = with_rule (named_by part) (rule_text later) (rules_in later)

-- the rules of a text, in its order
abbrev pub rules_of : List ℕ → List Rule
rules_of text = rules_in (parts text)

-- the rule of a register: of several, the last counts
abbrev pub rule_of : List Rule → List ℕ → Option (List ℕ)
rule_of [] register = None
rule_of (rule ∷ later) register =
    option_or (rule_of later register) (if bytes_eq rule.register register then Some rule.text else None)

-- the rules, and behind them those of a delta at or below the offset
abbrev pub with_delta : ℕ → List Rule → LabelEntry → List Rule
with_delta offset rules delta = if nat_le delta.address offset then rules ++ rules_of delta.text else rules

-- the rules in force at an offset: those of the INIT, and behind them those of each delta at or below the offset, in the order
-- of the file
abbrev pub rules_at : Span → ℕ → List Rule
rules_at span offset = fold (with_delta offset) (rules_of span.init) span.deltas

-- the rule that a delta at or below the offset has for a register
abbrev pub delta_rule : ℕ → LabelEntry → List ℕ → Option (List ℕ)
delta_rule offset delta register = if nat_le delta.address offset then rule_of (rules_of delta.text) register else None
