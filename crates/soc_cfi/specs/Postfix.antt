-- The value of a postfix expression, in this project's profile of Breakpad's `STACK CFI` records.
use Rattle.std.specs.Prelude.{ℕ, nat_lt, if◌then◌else◌, List, [], ◌∷◌, length, Option, None, Some, option_map, codes}
use Rattle.std.specs.Option.{option_and_then}
use Rattle.std.specs.Str.{bytes_eq}
use Rattle.soc_cfi.specs.declared.operator.Operator.{Operator}
use Rattle.soc_cfi.specs.Known.{Known}
use Rattle.soc_cfi.specs.Operands.{operand_of}
use Rattle.soc_cfi.specs.Operators.{operator_of, applied}
use Rattle.soc_cfi.specs.Words.{tokens}

-- how many values the stack holds at most
abbrev pub stack_size : ℕ
stack_size = 64

-- A stack is the list of its values, the topmost first.
abbrev pub pushed : ℕ → List ℕ → Option (List ℕ)
pushed value stack = if nat_lt (length stack) stack_size then Some (value ∷ stack) else None

-- the stack that an operator leaves: its answer in place of the two topmost values
abbrev pub calculated : ℕ → Operator → List ℕ → Option (List ℕ)
calculated width operator (upper ∷ lower ∷ stack) = option_map (λ value. value ∷ stack) (applied width operator lower upper)
calculated width operator (upper ∷ []) = None
calculated width operator [] = None

-- the stack that a load leaves: the word at the topmost value in its place
abbrev pub loaded : (ℕ → Option ℕ) → List ℕ → Option (List ℕ)
loaded word (address ∷ stack) = option_map (λ value. value ∷ stack) (word address)
loaded word [] = None

-- the stack that a token leaves; none where it fails
abbrev pub after_other : Known → List ℕ → Option Operator → List ℕ → Option (List ℕ)
after_other known token (Some operator) stack = calculated known.width operator stack
after_other known token None stack =
    if bytes_eq token (codes "^") then loaded known.word stack
    else option_and_then (λ value. pushed value stack) (operand_of known.width known.register known.cfa token)

abbrev pub after_token : Known → List ℕ → List ℕ → Option (List ℕ)
after_token known token stack = after_other known token (operator_of token) stack

-- the value of a stack that holds one alone
abbrev pub only_value : List ℕ → Option ℕ
only_value [] = None
only_value (value ∷ []) = Some value
only_value (value ∷ other ∷ stack) = None

-- the value that tokens leave, taken from the left; none where one fails
abbrev pub postfix : Known → List (List ℕ) → List ℕ → Option ℕ
postfix known [] stack = only_value stack
postfix known (token ∷ later) stack = option_and_then (λ next. postfix known later next) (after_token known token stack)

-- the value of a rule
abbrev pub rule_value : Known → List ℕ → Option ℕ
rule_value known rule = postfix known (tokens rule) []
