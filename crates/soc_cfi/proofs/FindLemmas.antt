-- The last rule of a register in a text.
use Rattle.std.proofs.Common.{◌≡◌, Bor, ℕ, Bool, false, List, ◌∷◌, cond, refl, sym}
use Rattle.std.specs.Option.{option_or, option_map_or}
use Rattle.std.specs.Prelude.{Option, None, Some, option_map}
use Rattle.std.specs.Str.{bytes_eq}
use Rattle.soc_cfi.specs.Rules.{Rule, named_by, rule_of, rule_text, rules_in, rules_of, with_rule}
use Rattle.soc_cfi.specs.Words.{parts}

abbrev pub names : List ℕ → List ℕ → Bool
names part register = option_map_or (λ name. bytes_eq name register) (named_by part) false

-- the rules of the texts that stand behind a name
abbrev pub text_behind : Option (Bor (List ℕ)) → Option (List ℕ)
text_behind found = option_map (λ s. rule_text (parts s.now)) found

pub or_assoc : {A : Type 0} (a b c : Option A) → option_or (option_or a b) c ≡ option_or a (option_or b c)
or_assoc None b c = refl
or_assoc (Some x) b c = refl

pub or_none : {A : Type 0} (a : Option A) → option_or a None ≡ a
or_none None = refl
or_none (Some x) = refl

step_named : (name : Option (List ℕ)) (text : List ℕ) (rules : List Rule) (register : List ℕ) → rule_of (with_rule name text rules) register ≡ option_or (rule_of rules register) (cond (option_map_or (λ n. bytes_eq n register) name false) (Some text) None)
step_named None text rules register = sym (or_none (rule_of rules register))
step_named (Some n) text rules register = refl

-- one part more
pub rule_of_more : (part : List ℕ) (later : List (List ℕ)) (register : List ℕ) → rule_of (rules_in (part ∷ later)) register ≡ option_or (rule_of (rules_in later) register) (cond (names part register) (Some (rule_text later)) None)
rule_of_more part later register = step_named (named_by part) (rule_text later) (rules_in later) register

-- the rule is that of what is left, or else the one that was found
abbrev pub Found : List ℕ → List ℕ → List ℕ → Option (Bor (List ℕ)) → Type 0
Found text register rest found = rule_of (rules_of text) register ≡ option_or (rule_of (rules_of rest) register) (text_behind found)
