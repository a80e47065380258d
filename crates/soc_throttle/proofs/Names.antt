-- The names of rules that were read are short.
use Rattle.std.proofs.Common.{◌≡◌, ℕ, ◌≤◌, Bool, true, false, ◌&&◌, cond, List, [], ◌∷◌, ◌++◌, length, refl, ap, ◌∙◌, Option, Some, None, option_and_then, option_to_list}
use Rattle.std.specs.Prelude.{nat_le, find, codes, IfSome}
use Rattle.std.specs.Option.{option_map_or}
use Rattle.std.proofs.lemmas.Bool.{and_parts, leb-true}
use Rattle.toml.specs.Data.{Data, string, integer, float, boolean, datetime, array, table, Items, no_items, item, Members, get_member}
use Rattle.soc_toml.specs.Keys.{text_at, name_at, number_or, of_form, has_form, is_name_byte}
use Rattle.soc_throttle.specs.declared.rule.Outcome.{Outcome}
use Rattle.soc_throttle.specs.declared.rule.Condition.{Condition}
use Rattle.soc_throttle.specs.declared.rule.Rule.{Rule}
use Rattle.soc_throttle.specs.declared.reading.Form.{Form}
use Rattle.soc_throttle.specs.Rules.{rule_from, rule_of, rule_of_form, form_at, has_other_key, outcome_at, condition_of, rules_among}
use Rattle.soc_throttle.specs.Verdicts.{has_short_name, are_short}

abbrev is_short : List ℕ → Bool
is_short name = nat_le (length name) 40

-- where there is a rule, its name is short
abbrev short_rule : Option Rule → Bool
short_rule found = option_map_or has_short_name found true

from_parts : (name : Option (List ℕ)) (outcome : Option Outcome) (percent : Option ℕ) (condition : Option Condition)
    → option_map_or is_short name true ≡ true → short_rule (rule_from name outcome percent condition) ≡ true
from_parts None outcome percent condition h = refl
from_parts (Some name) None percent condition h = refl
from_parts (Some name) (Some outcome) None condition h = refl
from_parts (Some name) (Some outcome) (Some percent) None h = refl
from_parts (Some name) (Some outcome) (Some percent) (Some condition) h = h

formed : (text : List ℕ) (b : Bool) → has_form is_name_byte 40 text ≡ b → option_map_or is_short (cond b (Some text) None) true ≡ true
formed text true is = (and_parts _ _ (and_parts _ _ is).0).1
formed text false is = refl

named : (text : Option (List ℕ)) → option_map_or is_short (option_and_then (of_form is_name_byte 40) text) true ≡ true
named None = refl
named (Some text) = formed text (has_form is_name_byte 40 text) refl

of_the_form : (b : Bool) (found : Option Rule) → short_rule found ≡ true → short_rule (cond b None found) ≡ true
of_the_form true found h = refl
of_the_form false found h = h

rule_of_form-short : (form : Form) (entry : Members) → short_rule (rule_of_form form entry) ≡ true
rule_of_form-short form entry =
    of_the_form (has_other_key form entry) _
    (from_parts (name_at (codes "name") 40 entry) (outcome_at entry) (number_or 100 0 100 (get_member (codes "percent") entry)) (condition_of form entry) (named (text_at (codes "name") entry)))

by_form : (entry : Members) (form : Option Form) → short_rule (option_and_then (λ f. rule_of_form f entry) form) ≡ true
by_form entry None = refl
by_form entry (Some form) = rule_of_form-short form entry

rule_of-short : (value : Data) → short_rule (rule_of value) ≡ true
rule_of-short (string s) = refl
rule_of-short (integer z) = refl
rule_of-short (float x) = refl
rule_of-short (boolean b) = refl
rule_of-short (datetime dt) = refl
rule_of-short (array ds) = refl
rule_of-short (table ms) = by_form ms (form_at ms)

before_all : (found : Option Rule) (rest : List Rule) → short_rule found ≡ true → are_short rest ≡ true → are_short (option_to_list found ++ rest) ≡ true
before_all None rest h more = more
before_all (Some rule) rest h more = ap (λ b. b && are_short rest) h ∙ more

pub rules_among-short : (items : Items) → are_short (rules_among items) ≡ true
rules_among-short no_items = refl
rules_among-short (item value rest) = before_all (rule_of value) (rules_among rest) (rule_of-short value) (rules_among-short rest)

first_or : (b : Bool) (test : Rule → Bool) (rule : Rule) (rest : List Rule) → has_short_name rule ≡ true → IfSome (find test rest) (λ r. has_short_name r ≡ true)
    → IfSome (cond b (Some rule) (find test rest)) (λ r. has_short_name r ≡ true)
first_or true test rule rest here more = here
first_or false test rule rest here more = more

-- so is the name of each of them that is found
pub found-short : (test : Rule → Bool) (rules : List Rule) → are_short rules ≡ true → IfSome (find test rules) (λ rule. has_short_name rule ≡ true)
found-short test [] h = tt
found-short test (rule ∷ rest) h =
    let (here, more) = and_parts (has_short_name rule) (are_short rest) h in
    first_or (test rule) test rule rest here (found-short test rest more)

pub found_name-short : (test : Rule → Bool) (rules : List Rule) (rule : Rule) (name : List ℕ) → are_short rules ≡ true → Some rule ≡ find test rules → name ≡ rule.name → length name ≤ 40
found_name-short test rules rule name all found same =
    let short : has_short_name rule ≡ true = rw (← found) at (found-short test rules all) in
    rw same (leb-true (length rule.name) 40 short)
