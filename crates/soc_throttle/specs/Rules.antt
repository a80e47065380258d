-- Which value of a settings file is which throttle rule (this project's profile).
use Rattle.std.specs.Prelude.{ℕ, ◌+◌, nat_lt, if◌then◌else◌, List, [], ◌∷◌, ◌++◌, Bool, Option, Some, None, is_some, option_map, option_and_then, option_to_list, codes}
use Rattle.std.specs.Option.{option_map_or}
use Rattle.std.specs.Str.{bytes_eq}
use Rattle.toml.specs.Data.{Data, Items, no_items, item, Members, get_member, as_table, as_array}
use Rattle.soc_toml.specs.Keys.{text_at, name_at, number_or, first_other}
use Rattle.soc_toml.specs.Lists.{texts_of}
use Rattle.soc_throttle.specs.declared.rule.Outcome.{Outcome}
use Rattle.soc_throttle.specs.declared.rule.Outcome.TheVariants.{Accept, Defer, Reject}
use Rattle.soc_throttle.specs.declared.rule.Condition.{Condition}
use Rattle.soc_throttle.specs.declared.rule.Condition.TheVariants as condition
use Rattle.soc_throttle.specs.declared.rule.Rule.{Rule}
use Rattle.soc_throttle.specs.declared.reading.Form.{Form}
use Rattle.soc_throttle.specs.declared.reading.Form.TheVariants.{Always, Present, Equals, Prefix, OneOf}

-- the result that a word names
abbrev pub outcome_of : List ℕ → Option Outcome
outcome_of word =
    if bytes_eq word (codes "accept") then Some Accept
    else if bytes_eq word (codes "defer") then Some Defer
    else if bytes_eq word (codes "reject") then Some Reject
    else None

abbrev pub outcome_at : Members → Option Outcome
outcome_at table = option_and_then outcome_of (text_at (codes "result") table)

-- the form that a word names
abbrev pub form_of : List ℕ → Option Form
form_of word =
    if bytes_eq word (codes "always") then Some Always
    else if bytes_eq word (codes "present") then Some Present
    else if bytes_eq word (codes "equals") then Some Equals
    else if bytes_eq word (codes "prefix") then Some Prefix
    else if bytes_eq word (codes "one_of") then Some OneOf
    else None

abbrev pub form_at : Members → Option Form
form_at table = option_and_then form_of (text_at (codes "form") table)

-- the keys that a rule of each form may have
abbrev pub names_of : Form → List (List ℕ)
names_of Always = codes "form" ∷ codes "name" ∷ codes "percent" ∷ codes "result" ∷ []
names_of Present = codes "form" ∷ codes "key" ∷ codes "name" ∷ codes "percent" ∷ codes "result" ∷ []
names_of Equals = codes "form" ∷ codes "key" ∷ codes "name" ∷ codes "percent" ∷ codes "result" ∷ codes "value" ∷ []
names_of Prefix = codes "form" ∷ codes "key" ∷ codes "name" ∷ codes "percent" ∷ codes "result" ∷ codes "value" ∷ []
names_of OneOf = codes "form" ∷ codes "key" ∷ codes "name" ∷ codes "percent" ∷ codes "result" ∷ codes "value" ∷ []

-- it has another one
abbrev pub has_other_key : Form → Members → Bool
has_other_key form table = is_some (first_other (names_of form) table)

-- the key and the text that `equals` and `prefix` compare
abbrev pub compared : Members → Option (List ℕ × List ℕ)
compared table = option_and_then (λ key. option_map (λ value. (key, value)) (text_at (codes "value") table)) (text_at (codes "key") table)

-- the texts at a key
abbrev pub texts_at : List ℕ → Members → Option (List (List ℕ))
texts_at key table = option_and_then texts_of (get_member key table)

-- the condition of a rule of each form
abbrev pub condition_of : Form → Members → Option Condition
condition_of Always table = Some condition.Always
condition_of Present table = option_map condition.Present (text_at (codes "key") table)
condition_of Equals table = option_map (λ pair. condition.Equals pair.0 pair.1) (compared table)
condition_of Prefix table = option_map (λ pair. condition.Prefix pair.0 pair.1) (compared table)
condition_of OneOf table = option_and_then (λ key. option_map (condition.OneOf key) (texts_at (codes "value") table)) (text_at (codes "key") table)

-- the rule of these parts, where each is there
abbrev pub rule_from : Option (List ℕ) → Option Outcome → Option ℕ → Option Condition → Option Rule
rule_from (Some name) (Some outcome) (Some percent) (Some condition) = Some (record { name = name; condition = condition; percent = percent; outcome = outcome })
rule_from _ _ _ _ = None

-- 1 to 40 characters name the rule, `percent` is 0 to 100 and 100 by default, and nothing else is there
abbrev pub rule_of_form : Form → Members → Option Rule
rule_of_form form table =
    if has_other_key form table then None
    else rule_from (name_at (codes "name") 40 table) (outcome_at table) (number_or 100 0 100 (get_member (codes "percent") table)) (condition_of form table)

abbrev pub rule_of_table : Members → Option Rule
rule_of_table table = option_and_then (λ form. rule_of_form form table) (form_at table)

-- the rule that a value is
abbrev pub rule_of : Data → Option Rule
rule_of value = option_and_then rule_of_table (as_table value)

-- the rule that the entry at a place is: only the first 256 are any
abbrev pub rule_at : ℕ → Data → Option Rule
rule_at place value = if nat_lt place 256 then rule_of value else None

-- the place of the first of these entries that is no rule, where they stand from `place` on
abbrev pub first_bad : ℕ → Items → Option ℕ
first_bad place no_items = None
first_bad place (item value rest) = if is_some (rule_at place value) then first_bad (place + 1) rest else Some place

-- the first bad place of a value: an entry that is no rule, or 0 where it is no array
abbrev pub bad_place : Data → Option ℕ
bad_place value = option_map_or (first_bad 0) (as_array value) (Some 0)

-- the rules among the entries, in order
abbrev pub rules_among : Items → List Rule
rules_among no_items = []
rules_among (item value rest) = option_to_list (rule_of value) ++ rules_among rest

-- the rules of an array
abbrev pub rules_of : Data → List Rule
rules_of value = option_map_or rules_among (as_array value) []
