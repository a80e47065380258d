-- What becomes of a crash, by its annotations and a draw: the first rule that decides it (this project's profile).
use Rattle.std.specs.Prelude.{ℕ, ◌%◌, nat_lt, nat_le, nat_eq, Bool, true, false, ◌&&◌, List, [], ◌∷◌, Option, Some, None, is_some, find, length, codes}
use Rattle.std.specs.Option.{option_map_or}
use Rattle.std.specs.List.{list_any, list_all, starts_with}
use Rattle.std.specs.Str.{bytes_eq}
use Rattle.soc_base.specs.Names.{value_of}
use Rattle.soc_throttle.specs.declared.rule.Outcome.{Outcome}
use Rattle.soc_throttle.specs.declared.rule.Outcome.TheVariants.{Accept, Reject}
use Rattle.soc_throttle.specs.declared.rule.Condition.{Condition}
use Rattle.soc_throttle.specs.declared.rule.Condition.TheVariants.{Always, Present, Equals, Prefix, OneOf}
use Rattle.soc_throttle.specs.declared.rule.Rule.{Rule}

-- annotations: pairs of a name and a text
abbrev pub Annotations : Type 0
Annotations = List (List ℕ × List ℕ)

-- the annotation is there and passes the test
abbrev pub has_text : (List ℕ → Bool) → List ℕ → Annotations → Bool
has_text passes key annotations = option_map_or passes (value_of annotations key) false

-- crashes with these annotations are meant
abbrev pub holds : Condition → Annotations → Bool
holds Always annotations = true
holds (Present key) annotations = is_some (value_of annotations key)
holds (Equals key value) annotations = has_text (λ text. bytes_eq text value) key annotations
holds (Prefix key value) annotations = has_text (λ text. starts_with nat_eq text value) key annotations
holds (OneOf key values) annotations = has_text (λ text. list_any (bytes_eq text) values) key annotations

-- the rule decides: its condition holds and the draw falls to it
abbrev pub decides : Annotations → ℕ → Rule → Bool
decides annotations draw rule = holds rule.condition annotations && nat_lt (draw % 100) rule.percent

-- the name and the result of a rule; without one `no_match`, and the crash is rejected
abbrev pub verdict_by : Option Rule → List ℕ × Outcome
verdict_by None = (codes "no_match", Reject)
verdict_by (Some rule) = (rule.name, rule.outcome)

-- the verdict is that of the first rule that decides
abbrev pub verdict_of : List Rule → Annotations → ℕ → List ℕ × Outcome
verdict_of rules annotations draw = verdict_by (find (decides annotations draw) rules)

-- the rules that stand where a settings file has none: each crash is kept
abbrev pub accept_all : List Rule
accept_all = record { name = codes "accept_all"; condition = Always; percent = 100; outcome = Accept } ∷ []

-- at most 40 bytes name the rule
abbrev pub has_short_name : Rule → Bool
has_short_name rule = nat_le (length rule.name) 40

abbrev pub are_short : List Rule → Bool
are_short rules = list_all has_short_name rules
