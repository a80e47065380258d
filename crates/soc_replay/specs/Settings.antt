-- The settings of the service, as a TOML document holds them: this project's profile.
use Rattle.std.specs.Prelude.{◌≡◌, ◌≤◌, ℕ, Bool, false, if◌then◌else◌, List, Option, None, Some, Result, Ok, Err, codes, option_and_then, is_some, unwrap_or}
use Rattle.std.specs.Option.{option_map_or}
use Rattle.std.specs.Ordering.{nat_cmp, is_lt}
use Rattle.std.specs.Cmp.Lexicographic.{slice_cmp}
use Rattle.std.specs.Str.{bytes_eq}
use Rattle.toml.specs.Data.{Data, Members, no_members, member, get_member}
use Rattle.soc_toml.specs.Keys.{number_of}
use Rattle.soc_toml.specs.Lists.{is_table_array}
use Rattle.soc_schema.specs.declared.caller.Products.TheVariants.{All as AllProducts}
use Rattle.soc_schema.specs.TokenFile.{products_of}
use Rattle.soc_throttle.specs.declared.rule.Rule.{Rule}
use Rattle.soc_throttle.specs.declared.rule_set.RuleError.{RuleError}
use Rattle.soc_throttle.specs.declared.rule_set.RuleError.TheVariants as rule_error
use Rattle.soc_throttle.specs.Rules as throttle
use Rattle.soc_throttle.specs.Verdicts.{accept_all}
use Rattle.soc_replay.specs.declared.settings.Settings.{Settings}
use Rattle.soc_replay.specs.declared.settings.SettingsError.{SettingsError}
use Rattle.soc_replay.specs.declared.settings.SettingsError.TheVariants.{NotToml, BadSetting, BadRule, NoMemory}
use Rattle.soc_replay.specs.Documents.{document_of}

-- the most crashes that may be accepted
abbrev pub most_crashes : ℕ
most_crashes = 65536

-- the least and the most bytes of a journal
abbrev pub least_journal_bytes : ℕ
least_journal_bytes = 64

abbrev pub most_journal_bytes : ℕ
most_journal_bytes = 68719476736

-- the most bytes of a session
abbrev pub most_session_bytes : ℕ
most_session_bytes = 4294967296

-- the most rules, and the most products that may be named
abbrev pub most_entries : ℕ
most_entries = 256

-- a number from 1 to 65,536
abbrev pub crashes_of : Data → Option ℕ
crashes_of = number_of 1 most_crashes

-- a number from 64 to 68,719,476,736
abbrev pub journal_bytes_of : Data → Option ℕ
journal_bytes_of = number_of least_journal_bytes most_journal_bytes

-- a number from 1 to 4,294,967,296
abbrev pub session_bytes_of : Data → Option ℕ
session_bytes_of = number_of 1 most_session_bytes

-- the key is one of the profile, and the value has its form
abbrev pub is_good : List ℕ → Data → Bool
is_good key value =
    if bytes_eq key (codes "crashes") then is_some (crashes_of value)
    else if bytes_eq key (codes "journal_bytes") then is_some (journal_bytes_of value)
    else if bytes_eq key (codes "public_products") then is_some (products_of value)
    else if bytes_eq key (codes "rule") then is_table_array most_entries value
    else if bytes_eq key (codes "session_bytes") then is_some (session_bytes_of value)
    else false

-- the lesser of two keys in byte order
abbrev pub lesser : List ℕ → Option (List ℕ) → List ℕ
lesser key None = key
lesser key (Some other) = if is_lt (slice_cmp nat_cmp key other) then key else other

-- the first key in byte order that is unknown or has a bad value
abbrev pub first_bad : Members → Option (List ℕ)
first_bad no_members = None
first_bad (member key value rest) = if is_good key value then first_bad rest else Some (lesser key (first_bad rest))

-- what a reading finds at a key; the default where it finds nothing there
abbrev pub at_or : {A : Type 0} → List ℕ → (Data → Option A) → A → Members → A
at_or key reading default table = unwrap_or (option_and_then reading (get_member key table)) default

-- the rules of a value, or the place of its first entry that is none
abbrev pub rules_in : Data → Result (List Rule) ℕ
rules_in value = option_map_or Err (throttle.bad_place value) (Ok (throttle.rules_of value))

-- without the key each crash is kept
abbrev pub rules_or_all : Option Data → Result (List Rule) ℕ
rules_or_all None = Ok accept_all
rules_or_all (Some value) = rules_in value

-- the settings of a table whose keys are all good. A number that isn't there is the greatest of its range
abbrev pub settings_with : List Rule → Members → Settings
settings_with rules table = record {
  rules = rules;
  public = at_or (codes "public_products") products_of AllProducts table;
  session_bytes = at_or (codes "session_bytes") session_bytes_of most_session_bytes table;
  limits = record {
    journal_bytes = at_or (codes "journal_bytes") journal_bytes_of most_journal_bytes table;
    crashes = at_or (codes "crashes") crashes_of most_crashes table;
  };
}

abbrev pub settings_by : Result (List Rule) ℕ → Members → Result Settings SettingsError
settings_by (Ok rules) table = Ok (settings_with rules table)
settings_by (Err index) table = Err (BadRule index)

-- the settings of a table, or its first bad key, or else its first bad rule
abbrev pub settings_in : Members → Result Settings SettingsError
settings_in table = option_map_or (λ key. Err (BadSetting key)) (first_bad table) (settings_by (rules_or_all (get_member (codes "rule") table)) table)

-- the settings that a file's bytes say, or why they say none
unfoldable pub settings_of : List ℕ → Result Settings SettingsError
settings_of bytes = option_map_or settings_in (document_of bytes) (Err NotToml)

-- a number from `low` to `high`
pub record IsWithin (low high n : ℕ) : Type 0 where
  pub at_least : low ≤ n
  pub at_most : n ≤ high

-- each number lies in its range
pub record LieInRanges (settings : Settings) : Type 0 where
  pub session_bytes : IsWithin 1 most_session_bytes settings.session_bytes
  pub journal_bytes : IsWithin least_journal_bytes most_journal_bytes settings.limits.journal_bytes
  pub crashes : IsWithin 1 most_crashes settings.limits.crashes

-- why rules weren't read is why settings aren't
abbrev pub of_rules : RuleError → SettingsError
of_rules (rule_error.BadRule index) = BadRule index
of_rules rule_error.NoMemory = NoMemory

-- the rule that is named is the first bad one
abbrev pub IsRuleRefusal : Result (List Rule) ℕ → RuleError → Type 0
IsRuleRefusal said (rule_error.BadRule index) = said ≡ Err index
IsRuleRefusal said rule_error.NoMemory = Unit {0}

-- a refusal tells why; want of memory may come at any time
abbrev pub IsRefusal : Result Settings SettingsError → SettingsError → Type 0
IsRefusal said NoMemory = Unit {0}
IsRefusal said error = said ≡ Err error
