-- Settings that are read key by key.
use Rattle.std.specs.Prelude.{◌≡◌, ℕ, true, List, codes}
use Rattle.toml.specs.Data.{Data, Members, member, is_before}
use Rattle.soc_schema.specs.declared.caller.Products.TheVariants.{All as AllProducts}
use Rattle.soc_schema.specs.TokenFile.{products_of}
use Rattle.soc_throttle.specs.declared.rule.Rule.{Rule}
use Rattle.soc_toml.specs.Keys.{keys_rise}
use Rattle.soc_replay.specs.declared.settings.Draft.{Draft}
use Rattle.soc_replay.specs.declared.settings.Settings.{Settings}
use Rattle.soc_replay.specs.Settings.{IsWithin, at_or, crashes_of, journal_bytes_of, least_journal_bytes, most_crashes, most_journal_bytes, most_session_bytes, session_bytes_of}

-- no key was read
abbrev pub defaults : Draft
defaults = record { public = AllProducts; session_bytes = most_session_bytes; journal_bytes = most_journal_bytes; crashes = most_crashes }

-- what a table says, and the draft where it says nothing
abbrev pub filled : Draft → Members → Draft
filled draft table = record {
  public = at_or (codes "public_products") products_of draft.public table;
  session_bytes = at_or (codes "session_bytes") session_bytes_of draft.session_bytes table;
  journal_bytes = at_or (codes "journal_bytes") journal_bytes_of draft.journal_bytes table;
  crashes = at_or (codes "crashes") crashes_of draft.crashes table;
}

-- in front of any later keys, the draft took what the key holds
abbrev pub Takes : Draft → Draft → List ℕ → Data → Type 0
Takes old new key value = (rest : Members) → is_before key rest ≡ true → keys_rise rest ≡ true → filled new rest ≡ filled old (member key value rest)

pub record IsInRanges (draft : Draft) : Type 0 where
  pub of_session : IsWithin 1 most_session_bytes draft.session_bytes
  pub of_journal : IsWithin least_journal_bytes most_journal_bytes draft.journal_bytes
  pub of_crashes : IsWithin 1 most_crashes draft.crashes

abbrev pub settings_by : Draft → List Rule → Settings
settings_by draft rules = record {
  rules = rules;
  public = draft.public;
  session_bytes = draft.session_bytes;
  limits = record { journal_bytes = draft.journal_bytes; crashes = draft.crashes };
}
