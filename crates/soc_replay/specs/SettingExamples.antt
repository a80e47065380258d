-- Worked rows of the settings.
use Rattle.std.specs.Prelude.{◌≡◌, pos, [], ◌∷◌, Ok, Err, codes, refl}
use Rattle.toml.specs.Data.{string, integer, array, table, no_items, item, no_members, member}
use Rattle.soc_schema.specs.declared.caller.Products.TheVariants.{All as AllProducts, Some as OnlyProducts}
use Rattle.soc_throttle.specs.Verdicts.{accept_all}
use Rattle.soc_replay.specs.declared.settings.SettingsError.TheVariants.{BadSetting, BadRule}
use Rattle.soc_replay.specs.Settings.{settings_in}

no_settings : settings_in no_members ≡ Ok (record { rules = accept_all; public = AllProducts; session_bytes = 4294967296; limits = record { journal_bytes = 68719476736; crashes = 65536 } })
no_settings = refl

some_settings : settings_in (member (codes "crashes") (integer (pos 1)) (member (codes "public_products") (array (item (string (codes "Firefox")) no_items)) (member (codes "rule") (array no_items) no_members)))
    ≡ Ok (record { rules = []; public = OnlyProducts (codes "Firefox" ∷ []); session_bytes = 4294967296; limits = record { journal_bytes = 68719476736; crashes = 1 } })
some_settings = refl

unknown_key : settings_in (member (codes "colour") (integer (pos 1)) no_members) ≡ Err (BadSetting (codes "colour"))
unknown_key = refl

least_of_two : settings_in (member (codes "session_bytes") (integer (pos 0)) (member (codes "colour") (integer (pos 1)) no_members)) ≡ Err (BadSetting (codes "colour"))
least_of_two = refl

past_range : settings_in (member (codes "session_bytes") (integer (pos 4294967297)) no_members) ≡ Err (BadSetting (codes "session_bytes"))
past_range = refl

bad_rule : settings_in (member (codes "rule") (array (item (table no_members) no_items)) no_members) ≡ Err (BadRule 0)
bad_rule = refl

bad_key_before_bad_rule : settings_in (member (codes "rule") (array (item (table no_members) no_items)) (member (codes "session_bytes") (integer (pos 0)) no_members)) ≡ Err (BadSetting (codes "session_bytes"))
bad_key_before_bad_rule = refl
