-- Worked rows: rules `tenth` and `rest`, with and without the second.
use Rattle.std.specs.Prelude.{◌≡◌, pos, [], ◌∷◌, Some, None, codes, refl}
use Rattle.toml.specs.Data.{Data, string, integer, array, table, no_items, item, no_members, member}
use Rattle.soc_throttle.specs.declared.rule.Outcome.TheVariants.{Accept, Defer, Reject}
use Rattle.soc_throttle.specs.declared.rule.Condition.TheVariants.{Always, Prefix}
use Rattle.soc_throttle.specs.declared.rule.Rule.{Rule}
use Rattle.soc_throttle.specs.Rules.{rules_of, bad_place}
use Rattle.soc_throttle.specs.Verdicts.{verdict_of}

-- form = "always", name = "tenth", percent = 10, result = "accept"
abbrev tenth_table : Data
tenth_table =
    table (member (codes "form") (string (codes "always")) (member (codes "name") (string (codes "tenth")) (member (codes "percent") (integer (pos 10)) (member (codes "result") (string (codes "accept")) no_members))))

-- form = "always", name = "rest", result = "defer"
abbrev rest_table : Data
rest_table = table (member (codes "form") (string (codes "always")) (member (codes "name") (string (codes "rest")) (member (codes "result") (string (codes "defer")) no_members)))

-- a key that a rule of this form doesn't have
abbrev keyed_table : Data
keyed_table =
    table (member (codes "form") (string (codes "always")) (member (codes "key") (string (codes "URL")) (member (codes "name") (string (codes "rest")) (member (codes "result") (string (codes "defer")) no_members))))

abbrev tenth : Rule
tenth = record { name = codes "tenth"; condition = Always; percent = 10; outcome = Accept }

abbrev rest : Rule
rest = record { name = codes "rest"; condition = Always; percent = 100; outcome = Defer }

both_read : rules_of (array (item tenth_table (item rest_table no_items))) ≡ tenth ∷ rest ∷ []
both_read = refl

none_is_bad : bad_place (array (item tenth_table (item rest_table no_items))) ≡ None
none_is_bad = refl

second_is_bad : bad_place (array (item tenth_table (item keyed_table (item tenth_table no_items)))) ≡ Some 1
second_is_bad = refl

no_array : bad_place tenth_table ≡ Some 0
no_array = refl

at_nine : verdict_of (tenth ∷ rest ∷ []) [] 9 ≡ (codes "tenth", Accept)
at_nine = refl

at_ten : verdict_of (tenth ∷ rest ∷ []) [] 10 ≡ (codes "rest", Defer)
at_ten = refl

at_a_hundred_and_nine : verdict_of (tenth ∷ rest ∷ []) [] 109 ≡ (codes "tenth", Accept)
at_a_hundred_and_nine = refl

without_rest : verdict_of (tenth ∷ []) [] 10 ≡ (codes "no_match", Reject)
without_rest = refl

-- versions that begin with 128
abbrev old : Rule
old = record { name = codes "old"; condition = Prefix (codes "Version") (codes "128."); percent = 100; outcome = Accept }

begins_so : verdict_of (old ∷ []) ((codes "Version", codes "128.0a1") ∷ []) 99 ≡ (codes "old", Accept)
begins_so = refl

has_it_later : verdict_of (old ∷ []) ((codes "Version", codes "1.128.0") ∷ []) 99 ≡ (codes "no_match", Reject)
has_it_later = refl
