-- Worked rows of the readers.
use Rattle.std.specs.Prelude.{◌≡◌, pos, negsuc, [], ◌∷◌, Some, None, codes, refl, true}
use Rattle.toml.specs.Data.{string, integer, array, table, no_items, item, Members, no_members, member}
use Rattle.soc_toml.specs.Keys.{name_at, visible_at, number_or, first_other}
use Rattle.soc_toml.specs.Lists.{texts_of, texts_within, is_table_array}

-- age = -1, name = "rest_1", size = 7
abbrev sample : Members
sample = member (codes "age") (integer (negsuc 0)) (member (codes "name") (string (codes "rest_1")) (member (codes "size") (integer (pos 7)) no_members))

six_characters : name_at (codes "name") 6 sample ≡ Some (codes "rest_1")
six_characters = refl

one_too_many : name_at (codes "name") 5 sample ≡ None
one_too_many = refl

not_visible : visible_at (codes "key") 9 (member (codes "key") (string (codes "a b")) no_members) ≡ None
not_visible = refl

in_range : number_or 3 0 7 (Some (integer (pos 7))) ≡ Some 7
in_range = refl

past_range : number_or 3 0 6 (Some (integer (pos 7))) ≡ None
past_range = refl

by_default : number_or 3 0 7 None ≡ Some 3
by_default = refl

other_key : first_other (codes "size" ∷ codes "age" ∷ []) sample ≡ Some (codes "name")
other_key = refl

two_texts : texts_within 2 (array (item (string (codes "a")) (item (string (codes "b")) no_items))) ≡ Some (codes "a" ∷ codes "b" ∷ [])
two_texts = refl

two_are_too_many : texts_within 1 (array (item (string (codes "a")) (item (string (codes "b")) no_items))) ≡ None
two_are_too_many = refl

not_all_texts : texts_of (array (item (string (codes "a")) (item (integer (pos 1)) no_items))) ≡ None
not_all_texts = refl

one_table : is_table_array 1 (array (item (table no_members) no_items)) ≡ true
one_table = refl
