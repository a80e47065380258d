-- The first lines of some inputs.
use Rattle.std.specs.Prelude.{◌≡◌, [], codes, refl}
use Rattle.soc_export.specs.Keys.{first_line}

to_the_line_feed : first_line (codes "key\nmore\n") ≡ codes "key"
to_the_line_feed = refl

without_line_feed : first_line (codes "key") ≡ codes "key"
without_line_feed = refl

empty_line : first_line (codes "\nkey") ≡ []
empty_line = refl

no_input : first_line [] ≡ []
no_input = refl
