-- Crash ids: a UUID of version 4 (RFC 9562, 5.4) in lower case, of which the last seven characters are a digit and a day. The digit and the day are this project's profile.
use Rattle.std.specs.Prelude.{◌≡◌, ℕ, ◌+◌, ◌-◌, ◌*◌, List, ◌∷◌, ◌++◌, length, take, slice_index, Bool, true, ◌==◌, ◌&&◌, ◌||◌, nat_lt, if◌then◌else◌}
use Rattle.std.specs.List.{list_all, enumerate_from}
use Rattle.std.specs.Char.{is_ascii_digit}
use Rattle.uuid.specs.Parts.{with_version, with_variant}
use Rattle.uuid.specs.Text.{hyphenated_text, is_hyphen_place, hyphen, lower}
use Rattle.uuid.specs.declared.Version.TheVariants.{Random}
use Rattle.uuid.specs.declared.Variant.TheVariants.{RFC4122}
use Rattle.soc_text.specs.Digits.{is_lower_hex, two_digits, two_digits_value}
use Rattle.soc_raw.specs.declared.day.Date.{Date}
use Rattle.soc_raw.specs.declared.digit.Digit.{Digit}
use Rattle.soc_raw.specs.declared.digit.Digit.TheVariants.{Accepted, Deferred}
use Rattle.soc_raw.specs.Day.{is_civil}
use Rattle.soc_raw.specs.Digit.{digit_code}

abbrev pub id_length : ℕ
id_length = 36

-- where the digit stands, and the two characters of year, month and day
abbrev pub digit_place : ℕ
digit_place = 29

abbrev pub year_place : ℕ
year_place = 30

abbrev pub month_place : ℕ
month_place = 32

abbrev pub day_place : ℕ
day_place = 34

-- years are those of this century
abbrev pub century : ℕ
century = 2000

-- the drawn bytes with version 4 and the variant of RFC 9562
abbrev pub as_version_4 : List ℕ → List ℕ
as_version_4 draw = with_version (with_variant draw RFC4122) Random

-- YYMMDD
abbrev pub day_text : Date → List ℕ
day_text d = two_digits (d.year - century) ++ (two_digits d.month ++ two_digits d.day)

-- the id of a draw, a digit and a day
unfoldable pub id_text : List ℕ → Digit → Date → List ℕ
id_text draw digit day = take digit_place (hyphenated_text lower (as_version_4 draw)) ++ (digit_code digit ∷ day_text day)

-- the byte may stand at the place of an id
abbrev pub may_stand : ℕ → ℕ → Bool
may_stand place byte =
    if is_hyphen_place place then byte == hyphen
    else if nat_lt place digit_place then is_lower_hex byte
    else if place == digit_place then (byte == digit_code Accepted) || (byte == digit_code Deferred)
    else is_ascii_digit byte

-- as many characters, each of which may stand where it stands
abbrev pub has_form : List ℕ → Bool
has_form text = (length text == id_length) && list_all (λ p. may_stand p.0 p.1) (enumerate_from 0 text)

-- the number that two digits write at a place
abbrev pub pair_at : List ℕ → ℕ → ℕ
pair_at text place = two_digits_value (slice_index text place) (slice_index text (place + 1))

-- the text is a crash id: of that form, and its last six characters are a day of the years 2000 to 2099
unfoldable pub is_id : List ℕ → Bool
is_id text = has_form text && is_civil (century + pair_at text year_place) (pair_at text month_place) (pair_at text day_place)

abbrev pub IsId : List ℕ → Type 0
IsId text = is_id text ≡ true

-- YYMMDD as a number
abbrev pub day_number : List ℕ → ℕ
day_number text = pair_at text year_place * 10_000 + pair_at text month_place * 100 + pair_at text day_place
