-- What annotations say: texts, numbers, flags, and times between two moments (this project's profile).
use Rattle.std.specs.Prelude.{ℕ, ◌-◌, ◌/◌, ◌%◌, ◌==◌, ◌&&◌, nat_lt, nat_le, Bool, false, if◌then◌else◌, List, ◌++◌, length, codes, slice_index, Option, Some, None, option_map}
use Rattle.std.specs.List.{list_all, list_any, slice_split}
use Rattle.std.specs.Option.{option_map_or}
use Rattle.std.specs.Char.{is_ascii_digit}
use Rattle.std.specs.Fmt.{decimal}
use Rattle.std.specs.Str.{bytes_eq}
use Rattle.std.specs.Str.Parse.{digits_value}
use Rattle.soc_text.specs.Digits.{two_digits}
use Rattle.soc_raw.specs.declared.day.Date.{Date}
use Rattle.soc_raw.specs.Day.{day_of, seconds_of_a_day}
use Rattle.soc_base.specs.Names.{value_of}
use Rattle.soc_base.specs.Options.{◌>>=◌}
use Rattle.soc_raw.specs.Record.{Crash}

abbrev pub text_at : Crash → List ℕ → Option (List ℕ)
text_at crash name = value_of crash.annotations name

-- 1 to 18 digits
abbrev pub is_number : List ℕ → Bool
is_number text = nat_lt 0 (length text) && (nat_le (length text) 18 && list_all is_ascii_digit text)

abbrev pub number_of : List ℕ → Option ℕ
number_of text = if is_number text then Some (digits_value 10 text) else None

abbrev pub number_at : Crash → List ℕ → Option ℕ
number_at crash name = text_at crash name >>= number_of

-- a flag is set exactly by `1`
abbrev pub is_one : List ℕ → Bool
is_one text = bytes_eq text (codes "1")

abbrev pub flag_at : Crash → List ℕ → Option Bool
flag_at crash name = option_map is_one (text_at crash name)

abbrev pub is_set : Crash → List ℕ → Bool
is_set crash name = option_map_or is_one (text_at crash name) false

-- from one moment to another that isn't before it
abbrev pub time_between : ℕ → ℕ → Option ℕ
time_between start finish = if nat_le start finish then Some (finish - start) else None

-- from the moment that an annotation tells to that of the crash
abbrev pub age_since : Crash → List ℕ → Option ℕ
age_since crash name = do
  finish ← number_at crash (codes "CrashTime")
  start ← number_at crash name
  time_between start finish

-- an item of a list that commas part
abbrev pub is_comma : ℕ → Bool
is_comma byte = byte == slice_index (codes ",") 0

abbrev pub lists_browser : List ℕ → Bool
lists_browser text = list_any (λ item. bytes_eq item (codes "browser")) (slice_split is_comma text)

-- a moment as `YYYY-MM-DDTHH:MM:SSZ` (RFC 3339)
abbrev pub date_text : Date → List ℕ
date_text date = decimal date.year ++ (codes "-" ++ (two_digits date.month ++ (codes "-" ++ two_digits date.day)))

abbrev pub time_text : ℕ → List ℕ
time_text second =
    two_digits (second / 3600) ++ (codes ":" ++ (two_digits (second / 60 % 60) ++ (codes ":" ++ two_digits (second % 60))))

abbrev pub moment_text : ℕ → List ℕ
moment_text moment = date_text (day_of moment) ++ (codes "T" ++ (time_text (moment % seconds_of_a_day) ++ codes "Z"))
