-- What a list of top crashers is asked for, and how pairs of names and values say it: this project's profile.
use Rattle.std.specs.Prelude.{◌≡◌, ℕ, nat_le, ◌==◌, ◌&&◌, Bool, false, if◌then◌else◌, List, [], ◌∷◌, length, take, drop, Option, None, Some, unwrap_or, Result, Ok, Err, codes}
use Rattle.std.specs.List.{list_all}
use Rattle.std.specs.Char.{is_digit}
use Rattle.std.specs.Str.{bytes_eq}
use Rattle.std.specs.Str.Parse.{digits_value}
use Rattle.std.specs.Ordering.{nat_cmp, is_gt}
use Rattle.std.specs.Cmp.Lexicographic.{slice_cmp}
use Rattle.soc_raw.specs.Day.{is_civil}
use Rattle.soc_schema.specs.declared.caller.Caller.{Caller}
use Rattle.soc_tops.specs.declared.error.TopsError.{TopsError}
use Rattle.soc_tops.specs.declared.error.TopsError.TheVariants.{BadParameter, NoMemory}
use Rattle.soc_tops.specs.declared.given.Given.{Given}
use Rattle.soc_tops.specs.declared.query.Days.{Days}
use Rattle.soc_tops.specs.declared.query.TopsQuery.{TopsQuery}

infixl 10 ◌>>=◌
abbrev pub ◌>>=◌ : {A B : Type 0} → Result A TopsError → (A → Result B TopsError) → Result B TopsError
Ok a >>= f = f a
Err e >>= f = Err e

-- the number that `least` to `most` digits write
abbrev pub number_of : ℕ → ℕ → List ℕ → Option ℕ
number_of least most text =
    if (nat_le least (length text) && nat_le (length text) most) && list_all (λ c. is_digit c 10) text then Some (digits_value 10 text) else None

-- the number that so many digits from a place on write
abbrev pub number_at : List ℕ → ℕ → ℕ → Option ℕ
number_at text place count = number_of count count (take count (drop place text))

abbrev pub has_dash : List ℕ → ℕ → Bool
has_dash text place = bytes_eq (take 1 (drop place text)) (codes "-")

-- a civil day of the years 2000 to 2099
abbrev pub is_in_calendar : Option ℕ → Option ℕ → Option ℕ → Bool
is_in_calendar (Some year) (Some month) (Some day) = (nat_le 2000 year && nat_le year 2099) && is_civil year month day
is_in_calendar _ _ _ = false

-- such a day as `YYYY-MM-DD`
abbrev pub is_day : List ℕ → Bool
is_day text =
    ((length text == 10) && (has_dash text 4 && has_dash text 7)) && is_in_calendar (number_at text 0 4) (number_at text 5 2) (number_at text 8 2)

-- 1 to 1,000, in 1 to 4 digits
abbrev pub within_limits : Option ℕ → Option ℕ
within_limits None = None
within_limits (Some n) = if nat_le 1 n && nat_le n 1000 then Some n else None

abbrev pub limit_of : List ℕ → Option ℕ
limit_of text = within_limits (number_of 1 4 text)

-- what a parameter of the name is now: a value is good, and there was none before
abbrev pub filled : {A : Type 0} → List ℕ → Option A → Option A → Result (Option A) TopsError
filled name None (Some value) = Ok (Some value)
filled name None None = Err (BadParameter name)
filled name (Some old) value = Err (BadParameter name)

-- a text that is a day
abbrev pub day_of : List ℕ → Option (List ℕ)
day_of value = if is_day value then Some value else None

-- the parameters with one more
abbrev pub with_pair : Given → List ℕ → List ℕ → Result Given TopsError
with_pair g name value =
    if bytes_eq name (codes "product") then filled name g.product (Some value) >>= (λ x. Ok (record g { product = x }))
    else if bytes_eq name (codes "version") then filled name g.version (Some value) >>= (λ x. Ok (record g { version = x }))
    else if bytes_eq name (codes "from") then filled name g.from (day_of value) >>= (λ x. Ok (record g { from = x }))
    else if bytes_eq name (codes "to") then filled name g.to (day_of value) >>= (λ x. Ok (record g { to = x }))
    else if bytes_eq name (codes "old_from") then filled name g.old_from (day_of value) >>= (λ x. Ok (record g { old_from = x }))
    else if bytes_eq name (codes "old_to") then filled name g.old_to (day_of value) >>= (λ x. Ok (record g { old_to = x }))
    else if bytes_eq name (codes "limit") then filled name g.limit (limit_of value) >>= (λ x. Ok (record g { limit = x }))
    else Err (BadParameter name)

-- the parameters that the pairs are, or the name of the first faulty pair
abbrev pub with_pairs : Given → List (List ℕ × List ℕ) → Result Given TopsError
with_pairs g [] = Ok g
with_pairs g (p ∷ ps) = with_pair g p.0 p.1 >>= (λ more. with_pairs more ps)

abbrev pub nothing_given : Given
nothing_given =
    record { product = None; version = None; from = None; to = None; old_from = None; old_to = None; limit = None }

-- a parameter that has to be there
abbrev pub needed : List ℕ → Option (List ℕ) → Result (List ℕ) TopsError
needed name (Some value) = Ok value
needed name None = Err (BadParameter name)

-- a later day, or a greater text
abbrev pub is_after : List ℕ → List ℕ → Bool
is_after a b = is_gt (slice_cmp nat_cmp a b)

-- a range that doesn't end before it begins
abbrev pub range_of : List ℕ → List ℕ → List ℕ → Result Days TopsError
range_of name from to = if is_after from to then Err (BadParameter name) else Ok (record { from = from; to = to })

-- the query of these parameters, or the first missing one, or a day after its end
abbrev pub whole : Caller → Given → Result TopsQuery TopsError
whole caller g = do
  product ← needed (codes "product") g.product
  version ← needed (codes "version") g.version
  from ← needed (codes "from") g.from
  to ← needed (codes "to") g.to
  old_from ← needed (codes "old_from") g.old_from
  old_to ← needed (codes "old_to") g.old_to
  days ← range_of (codes "from") from to
  old_days ← range_of (codes "old_from") old_from old_to
  Ok (record { caller = caller; product = product; version = version; days = days; old_days = old_days; limit = unwrap_or g.limit 100 })

-- the query that the pairs of a caller are, or the parameter that is bad
abbrev pub query_of : Caller → List (List ℕ × List ℕ) → Result TopsQuery TopsError
query_of caller pairs = with_pairs nothing_given pairs >>= whole caller

-- it is refused so; want of memory says nothing of the input
abbrev pub IsRefusal : {A : Type 0} → Result A TopsError → TopsError → Type 0
IsRefusal r NoMemory = Unit {0}
IsRefusal r e = r ≡ Err e
