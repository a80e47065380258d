-- Numbers of two digits.
use Rattle.std.proofs.Common.{◌≡◌, ℕ, ◌/◌, ◌%◌, ◌<◌, Bool, true, List, ◌∷◌, ◌++◌, pos, refl, ap, ◌∙◌, arith}
use Rattle.std.specs.Prelude.{bytes_eq}
use Rattle.std.specs.Fmt.{char_count, decimal, digits, format_spec, padded_integral, styled_decimal}
use Rattle.std.proofs.lemmas.Bool.{agree_below, agree_below_at}
use Rattle.std.proofs.lemmas.Bool.Decides.{nat_tests}
use Rattle.std.proofs.lemmas.Slice.Eq.{bytes_eq-Decides}
use Rattle.soc_raw.specs.declared.day.Date.{Date}
use Rattle.soc_raw.specs.Day.{IsDay}
use Rattle.soc_raw.proofs.Calendar.{two_digits_do}
use Rattle.soc_text.specs.Digits.{two_digits}
use Rattle.soc_report.specs.Annotations.{date_text, time_text}

abbrev is_two : ℕ → Bool
is_two n = bytes_eq (styled_decimal (format_spec 32 0 4 2 18446744073709551615) n) (two_digits n)

all_two : agree_below is_two (λ _. true) 100 ≡ true
unfolding char_count digits padded_integral
all_two = refl

-- what `{:02}` writes
two : (n : ℕ) → n < 100 → styled_decimal (format_spec 32 0 4 2 18446744073709551615) n ≡ two_digits n
two n small =
    (bytes_eq-Decides (styled_decimal (format_spec 32 0 4 2 18446744073709551615) n) (two_digits n)).0 (agree_below_at is_two (λ _. true) 100 n all_two small)

abbrev two_of : ℕ → List ℕ
two_of n = styled_decimal (format_spec 32 0 4 2 18446744073709551615) n

pub date_is : (date : Date) → IsDay date → decimal date.year ++ (45 ∷ (two_of date.month ++ (45 ∷ two_of date.day))) ≡ date_text date
date_is date is =
    let small = two_digits_do date is in
    ap (λ (m : List ℕ). decimal date.year ++ (45 ∷ (m ++ (45 ∷ two_of date.day)))) (two date.month small.0)
    ∙ ap (λ (d : List ℕ). decimal date.year ++ (45 ∷ (two_digits date.month ++ (45 ∷ d)))) (two date.day small.1)

pub time_is : (second : ℕ) → second < 86400 → two_of (second / 3600) ++ (58 ∷ (two_of (second / 60 % 60) ++ (58 ∷ two_of (second % 60)))) ≡ time_text second
time_is second small =
    ap (λ (t : List ℕ). t ++ (58 ∷ (two_of (second / 60 % 60) ++ (58 ∷ two_of (second % 60))))) (two (second / 3600) (omega arith))
    ∙ ap (λ (t : List ℕ). two_digits (second / 3600) ++ (58 ∷ (t ++ (58 ∷ two_of (second % 60))))) (two (second / 60 % 60) (omega arith))
    ∙ ap (λ (t : List ℕ). two_digits (second / 3600) ++ (58 ∷ (two_digits (second / 60 % 60) ++ (58 ∷ t)))) (two (second % 60) (omega arith))
