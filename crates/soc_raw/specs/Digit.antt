-- The digit of a crash id: this project's profile.
use Rattle.std.specs.Prelude.{ℕ, ◌==◌, codes, slice_index, if◌then◌else◌}
use Rattle.soc_raw.specs.declared.digit.Digit.{Digit}
use Rattle.soc_raw.specs.declared.digit.Digit.TheVariants.{Accepted, Deferred}

-- `0` or `1`
abbrev pub digit_code : Digit → ℕ
digit_code Accepted = slice_index (codes "0") 0
digit_code Deferred = slice_index (codes "1") 0

-- what the digit's code says
abbrev pub digit_of : ℕ → Digit
digit_of code = if code == digit_code Accepted then Accepted else Deferred
