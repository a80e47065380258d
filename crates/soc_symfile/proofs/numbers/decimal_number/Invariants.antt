use Rattle.std.proofs.Common.{◌≡◌, ◌<◌, ◌^◌, take}
use Rattle.std.specs.Str.Parse.{digits_value, AllDigits}
use Rattle.soc_symfile.proofs.numbers.decimal_number.Given as goal

-- the digits so far, and the number that they write
abbrev pub invariant-loop-byte : goal.invariant-loop-byte
invariant-loop-byte l =
    (l.value < 2 ^ 32) × (AllDigits 10 (take l.byte-index l.bytes) × (l.value ≡ digits_value 10 (take l.byte-index l.bytes)))
