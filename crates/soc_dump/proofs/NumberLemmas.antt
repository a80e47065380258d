-- How large the number of a field is.
use Rattle.std.proofs.Common.{◌≡◌, ℕ, ◌+◌, ◌-◌, ◌<◌, ◌≤◌, ◌^◌, List, length, take, drop, get_or, get_or-drop, arith, Fits, w8, w32}
use Rattle.std.proofs.Math.Nat.{pow-le-pow_right}
use Rattle.std.proofs.Math.Facts.{Fits-of_lt, Fits-lt-pow}
use Rattle.std.proofs.lemmas.List.{take_rest}
use Rattle.byteorder.specs.Endian.{little_number}
use Rattle.byteorder.specs.Numbers.{little_from-lt}

-- n bytes, from an offset on, hold a number below 256 ^ n
pub little_number-below : (offset n x : ℕ) (bytes : List ℕ) → ((i : ℕ) → Fits w8 (get_or bytes i 0))
    → x ≡ little_number n (take (length bytes - offset) (drop offset bytes)) → x < 256 ^ n
little_number-below offset n x bytes small is =
    let whole : little_number n (drop offset bytes) < 256 ^ n = little_from-lt 0 n (drop offset bytes)
    (λ i. let at : get_or bytes (offset + i) 0 < 256 = Fits-lt-pow (small (offset + i)) in rw get_or-drop at)
    in rw (is, take_rest) whole

-- a number of at most four bytes fits 32 bits
pub fits_of_four : (x i : ℕ) → x < 256 ^ i → i ≤ 4 → Fits w32 x
fits_of_four x i below le =
    let positive : 0 < 256 = omega arith in
    let up : 256 ^ i ≤ 256 ^ 4 = pow-le-pow_right positive le in
    let small : x < 2 ^ 32 = omega (arith, up, below) in
    Fits-of_lt small
