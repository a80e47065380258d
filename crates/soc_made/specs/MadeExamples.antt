-- What some made crashes hold.
use Rattle.std.specs.Prelude.{◌≡◌, codes, refl, length, slice_range, ◌++◌}
use Rattle.std.specs.Int.{to_le_bytes, w32, w64}
use Rattle.soc_made.specs.Dump.{dump, padded}
use Rattle.soc_made.specs.Made.{made_id, made_digit}

id_of_the_first : made_id 7 0 ≡ codes "00000007-0000-4000-8000-000000160918"
unfolding Rattle.hex.specs.Hex.encode_with
id_of_the_first = refl

-- of a seed past 32 bits the lowest count
id_of_the_last : made_id 0x1_DEAD_BEEF 65535 ≡ codes "deadbeef-0000-4000-8000-0ffff0160918"
unfolding Rattle.hex.specs.Hex.encode_with
id_of_the_last = refl

digit_of_both : made_digit 18446744073709551615 3 ≡ 3
digit_of_both = refl

size : length (dump 0) ≡ 1728
unfolding dump padded
size = refl

module_name : slice_range (dump 3) 472 490 ≡ codes "m\0a\0d\0e\03\0.\0d\0l\0l\0"
unfolding dump padded
module_name = refl

context_of_thread : slice_range (dump 3) 460 468 ≡ to_le_bytes w32 1232 ++ to_le_bytes w32 496
unfolding dump padded
context_of_thread = refl

instruction_pointer : slice_range (dump 3) 744 752 ≡ to_le_bytes w64 0x1000_0100
unfolding dump padded
instruction_pointer = refl
