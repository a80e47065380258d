-- Sets of places, in pages of bits.
use Rattle.std.specs.Prelude.{ℕ, ◌/◌, ◌%◌, ◌^◌, ◌==◌, ◌&&◌, not, Bool, List, [], slice_index_or}
use Rattle.soc_search.specs.declared.places.Meeting.{Meeting}
use Rattle.soc_search.specs.declared.places.Meeting.TheVariants.{And, Without}

-- whether the bit at k is set
abbrev pub bit : ℕ → ℕ → Bool
bit word k = word / 2 ^ k % 2 == 1

-- whether the words have the bit at k set
abbrev pub word_has : List ℕ → ℕ → Bool
word_has words k = bit (slice_index_or words (k / 64) 0) (k % 64)

-- whether a place is in the set: 65,536 places a page
abbrev pub has : List (List ℕ) → ℕ → Bool
has pages p = word_has (slice_index_or pages (p / 65536) []) (p % 65536)

-- how two sets meet
abbrev pub met : Meeting → Bool → Bool → Bool
met And x y = x && y
met Without x y = x && not y
