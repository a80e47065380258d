-- The process's memory: the regions of the memory list, then the threads' stacks.
use Rattle.std.specs.Prelude.{ℕ, ◌+◌, ◌-◌, ◌&&◌, nat_le, nat_lt, Bool, List, ◌++◌, length, drop, map, find, Option, option_map}
use Rattle.byteorder.specs.Endian.{little_number}
use Rattle.soc_dump.specs.declared.covering.Interval.{Interval}
use Rattle.soc_dump.specs.Covering.{interval_from}
use Rattle.soc_dump.specs.Entries.{ThreadEntry, ModuleEntry, MemoryEntry}
use Rattle.soc_dump.specs.Dump.{Contents}

abbrev pub stack_of : ThreadEntry → MemoryEntry
stack_of thread = record { start = thread.stack_start; bytes = thread.stack }

abbrev pub regions_of : Contents → List MemoryEntry
regions_of dump = dump.memory ++ map stack_of dump.threads

-- whether a region holds all bytes of a word. Addresses don't wrap
abbrev pub holds_word : ℕ → ℕ → MemoryEntry → Bool
holds_word address width region =
    nat_le region.start address && nat_le (address + width) (region.start + length region.bytes)

-- a word of a region, the lowest byte first
abbrev pub word_of : ℕ → ℕ → MemoryEntry → ℕ
word_of address width region = little_number width (drop (address - region.start) region.bytes)

-- the word of the first region that holds it whole
abbrev pub word_in : List MemoryEntry → ℕ → ℕ → Option ℕ
word_in regions address width = option_map (word_of address width) (find (holds_word address width) regions)

-- words of one width, of these regions
pub record RegionWords : Type 0 where
  pub regions : List MemoryEntry
  pub width : ℕ

-- the addresses of the words that a region holds whole: from its start to its end less the width
abbrev pub word_interval : ℕ → MemoryEntry → Interval
word_interval width region = interval_from region.start (length region.bytes + 1 - width)

-- whether a module has an address. Addresses don't wrap
abbrev pub holds_address : ℕ → ModuleEntry → Bool
holds_address address loaded = nat_le loaded.base address && nat_lt address (loaded.base + loaded.size)
