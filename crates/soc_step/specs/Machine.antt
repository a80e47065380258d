-- What an architecture is to a walk, as data. Its registers, and what a call keeps of them, are this project's profile of
-- Breakpad's `STACK CFI` records.
use Rattle.std.specs.Prelude.{ℕ, ◌+◌, ◌||◌, Bool, false, nat_lt, if◌then◌else◌, List, map, Option, None, Some, position, slice_get}
use Rattle.std.specs.List.{range_with_len}
use Rattle.std.specs.Option.{option_and_then, option_flatten, option_map_or}
use Rattle.std.specs.Str.{bytes_eq}
use Rattle.soc_cfi.specs.Operators.{values_of}
use Rattle.soc_step.specs.declared.machine.Width.{Width}
use Rattle.soc_step.specs.declared.machine.Width.TheVariants.{Four, Eight}

-- a register: its name in rules, maybe a second one, and whether it has its value still after a call
pub record Register : Type 0 where
  pub name : List ℕ
  pub other_name : Option (List ℕ)
  pub is_kept : Bool

-- the registers, and the places of the pointers among them
pub record Machine : Type 0 where
  pub width : Width
  pub registers : List Register
  pub stack_pointer : ℕ
  pub frame_pointer : ℕ
  pub instruction_pointer : ℕ

-- the bytes of a word
abbrev pub bytes_of : Width → ℕ
bytes_of Four = 4
bytes_of Eight = 8

-- the address behind a word; none where that isn't a word
abbrev pub behind : Machine → ℕ → Option ℕ
behind machine address =
    let next = address + bytes_of machine.width in
    if nat_lt next (values_of (bytes_of machine.width)) then Some next else None

abbrev pub is_called : List ℕ → Register → Bool
is_called name register = bytes_eq register.name name || option_map_or (λ other. bytes_eq other name) register.other_name false

-- the place of a register, by one of its names
abbrev pub place_of : Machine → List ℕ → Option ℕ
place_of machine name = position (is_called name) machine.registers

-- whether the register at a place has its value still after a call
abbrev pub is_kept : Machine → ℕ → Bool
is_kept machine place = option_map_or (λ register. register.is_kept) (slice_get machine.registers place) false

-- The values of registers, each where it is known. They stand in the order of the machine's registers, and behind them
-- stand unknown ones, so that there are 33 on each machine.
abbrev pub Values : Type 0
Values = List (Option ℕ)

unfoldable pub values_by : (ℕ → Option ℕ) → Values
values_by value = map value (range_with_len 0 33)

-- registers that are all known
abbrev pub known_values : List ℕ → Values
known_values registers = values_by (slice_get registers)

-- the registers of a frame
pub record Registers : Type 0 where
  pub machine : Machine
  pub values : Values

-- the value at a place
abbrev pub value_at : Registers → ℕ → Option ℕ
value_at registers place = option_flatten (slice_get registers.values place)

-- the value of a register, by one of its names
abbrev pub value_of : Registers → List ℕ → Option ℕ
value_of registers name = option_and_then (value_at registers) (place_of registers.machine name)
