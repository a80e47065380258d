-- A process by its tables.
use Rattle.std.specs.Prelude.{◌≡◌, ℕ, ◌<◌, ◌^◌, map, position}
use Rattle.soc_dump.specs.Covering.{owner_in}
use Rattle.soc_step.specs.Machine.{bytes_of}
use Rattle.soc_walk.specs.Architecture.{machine_for}
use Rattle.soc_walk.specs.Process.{ProcessEntry, holds}
use Rattle.soc_walk.specs.Views.{loaded_entry}
use Rattle.soc_walk.specs.declared.process.Process.TheInside.{Inside}

abbrev pub process_entry : Inside → ProcessEntry
process_entry process = record { architecture = process.architecture; loaded = map loaded_entry process.loaded.items; regions = process.words.regions }

-- words have the machine's width, and the table finds the first module that holds an address
pub record IsReady (process : Inside) : Type 0 where
  pub width : process.words.width ≡ bytes_of (machine_for process.architecture).width
  pub found : (address : ℕ) → address < 2 ^ 64 → owner_in process.table address ≡ position (holds address) (map loaded_entry process.loaded.items)
