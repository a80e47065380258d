-- What contracts see of the program's values.
use Rattle.std.specs.Prelude.{ℕ, List, Option, option_map, slice_get}
use Rattle.std.specs.Option.{option_and_then, option_copied}
use Rattle.soc_dump.specs.Views.{module_entry}
use Rattle.soc_frames.specs.declared.frame.Frame.{Frame}
use Rattle.soc_walk.specs.Process.{LoadedEntry}
use Rattle.soc_walk.specs.declared.loaded.Loaded.{Loaded}
use Rattle.soc_walk.specs.declared.borrowed.BorrowedFrame.{BorrowedFrame}

abbrev pub loaded_entry : Loaded → LoadedEntry
loaded_entry loaded = record { entry = module_entry loaded.entry.now; symbols = option_copied loaded.symbols }

-- the name of the module at an index
abbrev pub name_at : List LoadedEntry → ℕ → Option (List ℕ)
name_at loaded index = option_map (λ l. l.entry.name) (slice_get loaded index)

-- the frame that a borrowed one stands for, in a module with this name
abbrev pub named_copy : Option (List ℕ) → BorrowedFrame → Frame
named_copy name frame = record {
  instruction = frame.instruction;
  trust = frame.trust;
  «module» = name;
  offset = frame.offset;
  function = option_copied frame.function;
  file = option_copied frame.file;
  line = frame.line;
}

-- the frame that a borrowed one stands for
abbrev pub frame_copy : List LoadedEntry → BorrowedFrame → Frame
frame_copy loaded frame = named_copy (option_and_then (name_at loaded) frame.module) frame
