-- What the stand-ins in memory are, as contracts see them.
use Rattle.std.specs.Prelude.{ℕ, ◌-◌, min, Option, Some, List, length, slice_get}
use Rattle.soc_base.specs.Names.{value_of}
use Rattle.soc_edge.specs.Ahead.{ClockTold, DrawsTold}
use Rattle.soc_edge.specs.Calls.{Calls}
use Rattle.soc_edge.specs.Told.{Told, untold}
use Rattle.soc_edge.specs.Tree.{TreeTold}

-- a source: the bytes that are left, and its calls
pub record InputState : Type 0 where
  pub left : List ℕ
  pub calls : Calls

abbrev pub source_told : InputState → Told
source_told source = record untold { left = Some source.left; read_faults = source.calls.failed }

-- a sink: the bytes that it holds, how many it has room for in all, and its calls
pub record OutputState : Type 0 where
  pub held : List ℕ
  pub room : ℕ
  pub calls : Calls

abbrev pub sink_told : OutputState → Told
sink_told sink = record untold { held = Some sink.held; write_faults = sink.calls.failed }

-- a tree: its files by name, and its calls
pub record TreeState : Type 0 where
  pub files : List (List ℕ × List ℕ)
  pub calls : Calls

abbrev pub tree_told : TreeState → TreeTold
tree_told tree = record { files = Some (value_of tree.files); faults = tree.calls.failed }

-- a list in order, and then its last item again and again
abbrev pub repeating : {A : Type 0} → List A → ℕ → Option A
repeating xs k = slice_get xs (min k (length xs - 1))

-- a clock, by the moments that are still to come
abbrev pub clock_told : List ℕ → ClockTold
clock_told moments = record { moments = repeating moments }

-- draws: the numbers and the ids that are still to come
pub record DrawsState : Type 0 where
  pub throttles : List ℕ
  pub ids : List (List ℕ)

abbrev pub draws_told : DrawsState → DrawsTold
draws_told draws = record { throttles = repeating draws.throttles; ids = repeating draws.ids }
