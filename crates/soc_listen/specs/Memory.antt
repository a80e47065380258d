-- What connections and listeners in memory are, as contracts see them.
use Rattle.std.specs.Prelude.{◌≡◌, refl, ℕ, if◌then◌else◌, Bool, true, false, List, [], map, Some}
use Rattle.soc_edge.specs.Calls.{Calls, no_calls}
use Rattle.soc_edge.specs.Memory.{InputState, OutputState, source_told, sink_told}
use Rattle.soc_edge.specs.Told.{Told, joined}
use Rattle.soc_listen.specs.Told.{ListenerTold, NoneLeft}

-- a connection: what it reads and what it has written
pub record LinkState : Type 0 where
  pub source : InputState
  pub sink : OutputState

abbrev pub link_told : LinkState → Told
link_told link = joined (source_told link.source) (sink_told link.sink)

-- a connection that has read nothing of its script, and has room for so many bytes
abbrev pub fresh_link : ℕ → List ℕ → LinkState
fresh_link room script = record {
  source = record { left = script; calls = no_calls [] };
  sink = record { held = []; room = room; calls = no_calls [] };
}

-- a listener: the connections that are left, how many were handed out, its calls, and whether it has ended
pub record ListenerState : Type 0 where
  pub left : List LinkState
  pub handed : ℕ
  pub calls : Calls
  pub ended : Bool

abbrev pub listener_told : ListenerState → ListenerTold
listener_told listener = record {
  handed = listener.handed;
  ended = listener.ended;
  left = Some (if listener.ended then [] else map link_told listener.left);
  faults = listener.calls.failed;
}

pub none_left : (listener : ListenerState) → listener.ended ≡ true → NoneLeft (listener_told listener)
none_left listener over = rw over refl

-- a listener with one connection for each script
abbrev pub fresh_listener : ℕ → List (List ℕ) → List ℕ → ListenerState
fresh_listener room scripts fails = record {
  left = map (fresh_link room) scripts;
  handed = 0;
  calls = no_calls fails;
  ended = false;
}
