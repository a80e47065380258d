-- The crashing thread's frames, and what a crash's signature is made of.
use Rattle.std.specs.Prelude.{ℕ, Bool, false, List, [], map, codes, Option, option_and_then, is_some}
use Rattle.std.specs.Option.{option_map_or}
use Rattle.std.specs.Str.{bytes_eq}
use Rattle.soc_raw.specs.Record.{Crash}
use Rattle.soc_dump.specs.Dump.{Contents}
use Rattle.soc_frames.specs.declared.frame.Frame.{Frame}
use Rattle.soc_frames.specs.Frames.{normal_of}
use Rattle.soc_walk.specs.Walk.{frames_of}
use Rattle.soc_sigrules.specs.declared.input.SigInput.{SigInput}
use Rattle.soc_report.specs.Annotations.{text_at, is_set, lists_browser}
use Rattle.soc_report.specs.Dumps.{crashing_thread, reason_of}
use Rattle.soc_report.specs.Kits.{KitEntry, symbols_in}

abbrev pub frames_in : KitEntry → Contents → List Frame
frames_in kit dump = option_map_or (frames_of (symbols_in kit) dump) (crashing_thread dump) []

-- the frames of a crash; none without a dump
abbrev pub stack_of : KitEntry → Option Contents → List Frame
stack_of kit dump = option_map_or (frames_in kit) dump []

abbrev pub thread_of : Option Contents → Option ℕ
thread_of dump = option_and_then crashing_thread dump

abbrev pub is_overflow : List ℕ → Bool
is_overflow reason = bytes_eq reason (codes "EXCEPTION_STACK_OVERFLOW")

abbrev pub input_of : Crash → Option Contents → List Frame → SigInput
input_of crash dump frames = record {
  thread_found = is_some (thread_of dump);
  frames = map normal_of frames;
  oom = text_at crash (codes "OOMAllocationSize");
  abort = text_at crash (codes "AbortMessage");
  shutdown = text_at crash (codes "AsyncShutdownTimeout");
  ipc = text_at crash (codes "ipc_channel_error");
  ipc_browser = option_map_or lists_browser (text_at crash (codes "additional_minidumps")) false;
  overflow = option_map_or is_overflow (option_and_then reason_of dump) false;
  hang = is_set crash (codes "Hang");
  bad_hardware = is_set crash (codes "PossibleBitFlip");
}
