-- The frames of a thread's stack (after Breakpad's walkers; this project's profile).
use Rattle.std.specs.Prelude.{ℕ, zero, suc, ◌-◌, ◌==◌, ◌&&◌, nat_lt, Bool, true, false, if◌then◌else◌, List, [], ◌∷◌, Option, None, Some, slice_get}
use Rattle.std.specs.Option.{option_and_then, option_map_or, unwrap_or}
use Rattle.soc_base.specs.Options.{◌>>=◌}
use Rattle.soc_dump.specs.Dump.{Contents}
use Rattle.soc_dump.specs.Entries.{ExceptionEntry, ThreadEntry}
use Rattle.soc_symfile.specs.Found.{Finding, found}
use Rattle.soc_frames.specs.declared.frame.Frame.{Frame}
use Rattle.soc_frames.specs.declared.frame.Trust.{Trust}
use Rattle.soc_frames.specs.declared.frame.Trust.TheVariants.{Context}
use Rattle.soc_step.specs.Machine.{Registers, Values, value_at}
use Rattle.soc_step.specs.Step.{caller_of, lookup_address}
use Rattle.soc_step.specs.declared.step.Caller.{Caller}
use Rattle.soc_walk.specs.declared.walking.Start.{Start}
use Rattle.soc_walk.specs.Architecture.{architecture_of, context_values, machine_for}
use Rattle.soc_walk.specs.Process.{Kit, LoadedEntry, ProcessEntry, loaded_at, process_of, surroundings_of}

-- ---- one frame

abbrev pub on_machine : ProcessEntry → Values → Registers
on_machine process values = record { machine = machine_for process.architecture; values = values }

abbrev pub instruction_pointer : ProcessEntry → Values → Option ℕ
instruction_pointer process values = value_at (on_machine process values) (machine_for process.architecture).instruction_pointer

abbrev pub stack_pointer : ProcessEntry → Values → Option ℕ
stack_pointer process values = value_at (on_machine process values) (machine_for process.architecture).stack_pointer

-- what symbols say of an offset: nothing without symbols
abbrev pub finding_in : ℕ → LoadedEntry → Finding
finding_in offset loaded =
    option_map_or (λ records. found records offset) loaded.symbols (record { function = None; file = None; line = None })

-- a frame at an address: in a module from its base on, and without one from 0 on
abbrev pub in_module : ℕ → ℕ → Trust → LoadedEntry → Frame
in_module instruction address trust loaded =
    let offset = address - loaded.entry.base in let finding = finding_in offset loaded in
    record { instruction = instruction; trust = trust; «module» = Some loaded.entry.name; offset = offset; function = finding.function; file = finding.file; line = finding.line }

abbrev pub in_no_module : ℕ → ℕ → Trust → Frame
in_no_module instruction address trust =
    record { instruction = instruction; trust = trust; «module» = None; offset = address; function = None; file = None; line = None }

abbrev pub frame_at : ProcessEntry → ℕ → ℕ → Trust → Frame
frame_at process instruction address trust =
    option_map_or (in_module instruction address trust) (loaded_at process address) (in_no_module instruction address trust)

-- the frame of registers; in each one of a walk the instruction pointer is known
abbrev pub frame_of : ProcessEntry → Bool → Caller → Frame
frame_of process first here =
    let instruction = unwrap_or (instruction_pointer process here.values) 0 in
    frame_at process instruction (lookup_address first instruction) here.trust

-- ---- from frame to frame

abbrev pub is_greater : Option ℕ → Option ℕ → Bool
is_greater number other = option_map_or (λ n. option_map_or (λ m. nat_lt m n) other false) number false

-- a walk goes on to a caller whose instruction pointer isn't 0 and whose stack pointer is greater than the frame's
abbrev pub goes_on : ProcessEntry → Values → Values → Bool
goes_on process values caller =
    is_greater (instruction_pointer process caller) (Some 0) && is_greater (stack_pointer process caller) (stack_pointer process values)

abbrev pub next_of : ProcessEntry → Bool → Values → Option Caller
next_of process first values =
    option_and_then (λ caller. if goes_on process values caller.values then Some caller else None)
    (caller_of (surroundings_of process) first (on_machine process values))

-- the frames from one on, at most so many
unfoldable pub frames_from : ProcessEntry → ℕ → Bool → Caller → List Frame
frames_from process zero first here = []
frames_from process (suc more) first here =
    frame_of process first here ∷ option_map_or (frames_from process more false) (next_of process first here.values) []

-- ---- a thread of a dump

abbrev pub most_frames : ℕ
most_frames = 1024

-- the context of a thread: the exception's where that names the thread, else its own
abbrev pub context_of : Option ExceptionEntry → ThreadEntry → List ℕ
context_of exception thread =
    option_map_or (λ e. if e.thread == thread.id then e.context else thread.context) exception thread.context

-- where a thread's walk begins; none without such a thread or a system, on another architecture and where the context is
-- too small
abbrev pub start_of : Contents → ℕ → Option Start
start_of dump index = do
  thread ← slice_get dump.threads index
  system ← dump.system
  architecture ← architecture_of system.arch
  values ← context_values architecture (context_of dump.exception thread)
  Some (record { architecture = architecture; values = values })

abbrev pub frames_of : Kit → Contents → ℕ → List Frame
frames_of kit dump index =
    option_map_or (λ start. frames_from (process_of kit dump start.architecture) most_frames true (record { values = start.values; trust = Context })) (start_of dump index) []
