-- From a frame's registers to its caller's: by call frame information, else by the frame pointer, else by a scan of the
-- stack (after Breakpad's walkers; this project's profile). A step doesn't look whether a walk ends with what it gives.
use Rattle.std.specs.Prelude.{ℕ, zero, suc, ◌-◌, ◌==◌, Bool, if◌then◌else◌, List, Option, None, Some, option_map, codes, slice_get}
use Rattle.std.specs.Option.{option_and_then, option_or, option_map_or}
use Rattle.soc_cfi.specs.Known.{Known, known}
use Rattle.soc_cfi.specs.Postfix.{rule_value}
use Rattle.soc_cfi.specs.Rules.{Rule, rule_of}
use Rattle.soc_frames.specs.declared.frame.Trust.{Trust}
use Rattle.soc_frames.specs.declared.frame.Trust.TheVariants.{Cfi, FramePointer, Scan}
use Rattle.soc_base.specs.Options.{◌>>=◌}
use Rattle.soc_step.specs.declared.step.Caller.{Caller}
use Rattle.soc_step.specs.declared.cfi.Pointers.{Pointers}
use Rattle.soc_step.specs.Machine.{Machine, Register, Registers, Values, behind, bytes_of, is_kept, value_at, value_of, values_by}
use Rattle.soc_step.specs.Surroundings.{Surroundings}

-- the word of the machine's width at an address
abbrev pub word_at : Surroundings → Registers → ℕ → Option ℕ
word_at around registers address = around.word address (bytes_of registers.machine.width)

-- the address that is looked up for a frame: that of a caller lies within the call, before the place to which it returns
abbrev pub lookup_address : Bool → ℕ → ℕ
lookup_address first instruction = if first then instruction else instruction - 1

-- nothing is known but the instruction pointer, the stack pointer and the frame pointer
abbrev pub pointer_at : Machine → ℕ → ℕ → Option ℕ → ℕ → Option ℕ
pointer_at machine ip sp fp place =
    if place == machine.instruction_pointer then Some ip
    else if place == machine.stack_pointer then Some sp
    else if place == machine.frame_pointer then fp
    else None

abbrev pub pointers_alone : Machine → ℕ → ℕ → Option ℕ → Values
pointers_alone machine ip sp fp = values_by (pointer_at machine ip sp fp)

-- ---- by call frame information

-- what is known where a frame's rules are evaluated
abbrev pub known_in : Surroundings → Registers → Option ℕ → Known
known_in around registers cfa = known (bytes_of registers.machine.width) (value_of registers) cfa around.word

-- the rule of a register: that of its name, and that of its other name only where its name has none
abbrev pub rule_for : List Rule → Register → Option (List ℕ)
rule_for rules register = option_or (rule_of rules register.name) (option_and_then (λ other. rule_of rules other) register.other_name)

abbrev pub rule_at : Machine → List Rule → ℕ → Option (List ℕ)
rule_at machine rules place = option_and_then (rule_for rules) (slice_get machine.registers place)

-- the stack pointer of the caller: what its rule gives, and without a rule the frame address
abbrev pub stack_pointer_by : Surroundings → Registers → List Rule → ℕ → Option ℕ
stack_pointer_by around registers rules cfa =
    option_map_or (rule_value (known_in around registers (Some cfa))) (rule_at registers.machine rules registers.machine.stack_pointer) (Some cfa)

-- another register of the caller: what its rule gives, and without a rule the frame's own value where a call keeps it
abbrev pub other_by : Surroundings → Registers → List Rule → ℕ → ℕ → Option ℕ
other_by around registers rules cfa place =
    option_map_or (rule_value (known_in around registers (Some cfa))) (rule_at registers.machine rules place)
    (if is_kept registers.machine place then value_at registers place else None)

abbrev pub value_by : Surroundings → Registers → List Rule → Pointers → ℕ → Option ℕ
value_by around registers rules pointers place =
    if place == registers.machine.instruction_pointer then Some pointers.instruction
    else if place == registers.machine.stack_pointer then Some pointers.stack
    else other_by around registers rules pointers.frame_address place

-- `.cfa` has a rule that evaluates, and with that frame address `.ra` and the stack pointer evaluate
abbrev pub pointers_by : Surroundings → Registers → List Rule → Option Pointers
pointers_by around registers rules = do
  cfa_rule ← rule_of rules (codes ".cfa")
  cfa ← rule_value (known_in around registers None) cfa_rule
  ra_rule ← rule_of rules (codes ".ra")
  ra ← rule_value (known_in around registers (Some cfa)) ra_rule
  sp ← stack_pointer_by around registers rules cfa
  Some (record { frame_address = cfa; instruction = ra; stack = sp })

abbrev pub by_rules : Surroundings → Registers → List Rule → Option Values
by_rules around registers rules = option_map (λ pointers. values_by (value_by around registers rules pointers)) (pointers_by around registers rules)

abbrev pub by_cfi : Surroundings → Bool → Registers → Option Values
by_cfi around first registers = do
  ip ← value_at registers registers.machine.instruction_pointer
  rules ← around.rules (lookup_address first ip)
  by_rules around registers rules

-- ---- by the frame pointer

-- the frame pointer points at the caller's frame pointer, and behind that stands an address of a module
abbrev pub by_frame_pointer : Surroundings → Registers → Option Values
by_frame_pointer around registers = do
  fp ← value_at registers registers.machine.frame_pointer
  next ← behind registers.machine fp
  sp ← behind registers.machine next
  caller_fp ← word_at around registers fp
  ip ← word_at around registers next
  if around.is_in_module ip then Some (pointers_alone registers.machine ip sp (Some caller_fp)) else None

-- ---- by a scan

-- how many words are looked at: more for the first frame
abbrev pub scanned_words : Bool → ℕ
scanned_words first = if first then 160 else 40

-- the first of so many words that counts as a return address, with the address behind it; none where one can't be read
-- before
unfoldable pub scan : Surroundings → Registers → ℕ → ℕ → Option (ℕ × ℕ)
scan around registers zero address = None
scan around registers (suc more) address = do
  word ← word_at around registers address
  next ← behind registers.machine address
  if around.takes word then Some (word, next) else scan around registers more next

-- the frame pointer is kept
abbrev pub by_scan : Surroundings → Bool → Registers → Option Values
by_scan around first registers = do
  sp ← value_at registers registers.machine.stack_pointer
  found ← scan around registers (scanned_words first) sp
  Some (pointers_alone registers.machine found.0 found.1 (value_at registers registers.machine.frame_pointer))

-- ---- the step

abbrev pub found_by : Trust → Option Values → Option Caller
found_by trust values = option_map (λ v. record { values = v; trust = trust }) values

-- the first way that gives a caller decides
abbrev pub caller_of : Surroundings → Bool → Registers → Option Caller
caller_of around first registers =
    option_or (found_by Cfi (by_cfi around first registers))
    (option_or (found_by FramePointer (by_frame_pointer around registers)) (found_by Scan (by_scan around first registers)))
