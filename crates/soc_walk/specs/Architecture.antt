-- The architectures on which a stack is walked.
use Rattle.std.specs.Prelude.{ℕ, ◌==◌, if◌then◌else◌, List, Option, Some, None, option_map}
use Rattle.soc_dump.specs.Registers.{amd64_registers_of, x86_registers_of}
use Rattle.soc_step.specs.Machine.{Machine, Values, known_values}
use Rattle.soc_arm64.specs.Context as arm_context
use Rattle.soc_arm64.specs.Machine.{arm64}
use Rattle.soc_walk.specs.Machines.{amd64, x86}
use Rattle.soc_walk.specs.declared.architecture.Architecture.{Architecture}
use Rattle.soc_walk.specs.declared.architecture.Architecture.TheVariants.{X86, Amd64, Arm64}

-- by its number in a dump
abbrev pub architecture_of : ℕ → Option Architecture
architecture_of number = if number == 0 then Some X86 else if number == 9 then Some Amd64 else if number == 12 then Some Arm64 else None

abbrev pub machine_for : Architecture → Machine
machine_for X86 = x86
machine_for Amd64 = amd64
machine_for Arm64 = arm64

-- the registers of a context; none where it is too small
abbrev pub context_values : Architecture → List ℕ → Option Values
context_values X86 context = option_map known_values (x86_registers_of context)
context_values Amd64 context = option_map known_values (amd64_registers_of context)
context_values Arm64 context = arm_context.registers_of context
