-- What contracts see of the program's machines and registers.
use Rattle.std.specs.Prelude.{map, option_map}
use Rattle.std.specs.Option.{option_copied}
use Rattle.soc_step.specs.declared.machine.Machine.{Machine as GivenMachine}
use Rattle.soc_step.specs.declared.machine.Register.{Register as GivenRegister}
use Rattle.soc_step.specs.declared.registers.Registers.{Registers as GivenRegisters}
use Rattle.soc_step.specs.Machine.{Machine, Register, Registers}

abbrev pub register_of : GivenRegister → Register
register_of register = record { name = register.name.now; other_name = option_copied register.other_name; is_kept = register.is_kept }

abbrev pub machine_of : GivenMachine → Machine
machine_of machine = record {
  width = machine.width;
  registers = map register_of machine.registers.now;
  stack_pointer = machine.stack_pointer;
  frame_pointer = machine.frame_pointer;
  instruction_pointer = machine.instruction_pointer;
}

abbrev pub registers_of : GivenRegisters → Registers
registers_of registers = record { machine = machine_of registers.machine; values = registers.values }
