use Rattle.soc_dump.specs.Registers.{x86_registers}
use Rattle.soc_dump.proofs.RegisterLemmas.{registers-some, registers-none}
use Rattle.soc_dump.proofs.registers.x86_registers.Goals as goal

pub returns-then-context-lt-X86_CONTEXT_SIZE : goal.returns-then-context-lt-X86_CONTEXT_SIZE
returns-then-context-lt-X86_CONTEXT_SIZE c = registers-none 716 x86_registers c.args.context.now c.if-context-lt-X86_CONTEXT_SIZE.true

pub returns : goal.returns
returns c =
    rw (c.narrow.ensures.value, c.narrow-2.ensures.value, c.narrow-3.ensures.value, c.narrow-4.ensures.value, c.narrow-5.ensures.value, c.narrow-6.ensures.value, c.narrow-7.ensures.value, c.narrow-8.ensures.value, c.narrow-9.ensures.value)
    (registers-some 716 x86_registers c.args.context.now c.if-context-lt-X86_CONTEXT_SIZE.false)
