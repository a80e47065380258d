use Rattle.std.proofs.Common.{arith}
use Rattle.soc_dump.specs.Registers.{amd64_registers}
use Rattle.soc_dump.proofs.RegisterLemmas.{registers-some, registers-none}
use Rattle.soc_dump.proofs.registers.amd64_registers.Goals as goal

pub returns-then-context-lt-AMD64_CONTEXT_SIZE : goal.returns-then-context-lt-AMD64_CONTEXT_SIZE
returns-then-context-lt-AMD64_CONTEXT_SIZE c = registers-none 1232 amd64_registers c.args.context.now c.if-context-lt-AMD64_CONTEXT_SIZE.true

pub wide-requires-12-clause-inside : goal.wide-requires-12-clause-inside
wide-requires-12-clause-inside c = omega (arith, c.if-context-lt-AMD64_CONTEXT_SIZE.false)

pub wide-requires-13-clause-inside : goal.wide-requires-13-clause-inside
wide-requires-13-clause-inside c = omega (arith, c.if-context-lt-AMD64_CONTEXT_SIZE.false)

pub wide-requires-14-clause-inside : goal.wide-requires-14-clause-inside
wide-requires-14-clause-inside c = omega (arith, c.if-context-lt-AMD64_CONTEXT_SIZE.false)

pub wide-requires-15-clause-inside : goal.wide-requires-15-clause-inside
wide-requires-15-clause-inside c = omega (arith, c.if-context-lt-AMD64_CONTEXT_SIZE.false)

pub wide-requires-16-clause-inside : goal.wide-requires-16-clause-inside
wide-requires-16-clause-inside c = omega (arith, c.if-context-lt-AMD64_CONTEXT_SIZE.false)

pub wide-requires-17-clause-inside : goal.wide-requires-17-clause-inside
wide-requires-17-clause-inside c = omega (arith, c.if-context-lt-AMD64_CONTEXT_SIZE.false)

pub returns : goal.returns
returns c =
    rw (c.wide.ensures.value, c.wide-2.ensures.value, c.wide-3.ensures.value, c.wide-4.ensures.value, c.wide-5.ensures.value, c.wide-6.ensures.value, c.wide-7.ensures.value, c.wide-8.ensures.value, c.wide-9.ensures.value, c.wide-10.ensures.value, c.wide-11.ensures.value, c.wide-12.ensures.value, c.wide-13.ensures.value, c.wide-14.ensures.value, c.wide-15.ensures.value, c.wide-16.ensures.value, c.wide-17.ensures.value)
    (registers-some 1232 amd64_registers c.args.context.now c.if-context-lt-AMD64_CONTEXT_SIZE.false)
