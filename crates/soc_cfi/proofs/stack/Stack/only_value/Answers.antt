use Rattle.std.proofs.Common.{◌≡◌, length, drop, ap, ◌∙◌, arith, length-drop}
use Rattle.soc_cfi.proofs.StackLemmas.{only_none}
use Rattle.soc_cfi.proofs.stack.Stack.only_value.Goals as goal

pub returns-else-self-eq-STACK_SIZE : goal.returns-else-self-eq-STACK_SIZE
returns-else-self-eq-STACK_SIZE c =
    only_none c.args.self.now (λ one.
    let held : length (drop c.self.inside.top c.self.inside.values) ≡ 1 = ap length c.self.view_is ∙ one in
    let left = length-drop c.self.inside.top c.self.inside.values in
    omega arith)
