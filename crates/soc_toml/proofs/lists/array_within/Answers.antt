use Rattle.std.proofs.Common.{◌<◌, ◌≤◌, length, sym, ap, ◌∙◌, option_and_then, arith}
use Rattle.soc_toml.specs.Lists.{within}
use Rattle.soc_toml.proofs.Arrays.{within-view, within-past}
use Rattle.soc_toml.proofs.lists.array_within.Goals as goal

pub returns-then-len-most : goal.returns-then-len-most
returns-then-len-most c =
    let values = c.in_ok-array.array.now.items in
    let fits : length values ≤ c.args.most = omega arith in
    sym (ap (option_and_then (within c.args.most)) (sym c.in_ok-array.ensures) ∙ within-view values c.args.most fits)

pub returns-else-len-most : goal.returns-else-len-most
returns-else-len-most c =
    let values = c.in_ok-array.array.now.items in
    let over : c.args.most < length values = omega arith in
    sym (ap (option_and_then (within c.args.most)) (sym c.in_ok-array.ensures) ∙ within-past values c.args.most over)
