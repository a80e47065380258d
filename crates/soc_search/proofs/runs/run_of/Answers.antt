use Rattle.std.proofs.Common.{◌∙◌, sym}
use Rattle.soc_schema.specs.Values.{values_of}
use Rattle.soc_search.proofs.RunLemmas.{misses_before, misses_behind}
use Rattle.soc_search.proofs.runs.run_of.Goals as goal

pub returns-in-Compares-clause-before : goal.returns-in-Compares-clause-before
returns-in-Compares-clause-before c =
    misses_before c.args.condition.now c.in-Compares.how c.in-Compares.operand c.in-Compares.is c.if-not-condition.true (sym c.is_run.ensures ∙ c.if-is_run.true) (values_of c.args.field c.args.store.now) c.count_before.result c.count_before.ensures

pub returns-in-Compares-clause-behind : goal.returns-in-Compares-clause-behind
returns-in-Compares-clause-behind c =
    misses_behind c.args.condition.now c.in-Compares.how c.in-Compares.operand c.in-Compares.is c.if-not-condition.true (sym c.is_run.ensures ∙ c.if-is_run.true) (values_of c.args.field c.args.store.now) c.count_before-in-Compares.result c.count_before-in-Compares.ensures
