use Rattle.std.proofs.Common.{Some, ap, ◌∙◌}
use Rattle.soc_toml.proofs.Members.{first_other-found, first_other-passed, keys_rise-view}
use Rattle.soc_toml.proofs.keys.first_other_key.Goals as goal

pub returns-then-not-is_among-clause-first : goal.returns-then-not-is_among-clause-first
returns-then-not-is_among-clause-first c =
    ap Some c.as_str-then-not-is_among.ensures.value ∙ first_other-found c.args.names.now c.args.table.now.entries _ _ c.in-Some.key.now c.in-Some._value.now _ _ c.loop-key.invariant c.in-Some.ensures.steps c.as_str.ensures.value c.is_among.ensures c.if-not-is_among.true

pub loop-key-preserved : goal.loop-key-preserved
loop-key-preserved c =
    first_other-passed c.args.names.now c.args.table.now.entries _ _ c.in-Some.key.now c.in-Some._value.now _ _ c.loop-key.invariant c.in-Some.ensures.steps c.as_str.ensures.value c.is_among.ensures c.if-not-is_among.false

pub returns-then-not-is_among-clause-rising : goal.returns-then-not-is_among-clause-rising
returns-then-not-is_among-clause-rising c = keys_rise-view c.args.table.now.entries c.iter-key-items.ensures.ordered

pub returns-clause-rising : goal.returns-clause-rising
returns-clause-rising c = keys_rise-view c.args.table.now.entries c.iter-key-items.ensures.ordered
