use Rattle.std.proofs.Common.{◌∙◌, Some, ap}
use Rattle.toml.specs.View.{table_view}
use Rattle.soc_replay.proofs.SettingLemmas.{Reads-all, Reads-passed, first_bad-found, settings_in-bad}
use Rattle.soc_replay.proofs.settings.Draft.read.Goals as goal

pub loop-key-init : goal.loop-key-init
loop-key-init c = Reads-all c.args.table.now.entries _ c.new-draft.result (c.into_iter-key-iterator.ensures.into_iter_gives ∙ c.iter-key-items.ensures.rest) c.new-draft.ensures c.iter-key-items.ensures.ordered

pub loop-key-preserved : goal.loop-key-preserved
loop-key-preserved c =
    Reads-passed c.args.table.now.entries _ _ c.loop-key.draft c.take.new.self c.in-Some.key.now c.in-Some.value.now c.as_str.result.now c.in_ok-take.field-0 c.loop-key.invariant
    c.in-Some.ensures.steps c.as_str.ensures.value c.in_ok-take.ensures.good c.if-not-branch.false (c.in_ok-take.ensures.taken c.if-not-branch.false) c.in_ok-take.ensures.ranges

pub returns-then-not-branch-clause-refused : goal.returns-then-not-branch-clause-refused
returns-then-not-branch-clause-refused c =
    settings_in-bad (table_view c.args.table.now) c.in_ok-of.field-0
    (ap Some (c.in_ok-of.ensures ∙ c.as_str-then-not-branch.ensures.value) ∙ first_bad-found c.args.table.now.entries _ _ c.in-Some.key.now c.in-Some.value.now c.as_str.result.now c.in_ok-take.field-0
    c.loop-key.invariant.entries.same c.loop-key.invariant.entries.rising c.in-Some.ensures.steps c.as_str.ensures.value c.in_ok-take.ensures.good c.if-not-branch.true)
