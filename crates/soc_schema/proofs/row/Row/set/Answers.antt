use Rattle.std.proofs.Common.{◌∙◌, ap}
use Rattle.soc_schema.specs.Rows.{value_of, with_value}
use Rattle.soc_schema.proofs.RowLemmas.{set_is_with_value, insert_is_with_value, IsRow-with_value, value_of-with_value, value_of-with_other}
use Rattle.soc_schema.proofs.row.Row.set.Goals as goal
use Rattle.soc_schema.proofs.row.Row.set.Goals.{in-Text-1, in-Number-1}

pub invariant_of-self : goal.invariant_of-self
invariant_of-self c =
    let e = set_is_with_value c.deref.result.now c.self.inside.cells.items c.args.field c.in-Ok.place c.args.value c.in-Ok.ensures.place c.deref.ensures.value in
    IsRow-with_value c.self.inside.cells.items _ c.args.field c.args.value e c.self.invariant c.in-Ok.ensures.in_table c.requires

pub invariant_of-self-in-Ok-2 : goal.invariant_of-self-in-Ok-2
invariant_of-self-in-Ok-2 c =
    let e = set_is_with_value c.deref.result.now c.self.inside.cells.items c.args.field c.in-Ok.place c.args.value c.in-Ok.ensures.place c.deref.ensures.value in
    IsRow-with_value c.self.inside.cells.items _ c.args.field c.args.value e c.self.invariant c.in-Ok.ensures.in_table c.requires

pub returns-in-Ok-clause-ok : goal.returns-in-Ok-clause-ok
returns-in-Ok-clause-ok c =
    let e = set_is_with_value c.deref.result.now c.self.inside.cells.items c.args.field c.in-Ok.place c.args.value c.in-Ok.ensures.place c.deref.ensures.value ∙ ap (λ l. with_value l c.args.field c.args.value) c.self.view_is in
    elim c.match-index_mut.branch [ in-Text-1 w ↦ w.self-is ∙ e | in-Number-1 w ↦ w.self-is ∙ e ]

pub invariant_of-self-in-Continue-1 : goal.invariant_of-self-in-Continue-1
invariant_of-self-in-Continue-1 c =
    let e = c.in_ok-insert-in-Err.ensures.items ∙ insert_is_with_value c.deref.result.now c.self.inside.cells.items c.args.field c.in-Err.place c.args.value c.in-Err.ensures.place c.deref.ensures.value in
    IsRow-with_value c.self.inside.cells.items _ c.args.field c.args.value e c.self.invariant c.in-Err.ensures.in_table c.requires

pub returns-in_ok-insert-in-Err-clause-ok : goal.returns-in_ok-insert-in-Err-clause-ok
returns-in_ok-insert-in-Err-clause-ok c =
    c.in_ok-insert-in-Err.ensures.items ∙ (insert_is_with_value c.deref.result.now c.self.inside.cells.items c.args.field c.in-Err.place c.args.value c.in-Err.ensures.place c.deref.ensures.value ∙ ap (λ l. with_value l c.args.field c.args.value) c.self.view_is)

pub returns-in-Ok-clause-value : goal.returns-in-Ok-clause-value
returns-in-Ok-clause-value c =
    ap (λ l. value_of l c.args.field) (returns-in-Ok-clause-ok c) ∙ value_of-with_value c.args.self.now c.args.field c.args.value

pub returns-in-Ok-clause-others : goal.returns-in-Ok-clause-others
returns-in-Ok-clause-others c =
    λ other differs. ap (λ l. value_of l other) (returns-in-Ok-clause-ok c) ∙ value_of-with_other c.args.self.now c.args.field other c.args.value differs

pub returns-in_ok-insert-in-Err-clause-value : goal.returns-in_ok-insert-in-Err-clause-value
returns-in_ok-insert-in-Err-clause-value c =
    ap (λ l. value_of l c.args.field) (returns-in_ok-insert-in-Err-clause-ok c) ∙ value_of-with_value c.args.self.now c.args.field c.args.value

pub returns-in_ok-insert-in-Err-clause-others : goal.returns-in_ok-insert-in-Err-clause-others
returns-in_ok-insert-in-Err-clause-others c =
    λ other differs. ap (λ l. value_of l other) (returns-in_ok-insert-in-Err-clause-ok c) ∙ value_of-with_other c.args.self.now c.args.field other c.args.value differs
