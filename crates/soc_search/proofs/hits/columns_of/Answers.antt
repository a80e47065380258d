use Rattle.std.proofs.Common.{◌∙◌, sym, nat_eq, Bool, [], subst}
use Rattle.std.specs.List.{list_any}
use Rattle.soc_schema.specs.Rows.{cell}
use Rattle.soc_schema.specs.declared.value.Cell.{Cell}
use Rattle.soc_search.proofs.HitLemmas.{Keeps, keeps_first, keeps_more, keeps_over, keeps_all, keeps_kind}
use Rattle.soc_search.proofs.hits.columns_of.Goals as goal

pub loop-field-init : goal.loop-field-init
loop-field-init c =
    let test : Cell → Bool = λ d. list_any (λ f. nat_eq f d.field) c.args.columns.now in
    let first : Keeps test c.args.row.now c.into_iter-field-iterator.result [] = keeps_first test c.args.row.now c.into_iter-field-iterator.result (c.into_iter-field-iterator.ensures.into_iter_gives ∙ c.iter-field-items.ensures.rest) c.iter-field-items.ensures.is_row in
    subst (Keeps test c.args.row.now c.into_iter-field-iterator.result) (sym c.new-shown.ensures) first

pub set-requires : goal.set-requires
set-requires c =
    keeps_kind _ c.args.row.now c.loop-field.field-iterator c.next.new.self c.loop-field.shown c.in-Some.field c.in-Some.value.now c.in_ok-share.field-0 c.in-Some.ensures.steps c.in_ok-share.ensures c.loop-field.invariant

pub loop-field-preserved-in_ok-set : goal.loop-field-preserved-in_ok-set
loop-field-preserved-in_ok-set c =
    let test : Cell → Bool = λ d. list_any (λ f. nat_eq f d.field) c.args.columns.now in
    keeps_more test c.args.row.now c.loop-field.field-iterator c.next.new.self c.loop-field.shown c.set.new.self c.in-Some.field c.in-Some.value.now c.in_ok-share.field-0 c.in-Some.ensures.steps (sym c.is_among.ensures ∙ c.if-is_among.true) c.in_ok-share.ensures c.in_ok-set.ensures.ok c.loop-field.invariant

pub loop-field-preserved : goal.loop-field-preserved
loop-field-preserved c =
    let test : Cell → Bool = λ d. list_any (λ f. nat_eq f d.field) c.args.columns.now in
    keeps_over test c.args.row.now c.loop-field.field-iterator c.next.new.self c.loop-field.shown (cell c.in-Some.field c.in-Some.value.now) c.in-Some.ensures.steps (sym c.is_among.ensures ∙ c.if-is_among.false) c.loop-field.invariant

pub returns : goal.returns
returns c = keeps_all _ c.args.row.now c.loop-field.field-iterator c.loop-field.shown c.in-None.ensures.steps.0 c.loop-field.invariant
