use Rattle.std.proofs.Common.{rules, sym, ◌∙◌, ap, take}
use Rattle.soc_cfi.proofs.RuleLemmas.{reached_more, reached_name, reached_boundary, reached_end, parted, range_front}
use Rattle.soc_cfi.proofs.texts.rule_text.Goals as goal

pub range-requires-clause-end_boundary : goal.range-requires-clause-end_boundary
range-requires-clause-end_boundary c =
    rw c.saturating_sub.ensures (reached_boundary c.args.text.now c.loop-later.rest.now c.loop-later.invariant.reached c.utf8.text)

pub returns-then-is_name : goal.returns-then-is_name
returns-then-is_name c =
    let begins = parted c.loop-later.rest.now c.split_part.result.0.now c.split_part.result.1 c.split_part.ensures.parts in
    let text = reached_name c.args.text.now c.loop-later.rest.now c.split_part.result.0.now begins.0 c.loop-later.invariant.reached (sym c.is_name.ensures ∙ c.if-is_name.true) begins.1 in
    c.range.ensures.value ∙ range_front c.args.text.now c.saturating_sub.result ∙ ap (λ n. take n c.args.text.now) c.saturating_sub.ensures ∙ text

pub returns-in_default : goal.returns-in_default
returns-in_default c =
    reached_end c.args.text.now c.loop-later.rest.now c.split_part.result.0.now c.loop-later.invariant.reached (rw c.in_default.is at c.split_part.ensures.text) (sym c.is_name.ensures ∙ c.if-is_name.false) (rw c.in_default.is at c.split_part.ensures.parts)

pub loop-later-preserved : goal.loop-later-preserved
loop-later-preserved c = record {
  utf8 = search rules;
  reached = reached_more c.args.text.now c.loop-later.rest.now c.split_part.result.0.now c.in-Some.later.now c.loop-later.invariant.reached (sym c.is_name.ensures ∙ c.if-is_name.false) (rw c.in-Some.is at c.split_part.ensures.parts) (rw c.in-Some.is at c.split_part.ensures.text);
}
