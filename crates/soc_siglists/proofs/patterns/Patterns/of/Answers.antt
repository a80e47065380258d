use Rattle.std.proofs.Common.{◌≡◌, ◌∷◌, [], ◌++◌, ap, sym, ◌∙◌}
use Rattle.std.specs.Map.{keys_of}
use Rattle.soc_siglists.proofs.Fronts.{split_literal, split_other, split_by, stands}
use Rattle.soc_siglists.proofs.patterns.Patterns.of.Goals.{then-lead+in_ok-add, else-lead+in_ok-of-2+in_ok-push-2}
use Rattle.soc_siglists.proofs.patterns.Patterns.of.Goals as goal

pub loop-pattern-preserved : goal.loop-pattern-preserved
loop-pattern-preserved c =
    let inv = c.loop-pattern.invariant in
    let pattern = c.in-Some.pattern in
    let texts : c.push.new.self.items ≡ c.loop-pattern.texts.items ++ pattern ∷ [] =
    rw c.as_str.ensures at (rw c.in_ok-of.ensures at c.in_ok-push.ensures.items) in
    let yielded = texts ∙ ap (λ ts. ts ++ pattern ∷ []) inv.texts in
    elim c.if-lead.branch [
      | then-lead+in_ok-add w ↦ record {
        texts = yielded;
        split =
            rw (texts, w.sorted-is, w.others-is)
            (split_literal c.loop-pattern.texts.items (keys_of c.loop-pattern.sorted) (keys_of w.add.new.names) c.loop-pattern.others.items pattern c.in_ok-lead.lead.text inv.split
            (stands pattern c.in_ok-lead.lead c.in_ok-lead.ensures w.if-lead.true) w.in_ok-add.ensures);
      }
      | else-lead+in_ok-of-2+in_ok-push-2 w ↦ record {
        texts = yielded;
        split =
            rw (texts, w.sorted-is, w.others-is, w.in_ok-push-2.ensures.items, w.in_ok-of-2.ensures)
            (split_other c.loop-pattern.texts.items (keys_of c.loop-pattern.sorted) c.loop-pattern.others.items pattern inv.split);
      }
    ]

pub invariant_of-result : goal.invariant_of-result
invariant_of-result c =
    split_by c.loop-pattern.texts.items (keys_of c.loop-pattern.sorted) c.in_ok-literals.literals c.loop-pattern.others.items c.loop-pattern.invariant.split c.in_ok-literals.ensures
