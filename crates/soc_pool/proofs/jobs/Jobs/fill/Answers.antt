use Rattle.std.proofs.Common.{rules, refl, sym, ap, ◌∙◌, ◌+◌}
use Rattle.std.proofs.lemmas.List.Elements.{All-push, All-same}
use Rattle.soc_pool.specs.Passes.{seen_of, IsPassOf, IsNew}
use Rattle.soc_pool.specs.inner.Rule.{unseen}
use Rattle.soc_pool.proofs.Keeps.{forks, numbered}
use Rattle.soc_pool.proofs.jobs.Jobs.fill.Goals as goal

pub another-ring-requires-clause-rule : goal.another-ring-requires-clause-rule
another-ring-requires-clause-rule c = forks c.loop-number.roll.id _ c.loop-number.invariant.roll.1

pub loop-number-preserved : goal.loop-number-preserved
loop-number-preserved c =
    let before = c.loop-number.invariant in
    let number = ap (λ s. s.number) before.roll.3 in
    let new = ap (λ v. v.seen) c.another-ring.ensures.rule.1 ∙ ap unseen number in record {
      roll = (search rules, ap (λ v. v.role) c.another-ring.ensures.rule.0 ∙ before.roll.1, ap (λ v. v.gone) c.another-ring.ensures.rule.0 ∙ before.roll.2, ap (λ v. v.seen) c.another-ring.ensures.rule.0 ∙ ap (λ n. unseen (n + 1)) number);
      count = search rules;
      room = search rules;
      each = All-same (λ pass. IsPassOf c.args.self.now pass × IsNew pass) _ _ c.push_reserved.ensures.items
          (All-push (λ pass. IsPassOf c.args.self.now pass × IsNew pass) c.loop-number.list.items _ before.each (c.another-ring.ensures.queue.1, record { seen = new ∙ ap unseen (sym (ap (λ s. s.number) new)); fulls = refl; empties = refl }));
      numbers = numbered (λ pass. (seen_of pass).number) c.loop-number.list.items c.push_reserved.new.self.items _ c.loop-number._number c.push_reserved.ensures.items before.numbers (ap (λ s. s.number) new);
    }
