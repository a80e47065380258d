use Rattle.std.proofs.Common.{◌∙◌, ap, sym, subst, map}
use Rattle.std.specs.Prelude.{◌≡◌}
use Rattle.soc_schema.specs.Orders.{in_order}
use Rattle.soc_search.specs.inner.Leaders.{IsBar, by_count, with_term}
use Rattle.soc_search.specs.inner.Selections.{as_term}
use Rattle.soc_search.proofs.LeaderLemmas.{bar_cut, bar_led, cut_sorted, led, led_cut, led_more, led_over}
use Rattle.soc_search.proofs.leaders.Leaders.offer.Goals as goal

pub returns-then-counted-self : goal.returns-then-counted-self
returns-then-counted-self c =
    led_over c.self.inside.bar c.self.inside.size c.self.inside.kept.items c.args.counted c.args.self.now c.self.view_is c.self.invariant c.requires c.if-counted-self.true

pub invariant_of-self-in_err-cut : goal.invariant_of-self-in_err-cut
invariant_of-self-in_err-cut c =
    subst (λ kept. IsBar c.self.inside.bar (led c.self.inside.size kept)) (sym c.in_err-cut.ensures.err)
    (bar_led c.self.inside.bar c.self.inside.size c.self.inside.kept.items c.push.new.self.items c.args.counted c.in_ok-push.ensures.items c.self.invariant c.if-counted-self.false)

pub bar_of-self-inside-requires : goal.bar_of-self-inside-requires
bar_of-self-inside-requires c =
    subst (λ kept. in_order by_count (map as_term kept) ≡ map as_term kept) (sym c.as_slice.ensures.value)
    (cut_sorted c.self.inside.size c.push.new.self.items c.cut.new.kept.items c.in_ok-cut.ensures.ok)

pub invariant_of-self-then-len-self : goal.invariant_of-self-then-len-self
invariant_of-self-then-len-self c =
    bar_cut c.self.inside.size c.push.new.self.items c.cut.new.kept.items c.in_ok-cut.ensures.ok c.bar_of-self-inside.result c.as_slice.result.now c.as_slice.ensures.value c.bar_of-self-inside.ensures.below c.bar_of-self-inside.ensures.full

pub invariant_of-self-else-len-self : goal.invariant_of-self-else-len-self
invariant_of-self-else-len-self c =
    bar_led c.self.inside.bar c.self.inside.size c.self.inside.kept.items c.push.new.self.items c.args.counted c.in_ok-push.ensures.items c.self.invariant c.if-counted-self.false

pub returns-in_ok-cut : goal.returns-in_ok-cut
returns-in_ok-cut c =
    led_cut c.self.inside.size c.push.new.self.items c.cut.new.kept.items c.in_ok-cut.ensures.ok
    ∙ led_more c.self.inside.size c.self.inside.kept.items c.push.new.self.items c.args.counted c.in_ok-push.ensures.items ∙ ap (with_term (as_term c.args.counted)) c.self.view_is

pub returns-else-len-self : goal.returns-else-len-self
returns-else-len-self c =
    led_more c.self.inside.size c.self.inside.kept.items c.push.new.self.items c.args.counted c.in_ok-push.ensures.items ∙ ap (with_term (as_term c.args.counted)) c.self.view_is
