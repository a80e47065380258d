use Rattle.std.proofs.Common.{◌/◌, ◌∙◌, ap, length, arith}
use Rattle.std.proofs.lemmas.Result.{on_ok_weaker}
use Rattle.std.specs.Option.{option_or}
use Rattle.soc_dump.specs.Covering.{covers, owner_in}
use Rattle.soc_dump.proofs.LayerLemmas.{owner_in-append, position_from-halves}
use Rattle.soc_dump.proofs.covering.FirstCovering.+extend.Goals as goal

pub returns-then-intervals-gt-LAYER : goal.returns-then-intervals-gt-LAYER
returns-then-intervals-gt-LAYER t c =
    let front = rw c.split_at.ensures.front at c.in_ok-extend.ensures in
    let back = rw c.split_at.ensures.back at c.extend-then-intervals-gt-LAYER.ensures in
    on_ok_weaker c.extend-then-intervals-gt-LAYER.result (λ later x small. position_from-halves (covers x)
    (owner_in c.args.self.now x) (owner_in c.extend.new.self x) (owner_in c.extend-then-intervals-gt-LAYER.new.self x)
    c.args.first (length c.args.intervals.now / 2) c.args.intervals.now (omega arith) (front x small) (later x small)) back

pub returns : goal.returns
returns t c = λ x small.
    let layers = c.self.inside.layers.items in
    rw (← c.self.view_is) (ap (λ pushed. owner_in pushed x) c.in_ok-push.ensures.items
    ∙ owner_in-append layers c.in_ok-layer.layer x
    ∙ ap (option_or (owner_in layers x)) (c.in_ok-layer.ensures x small))
