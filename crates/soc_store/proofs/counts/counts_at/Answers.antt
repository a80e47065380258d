use Rattle.std.proofs.Common.{◌≡◌, ◌∙◌, ◌+◌, ◌-◌, ℕ, suc, ap, arith, drop, map, get_or}
use Rattle.soc_store.specs.Stored.{counted, product_at, tally}
use Rattle.soc_store.proofs.CountLemmas.{rising_from, tally_more}
use Rattle.soc_store.proofs.counts.counts_at.Goals as goal

pub count_one-requires : goal.count_one-requires
count_one-requires c = rising_from c.loop-i.counts.items (drop c.loop-i.i (map (product_at c.args.rows.now) c.args.places.now)) c.loop-i.invariant

pub loop-i-preserved : goal.loop-i-preserved
loop-i-preserved c =
    let f = product_at c.args.rows.now in
    let ps = c.args.places.now in
    let j : ℕ = c.loop-i.i - 1 in
    let next : c.loop-i.i ≡ suc j = omega (arith, c.loop-i-test.true) in
    c.in_ok-count_one.ensures ∙ ap (λ p. counted p c.loop-i.counts.items) c.product_at.ensures
    ∙ ap (counted (f (get_or ps j 0))) (c.loop-i.invariant ∙ ap (λ n. tally (drop n (map f ps))) next)
    ∙ tally_more f ps j (omega (arith, c.loop-i-test.true, c.loop-i.auto.i))
