use Rattle.std.proofs.Common.{◌∙◌, ap, arith, count_by}
use Rattle.soc_schema.specs.Values.{values_of}
use Rattle.soc_store.specs.Stored.{places_of}
use Rattle.soc_schema.specs.Fields.{signature_field}
use Rattle.soc_search.proofs.RankLemmas.{mapped_at}
use Rattle.soc_search.proofs.RowLemmas.{counts_are, stands_in}
use Rattle.soc_search.proofs.ranking.counts_among.Goals as goal

pub loop-i-preserved : goal.loop-i-preserved
loop-i-preserved c =
    mapped_at (λ v. count_by (stands_in c.args.places.now) (places_of signature_field v c.args.store.now)) (values_of signature_field c.args.store.now) c.loop-i.i c.term_near.result.0.now c.count_among.result c.loop-i.counts.items c.push.new.self.items c.term_near.ensures.value
    (c.count_among.ensures ∙ ap (count_by (stands_in c.args.places.now)) c.term_near.ensures.places)
    c.loop-i.invariant c.in_ok-push.ensures.items

pub returns : goal.returns
returns c =
    λ test are. c.loop-i.invariant ∙ counts_are test signature_field (values_of signature_field c.args.store.now) c.loop-i.i c.args.store.now c.args.places.now c.places_rise.ensures.rise are (omega (arith, c.values-i-end.ensures.count, c.loop-i-test.false))
