use Rattle.soc_raw.proofs.PairLists.{copied}
use Rattle.soc_raw.proofs.copies.copy_of_texts.Goals as goal

pub loop-name-preserved : goal.loop-name-preserved
loop-name-preserved c =
    copied c.args.texts.now c.loop-name.copy c.loop-name.name-iterator c.next.new.self c.set_copy.new.self _ _ c.into_iter-name-iterator.ensures.into_iter_gives.1
    c.in-Some.ensures.steps c.in_ok-set_copy.ensures.ok c.loop-name.invariant
