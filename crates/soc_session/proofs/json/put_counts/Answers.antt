use Rattle.soc_session.proofs.JsonLemmas.{put_seven}
use Rattle.soc_session.proofs.json.put_counts.Goals as goal

pub returns : goal.returns
returns c =
    put_seven c.args.out.now.items _ _ _ _ _ _ _
    c.put_count.new.out.items c.put_short_count.new.out.items c.put_short_count-2.new.out.items c.put_count-2.new.out.items c.put_short_count-3.new.out.items c.put_short_count-4.new.out.items c.put.new.out.items
    c.in_ok-put_count.ensures c.in_ok-put_short_count.ensures c.in_ok-put_short_count-2.ensures c.in_ok-put_count-2.ensures c.in_ok-put_short_count-3.ensures c.in_ok-put_short_count-4.ensures c.in_ok-put.ensures
