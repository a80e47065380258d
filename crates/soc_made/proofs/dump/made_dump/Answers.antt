use Rattle.soc_made.proofs.DumpLemmas.{dump-parts}
use Rattle.soc_made.proofs.dump.made_dump.Goals as goal

pub returns : goal.returns
returns c =
    dump-parts c.args.digit c.in_ok-dump.dump.items _ _ _ _ _ _ _ _ _ c.in_ok-dump.ensures.items c.in_ok-put_header.ensures c.in_ok-put_directory.ensures c.in_ok-put_system.ensures
    c.in_ok-put_module.ensures c.in_ok-put_exception.ensures c.in_ok-put_thread.ensures c.in_ok-put_name.ensures c.in_ok-put_long.ensures c.in_ok-pad.ensures
