use Rattle.soc_report.proofs.ThreadLemmas.{thread_is}
use Rattle.soc_report.proofs.dump.crashing_thread.Goals as goal

pub returns : goal.returns
returns c = thread_is c.args.dump.now c.threads.result.now c.in_ok-exception.field-0.now c.place_of.result c.threads.ensures c.in_ok-exception.ensures c.place_of.ensures
