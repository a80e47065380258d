use Rattle.soc_replay.proofs.TaskLemmas.{check_cause, checks_task}
use Rattle.soc_replay.proofs.words.run_task.Goals as goal

pub returns-in-Check-clause-runs : goal.returns-in-Check-clause-runs
returns-in-Check-clause-runs g c = checks_task c.args.words.now c.args.words.now.command _ _ _ _ c.check.result c.in-Check.is (c.check.ensures.checks _)

pub returns-in-Check-clause-cause : goal.returns-in-Check-clause-cause
returns-in-Check-clause-cause g c = check_cause _ _ _ _ c.check.result (c.check.ensures.checks _) c.check.ensures.cause c.check.ensures.disk_cause
