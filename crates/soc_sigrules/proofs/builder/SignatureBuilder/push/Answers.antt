use Rattle.std.proofs.Common.{rules}
use Rattle.soc_sigrules.proofs.SummaryLemmas.{frames-push}
use Rattle.soc_sigrules.proofs.builder.SignatureBuilder.push.Goals as goal

pub returns-clause-step : goal.returns-clause-step
returns-clause-step c = search rules

pub returns-clause-frames : goal.returns-clause-frames
returns-clause-frames c = frames-push c.args.self c.keep.new.self c.args.frame.now (returns-clause-step c)
