use Rattle.std.proofs.Common.{sym}
use Rattle.soc_walk.specs.Views.{loaded_entry}
use Rattle.soc_walk.proofs.FrameLemmas.{at_none, at_some, at_lost}
use Rattle.soc_walk.proofs.steps.frame_at.Goals as goal

pub returns-in_default : goal.returns-in_default
returns-in_default c =
    at_none c.args.process.now c.args.instruction c.args.address c.args.trust _ c.in_default.ensures (c.in_no_module.ensures c.args.process.now.loaded)

pub returns-in-Some-loaded : goal.returns-in-Some-loaded
returns-in-Some-loaded c =
    at_some c.args.process.now c.args.instruction c.args.address c.args.trust _ c.in-Some.index (loaded_entry c.in-Some-loaded.loaded) c.in-Some.ensures c.in-Some-loaded.ensures (c.in_module.ensures c.args.process.now.loaded (sym c.in-Some-loaded.ensures))

pub returns-in-None : goal.returns-in-None
returns-in-None c =
    at_lost c.args.process.now c.args.instruction c.args.address c.args.trust _ c.in-Some.index c.in-Some.ensures c.in-None.ensures (c.in_no_module-in-None.ensures c.args.process.now.loaded)
