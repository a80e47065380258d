use Rattle.std.proofs.Common.{Err, ap, arith}
use Rattle.soc_edge.proofs.Disks.{GoesOn-none}
use Rattle.soc_replay.proofs.FileLemmas.{kit_fault, kit_maker, kit_not_tree, says_said}
use Rattle.soc_replay.proofs.ReplayLemmas.{runs_with}
use Rattle.soc_replay.proofs.replay.run.Goals as goal

pub returns-in_err-kit-clause-tree_cause : goal.returns-in_err-kit-clause-tree_cause
returns-in_err-kit-clause-tree_cause g c =
    λ is. absurd (kit_not_tree _ c.in_ok-texts.texts.kit c.in_err-kit.field-0.0 c.from_residual-in_err-kit.ensures.1 c.in_err-kit.ensures.reads is)

pub returns-in_err-kit-clause-tree_first : goal.returns-in_err-kit-clause-tree_first
returns-in_err-kit-clause-tree_first g c =
    λ is. absurd (kit_not_tree _ c.in_ok-texts.texts.kit c.in_err-kit.field-0.0 c.from_residual-in_err-kit.ensures.1 c.in_err-kit.ensures.reads is)

pub returns-in_err-kit-clause-fault : goal.returns-in_err-kit-clause-fault
returns-in_err-kit-clause-fault g c =
    kit_fault _ c.in_ok-texts.texts c.in_ok-setup.setup c.in_err-kit.field-0.0 c.from_residual-in_err-kit.result c.in_ok-texts.ensures.told c.in_ok-setup.ensures
    c.in_err-kit.ensures.reads c.from_residual-in_err-kit.ensures.1

pub returns-in_err-kit-clause-maker_cause : goal.returns-in_err-kit-clause-maker_cause
returns-in_err-kit-clause-maker_cause g c =
    λ is. c.in_err-kit.ensures.cause (ap Err (kit_maker c.from_residual-in_err-kit.result c.in_err-kit.field-0.0 c.from_residual-in_err-kit.ensures.1 is))

pub returns-in_err-kit-clause-runs_on : goal.returns-in_err-kit-clause-runs_on
returns-in_err-kit-clause-runs_on g c = record {
  tree = c.in_ok-texts.ensures.looks;
  streams = record { reads = omega arith; writes = omega arith };
  maker = c.in_err-kit.ensures.never_fall;
  disk = GoesOn-none _ (g.met.D.Disk.sound c.args.world.now.disk);
}

pub returns-clause-runs : goal.returns-clause-runs
returns-clause-runs g c =
    let texts = c.in_ok-texts.texts in
    let setup = c.in_ok-setup.setup in
    record {
      said = record { setup = setup; texts = texts.kit };
      says = says_said _ texts setup c.in_ok-texts.ensures.told c.in_ok-setup.ensures c.in_ok-kit.ensures.reads.0;
      runs = runs_with _ _ _ _ _ _ c.in_ok-kit.ensures.reads.1 c.serve.ensures.runs;
    }
