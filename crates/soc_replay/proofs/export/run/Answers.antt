use Rattle.std.proofs.Common.{Err, ap, arith, inl, refl}
use Rattle.soc_edge.proofs.Disks.{GoesOn-none, Looks-none}
use Rattle.soc_edge.specs.Ahead.{outlook}
use Rattle.soc_replay.specs.declared.refusal.FileRefusal.TheVariants as F
use Rattle.soc_replay.proofs.ExportLemmas.{cause_behind, exports_by, exports_with, journal_spares, key_refused, text_seven, text_spares}
use Rattle.soc_replay.proofs.FileLemmas.{kit_fault, kit_maker, kit_not_tree, says_said}
use Rattle.soc_replay.proofs.export.run.Goals as goal

pub returns-in_err-kit-clause-tree_cause : goal.returns-in_err-kit-clause-tree_cause
returns-in_err-kit-clause-tree_cause g c =
    λ is. absurd (kit_not_tree _ c.in_ok-texts.texts.kit c.in_err-kit.field-0.0 c.from_residual-in_err-kit.ensures.1 c.in_err-kit.ensures.reads is)

pub returns-in_err-kit-clause-tree_first : goal.returns-in_err-kit-clause-tree_first
returns-in_err-kit-clause-tree_first g c =
    λ is. absurd (kit_not_tree _ c.in_ok-texts.texts.kit c.in_err-kit.field-0.0 c.from_residual-in_err-kit.ensures.1 c.in_err-kit.ensures.reads is)

pub returns-in_err-kit-clause-fault : goal.returns-in_err-kit-clause-fault
returns-in_err-kit-clause-fault g c =
    kit_fault _ c.in_ok-texts.texts c.in_ok-setup.setup c.in_err-kit.field-0.0 c.from_residual-in_err-kit.result c.in_ok-texts.ensures.told c.in_ok-setup.ensures
    c.in_err-kit.ensures.reads c.from_residual-in_err-kit.ensures.1

pub returns-in_err-kit-clause-maker_cause : goal.returns-in_err-kit-clause-maker_cause
returns-in_err-kit-clause-maker_cause g c =
    λ is. c.in_err-kit.ensures.cause (ap Err (kit_maker c.from_residual-in_err-kit.result c.in_err-kit.field-0.0 c.from_residual-in_err-kit.ensures.1 is))

pub returns-in_err-kit-clause-runs_on : goal.returns-in_err-kit-clause-runs_on
returns-in_err-kit-clause-runs_on g c = record {
  tree = c.in_ok-texts.ensures.looks;
  streams = record { reads = omega arith; writes = omega arith };
  maker = c.in_err-kit.ensures.never_fall;
  disk = GoesOn-none _ (g.met.D.Disk.sound c.args.world.now.disk);
}

pub returns-in-Ok-Some-clause-runs : goal.returns-in-Ok-Some-clause-runs
returns-in-Ok-Some-clause-runs g c =
    let texts = c.in_ok-texts.texts in
    let setup = c.in_ok-setup.setup in
    exports_by _ _ (record { setup = setup; texts = texts.kit }) (says_said _ texts setup c.in_ok-texts.ensures.told c.in_ok-setup.ensures c.in_ok-kit.ensures.reads.0) _
    c.in-Ok-Some.caller c.export_journal.result (rw c.in-Ok-Some.field-0-is at c.in-Ok-Some.ensures.asks)
    (exports_with _ _ _ _ _ _ _ c.in_ok-kit.ensures.reads.1 (c.export_journal.ensures.exports (outlook (g.C.Clock.told c.args.world.now.clock) (g.W.Draws.told c.args.world.now.draws))))

pub returns-in-Ok-Some-clause-cause : goal.returns-in-Ok-Some-clause-cause
returns-in-Ok-Some-clause-cause g c =
    cause_behind _ _ _ c.export_journal.result c.read_caller.ensures.only
    (journal_spares _ _ _ _ _ _ c.export_journal.result (c.export_journal.ensures.exports (outlook (g.C.Clock.told c.args.world.now.clock) (g.W.Draws.told c.args.world.now.draws))))
    c.export_journal.ensures.cause c.export_journal.ensures.disk_cause

pub returns-in-Ok-None-clause-runs : goal.returns-in-Ok-None-clause-runs
returns-in-Ok-None-clause-runs g c =
    let texts = c.in_ok-texts.texts in
    let setup = c.in_ok-setup.setup in
    key_refused _ _ (record { setup = setup; texts = texts.kit }) (says_said _ texts setup c.in_ok-texts.ensures.told c.in_ok-setup.ensures c.in_ok-kit.ensures.reads.0) _
    c.refuse_text.result (rw c.in-Ok-None.field-0-is at c.in-Ok-None.ensures.asks)
    (record { draws = refl; disk = Looks-none _ (g.met.D.Disk.sound c.args.world.now.disk) }) c.refuse_text.ensures.refuses

pub returns-in-Ok-None-clause-cause : goal.returns-in-Ok-None-clause-cause
returns-in-Ok-None-clause-cause g c =
    let spares = text_spares _ _ F.UnknownKey c.refuse_text.result c.refuse_text.ensures.refuses in
    cause_behind _ _ _ c.refuse_text.result c.read_caller.ensures.only spares.0
    (text_seven _ _ F.UnknownKey c.refuse_text.result c.refuse_text.ensures.refuses c.refuse_text.ensures.cause)
    (λ is. absurd (spares.1 is))

pub returns-in-Ok-Some-clause-runs_on : goal.returns-in-Ok-Some-clause-runs_on
returns-in-Ok-Some-clause-runs_on g c = record {
  tree = c.in_ok-texts.ensures.looks;
  streams = record { reads = omega (arith, c.read_caller.ensures.only.reads_never_fall, c.export_journal.ensures.only.read_faults_stay); writes = omega (arith, c.read_caller.ensures.only.write_faults_stay, c.export_journal.ensures.only.writes_never_fall) };
  maker = c.in_ok-kit.ensures.never_fall;
  disk = c.export_journal.ensures.goes_on;
}

pub returns-in-Ok-None-clause-runs_on : goal.returns-in-Ok-None-clause-runs_on
returns-in-Ok-None-clause-runs_on g c = record {
  tree = c.in_ok-texts.ensures.looks;
  streams = record { reads = omega (arith, c.read_caller.ensures.only.reads_never_fall, c.refuse_text.ensures.only.read_faults_stay); writes = omega (arith, c.read_caller.ensures.only.write_faults_stay, c.refuse_text.ensures.only.writes_never_fall) };
  maker = c.in_ok-kit.ensures.never_fall;
  disk = GoesOn-none _ (g.met.D.Disk.sound c.args.world.now.disk);
}

pub returns-in-Err-InputFault-clause-runs_on : goal.returns-in-Err-InputFault-clause-runs_on
returns-in-Err-InputFault-clause-runs_on g c = record {
  tree = c.in_ok-texts.ensures.looks;
  streams = record { reads = omega (arith, c.read_caller.ensures.only.reads_never_fall); writes = omega (arith, c.read_caller.ensures.only.write_faults_stay) };
  maker = c.in_ok-kit.ensures.never_fall;
  disk = GoesOn-none _ (g.met.D.Disk.sound c.args.world.now.disk);
}

pub returns-clause-runs_on : goal.returns-clause-runs_on
returns-clause-runs_on g c = record {
  tree = c.in_ok-texts.ensures.looks;
  streams = record { reads = omega (arith, c.read_caller.ensures.only.reads_never_fall); writes = omega (arith, c.read_caller.ensures.only.write_faults_stay) };
  maker = c.in_ok-kit.ensures.never_fall;
  disk = GoesOn-none _ (g.met.D.Disk.sound c.args.world.now.disk);
}

pub returns-in-Err-InputFault-clause-runs : goal.returns-in-Err-InputFault-clause-runs
returns-in-Err-InputFault-clause-runs g c =
    let texts = c.in_ok-texts.texts in
    let setup = c.in_ok-setup.setup in
    record {
      said = record { setup = setup; texts = texts.kit };
      says = says_said _ texts setup c.in_ok-texts.ensures.told c.in_ok-setup.ensures c.in_ok-kit.ensures.reads.0;
      only = record {
        quiet = record { draws = refl; disk = Looks-none _ (g.met.D.Disk.sound c.args.world.now.disk) };
        only = c.read_caller.ensures.only;
      };
    }

pub returns-clause-runs : goal.returns-clause-runs
returns-clause-runs g c = inl (record {
  quiet = record { draws = refl; disk = Looks-none _ (g.met.D.Disk.sound c.args.world.now.disk) };
  only = c.read_caller.ensures.only;
})
