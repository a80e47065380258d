use denote.Param.Send.{sendable}
use Rattle.std.proofs.Crossing.{crosses}
use Rattle.std.proofs.MapsCrossing as maps
use Rattle.std.proofs.Common.{Err}
use Rattle.soc_replay.proofs.FileLemmas.{kit_fault, kit_not_tree, says_said}
use Rattle.soc_symfile.proofs.symfile.SymFile.TheSendSync as symfile
use Rattle.soc_report.proofs.texts.KitText.TheSendSync as kit_text
use Rattle.soc_report.proofs.index.Index.TheSendSync as index
use Rattle.soc_siglists.proofs.Crossing.{lists}
use Rattle.soc_serve.specs.declared.ending.HostEnd.{HostEnd}
use Rattle.soc_serve.proofs.Hosted.{blames_neither, serves_with}
use Rattle.soc_serve.proofs.hosting.by_files.Goals as goal

pub returns-in-Err-read-clause-tree_cause : goal.returns-in-Err-read-clause-tree_cause
returns-in-Err-read-clause-tree_cause g c is =
    absurd (kit_not_tree (Err c.from.result) c.in-Ok.files.0.kit c.in-Err-read.error c.from.ensures c.in-Err-read.ensures.reads is)

pub returns-in-Err-read-clause-tree_first : goal.returns-in-Err-read-clause-tree_first
returns-in-Err-read-clause-tree_first g c is =
    absurd (kit_not_tree (Err c.from.result) c.in-Ok.files.0.kit c.in-Err-read.error c.from.ensures c.in-Err-read.ensures.reads is)

pub returns-in-Err-read-clause-fault : goal.returns-in-Err-read-clause-fault
returns-in-Err-read-clause-fault g c =
    kit_fault {A = HostEnd} _ c.in-Ok.files.0 c.in-Ok.files.1 c.in-Err-read.error (Err c.from.result) c.in-Ok.ensures.told c.in-Ok.ensures.says
    c.in-Err-read.ensures.reads c.from.ensures

pub serve-end-requires-sync-Q : goal.serve-end-requires-sync-Q
serve-end-requires-sync-Q g c κs within =
    let l = lists in search (sendable, crosses, maps.crosses, symfile.the_sync, kit_text.the_sync, index.the_field_sync) depth 20 fits 4000

pub serve-end-requires-send-S : goal.serve-end-requires-send-S
serve-end-requires-send-S g c κs within =
    let l = lists in search (sendable, crosses, maps.crosses, symfile.the_sync, kit_text.the_sync, index.the_field_sync) depth 24 fits 4000

pub serve-end-requires-sync-S : goal.serve-end-requires-sync-S
serve-end-requires-sync-S g c κs within =
    let l = lists in search (sendable, crosses, maps.crosses, symfile.the_sync, kit_text.the_sync, index.the_field_sync) depth 24 fits 4000

pub returns-clause-hosts : goal.returns-clause-hosts
returns-clause-hosts g c =
    let texts = c.in-Ok.files.0 in
    let setup = c.in-Ok.files.1 in
    record {
      said = record { setup = setup; texts = texts.kit };
      says = says_said _ texts setup c.in-Ok.ensures.told c.in-Ok.ensures.says c.in-Ok-read.ensures.reads.0;
      serves = serves_with _ _ _ _ _ _ _ _ _ c.in-Ok-read.ensures.reads.1 c.serve-end.ensures.serves;
    }

pub returns-clause-cause : goal.returns-clause-cause
returns-clause-cause g c =
    let neither = blames_neither _ _ _ _ _ _ c.serve-end.result.0 c.serve-end.ensures.serves in
    record { output = c.serve-end.ensures.cause; tree = λ is. absurd (neither.0 is); maker = λ is. absurd (neither.1 is) }
