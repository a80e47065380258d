use denote.Param.Send.{sendable}
use Rattle.std.proofs.Crossing.{crosses}
use Rattle.std.proofs.MapsCrossing as maps
use Rattle.soc_edge.specs.Memory.{tree_told}
use Rattle.soc_replay.proofs.FileLemmas.{says_said}
use Rattle.soc_symfile.proofs.symfile.SymFile.TheSendSync as symfile
use Rattle.soc_report.proofs.texts.KitText.TheSendSync as kit_text
use Rattle.soc_report.proofs.index.Index.TheSendSync as index
use Rattle.soc_siglists.proofs.Crossing.{lists}
use Rattle.soc_serve.proofs.Storms.{empty_says, out_ok}
use Rattle.soc_serve.proofs.storm.play.Goals as goal

pub play_by-requires-sync-P : goal.play_by-requires-sync-P
play_by-requires-sync-P g c κs within =
    let l = lists in search (sendable, crosses, maps.crosses, symfile.the_sync, kit_text.the_sync, index.the_field_sync) depth 20 fits 4000

pub returns : goal.returns
returns g c =
    let texts = c.in-Ok.texts in
    let setup = c.in-Ok.setup in
    out_ok _ texts.kit setup c.args.words.now.count c.play_by.result c.in-Ok-read.ensures.reads.1
    (empty_says _ _ _ _ c.new-tree.ensures c.new.ensures (says_said (tree_told c.new-tree.result).files texts setup c.in-Ok.ensures.told c.in-Ok.ensures.says c.in-Ok-read.ensures.reads.0))
    c.play_by.ensures
