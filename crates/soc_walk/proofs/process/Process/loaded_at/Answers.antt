use Rattle.std.proofs.Common.{Some, None, option_map, sym, ◌∙◌, ap}
use Rattle.soc_walk.specs.Process.{holds}
use Rattle.soc_walk.specs.Views.{loaded_entry}
use Rattle.soc_walk.proofs.PlaceLemmas.{find-at}
use Rattle.soc_walk.proofs.process.Process.loaded_at.Goals as goal

pub returns-in_err-index_at : goal.returns-in_err-index_at
returns-in_err-index_at c =
    ap (option_map loaded_entry) c.from_residual.ensures ∙ sym (find-at (holds c.args.address) c.args.self.now.loaded None (sym c.in_err-index_at.ensures))

pub returns : goal.returns
returns c = c.loaded.ensures ∙ sym (find-at (holds c.args.address) c.args.self.now.loaded (Some _) (sym c.in_ok-index_at.ensures))
