-- A run by the texts of its kit.
use Rattle.std.proofs.Common.{◌≡◌, subst}
use Rattle.soc_report.specs.Texts.{KitTexts}
use Rattle.soc_replay.specs.declared.ending.RunEnd.{RunEnd}
use Rattle.soc_replay.specs.declared.setup.Setup.{Setup}
use Rattle.soc_edge.specs.World.{Surroundings}
use Rattle.soc_replay.specs.Replay.{RunsDesk, digest_of, rows_of}
use Rattle.soc_replay.specs.Serving.{service}
use Rattle.soc_replay.specs.Stacks.{stacks_by}

-- a kit is seen as its texts
pub runs_with : (kit texts : KitTexts) (setup : Setup) (before after : Surroundings) (end : RunEnd) → kit ≡ texts
    → RunsDesk (service (rows_of kit) (digest_of kit) (stacks_by kit) setup) before after end
    → RunsDesk (service (rows_of texts) (digest_of texts) (stacks_by texts) setup) before after end
runs_with kit texts setup before after end same runs =
    subst (λ k. RunsDesk (service (rows_of k) (digest_of k) (stacks_by k) setup) before after end) same runs
