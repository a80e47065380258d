use Rattle.std.proofs.Common.{◌≡◌, drop}
use Rattle.serde_json.specs.View.{items_view}
use Rattle.soc_sigrules.specs.Shutdown.{names_of}
use Rattle.soc_sigrules.proofs.ShutdownLemmas.{names_with}
use Rattle.soc_sigrules.proofs.shutdown.names_of.Given as goal

abbrev pub invariant-loop-condition : goal.invariant-loop-condition
invariant-loop-condition l = names_of (items_view l.condition-items) ≡ names_with l.names (names_of (items_view (drop l.condition-index l.condition-items)))
