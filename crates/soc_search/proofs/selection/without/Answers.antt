use Rattle.std.proofs.Common.{refl}
use Rattle.std.specs.Prelude.{◌&&◌, not}
use Rattle.soc_search.specs.inner.Places.{has}
use Rattle.soc_search.proofs.SelectionLemmas.{selects_less}
use Rattle.soc_search.proofs.selection.without.Goals as goal

pub returns : goal.returns
returns c = λ test all wrong out.
    selects_less (has c.in_ok-left.left) (has c.args.other.now) (has c.remove.new.self) test wrong (λ row. test row && not (wrong row)) c.args.store.now (c.in_ok-left.ensures test all) out c.remove.ensures (λ row. refl)
