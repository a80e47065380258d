use Rattle.std.proofs.Common.{ℕ, List, subst}
use Rattle.std.specs.Prelude.{IfOk}
use Rattle.soc_forms.specs.inner.ExtraViews.{ShowsExtra}
use Rattle.soc_forms.proofs.extras.extra_of.Goals as goal

pub returns : goal.returns
returns c = subst (λ (x : List ℕ). IfOk c.read_extra.result (ShowsExtra x)) c.as_slice.ensures c.read_extra.ensures
