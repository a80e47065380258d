-- New seats.
use Rattle.std.proofs.Common.{◌≡◌, ℕ, List, [], ap, ◌∙◌}
use Rattle.std.specs.Prelude.{Some}
use Rattle.soc_hall.specs.declared.view.Known.{Known}
use Rattle.soc_hall.specs.declared.view.View.{View}
use Rattle.soc_hall.specs.Seats.{known, IsNew}
use Rattle.soc_hall.specs.inner.Rule.{starting}

module _ {B X C P : Type 0} where
  -- a seat that is new by the hall's key is new by the state that the key tells of
  pub new_at : (b b' : B) (o o' : List X) (k : Known B X C P) → b ≡ b' → o ≡ o' → IsNew b o k → IsNew b' o' k
  new_at b b' o o' k eb eo h = (h.0 ∙ ap (λ (z : B). Some z) eb, h.1 ∙ eo, h.2, h.3)

  pub new_start : (b b' : B) (o o' : List X) (seats : ℕ) (v : View B X C P) → b ≡ b' → o ≡ o' → v ≡ starting b o seats → IsNew b' o' (known v) × (v.gone ≡ [])
  new_start b b' o o' seats v eb eo e = (
    new_at b b' o o' (known v) eb eo (ap (λ (z : View B X C P). z.basis) e, ap (λ (z : View B X C P). z.opening) e, ap (λ (z : View B X C P). z.seen) e, ap (λ (z : View B X C P). z.turns) e),
    ap (λ (z : View B X C P). z.gone) e,
  )
