-- Values that are written place by place.
use Rattle.std.proofs.Common.{◌≡◌, ℕ, ◌+◌, ◌<◌, ◌≤◌, Option, None, List, length, get_or, sym, ◌∙◌, subst, arith}
use Rattle.std.proofs.Math.ListN.{set, length-set}
use Rattle.std.proofs.lemmas.List.Edits.{fill_by_more}
use Rattle.std.proofs.lemmas.List.FromFn.{fill_by_all}
use Rattle.soc_step.specs.Machine.{values_by}

-- there are 33 values, of which those below a place are written
pub record Fills (value : ℕ → Option ℕ) (values : List (Option ℕ)) (place : ℕ) : Type 0 where
  pub long : length values ≡ 33
  pub written : (k : ℕ) → k < place → get_or values k None ≡ value k

module _ (value : ℕ → Option ℕ) where
  pub fills-none : (values : List (Option ℕ)) → length values ≡ 33 → Fills value values 0
  fills-none values long = record { long = long; written = λ k h. absurd (omega arith) }

  pub fills-more : (values : List (Option ℕ)) (place : ℕ) (next : Option ℕ) → place < 33 → Fills value values place → next ≡ value place → Fills value (set values place next) (place + 1)
  fills-more values place next lt fills is = record {
    long = length-set values place next ∙ fills.long;
    written = λ k h. subst (λ v. get_or (set values place v) k None ≡ value k) (sym is) (fill_by_more value values place None (omega (arith, fills.long)) fills.written k h);
  }

  pub fills-all : (values : List (Option ℕ)) (place : ℕ) → 33 ≤ place → Fills value values place → values ≡ values_by value
  unfolding values_by
  fills-all values place le fills = fill_by_all value values 33 None fills.long (λ k h. fills.written k (omega arith))
