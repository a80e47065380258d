-- Lists of pairs that are copied and compared pair by pair.
use Rattle.std.proofs.Common.{◌≡◌, ℕ, List, [], ◌∷◌, sym, subst}
use Rattle.std.specs.Ordering.{nat_cmp, match_ordering}
use Rattle.std.specs.List.{AllByRecursion}
use Rattle.std.specs.Cmp.Lexicographic.{slice_cmp}
use Rattle.std.specs.BTreeMap.{insert_entry}
use Rattle.std.specs.declared.cmp.Ordering.TheVariants.{Less, Equal, Greater}
use Rattle.std.specs.Prelude.{Result, Ok, Err, OnOk, OnErr}
use Rattle.soc_base.specs.Names.{with_value}
use Rattle.soc_base.specs.Names.{IsText, HasTextName}

-- what holds of each pair holds once a name has a value
module _ (Is : List ℕ × List ℕ → Type 0) (keeps : (p : List ℕ × List ℕ) (n v : List ℕ) → Is p → Is (n, v) → Is (p.0, v)) where
  all_with : (ps : List (List ℕ × List ℕ)) (n v : List ℕ) → AllByRecursion Is ps → Is (n, v) → AllByRecursion Is (with_value ps n v)
  all_with [] n v all is = (is, tt)
  all_with (p ∷ ps) n v all is =
      elim (slice_cmp nat_cmp n p.0) as (λ o. AllByRecursion Is (match_ordering o ((n, v) ∷ p ∷ ps) ((p.0, v) ∷ ps) (p ∷ insert_entry (slice_cmp nat_cmp) ps n v))) [
        | Less ↦ (is, all)
        | Equal ↦ (keeps p n v all.0 is, all.1)
        | Greater ↦ (all.0, all_with ps n v all.1 is)
      ]

  pub all_set : {T E : Type 0} (r : Result T E) (old new : List (List ℕ × List ℕ)) (n v : List ℕ) → OnOk r (new ≡ with_value old n v) → OnErr r (new ≡ old) → AllByRecursion Is old → Is (n, v) → AllByRecursion Is new
  all_set (Ok _) old new n v done failed all is = subst (λ ps. AllByRecursion Is ps) (sym done) (all_with old n v all is)
  all_set (Err _) old new n v done failed all is = subst (λ ps. AllByRecursion Is ps) (sym failed) all

pub keeps_text : (p : List ℕ × List ℕ) (n v : List ℕ) → IsText p → IsText (n, v) → IsText (p.0, v)
keeps_text p n v old new = (old.0, new.1)

pub keeps_name : (p : List ℕ × List ℕ) (n v : List ℕ) → HasTextName p → HasTextName (n, v) → HasTextName (p.0, v)
keeps_name p n v old new = old
