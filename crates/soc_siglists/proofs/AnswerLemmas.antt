-- What patterns answered of frames that came before.
use Rattle.std.proofs.Common.{◌≡◌, ℕ, Bool, true, false, cond, List, [], ◌∷◌, Option, None, Some, refl, sym, ap, ◌∙◌, subst}
use Rattle.std.specs.Prelude.{IfSome, Result, Ok, Err, OnOk, OnErr}
use Rattle.std.specs.declared.cmp.Ordering.TheVariants.{Less, Equal, Greater}
use Rattle.std.specs.Ordering.{nat_cmp, match_ordering, is_eq}
use Rattle.std.specs.List.{AllByRecursion}
use Rattle.std.specs.Cmp.Lexicographic.{slice_cmp}
use Rattle.std.specs.BTreeMap.{insert_entry}
use Rattle.std.proofs.lemmas.Map.Text.{is_eq-slice_cmp}
use Rattle.std.proofs.lemmas.Slice.Eq.{bytes_eq-Decides}
use Rattle.soc_base.specs.Names.{byte_cmp, value_of, with_value}
use Rattle.soc_siglists.specs.Lists.{matches_one}
use Rattle.soc_siglists.specs.inner.Literals.{AreAnswers}

same_text : (text other : List ℕ) → is_eq (byte_cmp text other) ≡ true → text ≡ other
same_text text other is = (bytes_eq-Decides text other).0 (sym (is_eq-slice_cmp text other) ∙ is)

module _ (patterns : List (List ℕ)) where
  -- one more answer
  answers_with : (answers : List (List ℕ × Bool)) (frame : List ℕ) (is : Bool) → AreAnswers patterns answers → is ≡ matches_one patterns frame
      → AreAnswers patterns (with_value answers frame is)
  answers_with [] frame is all right = (right, tt)
  answers_with (p ∷ more) frame is all right =
      elim (byte_cmp frame p.0) as (λ o. byte_cmp frame p.0 ≡ o
      → AreAnswers patterns (match_ordering o ((frame, is) ∷ p ∷ more) ((p.0, is) ∷ more) (p ∷ insert_entry (slice_cmp nat_cmp) more frame is))) [
        | Less ↦ λ _. (right, all)
        | Equal ↦ λ same. (right ∙ ap (matches_one patterns) (same_text frame p.0 (ap is_eq same)), all.1)
        | Greater ↦ λ _. (all.0, answers_with more frame is all.1 right)
      ] refl

  here_or : (b : Bool) (frame : List ℕ) (p : List ℕ × Bool) (rest : Option Bool) (is : Bool) → is_eq (byte_cmp frame p.0) ≡ b → p.1 ≡ matches_one patterns p.0
      → (Some is ≡ rest → is ≡ matches_one patterns frame) → Some is ≡ cond b (Some p.1) rest → is ≡ matches_one patterns frame
  here_or true frame p rest is same right others found =
      let value : is ≡ p.1 = cc in
      value ∙ right ∙ ap (matches_one patterns) (sym (same_text frame p.0 same))
  here_or false frame p rest is other right others found = others found

  -- the answer of a frame that came before
  pub answer_is : (answers : List (List ℕ × Bool)) (frame : List ℕ) (found : Option Bool) → AreAnswers patterns answers → found ≡ value_of answers frame
      → IfSome found (λ is. is ≡ matches_one patterns frame)
  answer_is answers frame None all same = tt
  answer_is [] frame (Some is) all same = absurd cc
  answer_is (p ∷ more) frame (Some is) all same =
      here_or (is_eq (byte_cmp frame p.0)) frame p (value_of more frame) is refl all.0 (answer_is more frame (Some is) all.1) same

  pub answers_set : {T E : Type 0} (r : Result T E) (old new : List (List ℕ × Bool)) (frame : List ℕ) (is : Bool) → OnOk r (new ≡ with_value old frame is) → OnErr r (new ≡ old)
      → AreAnswers patterns old → is ≡ matches_one patterns frame → AreAnswers patterns new
  answers_set (Ok _) old new frame is done failed all right = subst (AreAnswers patterns) (sym done) (answers_with old frame is all right)
  answers_set (Err _) old new frame is done failed all right = subst (AreAnswers patterns) (sym failed) all
