-- What a cursor takes from the front of its bytes.
use Rattle.std.proofs.Common.{◌≡◌, ℕ, ◌^◌, ◌<◌, List, ◌++◌, length, take, drop, Option, Some, None, true, false, refl, sym, ap, subst, ◌∙◌}
use Rattle.std.specs.Str.{IsUtf8, is_utf8}
use Rattle.std.proofs.lemmas.List.{take-append-drop}
use Rattle.std.proofs.lemmas.Str.{is_utf8-from_IsUtf8}
use Rattle.soc_base.specs.Cursor.{Takes}
use Rattle.soc_base.specs.Cursor.{blob_at}
use Rattle.soc_base.specs.Cursor.{counted}
use Rattle.soc_base.proofs.Folk.{some_same}
use Rattle.soc_base.proofs.Fronts.{blob_again}

-- a front and what stands behind it are the whole
pub front_back : (n : ℕ) (bytes old front rest text : List ℕ) → bytes ≡ old → front ≡ take n bytes → rest ≡ drop n bytes → text ≡ front → old ≡ text ++ rest
front_back n bytes old front rest text same is_front is_rest is_text =
    sym same ∙ sym (take-append-drop n bytes) ∙ ap (λ t. t ++ drop n bytes) (sym is_front ∙ sym is_text) ∙ ap (λ t. text ++ t) (sym is_rest)

-- counted bytes that are no text are no counted text either
pub no_text_there : {X : Type 0} (view : X → List ℕ) (r : Option X) (inside old bytes rest : List ℕ) → inside ≡ old → r ≡ None → blob_at inside ≡ Some (bytes, rest) → is_utf8 bytes ≡ false
    → Takes view (λ t. IsUtf8 t × (length t < 2 ^ 32)) counted r old old
no_text_there view r inside old bytes rest same_bytes none read no_text =
    subst (λ o. Takes view (λ t. IsUtf8 t × (length t < 2 ^ 32)) counted o old old) (sym none) (
      (λ t behind is whole.
          let again : Some (t, behind) ≡ Some (bytes, rest) = sym (blob_again t behind is.1) ∙ ap blob_at (sym whole ∙ sym same_bytes) ∙ read in
          let same : t ≡ bytes = ap (λ u. u.0) (some_same (t, behind) (bytes, rest) again) in
          let clash : true ≡ false = sym (is_utf8-from_IsUtf8 t is.0) ∙ ap is_utf8 same ∙ no_text in
          cc),
      refl,
    )
