-- The boundary among the parameters of a `Content-Type`.
use Rattle.std.proofs.Common.{◌≡◌, ℕ, List, [], ◌∷◌, length, true, sym, ap, ◌∙◌, subst, codes, Option, Some, None}
use Rattle.soc_multipart.specs.Delimiters.{IsBoundary}
use Rattle.soc_multipart.specs.Params.{ParamText, AreParams, value_of}
use Rattle.std.proofs.Common.{drop, slice_get, arith}
use Rattle.std.specs.List.{position_or_len}
use Rattle.std.proofs.lemmas.Option.{same_Some}
use Rattle.soc_forms.specs.FormLines.{params_of, is_semicolon, IsPlain, HasBoundary, HasOneType}
use Rattle.soc_multipart.proofs.DispositionLemmas.{params_once}

none_not_some : (v : List ℕ) → ¬ (None ≡ Some v)
none_not_some v e = cc

some_same : (v w : List ℕ) → Some v ≡ Some w → v ≡ w
some_same v w e = cc

in_rest : (value rest : List ℕ) (ps : List ParamText) → rest ≡ params_of value → AreParams true rest ps → AreParams true (params_of value) ps
in_rest value rest ps e h = subst (λ (x : List ℕ). AreParams true x ps) e h

pub no_params_no_boundary : (value rest : List ℕ) → rest ≡ params_of value → ((ps : List ParamText) → ¬ (AreParams true rest ps)) → (b : List ℕ) → ¬ (HasBoundary value b)
no_params_no_boundary value rest e h b k = h k.params (subst (λ (x : List ℕ). AreParams true x k.params) (sym e) k.in_order)

pub unnamed_no_boundary : (value rest : List ℕ) (ps : List ParamText) → rest ≡ params_of value → AreParams true rest ps → value_of (codes "boundary") ps ≡ None → (b : List ℕ) → ¬ (HasBoundary value b)
unnamed_no_boundary value rest ps e a none b k =
    none_not_some b
    (sym none ∙ (ap (value_of (codes "boundary")) (params_once true (params_of value) ps k.params (in_rest value rest ps e a) k.in_order) ∙ k.named))

pub bad_no_boundary : (value rest c : List ℕ) (ps : List ParamText) → rest ≡ params_of value → AreParams true rest ps → value_of (codes "boundary") ps ≡ Some c → ¬ (IsBoundary c) → (b : List ℕ) → ¬ (HasBoundary value b)
bad_no_boundary value rest c ps e a found bad b k =
    let same : b ≡ c =
    some_same b c (sym k.named ∙ (ap (value_of (codes "boundary")) (sym (params_once true (params_of value) ps k.params (in_rest value rest ps e a) k.in_order)) ∙ found)) in
    bad (subst IsBoundary same k.good)

pub boundary_by_parts : (value rest c b : List ℕ) (ps : List ParamText) → rest ≡ params_of value → AreParams true rest ps → value_of (codes "boundary") ps ≡ Some c → IsBoundary c → b ≡ c → HasBoundary value b
boundary_by_parts value rest c b ps e a found good same =
    record { params = ps; in_order = in_rest value rest ps e a; named = found ∙ ap Some (sym same); good = subst IsBoundary (sym same) good }

pub rest_is : (value rest : List ℕ) (len : ℕ) → len ≡ position_or_len is_semicolon value → rest ≡ drop len value → rest ≡ params_of value
rest_is value rest len e f = f ∙ ap (λ (n : ℕ). drop n value) e

-- a list of one pair
pub one_type : (encoding : Option (List ℕ)) (kinds : List (List ℕ × List ℕ)) (n v value : List ℕ) (len : ℕ) → IsPlain encoding → len ≡ length kinds → len ≡ 1
    → slice_get kinds 0 ≡ Some (n, v) → value ≡ v → HasOneType encoding kinds value
one_type encoding [] n v value len p e f g h = absurd (omega arith)
one_type encoding (k ∷ []) n v value len p e f g h =
    let whole : ◌≡◌ {A = List (List ℕ × List ℕ)} (k ∷ []) ((n, value) ∷ []) =
    ap (λ (x : List ℕ × List ℕ). x ∷ []) (same_Some k (n, v) g ∙ ap (λ (y : List ℕ). (n, y)) (sym h)) in
    record { name = n; plain = p; one = whole }
one_type encoding (k ∷ m ∷ kinds) n v value len p e f g h = absurd (omega arith)
