-- A search for a parameter by its name.
use Rattle.std.proofs.Common.{◌≡◌, ℕ, ◌+◌, ◌<◌, List, [], ◌∷◌, ◌++◌, length, drop, get_or, sym, ap, ◌∙◌, Option, Some, None}
use Rattle.std.proofs.lemmas.List.{at_drop_more, map_push}
use Rattle.soc_multipart.specs.declared.params.Param.{Param}
use Rattle.soc_multipart.specs.Params.{lower, value_of}
use Rattle.soc_multipart.specs.inner.Views.{param_text, param_texts}
use Rattle.soc_multipart.proofs.ParamLemmas.{value_named, value_other}

step : (name : List ℕ) (ps : List Param) (i : ℕ) (x : Param) → i < length ps → x ≡ get_or ps i x
    → value_of name (param_texts (drop i ps)) ≡ value_of name (param_text x ∷ param_texts (drop (i + 1) ps))
step name ps i x l e =
    at_drop_more (λ (xs : List Param). value_of name (param_texts xs)) ps i x l
    ∙ ap (λ (y : Param). value_of name (param_text y ∷ param_texts (drop (i + 1) ps))) (sym e)

pub find_hit : (name : List ℕ) (ps : List Param) (i : ℕ) (x : Param) (v : Option (List ℕ)) → i < length ps → x ≡ get_or ps i x
    → value_of name (param_texts (drop i ps)) ≡ v → lower x.name.now ≡ lower name → v ≡ Some x.value.items
find_hit name ps i x v l e h same =
    sym h ∙ (step name ps i x l e ∙ value_named name (param_text x) (param_texts (drop (i + 1) ps)) same)

pub find_miss : (name : List ℕ) (ps : List Param) (i : ℕ) (x : Param) (v : Option (List ℕ)) → i < length ps → x ≡ get_or ps i x
    → value_of name (param_texts (drop i ps)) ≡ v → ¬ (lower x.name.now ≡ lower name) → value_of name (param_texts (drop (i + 1) ps)) ≡ v
find_miss name ps i x v l e h apart =
    sym (value_other name (param_text x) (param_texts (drop (i + 1) ps)) apart) ∙ (sym (step name ps i x l e) ∙ h)

-- a search in a slice of a vector is one in the vector
pub found_among : (name v : List ℕ) (slice items : List Param) → slice ≡ items → value_of name (param_texts slice) ≡ Some v → value_of name (param_texts items) ≡ Some v
found_among name v slice items e h = ap (λ (xs : List Param). value_of name (param_texts xs)) (sym e) ∙ h

pub absent_among : (name : List ℕ) (slice items : List Param) → slice ≡ items → value_of name (param_texts slice) ≡ None → value_of name (param_texts items) ≡ None
absent_among name slice items e h = ap (λ (xs : List Param). value_of name (param_texts xs)) (sym e) ∙ h

pub texts_push : (now old : List Param) (p : Param) → now ≡ old ++ p ∷ [] → param_texts now ≡ param_texts old ++ param_text p ∷ []
texts_push now old p e = ap param_texts e ∙ map_push param_text old p
