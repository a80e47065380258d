-- What the lines of a head say, and that they say one thing.
use Rattle.std.proofs.Common.{◌≡◌, ℕ, ◌≤◌, List, [], ◌∷◌, ◌++◌, length, Bool, false, sym, refl, ap, ◌∙◌, subst, arith, codes, Option, Some, None, MatchOption, is_some, IsTrue, ◌↔◌}
use Rattle.std.specs.Option.{option_map}
use Rattle.std.specs.Str.Lossy.{utf8_lossy}
use Rattle.std.proofs.lemmas.List.{append_cancel_left}
use Rattle.soc_multipart.specs.declared.heads.Named.{Named}
use Rattle.soc_multipart.specs.declared.heads.Named.TheVariants.{Never, Once, Often}
use Rattle.soc_multipart.specs.Params.{ParamText, ReadsParam, AreParams, value_of}
use Rattle.soc_multipart.specs.Heads.{LineText, IsDisposition, IsHead, IsKind, MayBeHead, MayDispose, values_of}
use Rattle.soc_multipart.specs.inner.Views.{HasValues}
use Rattle.soc_multipart.proofs.ChainLemmas.{chain_once}
use Rattle.soc_multipart.proofs.ParamLemmas.{param_once, no_param_at_end}

pub params_once : (spaced : Bool) (t : List ℕ) (ps qs : List ParamText) → AreParams spaced t ps → AreParams spaced t qs → ps ≡ qs
params_once spaced t ps qs a b =
    (chain_once (ReadsParam spaced) (param_once spaced) t ps qs [] [] a.in_order (no_param_at_end spaced) b.in_order (no_param_at_end spaced)).0

-- where a disposition fails
pub no_form_data : (value : List ℕ) → ((r : List ℕ) → ¬ (value ≡ codes "form-data" ++ r)) → (name : List ℕ) (file : Option (List ℕ)) → ¬ (IsDisposition value name file)
no_form_data value h name file d = h d.text d.whole

pub no_params : (value text : List ℕ) → value ≡ codes "form-data" ++ text → ((ps : List ParamText) → ¬ (AreParams false text ps))
    → (name : List ℕ) (file : Option (List ℕ)) → ¬ (IsDisposition value name file)
no_params value text e h name file d =
    h d.params (subst (λ (x : List ℕ). AreParams false x d.params) (sym (append_cancel_left (codes "form-data") text d.text (sym e ∙ d.whole))) d.in_order)

same_params : (value text : List ℕ) (ps : List ParamText) (name : List ℕ) (file : Option (List ℕ)) → value ≡ codes "form-data" ++ text → AreParams false text ps
    → (d : IsDisposition value name file) → ps ≡ d.params
same_params value text ps name file e a d =
    params_once false text ps d.params a
    (subst (λ (x : List ℕ). AreParams false x d.params) (sym (append_cancel_left (codes "form-data") text d.text (sym e ∙ d.whole))) d.in_order)

none_not_some : (v : List ℕ) → ¬ (None ≡ Some v)
none_not_some v e = cc

some_same : (v w : List ℕ) → Some v ≡ Some w → v ≡ w
some_same v w e = cc

pub no_name_param : (value text : List ℕ) (ps : List ParamText) → value ≡ codes "form-data" ++ text → AreParams false text ps → value_of (codes "name") ps ≡ None
    → (name : List ℕ) (file : Option (List ℕ)) → ¬ (IsDisposition value name file)
no_name_param value text ps e a none name file d =
    none_not_some d.raw_name
    (sym none ∙ (ap (value_of (codes "name")) (same_params value text ps name file e a d) ∙ d.named))

pub disposed_once : (value n m : List ℕ) (f g : Option (List ℕ)) → IsDisposition value n f → IsDisposition value m g → (n ≡ m) × (f ≡ g)
disposed_once value n m f g a b =
    let same : a.params ≡ b.params = same_params value a.text a.params m g a.whole a.in_order b in
    let raws : a.raw_name ≡ b.raw_name = some_same a.raw_name b.raw_name (sym a.named ∙ (ap (value_of (codes "name")) same ∙ b.named)) in (
      a.name_is ∙ (ap utf8_lossy raws ∙ sym b.name_is),
      a.file_is ∙ (ap (λ (ps : List ParamText). option_map utf8_lossy (value_of (codes "filename") ps)) same ∙ sym b.file_is),
    )

pub disposed_by_parts : (value text : List ℕ) (ps : List ParamText) (raw name : List ℕ) (file : Option (List ℕ)) → value ≡ codes "form-data" ++ text → AreParams false text ps
    → value_of (codes "name") ps ≡ Some raw → name ≡ utf8_lossy raw → file ≡ option_map utf8_lossy (value_of (codes "filename") ps) → IsDisposition value name file
disposed_by_parts value text ps raw name file e a n f g =
    record { text = text; params = ps; raw_name = raw; whole = e; in_order = a; named = n; name_is = f; file_is = g }

-- the kind
pub kind_never : (values : List (List ℕ)) (kind : List ℕ) → values ≡ [] → kind ≡ [] → IsKind values kind
kind_never values kind e f = subst (λ (x : List (List ℕ)). IsKind x kind) (sym e) f

pub kind_once : (values : List (List ℕ)) (raw kind : List ℕ) → values ≡ raw ∷ [] → kind ≡ utf8_lossy raw → IsKind values kind
kind_once values raw kind e f = subst (λ (x : List (List ℕ)). IsKind x kind) (sym e) f

pub kind_often : (values : List (List ℕ)) → HasValues values Often → (kind : List ℕ) → ¬ (IsKind values kind)
kind_often values (a, b, more, e) kind h = subst (λ (x : List (List ℕ)). IsKind x kind) e h

pub kind_same : (values : List (List ℕ)) (k m : List ℕ) → IsKind values k → IsKind values m → k ≡ m
kind_same [] k m e f = e ∙ sym f
kind_same (v ∷ []) k m e f = e ∙ sym f
kind_same (v ∷ w ∷ more) k m e f = absurd e

-- where a head fails
one_value : (v w : List ℕ) → ◌≡◌ {A = List (List ℕ)} (v ∷ []) (w ∷ []) → v ≡ w
one_value v w e = cc

nil_not_one : (w : List ℕ) → ¬ (◌≡◌ {A = List (List ℕ)} [] (w ∷ []))
nil_not_one w e = cc

two_not_one : (a b w : List ℕ) (more : List (List ℕ)) → ¬ (◌≡◌ {A = List (List ℕ)} (a ∷ b ∷ more) (w ∷ []))
two_not_one a b w more e = cc

pub not_once : (lines : List LineText) (found : Named) → HasValues (values_of (codes "content-disposition") lines) found
    → ((v : _) → found ≡ Once v → ⊥) → (name kind : List ℕ) (file : Option (List ℕ)) → ¬ (IsHead lines name file kind)
not_once lines Never h other name kind file k = nil_not_one k.value (sym h ∙ k.once)
not_once lines (Once v) h other name kind file k = other v refl
not_once lines Often (a, b, more, e) other name kind file k = two_not_one a b k.value more (sym e ∙ k.once)

pub no_kind : (lines : List LineText) → ((kind : List ℕ) → ¬ (IsKind (values_of (codes "content-type") lines) kind))
    → (name kind : List ℕ) (file : Option (List ℕ)) → ¬ (IsHead lines name file kind)
no_kind lines h name kind file k = h kind k.kind_is

pub no_disposition : (lines : List LineText) (value : List ℕ) → values_of (codes "content-disposition") lines ≡ value ∷ []
    → ((name : List ℕ) (file : Option (List ℕ)) → ¬ (IsDisposition value name file)) → (name kind : List ℕ) (file : Option (List ℕ)) → ¬ (IsHead lines name file kind)
no_disposition lines value e h name kind file k =
    h name file (subst (λ (x : List ℕ). IsDisposition x name file) (sym (one_value value k.value (sym e ∙ k.once))) k.disposed)

pub head_by_parts : (lines : List LineText) (value name kind : List ℕ) (file : Option (List ℕ)) → values_of (codes "content-disposition") lines ≡ value ∷ []
    → IsKind (values_of (codes "content-type") lines) kind → IsDisposition value name file → IsHead lines name file kind
head_by_parts lines value name kind file e k d = record { value = value; once = e; disposed = d; kind_is = k }

pub head_once : (lines : List LineText) (n m k l : List ℕ) (f g : Option (List ℕ)) → IsHead lines n f k → IsHead lines m g l → (n ≡ m) × (f ≡ g) × (k ≡ l)
head_once lines n m k l f g a b =
    let values : a.value ≡ b.value = one_value a.value b.value (sym a.once ∙ b.once) in
    let said : (n ≡ m) × (f ≡ g) = disposed_once b.value n m f g (subst (λ (x : List ℕ). IsDisposition x n f) values a.disposed) b.disposed in
    (said.0, said.1, kind_same (values_of (codes "content-type") lines) k l a.kind_is b.kind_is)

-- a head that goes on
few_kinds : (values : List (List ℕ)) (found : Named) → HasValues values found → ¬ (found ≡ Often) → length values ≤ 1
few_kinds values Never h other = omega (arith, ap length h)
few_kinds values (Once v) h other = omega (arith, ap length h)
few_kinds values Often h other = absurd (other refl)

pub kind_too_often : (lines : List LineText) → HasValues (values_of (codes "content-type") lines) Often → ¬ (MayBeHead lines)
kind_too_often lines (a, b, more, e) m = let few : length (values_of (codes "content-type") lines) ≤ 1 = m.may_kind in absurd (omega (arith, ap length e))

pub may_without : (lines : List LineText) (found : Named) → HasValues (values_of (codes "content-type") lines) found → ¬ (found ≡ Often)
    → values_of (codes "content-disposition") lines ≡ [] → MayBeHead lines
may_without lines found h other e =
    record {
      may_dispose = subst MayDispose (sym e) tt;
      may_kind = few_kinds (values_of (codes "content-type") lines) found h other;
    }

pub too_often : (lines : List LineText) → HasValues (values_of (codes "content-disposition") lines) Often → ¬ (MayBeHead lines)
too_often lines (a, b, more, e) m = subst MayDispose e m.may_dispose

pub may_with : (lines : List LineText) (found : Named) (value name : List ℕ) (file : Option (List ℕ)) → HasValues (values_of (codes "content-type") lines) found → ¬ (found ≡ Often)
    → values_of (codes "content-disposition") lines ≡ value ∷ [] → IsDisposition value name file → MayBeHead lines
may_with lines found value name file h other e d =
    record {
      may_dispose = subst MayDispose (sym e) (name, file, d);
      may_kind = few_kinds (values_of (codes "content-type") lines) found h other;
    }

pub may_not : (lines : List LineText) (value : List ℕ) → values_of (codes "content-disposition") lines ≡ value ∷ []
    → ((name : List ℕ) (file : Option (List ℕ)) → ¬ (IsDisposition value name file)) → ¬ (MayBeHead lines)
may_not lines value e h m =
    let d : (name : List ℕ) × (file : Option (List ℕ)) × IsDisposition value name file = subst MayDispose e m.may_dispose in h d.0 d.1 d.2

pub may_by_test : (lines : List LineText) (found : Named) (value : List ℕ) {X : Type 0} (said : Option X) (r : Bool) (name : X → List ℕ) (file : X → Option (List ℕ))
    → HasValues (values_of (codes "content-type") lines) found → ¬ (found ≡ Often) → values_of (codes "content-disposition") lines ≡ value ∷ []
    → MatchOption said ((name : List ℕ) (file : Option (List ℕ)) → ¬ (IsDisposition value name file)) (λ x. IsDisposition value (name x) (file x))
    → r ≡ is_some said → IsTrue r ↔ MayBeHead lines
may_by_test lines found value None r name file h other e d f =
    (λ is. absurd (let clash : ⊥ = cc in clash), λ m. absurd (may_not lines value e d m))
may_by_test lines found value (Some x) r name file h other e d f =
    (λ is. may_with lines found value (name x) (file x) h other e d, λ m. f)
