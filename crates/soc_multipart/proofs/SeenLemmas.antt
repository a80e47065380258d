-- A set of the names that were seen, beside the parameters that have them.
use Rattle.std.proofs.Common.{◌≡◌, ℕ, List, [], ◌∷◌, ◌++◌, Bool, true, false, not, ◌||◌, sym, refl, ap, ◌∙◌, Option, Some, None, is_some, inl, inr}
use Rattle.std.specs.declared.alloc.Global.{Global}
use Rattle.std.specs.declared.cmp.Ordering.{Ordering}
use Rattle.std.specs.declared.cmp.Ordering.TheVariants.{Less, Equal, Greater}
use Rattle.std.specs.Prelude.{Vec}
use Rattle.std.specs.Ordering.{is_eq, nat_cmp, match_ordering}
use Rattle.std.specs.Cmp.Lexicographic.{slice_cmp, nat_list_eq_equiv}
use Rattle.std.specs.List.{list_any}
use Rattle.std.specs.Str.{bytes_eq}
use Rattle.std.specs.BTreeSet.{insert_key}
use Rattle.std.proofs.lemmas.Bool.{cases_Bool}
use Rattle.std.proofs.lemmas.Map.Text.{is_eq-slice_cmp}
use Rattle.std.proofs.lemmas.Slice.Eq.{bytes_eq-Decides}
use Rattle.soc_multipart.specs.Params.{ParamText, lower, value_of}

-- a name as the set keeps it
abbrev pub Key : Type 0
Key = Vec ℕ Global

-- the order of names in the set
abbrev pub key_cmp : Key → Key → Ordering
key_cmp x y = slice_cmp nat_cmp x.items y.items

-- whether the set has the name
abbrev pub has_name : List Key → List ℕ → Bool
has_name keys name = list_any (λ k. bytes_eq name k.items) keys

-- the set has the names of these parameters, without regard to ASCII case, and no others
abbrev pub HasNames : List Key → List ParamText → Type 0
HasNames keys ps = (name : List ℕ) → has_name keys (lower name) ≡ is_some (value_of name ps)

-- what the set's own look-up says
looked_up : (keys : List Key) (k : Key) → list_any (λ x. is_eq (key_cmp k x)) keys ≡ has_name keys k.items
looked_up [] k = refl
looked_up (x ∷ keys) k = rw (is_eq-slice_cmp k.items x.items) (ap (λ (b : Bool). bytes_eq k.items x.items || b) (looked_up keys k))

or_twice : (a r : Bool) → (a || r) ≡ (a || (a || r))
or_twice true r = refl
or_twice false r = refl

or_swap : (a b r : Bool) → (a || (b || r)) ≡ (b || (a || r))
or_swap true true r = refl
or_swap true false r = refl
or_swap false true r = refl
or_swap false false r = refl

-- the set with one name more, by where that stands beside the first
inserted_by : (keys : List Key) (k x : Key) (name : List ℕ) (o : Ordering) → key_cmp k x ≡ o
    → has_name (insert_key key_cmp keys k) name ≡ (bytes_eq name k.items || has_name keys name)
    → has_name (match_ordering o (k ∷ x ∷ keys) (x ∷ keys) (x ∷ insert_key key_cmp keys k)) name ≡ (bytes_eq name k.items || has_name (x ∷ keys) name)
inserted_by keys k x name Less e more = refl
inserted_by keys k x name Equal e more =
    let same : k.items ≡ x.items = (bytes_eq-Decides k.items x.items).0 (sym (is_eq-slice_cmp k.items x.items) ∙ ap is_eq e) in
    or_twice (bytes_eq name x.items) (has_name keys name) ∙ ap (λ (v : List ℕ). bytes_eq name v || (bytes_eq name x.items || has_name keys name)) (sym same)
inserted_by keys k x name Greater e more =
    ap (λ (b : Bool). bytes_eq name x.items || b) more ∙ or_swap (bytes_eq name x.items) (bytes_eq name k.items) (has_name keys name)

inserted : (keys : List Key) (k : Key) (name : List ℕ) → has_name (insert_key key_cmp keys k) name ≡ (bytes_eq name k.items || has_name keys name)
inserted [] k name = refl
inserted (x ∷ keys) k name = inserted_by keys k x name (key_cmp k x) refl (inserted keys k name)

-- whether parameters have the name, with one more
named_more : (ps : List ParamText) (p : ParamText) (name : List ℕ)
    → is_some (value_of name (ps ++ p ∷ [])) ≡ (bytes_eq (lower p.name) (lower name) || is_some (value_of name ps))
named_more [] p name =
    elim (cases_Bool (bytes_eq (lower p.name) (lower name))) [ inl is ↦ rw is refl | inr other ↦ rw other refl ]
named_more (q ∷ ps) p name =
    elim (cases_Bool (bytes_eq (lower q.name) (lower name))) [
      | inl is ↦ rw is (or_true (bytes_eq (lower p.name) (lower name)))
      | inr other ↦ rw other (named_more ps p name)
    ]
  where
    or_true : (b : Bool) → true ≡ (b || true)
    or_true true = refl
    or_true false = refl

-- the set and the parameters with one name more
pub names_push : (keys now : List Key) (k : Key) (ps : List ParamText) (p : ParamText) → now ≡ insert_key key_cmp keys k → k.items ≡ lower p.name
    → HasNames keys ps → HasNames now (ps ++ p ∷ [])
names_push keys now k ps p e f h name =
    ap (λ (ks : List Key). has_name ks (lower name)) e
    ∙ (inserted keys k (lower name)
    ∙ (ap (λ (b : Bool). bytes_eq (lower name) k.items || b) (h name)
    ∙ (ap (λ (v : List ℕ). bytes_eq (lower name) v || is_some (value_of name ps)) f
    ∙ (ap (λ (b : Bool). b || is_some (value_of name ps)) (nat_list_eq_equiv.symm (lower name) (lower p.name)) ∙ sym (named_more ps p name)))))

-- a look-up of a name in the set, by the parameters that have it
has_is : (keys : List Key) (k : Key) (ps : List ParamText) (name : List ℕ) → k.items ≡ lower name → HasNames keys ps
    → list_any (λ x. is_eq (key_cmp k x)) keys ≡ is_some (value_of name ps)
has_is keys k ps name f h = looked_up keys k ∙ (ap (λ (v : List ℕ). has_name keys v) f ∙ h name)

-- a name that was not added came before
pub seen_before : (keys : List Key) (k : Key) (ps : List ParamText) (name : List ℕ) (added : Bool) → k.items ≡ lower name → HasNames keys ps
    → added ≡ not (list_any (λ x. is_eq (key_cmp k x)) keys) → added ≡ false → (v : List ℕ) × (value_of name ps ≡ Some v)
seen_before keys k ps name added f h e no_more = some_of (value_of name ps) (sym no_more ∙ (e ∙ ap not (has_is keys k ps name f h)))
  where
    some_of : (o : Option (List ℕ)) → false ≡ not (is_some o) → (v : List ℕ) × (o ≡ Some v)
    some_of None clash = absurd (let none : ⊥ = cc in none)
    some_of (Some v) e = (v, refl)

-- a name that was added is new
pub never_seen : (keys : List Key) (k : Key) (ps : List ParamText) (name : List ℕ) (added : Bool) → k.items ≡ lower name → HasNames keys ps
    → added ≡ not (list_any (λ x. is_eq (key_cmp k x)) keys) → added ≡ true → value_of name ps ≡ None
never_seen keys k ps name added f h e more = none_of (value_of name ps) (sym more ∙ (e ∙ ap not (has_is keys k ps name f h)))
  where
    none_of : (o : Option (List ℕ)) → true ≡ not (is_some o) → o ≡ None
    none_of None e = refl
    none_of (Some v) clash = absurd (let none : ⊥ = cc in none)
