-- Each field that a query names is granted to its caller.
use Rattle.std.proofs.Common.{◌≡◌, ℕ, Bool, true, false, List, [], ◌∷◌, ◌++◌, length, take, Option, None, Some, Result, Ok, Err, refl, sym, ap, subst, nat_eq, nat_lt}
use Rattle.std.specs.Prelude.{if◌then◌else◌, codes}
use Rattle.std.specs.List.{AllByRecursion, list_any}
use Rattle.std.specs.Option.{ok_or, option_map_or}
use Rattle.std.specs.Str.{bytes_eq}
use Rattle.soc_base.proofs.Folk.{all_push}
use Rattle.soc_schema.specs.declared.caller.Caller.{Caller}
use Rattle.soc_schema.specs.declared.permission.Permission.TheVariants.{Public}
use Rattle.soc_schema.specs.Fields.{field_entry, field_named, field_table, kind_of, permission_of}
use Rattle.soc_schema.specs.Permits.{Granted, holds, is_granted}
use Rattle.soc_query.specs.declared.condition.Condition.{Condition}
use Rattle.soc_query.specs.declared.part.Sort.{Sort}
use Rattle.soc_query.specs.declared.part.Part.{Part}
use Rattle.soc_query.specs.declared.part.Part.TheVariants as part
use Rattle.soc_query.specs.declared.error.QueryError.{QueryError}
use Rattle.soc_query.specs.declared.error.QueryError.TheVariants.{NotGranted, UnknownField}
use Rattle.soc_query.specs.Queries.{AreGranted, Asked, and_then, asked_by, compared_to, condition_of, field_of, meets_of, number_within, operand_of, operators, or_default, part_of, query_of, sort_of, split_by, stripped, with_field, with_pair, with_pairs, with_part, within_limit}

same_ok : {A E : Type 0} {x y : A} → ◌≡◌ {A = Result A E} (Ok x) (Ok y) → x ≡ y
same_ok e = cc

then_ok : {A B : Type 0} (r : Result A QueryError) (f : A → Result B QueryError) (b : B) → and_then r f ≡ Ok b → (a : A) × (r ≡ Ok a) × (f a ≡ Ok b)
then_ok (Ok a) f b h = (a, refl, h)
then_ok (Err e) f b h = cc

either : {A : Type 0} (G : Type 0) (t : Bool) (x y : Result A QueryError) (a : A) → (if t then x else y) ≡ Ok a → (x ≡ Ok a → G) → (y ≡ Ok a → G) → G
either G true x y a h first second = first h
either G false x y a h first second = second h

if_granted : (t : Bool) (g f : ℕ) (e : QueryError) → (if t then Ok g else Err e) ≡ Ok f → (t ≡ true) × (g ≡ f)
if_granted true g f e h = (refl, same_ok h)
if_granted false g f e h = cc

found_granted : (caller : Caller) (name : List ℕ) (o : Option ℕ) (f : ℕ) → and_then (ok_or o (UnknownField name)) (λ g. if is_granted caller g then Ok g else Err (NotGranted name (permission_of g))) ≡ Ok f → Granted caller f
found_granted caller name None f h = cc
found_granted caller name (Some g) f h =
    let parts : (is_granted caller g ≡ true) × (g ≡ f) = if_granted (is_granted caller g) g f (NotGranted name (permission_of g)) h in
    subst (Granted caller) parts.1 parts.0

field_granted : (caller : Caller) (name : List ℕ) (f : ℕ) → field_of caller name ≡ Ok f → Granted caller f
field_granted caller name f h = found_granted caller name (field_named name) f h

compared_field : (name : List ℕ) (f : ℕ) (negated : Bool) (value : List ℕ) (c : Condition) → compared_to name f negated value ≡ Ok c → c.field ≡ f
compared_field name f negated value c h =
    let step = then_ok (operand_of name (kind_of f) (split_by operators value).0 (split_by operators value).1) _ c h in
    sym (ap (λ d. d.field) (same_ok step.2))

rest_field : (name : List ℕ) (f : ℕ) (value : List ℕ) (o : Option (List ℕ)) (c : Condition) → option_map_or (compared_to name f true) o (compared_to name f false value) ≡ Ok c → c.field ≡ f
rest_field name f value None c h = compared_field name f false value c h
rest_field name f value (Some rest) c h = compared_field name f true rest c h

condition_field : (name : List ℕ) (f : ℕ) (value : List ℕ) (c : Condition) → condition_of name f value ≡ Ok c → c.field ≡ f
condition_field name f value c h =
    either (c.field ≡ f) (bytes_eq value (codes "__null__")) _ _ c h
    (λ e. sym (ap (λ d. d.field) (same_ok e)))
    (λ g. either (c.field ≡ f) (bytes_eq value (codes "!__null__")) _ _ c g (λ e. sym (ap (λ d. d.field) (same_ok e))) (λ e. rest_field name f value (stripped (codes "!") value) c e))

sorted_granted : (caller : Caller) (value : List ℕ) (o : Option (List ℕ)) (s : Sort) → option_map_or (λ name. and_then (field_of caller name) (λ f. Ok (record { field = f; falling = true }))) o (and_then (field_of caller value) (λ f. Ok (record { field = f; falling = false }))) ≡ Ok s → Granted caller s.field
sorted_granted caller value None s h =
    let step = then_ok (field_of caller value) _ s h in
    subst (Granted caller) (ap (λ t. t.field) (same_ok step.2)) (field_granted caller value step.0 step.1)
sorted_granted caller value (Some name) s h =
    let step = then_ok (field_of caller name) _ s h in
    subst (Granted caller) (ap (λ t. t.field) (same_ok step.2)) (field_granted caller name step.0 step.1)

-- the field that a part names, if any
abbrev PartGranted : Caller → Part → Type 0
PartGranted caller (part.Meets c) = Granted caller c.field
PartGranted caller (part.Sorted s) = Granted caller s.field
PartGranted caller (part.Column f) = Granted caller f
PartGranted caller (part.Facet f) = Granted caller f
PartGranted caller (part.FacetSize n) = Unit {0}
PartGranted caller (part.Number n) = Unit {0}
PartGranted caller (part.Offset n) = Unit {0}

meets_granted : (caller : Caller) (name value : List ℕ) (said : Part) → meets_of caller name value ≡ Ok said → PartGranted caller said
meets_granted caller name value said h =
    let step = then_ok (field_of caller name) _ said h in
    let more = then_ok (condition_of name step.0 value) _ said step.2 in
    subst (PartGranted caller) (same_ok more.2) (subst (Granted caller) (sym (condition_field name step.0 value more.0 more.1)) (field_granted caller name step.0 step.1))

part_granted : (caller : Caller) (name value : List ℕ) (said : Part) → part_of caller name value ≡ Ok said → PartGranted caller said
part_granted caller name value said h =
    either (PartGranted caller said) (bytes_eq name (codes "_facets")) _ _ said h
    (λ e. let step = then_ok (field_of caller value) _ said e in subst (PartGranted caller) (same_ok step.2) (field_granted caller value step.0 step.1))
    (λ h1. either (PartGranted caller said) (bytes_eq name (codes "_columns")) _ _ said h1
    (λ e. let step = then_ok (field_of caller value) _ said e in subst (PartGranted caller) (same_ok step.2) (field_granted caller value step.0 step.1))
    (λ h2. either (PartGranted caller said) (bytes_eq name (codes "_sort")) _ _ said h2
    (λ e. let step = then_ok (sort_of caller value) _ said e in subst (PartGranted caller) (same_ok step.2) (sorted_granted caller value (stripped (codes "-") value) step.0 step.1))
    (λ h3. either (PartGranted caller said) (bytes_eq name (codes "_facets_size")) _ _ said h3
    (λ e. let step = then_ok (number_within name 10000 value) _ said e in subst (PartGranted caller) (same_ok step.2) tt)
    (λ h4. either (PartGranted caller said) (bytes_eq name (codes "_results_number")) _ _ said h4
    (λ e. let step = then_ok (number_within name 1000 value) _ said e in subst (PartGranted caller) (same_ok step.2) tt)
    (λ h5. either (PartGranted caller said) (bytes_eq name (codes "_results_offset")) _ _ said h5
    (λ e. let step = then_ok (number_within name 65536 value) _ said e in subst (PartGranted caller) (same_ok step.2) tt)
    (λ e. meets_granted caller name value said e))))))

all_fields : (P : ℕ → Type 0) (f : ℕ) (gs : List ℕ) → AllByRecursion P gs → P f → AllByRecursion P (with_field f gs)
all_fields P f [] all here = (here, tt)
all_fields P f (g ∷ gs) all here =
    elim (nat_lt f g) as (λ a. AllByRecursion P (if a then f ∷ g ∷ gs else (if nat_eq f g then g ∷ gs else g ∷ with_field f gs))) [
      | true ↦ (here, all)
      | false ↦ elim (nat_eq f g) as (λ b. AllByRecursion P (if b then g ∷ gs else g ∷ with_field f gs)) [ true ↦ all | false ↦ (all.0, all_fields P f gs all.1 here) ]
    ]

all_sorts : (P : Sort → Type 0) (s : Sort) (sorts : List Sort) (t : Bool) → AllByRecursion P sorts → P s → AllByRecursion P (if t then sorts else sorts ++ s ∷ [])
all_sorts P s sorts true all here = all
all_sorts P s sorts false all here = all_push P sorts s all here

with_part_granted : (said : Part) (q : Asked) → PartGranted q.caller said → AreGranted q → AreGranted (with_part said q)
with_part_granted (part.Meets c) q here all = (all_push (λ d. Granted q.caller d.field) q.conditions c all.0 here, all.1, all.2, all.3)
with_part_granted (part.Sorted s) q here all = (all.0, all_sorts (λ t. Granted q.caller t.field) s q.sorts (list_any (λ t. nat_eq t.field s.field) q.sorts) all.1 here, all.2, all.3)
with_part_granted (part.Column f) q here all = (all.0, all.1, all_fields (Granted q.caller) f q.columns all.2 here, all.3)
with_part_granted (part.Facet f) q here all = (all.0, all.1, all.2, all_fields (Granted q.caller) f q.facets all.3 here)
with_part_granted (part.FacetSize n) q here all = all
with_part_granted (part.Number n) q here all = all
with_part_granted (part.Offset n) q here all = all

is_public : (caller : Caller) (f : ℕ) → permission_of f ≡ Public → Granted caller f
is_public caller f e = subst (λ p. holds caller.permissions p ≡ true) (sym e) refl

defaults_public : (caller : Caller) → AllByRecursion (Granted caller) (or_default [])
unfolding permission_of field_entry field_table
defaults_public caller = (is_public caller 11 refl, (is_public caller 23 refl, (is_public caller 27 refl, (is_public caller 34 refl, (is_public caller 35 refl, tt)))))

columns_granted : (caller : Caller) (fs : List ℕ) → AllByRecursion (Granted caller) fs → AllByRecursion (Granted caller) (or_default fs)
columns_granted caller [] all = defaults_public caller
columns_granted caller (f ∷ fs) all = all

pairs_granted : (q : Asked) (pairs : List (List ℕ × List ℕ)) (whole : Asked) → with_pairs q pairs ≡ Ok whole → AreGranted q → AreGranted whole
pairs_granted q [] whole h all = subst AreGranted (same_ok h) all
pairs_granted q (p ∷ ps) whole h all =
    let step = then_ok (with_pair q p.0 p.1) (λ more. with_pairs more ps) whole h in
    let part = then_ok (part_of q.caller p.0 p.1) (λ said. Ok (with_part said q)) step.0 step.1 in
    pairs_granted step.0 ps whole step.2 (subst AreGranted (same_ok part.2) (with_part_granted part.0 q (part_granted q.caller p.0 p.1 part.0 part.1) all))

within_granted : (pairs : List (List ℕ × List ℕ)) (q whole : Asked) → within_limit pairs q ≡ Ok whole → AreGranted q → AreGranted whole
within_granted pairs q whole h all =
    either (AreGranted whole) (nat_lt 128 (length pairs)) _ _ whole h
    (λ e. cc)
    (λ e. subst AreGranted (same_ok e) (all.0, all.1, columns_granted q.caller q.columns all.2, all.3))

pub query_granted : (caller : Caller) (pairs : List (List ℕ × List ℕ)) (q : Asked) → query_of caller pairs ≡ Ok q → AreGranted q
query_granted caller pairs q h =
    let step = then_ok (with_pairs (asked_by caller) (take 128 pairs)) (within_limit pairs) q h in
    within_granted pairs step.0 q step.2 (pairs_granted (asked_by caller) (take 128 pairs) step.0 step.1 (tt, tt, tt, tt))
