-- How a row is filled, value by value.
use Rattle.std.proofs.Common.{◌≡◌, ℕ, zero, suc, ◌+◌, ◌<◌, ◌≤◌, List, [], ◌∷◌, ◌++◌, map, length, drop, get_or, Option, None, Some, option_map, refl, sym, ap, ◌∙◌, subst, arith, append_assoc, append-nil, drop-cons}
use Rattle.std.specs.Prelude.{IfSome, ◌==◌}
use Rattle.std.specs.List.{AllByRecursion}
use Rattle.std.proofs.lemmas.Bool.{lt-ltb, cond_both}
use Rattle.std.proofs.Math.ListN.{get_or-map}
use Rattle.std.proofs.lemmas.List.{get_or-map as get_or-map_within}
use Rattle.soc_base.proofs.Folk.{drop_past}
use Rattle.soc_schema.specs.declared.field.FieldKind.{FieldKind}
use Rattle.soc_schema.specs.declared.field.FieldKind.TheVariants as kind
use Rattle.soc_schema.specs.declared.permission.Permission.TheVariants.{Public}
use Rattle.soc_schema.specs.declared.value.Value.{Value}
use Rattle.soc_schema.specs.declared.value.Value.TheVariants.{Text, Number, Flag}
use Rattle.soc_schema.specs.declared.value.Cell.{Cell}
use Rattle.soc_schema.specs.Fields.{field_table, field_entry, kind_of, made}
use Rattle.soc_schema.specs.Rows.{cell, kind_of_value, with_value}
use Rattle.soc_report.specs.Report.{Known, Source, cells_from, sources, filled, value_from, values_of, product, text, number, flag, age, id, moment, rule, success, architecture, processors, platform, version, modules, address, reason, thread, frames, signature, proto, notes}
use Rattle.soc_report.specs.inner.Known.{kind_of_source, source_at, no_line}

abbrev pub AllBelow : ℕ → List Cell → Type 0
AllBelow f row = AllByRecursion (λ c. c.field < f) row

split : (place : ℕ) (v : Option Value) (values : List (Option Value)) → cells_from place (v ∷ values) ≡ cells_from place (v ∷ []) ++ cells_from (place + 1) values
split place None values = refl
split place (Some v) values = refl

-- a field behind all others
pub behind : (row : List Cell) (f : ℕ) (v : Value) → AllBelow f row → with_value row f v ≡ row ++ cell f v ∷ []
behind [] f v below = refl
behind (c ∷ cs) f v below = rw (lt-ltb c.field f below.0) (ap (λ l. c ∷ l) (behind cs f v below.1))

pub all_below : (row : List Cell) (f : ℕ) (v : Option Value) → AllBelow f row → AllBelow (f + 1) (row ++ cells_from f (v ∷ []))
all_below [] f None below = tt
all_below [] f (Some v) below = (omega arith, tt)
all_below (c ∷ cs) f v below = let first : c.field < f = below.0 in (omega arith, all_below cs f v below.1)

-- the cells so far and those of what is left are the whole
pub one_more : (whole row more : List Cell) (place : ℕ) (values : List (Option Value)) (v : Option Value) → place < length values → v ≡ get_or values place None
    → row ++ cells_from place (drop place values) ≡ whole → more ≡ row ++ cells_from place (v ∷ []) → more ++ cells_from (place + 1) (drop (place + 1) values) ≡ whole
one_more whole row more place values v within is so_far added =
    let left : drop place values ≡ get_or values place None ∷ drop (place + 1) values =
    drop-cons values place None within ∙ ap (λ (n : ℕ). get_or values place None ∷ drop n values) (let e : suc place ≡ place + 1 = omega arith in e) in
    ap (λ m. m ++ cells_from (place + 1) (drop (place + 1) values)) added
    ∙ append_assoc row (cells_from place (v ∷ [])) (cells_from (place + 1) (drop (place + 1) values))
    ∙ ap (λ l. row ++ l) (sym (split place v (drop (place + 1) values)))
    ∙ ap (λ (u : Option Value). row ++ cells_from place (u ∷ drop (place + 1) values)) is
    ∙ ap (λ (l : List (Option Value)). row ++ cells_from place l) (sym left)
    ∙ so_far

-- ---- kinds

mapped : {A : Type 0} (f : A → Value) (k : FieldKind) (o : Option A) → ((a : A) → kind_of_value (f a) ≡ k) → IfSome (option_map f o) (λ v. kind_of_value v ≡ k)
mapped f k None all = tt
mapped f k (Some a) all = all a

filled_kind : (bytes : List ℕ) → IfSome (filled bytes) (λ v. kind_of_value v ≡ kind.Text)
filled_kind bytes = cond_both (length bytes == 0) None (Some (Text bytes)) (λ (o : Option Value). IfSome o (λ v. kind_of_value v ≡ kind.Text)) (λ _. tt) (λ _. refl)

pub kind_from : (known : Known) (source : Source) → IfSome (value_from known source) (λ v. kind_of_value v ≡ kind_of_source source)
kind_from known product = mapped Text kind.Text _ (λ _. refl)
kind_from known (text name) = mapped _ kind.Text _ (λ _. refl)
kind_from known (number name) = mapped Number kind.Number _ (λ _. refl)
kind_from known (flag name) = mapped Flag kind.Flag _ (λ _. refl)
kind_from known (age name) = mapped Number kind.Number _ (λ _. refl)
kind_from known id = refl
kind_from known moment = refl
kind_from known rule = refl
kind_from known success = refl
kind_from known architecture = mapped _ kind.Text _ (λ _. refl)
kind_from known processors = mapped _ kind.Number _ (λ _. refl)
kind_from known platform = mapped _ kind.Text _ (λ _. refl)
kind_from known version = mapped _ kind.Text _ (λ _. refl)
kind_from known modules = mapped Number kind.Number _ (λ _. refl)
kind_from known address = mapped _ kind.Text _ (λ _. refl)
kind_from known reason = mapped Text kind.Text _ (λ _. refl)
kind_from known thread = mapped Number kind.Number _ (λ _. refl)
kind_from known frames = mapped _ kind.Number _ (λ _. refl)
kind_from known signature = refl
kind_from known proto = filled_kind _
kind_from known notes = filled_kind _

same_kinds : map (λ l. kind_of_source l.source) sources ≡ map (λ e. e.kind) field_table
unfolding sources field_table
same_kinds = refl

pub kind_at : (place : ℕ) → kind_of_source (source_at place) ≡ kind_of place
unfolding kind_of field_entry
kind_at place =
    sym (get_or-map (λ l. kind_of_source l.source) sources place no_line)
    ∙ ap (λ (ks : List FieldKind). get_or ks place kind.Text) same_kinds
    ∙ get_or-map (λ e. e.kind) field_table place (made [] kind.Text Public)

pub value_at_place : (known : Known) (place : ℕ) → place < 36 → value_from known (source_at place) ≡ get_or (values_of known) place None
unfolding sources
value_at_place known place within = sym (get_or-map_within (λ l. value_from known l.source) sources place no_line None within)

pub values_length : (known : Known) → length (values_of known) ≡ 36
unfolding sources
values_length known = refl

-- ---- the row, place by place

-- what a place's source gives is of its field's kind
pub value_kind : (known : Known) (source : Source) (place field : ℕ) (value : Option Value) → value ≡ value_from known source → source ≡ source_at place → field ≡ place → IfSome value (λ v. kind_of_value v ≡ kind_of field)
value_kind known source place field value is is_source is_field =
    let kinds : kind_of_source source ≡ kind_of field = ap kind_of_source is_source ∙ kind_at place ∙ ap kind_of (sym is_field) in
    subst (λ (o : Option Value). IfSome o (λ v. kind_of_value v ≡ kind_of field)) (sym is)
    (subst (λ (k : FieldKind). IfSome (value_from known source) (λ v. kind_of_value v ≡ k)) kinds (kind_from known source))

-- the row so far, and what is left
pub record SoFar (known : Known) (place : ℕ) (row : List Cell) : Type 0 where
  pub below : AllBelow place row
  pub so_far : row ++ cells_from place (drop place (values_of known)) ≡ cells_from 0 (values_of known)

pub start : (known : Known) (row : List Cell) → row ≡ [] → SoFar known 0 row
start known row none =
    let below : AllBelow 0 [] = tt in
    subst (SoFar known 0) (sym none) (record { below = below; so_far = refl })

pub further : (known : Known) (source : Source) (place field : ℕ) (value : Option Value) (row more : List Cell) → place < 36 → value ≡ value_from known source → source ≡ source_at place → field ≡ place
    → more ≡ row ++ cells_from field (value ∷ []) → SoFar known place row → SoFar known (place + 1) more
further known source place field value row more within is is_source is_field is_more so_far =
    let added : more ≡ row ++ cells_from place (value ∷ []) = is_more ∙ ap (λ (f : ℕ). row ++ cells_from f (value ∷ [])) is_field in
    let here : value ≡ get_or (values_of known) place None = is ∙ ap (value_from known) is_source ∙ value_at_place known place within in
    let long : length (values_of known) ≡ 36 = values_length known in
    let inside : place < length (values_of known) = omega arith in
    record {
      below = subst (AllBelow (place + 1)) (sym added) (all_below row place value so_far.below);
      so_far = one_more (cells_from 0 (values_of known)) row more place (values_of known) value inside here so_far.so_far added;
    }

pub end : (known : Known) (place : ℕ) (row : List Cell) → 36 ≤ place → SoFar known place row → row ≡ cells_from 0 (values_of known)
end known place row past so_far =
    let long : length (values_of known) ≡ 36 = values_length known in
    let none : drop place (values_of known) ≡ [] = drop_past (values_of known) place (omega arith) in
    sym (append-nil row) ∙ ap (λ (l : List (Option Value)). row ++ cells_from place l) (sym none) ∙ so_far.so_far
