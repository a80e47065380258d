-- What a caller sees of rows: the fields that are granted say the same, and as many rows have each of their values.
use Rattle.std.proofs.Common.{◌≡◌, ℕ, suc, Bool, true, false, cond, List, [], ◌∷◌, Some, length, map, filter, refl, sym, ap, ◌∙◌, subst, nat_eq}
use Rattle.std.specs.Prelude.{◌&&◌, if◌then◌else◌}
use Rattle.std.proofs.lemmas.Bool.{eqb-true}
use Rattle.soc_schema.specs.declared.caller.Caller.{Caller}
use Rattle.soc_schema.specs.declared.permission.Permission.TheVariants.{Public}
use Rattle.soc_schema.specs.declared.value.Value.{Value}
use Rattle.soc_schema.specs.declared.value.Cell.{Cell}
use Rattle.soc_schema.specs.Fields.{field_entry, field_table, permission_of, product_field}
use Rattle.soc_schema.specs.Permits.{Granted, granted_cells, holds, is_granted, shows}
use Rattle.soc_schema.specs.Rows.{value_of}
use Rattle.soc_schema.specs.Values.{is_value, rows_with, sees, text_of}

module _ (caller : Caller) where
  abbrev pub see : List Cell → List Cell
  see row = granted_cells caller row

  abbrev pub seen : ℕ × List Cell → ℕ × List Cell
  seen s = (s.0, granted_cells caller s.1)

  field_is_not : (f g : ℕ) → Granted caller g → is_granted caller f ≡ false → nat_eq f g ≡ false
  field_is_not f g granted hidden =
      elim (nat_eq f g) as (λ b. nat_eq f g ≡ b → b ≡ false) [
        | true ↦ λ same. let shown : is_granted caller f ≡ true = subst (λ h. is_granted caller h ≡ true) (sym (eqb-true f g same)) granted in sym shown ∙ hidden
        | false ↦ λ _. refl
      ] refl

  pub value_seen : (row : List Cell) (f : ℕ) → Granted caller f → value_of (see row) f ≡ value_of row f
  value_seen [] f granted = refl
  value_seen (c ∷ cs) f granted =
      elim (is_granted caller c.field) as (λ b. is_granted caller c.field ≡ b → value_of (cond b (c ∷ see cs) (see cs)) f ≡ (if nat_eq c.field f then Some c.value else value_of cs f)) [
        | true ↦ λ _. ap (λ o. if nat_eq c.field f then Some c.value else o) (value_seen cs f granted)
        | false ↦ λ hidden. value_seen cs f granted ∙ sym (ap (λ b. if b then Some c.value else value_of cs f) (field_is_not c.field f granted hidden))
      ] refl

  pub public : (f : ℕ) → permission_of f ≡ Public → Granted caller f
  public f e = subst (λ p. holds caller.permissions p ≡ true) (sym e) refl

  pub product_shown : Granted caller product_field
  unfolding permission_of field_entry field_table
  product_shown = public product_field refl

  sees_seen : (row : List Cell) → sees caller (see row) ≡ sees caller row
  sees_seen row = ap (λ o. shows caller.products (text_of o)) (value_seen row product_field product_shown)

  module _ (asked : List Cell → Bool) (same : (row : List Cell) → asked (see row) ≡ asked row) where
    out : (b : Bool) (s : ℕ × List Cell) (l : List (ℕ × List Cell)) → cond b (seen s ∷ map seen l) (map seen l) ≡ map seen (cond b (s ∷ l) l)
    out true s l = refl
    out false s l = refl

    -- the rows that are asked for, seen by the caller
    pub kept_seen : (rows : List (ℕ × List Cell)) → filter (λ s. sees caller s.1 && asked s.1) (map seen (filter (λ s. sees caller s.1) rows)) ≡ map seen (filter (λ s. sees caller s.1 && asked s.1) rows)
    kept_seen [] = refl
    kept_seen (s ∷ ss) =
        let rest = filter (λ r. sees caller r.1 && asked r.1) (map seen (filter (λ r. sees caller r.1) ss)) in
        elim (sees caller s.1) as (λ a. sees caller s.1 ≡ a → filter (λ r. sees caller r.1 && asked r.1) (map seen (cond a (s ∷ filter (λ r. sees caller r.1) ss) (filter (λ r. sees caller r.1) ss))) ≡ map seen (cond (a && asked s.1) (s ∷ filter (λ r. sees caller r.1 && asked r.1) ss) (filter (λ r. sees caller r.1 && asked r.1) ss))) [
          | true ↦ λ shown.
              ap (λ b. cond (b && asked (see s.1)) (seen s ∷ rest) rest) (sees_seen s.1 ∙ shown)
              ∙ ap (λ b. cond b (seen s ∷ rest) rest) (same s.1)
              ∙ ap (λ l. cond (asked s.1) (seen s ∷ l) l) (kept_seen ss)
              ∙ out (asked s.1) s (filter (λ r. sees caller r.1 && asked r.1) ss)
          | false ↦ λ _. kept_seen ss
        ] refl

  pub length_seen : (rows : List (ℕ × List Cell)) → length (map seen rows) ≡ length rows
  length_seen [] = refl
  length_seen (s ∷ ss) = ap suc (length_seen ss)

  longer : (b : Bool) (x y : ℕ × List Cell) (xs ys : List (ℕ × List Cell)) → length xs ≡ length ys → length (cond b (x ∷ xs) xs) ≡ length (cond b (y ∷ ys) ys)
  longer true x y xs ys e = ap suc e
  longer false x y xs ys e = e

  pub counted_seen : (f : ℕ) (v : Value) (rows : List (ℕ × List Cell)) → Granted caller f → length (rows_with f v (map seen rows)) ≡ length (rows_with f v rows)
  counted_seen f v [] granted = refl
  counted_seen f v (s ∷ ss) granted =
      ap (λ o. length (cond (is_value v o) (seen s ∷ rows_with f v (map seen ss)) (rows_with f v (map seen ss)))) (value_seen s.1 f granted)
      ∙ longer (is_value v (value_of s.1 f)) (seen s) s (rows_with f v (map seen ss)) (rows_with f v ss) (counted_seen f v ss granted)
