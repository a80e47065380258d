-- Each report tells of its crash.
use Rattle.std.specs.Prelude.{◌≡◌, ℕ, zero, suc, ◌+◌, ◌==◌, Bool, true, false, if◌then◌else◌, List, [], ◌∷◌, drop, Option, Some, None, refl}
use Rattle.std.proofs.Common.{ap, ◌∙◌}
use Rattle.std.proofs.lemmas.Bool.{true≢false}
use Rattle.soc_raw.specs.Record.{Crash}
use Rattle.soc_schema.specs.declared.value.Value.{Value}
use Rattle.soc_schema.specs.Rows.{value_of}
use Rattle.soc_schema.specs.Reports.{TellsCrash}
use Rattle.soc_report.specs.Kits.{KitEntry}
use Rattle.soc_report.specs.Report.{cells_from, known_of, report_of, sources, values_of}

-- some places from one on aren't the field's
abbrev are_others : ℕ → ℕ → ℕ → Bool
are_others zero place field = true
are_others (suc count) place field = if place == field then false else are_others count (place + 1) field

-- what the values behind those tell of the field
abbrev value_behind : ℕ → ℕ → List (Option Value) → ℕ → Option Value
value_behind zero place values field = value_of (cells_from place values) field
value_behind (suc count) place [] field = None
value_behind (suc count) place (v ∷ values) field = value_behind count (place + 1) values field

parts : (here more : Bool) → (if here then false else more) ≡ true → (here ≡ false) × (more ≡ true)
parts true more is = absurd (true≢false (ap (λ b. if b then false else true) is))
parts false more is = (refl, is)

pass : (v : Option Value) (place field : ℕ) (values : List (Option Value)) → (place == field) ≡ false → value_of (cells_from place (v ∷ values)) field ≡ value_of (cells_from (place + 1) values) field
pass None place field values other = refl
pass (Some v) place field values other = ap (λ b. if b then Some v else value_of (cells_from (place + 1) values) field) other

pass_all : (count place field : ℕ) (values : List (Option Value)) → are_others count place field ≡ true → value_of (cells_from place values) field ≡ value_behind count place values field
pass_all zero place field values others = refl
pass_all (suc count) place field [] others = refl
pass_all (suc count) place field (v ∷ values) others =
    let both = parts (place == field) (are_others count (place + 1) field) others in
    pass v place field values both.0 ∙ pass_all count (place + 1) field values both.1

-- the field's own value, where no later one is its
abbrev first : List (Option Value) → Option Value
first [] = None
first (v ∷ values) = v

own : (values : List (Option Value)) → value_of (cells_from 24 (drop 1 values)) 23 ≡ None → value_of (cells_from 23 values) 23 ≡ first values
own [] none = refl
own (None ∷ values) none = none
own (Some v ∷ values) none = refl

pub report_of-tells : (crash : Crash) (kit : KitEntry) → TellsCrash crash (report_of crash kit)
unfolding report_of sources
report_of-tells crash kit =
    let values = values_of (known_of kit crash) in
    record {
      id = pass_all 34 0 34 values refl;
      product = pass_all 23 0 23 values refl ∙ own (drop 23 values) (pass_all 12 24 23 (drop 24 values) refl);
    }
