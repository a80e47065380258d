-- Which places a set selects, and which values a condition asks about.
use Rattle.std.specs.Prelude.{◌≡◌, ◌≢◌, ◌==◌, ◌&&◌, not, if◌then◌else◌, ℕ, Bool, true, List, [], ◌∷◌, Option, None, Some, map, filter, ⊤}
use Rattle.std.specs.List.{AllByRecursion, list_all, list_any}
use Rattle.std.specs.Option.{option_map, option_map_or}
use Rattle.soc_store.specs.Stored.{places_of, row_at}
use Rattle.soc_schema.specs.declared.value.Value.{Value}
use Rattle.soc_schema.specs.declared.value.Cell.{Cell}
use Rattle.soc_query.specs.declared.condition.Test.{Test}
use Rattle.soc_query.specs.declared.condition.Test.TheVariants.{Absent, Compares}
use Rattle.soc_query.specs.declared.condition.Condition.{Condition}
use Rattle.soc_search.specs.declared.leaders.Counted.{Counted}
use Rattle.soc_query.specs.declared.answer.Term.{Term}
use Rattle.soc_search.specs.declared.selection.Selection.{Selection}
use Rattle.soc_query.specs.Answers.{is_exact, meets_alone, meets_one, passes}
use Rattle.soc_search.specs.inner.Places.{has}

-- no set selects each place
abbrev pub selected : Option (List (List ℕ)) → ℕ → Bool
selected None p = true
selected (Some pages) p = has pages p

-- of the rows those are chosen by their places that pass the test
abbrev pub Selects : (ℕ → Bool) → (List Cell → Bool) → List (ℕ × List Cell) → Type 0
Selects set test rows = AllByRecursion (λ s. set s.0 ≡ test s.1) rows

abbrev pub operand_in : Test → Option Value
operand_in Absent = None
operand_in (Compares how operand) = Some operand

-- the value that a condition asks for
abbrev pub exact_value : Condition → Option Value
exact_value c = if is_exact c then operand_in c.test else None

-- whether a value of a condition's field, if any, meets it
abbrev pub is_met : Condition → Option Value → Bool
is_met c value = if c.negated then not (passes c.test value) else passes c.test value

-- one of the values that are asked for is this one
abbrev pub one_is_met : List Condition → Option Value → Bool
one_is_met asked value = list_any (λ c. is_exact c && is_met c value) asked

-- the conditions hold of a value of the field that each asks about
abbrev pub are_met : List Condition → Option Value → Bool
are_met asked value = list_all (λ c. if is_exact c then one_is_met asked value else is_met c value) asked

-- rows with the value meet the conditions otherwise than those without the field do
abbrev pub stands_out : List Condition → Value → Bool
stands_out asked v = if are_met asked None then not (are_met asked (Some v)) else are_met asked (Some v)

-- the places of the value that a condition asks for, where it meets them all
abbrev pub hit_places : List Condition → ℕ → List (ℕ × List Cell) → Condition → List ℕ
hit_places asked f rows c = option_map_or (λ v. if are_met asked (Some v) then places_of f v rows else []) (exact_value c) []

-- the conditions on a field
abbrev pub asked_of : ℕ → List Condition → List Condition
asked_of f conditions = filter (λ c. c.field == f) conditions

-- no condition stands twice
abbrev pub AreDistinct : List Condition → Type 0
AreDistinct [] = ⊤
AreDistinct (c ∷ cs) = AllByRecursion (λ d. d ≢ c) cs × AreDistinct cs

-- these conditions, each once
pub record AreOnce (once conditions : List Condition) : Type 0 where
  pub same : (test : Condition → Bool) → list_any test once ≡ list_any test conditions
  pub distinct : AreDistinct once

-- a value of the field is asked for, or none is
abbrev pub is_turn : Bool → ℕ → List Condition → Bool
is_turn exact f conditions = if exact then list_any is_exact (asked_of f conditions) else not (list_any is_exact (asked_of f conditions))

-- a row meets the conditions on the fields that are picked
abbrev pub meets_where : (ℕ → Bool) → List Condition → List Cell → Bool
meets_where picks conditions row =
    list_all (λ c. if picks c.field then (if is_exact c then meets_one conditions c.field row else meets_alone row c) else true) conditions

-- a value that was counted, as a term
abbrev pub as_term : Counted → Term
as_term c = record { value = c.value.now; count = c.count }

-- the row at a place
abbrev pub row_of : List (ℕ × List Cell) → ℕ → Option (List Cell)
row_of rows p = option_map (λ s. s.1) (row_at p rows)

-- the places are those of the selected rows, if they are listed
abbrev pub AreListed : (ℕ → Bool) → List (ℕ × List Cell) → Option (List ℕ) → Type 0
AreListed set rows None = ⊤
AreListed set rows (Some places) = places ≡ map (λ s. s.0) (filter (λ s. set s.0) rows)

-- the selected rows are those that pass the test
abbrev pub Finds : Selection → (List Cell → Bool) → List (ℕ × List Cell) → Type 0
Finds found test rows =
    Selects (selected found.set) test rows × AreListed (selected found.set) rows (option_map (λ v. v.items) found.places)
