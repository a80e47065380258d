-- The answer to a query: rows are filtered, sorted, sliced and counted. This project's profile.
use Rattle.std.specs.Prelude.{ℕ, nat_eq, ◌==◌, ◌&&◌, ◌||◌, not, Bool, true, false, List, [], ◌∷◌, Option, None, Some, if◌then◌else◌, map, length, take, drop, is_none}
use Rattle.std.specs.List.{filter, list_any, list_all, starts_with, ends_with}
use Rattle.std.specs.Ordering.{nat_cmp, is_lt, is_eq, is_gt, ordering_then, ordering_reverse}
use Rattle.std.specs.declared.cmp.Ordering.{Ordering}
use Rattle.std.specs.declared.cmp.Ordering.TheVariants.{Less, Equal, Greater}
use Rattle.soc_schema.specs.declared.value.Value.{Value}
use Rattle.soc_schema.specs.declared.value.Cell.{Cell}
use Rattle.soc_schema.specs.Rows.{value_of}
use Rattle.soc_schema.specs.Fields.{uuid_field}
use Rattle.soc_schema.specs.Orders.{in_order, value_cmp}
use Rattle.soc_schema.specs.Values.{rows_with, sees, text_in, values_of}
use Rattle.soc_query.specs.declared.condition.Comparison.{Comparison}
use Rattle.soc_query.specs.declared.condition.Comparison.TheVariants.{Equals, Below, AtMost, Above, AtLeast, Contains, Starts, Ends}
use Rattle.soc_query.specs.declared.condition.Test.{Test}
use Rattle.soc_query.specs.declared.condition.Test.TheVariants.{Absent, Compares}
use Rattle.soc_query.specs.declared.condition.Condition.{Condition}
use Rattle.soc_query.specs.declared.part.Sort.{Sort}
use Rattle.soc_query.specs.declared.answer.Term.{Term}
use Rattle.soc_query.specs.declared.answer.Facet.{Facet}
use Rattle.soc_query.specs.declared.answer.Answer.{Answer}
use Rattle.soc_query.specs.Queries.{Asked}

-- the part stands in the text
abbrev pub has_part : List ℕ → List ℕ → Bool
has_part part [] = starts_with nat_eq [] part
has_part part (c ∷ text) = starts_with nat_eq (c ∷ text) part || has_part part text

-- whether a value compares so with the operand
abbrev pub compares : Comparison → Value → Value → Bool
compares Equals operand v = is_eq (value_cmp operand v)
compares Below operand v = is_lt (value_cmp v operand)
compares AtMost operand v = not (is_gt (value_cmp v operand))
compares Above operand v = is_gt (value_cmp v operand)
compares AtLeast operand v = not (is_lt (value_cmp v operand))
compares Contains operand v = has_part (text_in operand) (text_in v)
compares Starts operand v = starts_with nat_eq (text_in v) (text_in operand)
compares Ends operand v = ends_with nat_eq (text_in v) (text_in operand)

-- whether the value that a row has of a field, if any, is as the test asks
abbrev pub passes : Test → Option Value → Bool
passes Absent value = is_none value
passes (Compares how operand) None = false
passes (Compares how operand) (Some v) = compares how operand v

abbrev pub meets_alone : List Cell → Condition → Bool
meets_alone row c = if c.negated then not (passes c.test (value_of row c.field)) else passes c.test (value_of row c.field)

abbrev pub is_equality : Test → Bool
is_equality (Compares Equals operand) = true
is_equality _ = false

-- it asks for one value of its field
abbrev pub is_exact : Condition → Bool
is_exact c = not c.negated && is_equality c.test

-- one of the values that are asked of the field is the row's
abbrev pub meets_one : List Condition → ℕ → List Cell → Bool
meets_one conditions f row = list_any (λ d. is_exact d && ((d.field == f) && meets_alone row d)) conditions

-- values that are asked of one field are alternatives, and every other condition holds by itself
abbrev pub meets : List Condition → List Cell → Bool
meets conditions row =
    list_all (λ c. if is_exact c then meets_one conditions c.field row else meets_alone row c) conditions

-- values in order, no value last whichever way the order goes
abbrev pub value_order : Bool → Option Value → Option Value → Ordering
value_order falling None None = Equal
value_order falling None (Some w) = Greater
value_order falling (Some v) None = Less
value_order falling (Some v) (Some w) = if falling then ordering_reverse (value_cmp v w) else value_cmp v w

-- by the fields in order, and then by uuid
abbrev pub row_order : List Sort → List Cell → List Cell → Ordering
row_order [] a b = value_order false (value_of a uuid_field) (value_of b uuid_field)
row_order (s ∷ ss) a b = ordering_then (value_order s.falling (value_of a s.field) (value_of b s.field)) (row_order ss a b)

-- what a row has of these fields
abbrev pub columns_of : List ℕ → List Cell → List Cell
columns_of fs row = filter (λ c. list_any (λ f. f == c.field) fs) row

-- each value of the field in the rows, with the number of rows that have it
abbrev pub terms_of : ℕ → List (ℕ × List Cell) → List Term
terms_of f rows = map (λ v. record { value = v; count = length (rows_with f v rows) }) (values_of f rows)

-- greater counts first, and then lesser values, cut at a size
abbrev pub facet_of : ℕ → List (ℕ × List Cell) → ℕ → Facet
facet_of size rows f = record { field = f; terms = take size (in_order (λ t u. nat_cmp u.count t.count) (terms_of f rows)) }

-- the rows that a query asks for
abbrev pub matching_rows : Asked → List (ℕ × List Cell) → List (ℕ × List Cell)
matching_rows q rows = filter (λ s. sees q.caller s.1 && meets q.conditions s.1) rows

-- the hits of a query in the rows that it asks for
abbrev pub hits_of : Asked → List (ℕ × List Cell) → List (List Cell)
hits_of q rows = map (columns_of q.columns) (take q.number (drop q.offset (in_order (row_order q.sorts) (map (λ s. s.1) rows))))

-- the answer over rows at places
abbrev pub answer_of : Asked → List (ℕ × List Cell) → Answer
answer_of q rows =
    record { total = length (matching_rows q rows); columns = q.columns; hits = hits_of q (matching_rows q rows); facets = map (facet_of q.facet_size (matching_rows q rows)) q.facets }
