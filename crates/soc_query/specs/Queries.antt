-- What a query asks for, and how pairs of names and values say it: this project's profile.
use Rattle.std.specs.Prelude.{ℕ, nat_lt, ◌==◌, ◌&&◌, not, Bool, true, false, if◌then◌else◌, List, [], ◌∷◌, ◌++◌, length, take, Option, None, Some, Result, Ok, Err, codes, ◌≡◌}
use Rattle.std.specs.List.{AllByRecursion, list_any, list_all}
use Rattle.std.specs.Option.{option_map_or, ok_or}
use Rattle.std.specs.Char.{is_digit}
use Rattle.std.specs.Str.{bytes_eq}
use Rattle.std.specs.Str.Parse.{digits_value}
use Rattle.soc_schema.specs.declared.caller.Caller.{Caller}
use Rattle.soc_schema.specs.declared.field.FieldKind.{FieldKind}
use Rattle.soc_schema.specs.declared.field.FieldKind.TheVariants as kind
use Rattle.soc_schema.specs.declared.value.Value.{Value}
use Rattle.soc_schema.specs.declared.value.Value.TheVariants.{Text, Number, Flag}
use Rattle.soc_schema.specs.Fields.{date_field, field_named, kind_of, permission_of, product_field, signature_field, uuid_field, version_field}
use Rattle.soc_schema.specs.Permits.{Granted, is_granted}
use Rattle.soc_query.specs.declared.condition.Comparison.{Comparison}
use Rattle.soc_query.specs.declared.condition.Comparison.TheVariants as compare
use Rattle.soc_query.specs.declared.condition.Test.TheVariants.{Absent, Compares}
use Rattle.soc_query.specs.declared.condition.Condition.{Condition}
use Rattle.soc_query.specs.declared.part.Sort.{Sort}
use Rattle.soc_query.specs.declared.part.Part.{Part}
use Rattle.soc_query.specs.declared.part.Part.TheVariants as part
use Rattle.soc_query.specs.declared.error.QueryError.{QueryError}
use Rattle.soc_query.specs.declared.error.QueryError.TheVariants.{UnknownField, NotGranted, BadValue, BadNumber, TooManyConditions, NoMemory}

-- the text behind the front, where it begins so
abbrev pub stripped : List ℕ → List ℕ → Option (List ℕ)
stripped [] text = Some text
stripped (b ∷ front) [] = None
stripped (b ∷ front) (c ∷ text) = if b == c then stripped front text else None

-- the number that 1 to 18 digits write
abbrev pub number_of : List ℕ → Option ℕ
number_of text =
    if nat_lt 0 (length text) && nat_lt (length text) 19 && list_all (λ c. is_digit c 10) text then Some (digits_value 10 text) else None

abbrev pub and_then : {A B : Type 0} → Result A QueryError → (A → Result B QueryError) → Result B QueryError
and_then (Ok a) f = f a
and_then (Err e) f = Err e

-- the field of that name, which the caller may see
abbrev pub field_of : Caller → List ℕ → Result ℕ QueryError
field_of caller name =
    and_then (ok_or (field_named name) (UnknownField name)) (λ f. if is_granted caller f then Ok f else Err (NotGranted name (permission_of f)))

-- the operators: of two that a value begins with, the longer one stands first
abbrev pub operators : List (List ℕ × Comparison)
operators =
    (codes ">=", compare.AtLeast) ∷ (codes "<=", compare.AtMost) ∷ (codes ">", compare.Above) ∷ (codes "<", compare.Below)
    ∷ (codes "=", compare.Equals) ∷ (codes "~", compare.Contains) ∷ (codes "^", compare.Starts) ∷ (codes "$", compare.Ends) ∷ []

-- the operator that a value begins with, or else equals, and the operand behind it
abbrev pub split_by : List (List ℕ × Comparison) → List ℕ → Comparison × List ℕ
split_by [] value = (compare.Equals, value)
split_by (o ∷ os) value = option_map_or (λ operand. (o.1, operand)) (stripped o.0 value) (split_by os value)

-- it looks into a text
abbrev pub is_for_texts : Comparison → Bool
is_for_texts compare.Contains = true
is_for_texts compare.Starts = true
is_for_texts compare.Ends = true
is_for_texts _ = false

abbrev pub is_equals : Comparison → Bool
is_equals compare.Equals = true
is_equals _ = false

-- the value that an operand means to a field of the kind: `name` stands in refusals
abbrev pub operand_of : List ℕ → FieldKind → Comparison → List ℕ → Result Value QueryError
operand_of name kind.Text how operand = Ok (Text operand)
operand_of name kind.Number how operand =
    if is_for_texts how then Err (BadValue name) else and_then (ok_or (number_of operand) (BadNumber name)) (λ n. Ok (Number n))
operand_of name kind.Flag how operand =
    if not (is_equals how) then Err (BadValue name)
    else if bytes_eq operand (codes "__true__") then Ok (Flag true)
    else if bytes_eq operand (codes "__false__") then Ok (Flag false)
    else Err (BadValue name)

-- what follows an optional `!` asks of the field's value
abbrev pub compared_to : List ℕ → ℕ → Bool → List ℕ → Result Condition QueryError
compared_to name f negated value =
    and_then (operand_of name (kind_of f) (split_by operators value).0 (split_by operators value).1) (λ operand. Ok (record { field = f; negated = negated; test = Compares (split_by operators value).0 operand }))

-- what a value asks of a field
abbrev pub condition_of : List ℕ → ℕ → List ℕ → Result Condition QueryError
condition_of name f value =
    if bytes_eq value (codes "__null__") then Ok (record { field = f; negated = false; test = Absent })
    else if bytes_eq value (codes "!__null__") then Ok (record { field = f; negated = true; test = Absent })
    else option_map_or (compared_to name f true) (stripped (codes "!") value) (compared_to name f false value)

-- a field, or `-` and a field
abbrev pub sort_of : Caller → List ℕ → Result Sort QueryError
sort_of caller value =
    option_map_or (λ name. and_then (field_of caller name) (λ f. Ok (record { field = f; falling = true }))) (stripped (codes "-") value) (and_then (field_of caller value) (λ f. Ok (record { field = f; falling = false })))

-- a number of at most `most`
abbrev pub number_within : List ℕ → ℕ → List ℕ → Result ℕ QueryError
number_within name most value =
    and_then (ok_or (number_of value) (BadNumber name)) (λ n. if nat_lt most n then Err (BadNumber name) else Ok n)

-- what a pair asks of the field that it names
abbrev pub meets_of : Caller → List ℕ → List ℕ → Result Part QueryError
meets_of caller name value =
    and_then (field_of caller name) (λ f. and_then (condition_of name f value) (λ c. Ok (part.Meets c)))

-- what a pair says, or why it is refused
abbrev pub part_of : Caller → List ℕ → List ℕ → Result Part QueryError
part_of caller name value =
    if bytes_eq name (codes "_facets") then and_then (field_of caller value) (λ f. Ok (part.Facet f))
    else if bytes_eq name (codes "_columns") then and_then (field_of caller value) (λ f. Ok (part.Column f))
    else if bytes_eq name (codes "_sort") then and_then (sort_of caller value) (λ s. Ok (part.Sorted s))
    else if bytes_eq name (codes "_facets_size") then and_then (number_within name 10000 value) (λ n. Ok (part.FacetSize n))
    else if bytes_eq name (codes "_results_number") then and_then (number_within name 1000 value) (λ n. Ok (part.Number n))
    else if bytes_eq name (codes "_results_offset") then and_then (number_within name 65536 value) (λ n. Ok (part.Offset n))
    else meets_of caller name value

-- what a caller asks of the rows
pub record Asked : Type 0 where
  pub caller : Caller
  pub conditions : List Condition
  pub sorts : List Sort
  pub columns : List ℕ
  pub facets : List ℕ
  pub facet_size : ℕ
  pub number : ℕ
  pub offset : ℕ

-- a field among others, which stand in the order of the table, each once
abbrev pub with_field : ℕ → List ℕ → List ℕ
with_field f [] = f ∷ []
with_field f (g ∷ gs) = if nat_lt f g then f ∷ g ∷ gs else (if f == g then g ∷ gs else g ∷ with_field f gs)

-- one more field to sort by, where it isn't among them
abbrev pub with_sort : Sort → List Sort → List Sort
with_sort s sorts = if list_any (λ t. t.field == s.field) sorts then sorts else sorts ++ s ∷ []

-- the query with what one more pair says
abbrev pub with_part : Part → Asked → Asked
with_part (part.Meets c) q = record q { conditions = q.conditions ++ c ∷ [] }
with_part (part.Sorted s) q = record q { sorts = with_sort s q.sorts }
with_part (part.Column f) q = record q { columns = with_field f q.columns }
with_part (part.Facet f) q = record q { facets = with_field f q.facets }
with_part (part.FacetSize n) q = record q { facet_size = n }
with_part (part.Number n) q = record q { number = n }
with_part (part.Offset n) q = record q { offset = n }

abbrev pub default_columns : List ℕ
default_columns = date_field ∷ product_field ∷ signature_field ∷ uuid_field ∷ version_field ∷ []

abbrev pub or_default : List ℕ → List ℕ
or_default [] = default_columns
or_default (f ∷ fs) = f ∷ fs

-- nothing but defaults
abbrev pub asked_by : Caller → Asked
asked_by caller =
    record { caller = caller; conditions = []; sorts = []; columns = []; facets = []; facet_size = 50; number = 100; offset = 0 }

-- the query with one more pair, or why that is refused
abbrev pub with_pair : Asked → List ℕ → List ℕ → Result Asked QueryError
with_pair q name value = and_then (part_of q.caller name value) (λ said. Ok (with_part said q))

-- the query with what the pairs say, or why the first faulty pair is refused
abbrev pub with_pairs : Asked → List (List ℕ × List ℕ) → Result Asked QueryError
with_pairs q [] = Ok q
with_pairs q (p ∷ ps) = and_then (with_pair q p.0 p.1) (λ more. with_pairs more ps)

-- the query where it has at most 128 pairs
abbrev pub within_limit : List (List ℕ × List ℕ) → Asked → Result Asked QueryError
within_limit pairs q =
    if nat_lt 128 (length pairs) then Err TooManyConditions
    else Ok (record q { columns = or_default q.columns })

-- the query that the pairs of a caller are: behind 128 pairs that say something, one more is refused
abbrev pub query_of : Caller → List (List ℕ × List ℕ) → Result Asked QueryError
query_of caller pairs = and_then (with_pairs (asked_by caller) (take 128 pairs)) (within_limit pairs)

-- each field that the query names is granted to its caller
abbrev pub AreGranted : Asked → Type 0
AreGranted q =
    AllByRecursion (λ c. Granted q.caller c.field) q.conditions × AllByRecursion (λ s. Granted q.caller s.field) q.sorts
    × AllByRecursion (Granted q.caller) q.columns × AllByRecursion (Granted q.caller) q.facets

-- it is refused so; want of memory says nothing of the input
abbrev pub IsRefusal : {A : Type 0} → Result A QueryError → QueryError → Type 0
IsRefusal r NoMemory = Unit {0}
IsRefusal r e = r ≡ Err e
