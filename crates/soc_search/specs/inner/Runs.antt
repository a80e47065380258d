-- Where rising values stand to the run of those that compare as asked with an operand.
use Rattle.std.specs.Prelude.{ℕ, ◌≡◌, ◌≤◌, ◌<◌, not, Bool, true, false, List, Some, if◌then◌else◌, length, slice_index_or}
use Rattle.std.specs.Ordering.{is_lt, is_gt}
use Rattle.std.specs.declared.cmp.Ordering.{Ordering}
use Rattle.std.specs.declared.cmp.Ordering.TheVariants.{Less, Equal, Greater}
use Rattle.soc_schema.specs.declared.value.Value.{Value}
use Rattle.soc_schema.specs.Orders.{value_cmp}
use Rattle.soc_query.specs.declared.condition.Comparison.{Comparison}
use Rattle.soc_query.specs.declared.condition.Comparison.TheVariants.{Below, AtMost, Above, AtLeast, Starts}
use Rattle.soc_search.specs.declared.runs.Edge.{Edge}
use Rattle.soc_search.specs.declared.runs.Edge.TheVariants.{First, End}
use Rattle.soc_query.specs.declared.condition.Condition.{Condition}
use Rattle.soc_query.specs.Answers.{compares, is_exact}
use Rattle.soc_search.specs.inner.Selections.{is_met}

-- whether the values that compare so with an operand stand in one run
abbrev pub is_run : Comparison → Bool
is_run Below = true
is_run AtMost = true
is_run Above = true
is_run AtLeast = true
is_run Starts = true
is_run _ = false

-- where a value that is not in the run stands to it, by how it compares with the operand
abbrev pub beside : Comparison → Ordering → Ordering
beside Below r = Greater
beside Above r = Less
beside _ r = r

-- where a value stands to the run: before it, in it or behind it
abbrev pub stands : Comparison → Value → Value → Ordering
stands how operand v = if compares how operand v then Equal else beside how (value_cmp v operand)

-- whether what stands so comes before the edge of the run
abbrev pub comes_before : Edge → Ordering → Bool
comes_before First r = is_lt r
comes_before End r = not (is_gt r)

-- the condition asks for no value, and this one doesn't meet it
abbrev pub Misses : Condition → Value → Type 0
Misses c v = (is_exact c ≡ false) × (is_met c (Some v) ≡ false)

-- so many of the values pass the test, and they are the first
abbrev pub IsFront : (Value → Bool) → List Value → ℕ → Type 0
IsFront test vs n =
    (n ≤ length vs) × ((k : ℕ) (d : Value) → k < n → test (slice_index_or vs k d) ≡ true)
    × ((k : ℕ) (d : Value) → n ≤ k → k < length vs → test (slice_index_or vs k d) ≡ false)
