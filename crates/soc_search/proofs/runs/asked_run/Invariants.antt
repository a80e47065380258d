use Rattle.std.proofs.Common.{◌≡◌, ◌<◌, ◌≤◌, ℕ, false, length, map, get_or}
use denote.Ref.{Bor}
use Rattle.soc_schema.specs.declared.value.Value.{Value}
use Rattle.soc_schema.specs.Values.{values_of}
use Rattle.soc_query.specs.declared.condition.Condition.{Condition}
use Rattle.soc_search.specs.inner.Selections.{stands_out}
use Rattle.soc_search.proofs.runs.asked_run.Given as goal

abbrev pub invariant-loop-condition : goal.invariant-loop-condition
invariant-loop-condition l =
    let vs = values_of l.field l.store in
    let out : Value → Type 0 = λ v. stands_out (map (λ (d : Bor Condition). d.now) l.asked) v ≡ false in
    (l.run.end ≤ length vs) × ((k : ℕ) (d : Value) → k < l.run.first → out (get_or vs k d)) × ((k : ℕ) (d : Value) → l.run.end ≤ k → k < length vs → out (get_or vs k d))
