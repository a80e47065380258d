use Rattle.std.proofs.Common.{◌≡◌, ◌-◌, ◌≤◌, ℕ, [], get_or, take, drop}
use Rattle.soc_schema.specs.Rows.{value_of}
use Rattle.soc_store.specs.inner.Postings.{without_posting}
use Rattle.soc_store.proofs.values.remove_values.Given as goal

abbrev pub invariant-loop-field : goal.invariant-loop-field
invariant-loop-field l = record {
  few : l.field-iterator.n ≤ l.fn.count;
  rest : l.field-iterator.iter ≡ drop (l.fn.count - l.field-iterator.n) l.row;
  taken : (f : ℕ) → get_or l.fields f [] ≡ without_posting (value_of (take (l.fn.count - l.field-iterator.n) l.row) f) l.place (get_or l.initial.fields f []);
}
