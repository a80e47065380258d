use Rattle.std.proofs.Common.{◌≡◌, ℕ, [], get_or, take, drop}
use Rattle.soc_schema.specs.Rows.{value_of}
use Rattle.soc_store.specs.inner.Postings.{with_posting}
use Rattle.soc_store.proofs.values.add_values.Given as goal

abbrev pub invariant-loop-added : goal.invariant-loop-added
invariant-loop-added l = record {
  rest : l.field-iterator ≡ drop l.added l.row;
  put : (f : ℕ) → get_or l.fields f [] ≡ with_posting (value_of (take l.added l.row) f) l.place (get_or l.initial.fields f []);
}
