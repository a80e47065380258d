use Rattle.std.proofs.Common.{◌≡◌, ◌≤◌}
use Rattle.soc_schema.specs.inner.Reading.{ReadsCells}
use Rattle.soc_schema.proofs.RowTextLemmas.{next_low}
use Rattle.soc_schema.proofs.row_text.cells_at.Given as goal

abbrev pub invariant-loop : goal.invariant-loop
invariant-loop l =
    ReadsCells 0 l.counter l.initial.cursor l.cells.items l.cursor × (l.low ≡ next_low 0 l.cells.items) × (l.low ≤ 36)
