use Rattle.std.proofs.Common.{◌≡◌, ◌++◌}
use Rattle.std.specs.List.{flat_map}
use Rattle.soc_pages.specs.Pages.{field_row}
use Rattle.soc_pages.proofs.report.put_fields.Given as goal

-- what is written, with the rows of the cells that are left
abbrev pub invariant-loop-field : goal.invariant-loop-field
invariant-loop-field l = l.out.items ++ flat_map field_row l.field-iterator ≡ l.initial.out.items ++ flat_map field_row l.row
