use Rattle.std.proofs.Common.{ap}
use Rattle.soc_schema.specs.Rows.{kind_of_value}
use Rattle.soc_schema.specs.Fields.{kind_of, field_entry, field_table}
use Rattle.soc_session_tables.proofs.sample.row_of.Goals as goal

pub set-requires : goal.set-requires
unfolding kind_of field_entry field_table
set-requires c = ap kind_of_value c.in_ok-text.ensures
