-- Each column of the table is that of the definitions, and so is what it has at the field's place.
use Rattle.std.proofs.Common.{◌<◌, ◌∙◌, length, option_map, arith}
use Rattle.soc_schema.specs.declared.field.Entry.{Entry}
use Rattle.soc_schema.specs.Fields.{field_table, field_entry, name_of, kind_of, permission_of, source_of}
use Rattle.soc_schema.proofs.FieldLemmas.{column_at}
use Rattle.soc_schema.proofs.field.Field.entry.Goals as goal

pub returns-clause-name : goal.returns-clause-name
unfolding name_of field_entry
returns-clause-name c =
    let place = c.from.ensures ∙ c.self.view_is in
    let within : c.from.result < length c.table.result.now = omega (arith, c.table.ensures.len) in
    column_at (λ (e : Entry). e.name.now) (λ e. e.name) c.table.result.now field_table _ _ _ _ c.table.ensures.names within place

pub returns-clause-kind : goal.returns-clause-kind
unfolding kind_of field_entry
returns-clause-kind c =
    let place = c.from.ensures ∙ c.self.view_is in
    let within : c.from.result < length c.table.result.now = omega (arith, c.table.ensures.len) in
    column_at (λ (e : Entry). e.kind) (λ e. e.kind) c.table.result.now field_table _ _ _ _ c.table.ensures.kinds within place

pub returns-clause-permission : goal.returns-clause-permission
unfolding permission_of field_entry
returns-clause-permission c =
    let place = c.from.ensures ∙ c.self.view_is in
    let within : c.from.result < length c.table.result.now = omega (arith, c.table.ensures.len) in
    column_at (λ (e : Entry). e.permission) (λ e. e.permission) c.table.result.now field_table _ _ _ _ c.table.ensures.permissions within place

pub returns-clause-source : goal.returns-clause-source
unfolding source_of field_entry
returns-clause-source c =
    let place = c.from.ensures ∙ c.self.view_is in
    let within : c.from.result < length c.table.result.now = omega (arith, c.table.ensures.len) in
    column_at (λ (e : Entry). option_map (λ s. s.now) e.source) (λ e. e.source) c.table.result.now field_table _ _ _ _ c.table.ensures.sources within place
