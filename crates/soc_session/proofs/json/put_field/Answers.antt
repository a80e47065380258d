use Rattle.std.proofs.Common.{◌∙◌, ap}
use Rattle.soc_schema.specs.Permits.{permission_name}
use Rattle.soc_session.specs.Json.{kind_name}
use Rattle.soc_session.proofs.JsonLemmas.{put-field}
use Rattle.soc_session.proofs.json.put_field.Goals as goal

pub returns : goal.returns
returns c =
    put-field c.args.out.now.items c.args.field c.name.result.now c.kind_name.result.now c.name-2.result.now
    c.put.new.out.items c.put-2.new.out.items c.put-3.new.out.items c.put-4.new.out.items c.put-5.new.out.items c.put-6.new.out.items c.put-7.new.out.items
    c.name.ensures.value (c.kind_name.ensures ∙ ap kind_name c.kind.ensures) (c.name-2.ensures.text ∙ ap permission_name c.permission.ensures)
    c.in_ok-put.ensures c.in_ok-put-2.ensures c.in_ok-put-3.ensures c.in_ok-put-4.ensures c.in_ok-put-5.ensures c.in_ok-put-6.ensures c.in_ok-put-7.ensures
