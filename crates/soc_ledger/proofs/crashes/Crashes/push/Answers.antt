use Rattle.std.proofs.Common.{◌+◌, ◌++◌, ◌∷◌, [], length, ap, sym, ◌∙◌}
use Rattle.std.specs.Prelude.{if◌then◌else◌, insert, is_ok}
use mir.Val.{bool_byte}
use Rattle.soc_ledger.proofs.Tables.{few_crashes, found_none, table-push}
use Rattle.soc_ledger.proofs.crashes.Crashes.push.Goals as goal

pub unreachable-requires : goal.unreachable-requires
unreachable-requires c =
    found_none c.as_slice.result.now c.self.inside.crashes.items c.as_slice-2.result.now c.self.inside.by_id.items c.args.self.now.filed c.args.crash.filed.id
    c.as_slice.ensures.value c.as_slice-2.ensures.value c.self.invariant.index (ap (λ t. t.filed) c.self.view_is) c.in_default.field-0 c.requires.is_new c.in_default.ensures

pub invariant_of-self : goal.invariant_of-self
invariant_of-self c =
    let crashes = c.self.inside.crashes.items in
    let by_id = c.self.inside.by_id.items in
    table-push c.as_slice.result.now crashes c.as_slice-2.result.now by_id c.self.inside.withdrawn c.self.inside.reported c.in-Err.place c.len-number.result c.args.crash _ _ _ _
    c.as_slice.ensures.value c.as_slice-2.ensures.value c.self.invariant
    (few_crashes crashes c.args.self.now.filed (ap (λ t. t.filed) c.self.view_is) c.requires.few) c.in-Err.ensures
    (c.len-number.ensures ∙ (sym c.as_slice.ensures.len ∙ ap length c.as_slice.ensures.value))
    (c.push.ensures.items ∙ ap (λ r. if is_ok r then crashes ++ c.args.crash ∷ [] else crashes) c.unwrap-2.ensures)
    (c.insert.ensures.items ∙ ap (λ r. if is_ok r then insert by_id c.in-Err.place c.len-number.result else by_id) c.unwrap.ensures)
    (ap (λ u. c.self.inside.withdrawn + u) c.from.ensures)
    (ap (λ u. c.self.inside.reported + u) (c.from-2.ensures ∙ ap bool_byte c.shows_report.ensures))
