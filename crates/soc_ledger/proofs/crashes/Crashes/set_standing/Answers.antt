use Rattle.std.proofs.Common.{ap, ◌∙◌, ◌<◌, ◌+◌, ◌-◌, length, refl, set, arith}
use Rattle.std.proofs.lemmas.List.{map-set}
use mir.Val.{bool_byte}
use Rattle.soc_ledger.specs.declared.crash.Crash.{Crash}
use Rattle.soc_ledger.specs.inner.Tables.{shows_report}
use Rattle.soc_ledger.proofs.Tables.{count_fits, map-kept, table-standing, within}
use Rattle.soc_ledger.proofs.crashes.Crashes.set_standing.Goals as goal

pub overflow_add-self : goal.overflow_add-self
overflow_add-self c =
    let lt : c.args.number < length c.self.inside.crashes.items = within c.self.inside.crashes.items c.args.self.now.filed c.args.number (ap (λ t. t.filed) c.self.view_is) c.requires in
    omega (
      arith,
      count_fits (λ (x : Crash). x.standing.withdrawn) c.self.inside.crashes.items c.args.number c.index_mut-crash.result.now (record { filed = c.index_mut-crash.result.now.filed; standing = c.args.standing })
          c.self.inside.withdrawn lt c.index_mut-crash.ensures.value c.self.invariant.withdrawn_count c.self.invariant.few,
    )

pub overflow_add-self-2 : goal.overflow_add-self-2
overflow_add-self-2 c =
    let lt : c.args.number < length c.self.inside.crashes.items = within c.self.inside.crashes.items c.args.self.now.filed c.args.number (ap (λ t. t.filed) c.self.view_is) c.requires in
    omega (
      arith,
      c.from-3.ensures ∙ ap bool_byte c.shows_report.ensures,
      c.from-4.ensures ∙ ap bool_byte c.shows_report-2.ensures,
      count_fits (λ (x : Crash). shows_report x.standing) c.self.inside.crashes.items c.args.number c.index_mut-crash.result.now (record { filed = c.index_mut-crash.result.now.filed; standing = c.args.standing })
          c.self.inside.reported lt c.index_mut-crash.ensures.value c.self.invariant.reported_count c.self.invariant.few,
    )

pub invariant_of-self : goal.invariant_of-self
invariant_of-self c =
    let lt : c.args.number < length c.self.inside.crashes.items = within c.self.inside.crashes.items c.args.self.now.filed c.args.number (ap (λ t. t.filed) c.self.view_is) c.requires in
    table-standing c.self.inside.crashes.items c.self.inside.by_id.items c.self.inside.withdrawn c.self.inside.reported c.args.number c.index_mut-crash.result.now c.args.standing _ _ c.self.invariant lt c.index_mut-crash.ensures.value
    (ap (λ u. c.self.inside.withdrawn - u + c.from-2.result) c.from.ensures ∙ ap (λ u. c.self.inside.withdrawn - bool_byte c.index_mut-crash.result.now.standing.withdrawn + u) c.from-2.ensures)
    (ap (λ u. c.self.inside.reported - u + c.from-4.result) (c.from-3.ensures ∙ ap bool_byte c.shows_report.ensures)
    ∙ ap (λ u. c.self.inside.reported - bool_byte (shows_report c.index_mut-crash.result.now.standing) + u) (c.from-4.ensures ∙ ap bool_byte c.shows_report-2.ensures))

pub returns-clause-filed : goal.returns-clause-filed
returns-clause-filed c =
    let lt : c.args.number < length c.self.inside.crashes.items = within c.self.inside.crashes.items c.args.self.now.filed c.args.number (ap (λ t. t.filed) c.self.view_is) c.requires in
    map-kept (λ (x : Crash). x.filed) c.self.inside.crashes.items c.args.number c.index_mut-crash.result.now _ lt c.index_mut-crash.ensures.value refl ∙ ap (λ t. t.filed) c.self.view_is

pub returns-clause-standings : goal.returns-clause-standings
returns-clause-standings c =
    map-set (λ (x : Crash). x.standing) c.self.inside.crashes.items c.args.number _ ∙ ap (λ t. set t.standings c.args.number c.args.standing) c.self.view_is
