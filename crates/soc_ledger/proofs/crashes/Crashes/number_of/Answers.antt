use Rattle.std.proofs.Common.{ap}
use Rattle.soc_ledger.proofs.Tables.{found_gap, found_number}
use Rattle.soc_ledger.proofs.crashes.Crashes.number_of.Goals as goal

pub returns-in-Ok : goal.returns-in-Ok
returns-in-Ok c =
    found_number c.as_slice.result.now c.self.inside.crashes.items c.as_slice-2.result.now c.self.inside.by_id.items c.args.self.now.filed c.args.id
    c.as_slice.ensures.value c.as_slice-2.ensures.value c.self.invariant.index (ap (λ t. t.filed) c.self.view_is) c.in-Ok.i c.index.result.now c.in-Ok.ensures c.index.ensures

pub returns-in-Err : goal.returns-in-Err
returns-in-Err c =
    found_gap c.as_slice.result.now c.self.inside.crashes.items c.as_slice-2.result.now c.self.inside.by_id.items c.args.self.now.filed c.args.id
    c.as_slice.ensures.value c.as_slice-2.ensures.value c.self.invariant.index (ap (λ t. t.filed) c.self.view_is) c.in-Err.field-0 c.in-Err.ensures
