use Rattle.std.proofs.Common.{sym, ◌∙◌}
use Rattle.soc_desk.specs.State.{settled}
use Rattle.soc_edge.proofs.Disks.{Looks-append}
use Rattle.soc_book.specs.Books.{disk_of}
use Rattle.soc_export.proofs.Asked.{drain_failed, rows_told}
use Rattle.soc_export.proofs.Shown.{may_drain, operator}
use Rattle.soc_export.proofs.rows.tell_log.Goals as goal

pub returns-in-Ok-clause-tells : goal.returns-in-Ok-clause-tells
returns-in-Ok-clause-tells g c = λ basis log row stands.
    let leads = c.drain.ensures.does operator may_drain basis (settled log) row stands in
    rows_told basis log c.args.caller.now _ _ _ _ (disk_of c.tell_rows.new.book) leads.0 c.drain.result c.tell_rows.result c.end_of.result leads.2 (sym c.drain_end-drained.ensures ∙ c.in-Ok.is)
    (λ told. c.tell_rows.ensures.tells basis leads.0 told leads.1) c.end_of.ensures

pub returns-in-Ok-clause-looks : goal.returns-in-Ok-clause-looks
returns-in-Ok-clause-looks g c = Looks-append _ _ _ c.drain.ensures.looks c.tell_rows.ensures.looks

pub returns-in-Err-clause-tells : goal.returns-in-Err-clause-tells
returns-in-Err-clause-tells g c = λ basis log row stands.
    let leads = c.drain.ensures.does operator may_drain basis (settled log) row stands in
    drain_failed basis log c.args.caller.now _ _ _ leads.0 c.drain.result c.in-Err.end leads.2 (sym c.drain_end-drained.ensures ∙ c.in-Err.is)
