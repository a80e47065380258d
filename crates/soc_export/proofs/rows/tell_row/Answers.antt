use Rattle.soc_book.specs.Books.{StandsFor}
use Rattle.soc_export.proofs.Asked.{reply_told, still_now}
use Rattle.soc_export.proofs.rows.tell_row.Goals as goal

pub returns-clause-tells : goal.returns-clause-tells
returns-clause-tells g c = λ basis state told stands.
    let leads = c.processed-reply.ensures.does basis state stands in
    let now = λ (s : _). StandsFor basis c.processed-reply.new.self s in (
      still_now basis state _ _ told now c.args.caller.now c.args.id c.processed-reply.result leads,
      reply_told basis state _ _ told now c.args.caller.now c.args.id c.processed-reply.result leads _ _ c.write_shown.result c.write_shown.ensures.tells,
    )
