use Rattle.soc_desk_tables.proofs.asks.receipt_of.Goals as goal

pub ask-requires : goal.ask-requires
ask-requires g c = g.met.K.Desk.allows_others c.args.desk.now c.args.command c.requires
