-- What is asked for the crash that a form names.
use Rattle.std.specs.Prelude.{ℕ, List}
use Rattle.soc_schema.specs.declared.caller.Caller.{Caller}
use Rattle.soc_desk.specs.Commands.{CommandText, to_prioritise, to_reprocess, to_withdraw}
use Rattle.soc_session.specs.declared.routes.asks.Action.{Action}
use Rattle.soc_session.specs.declared.routes.asks.Action.TheVariants.{Prioritise, Reprocess, Withdraw}

abbrev pub to_act : Action → Caller → List ℕ → CommandText
to_act Prioritise caller id = to_prioritise caller id
to_act Reprocess caller id = to_reprocess caller id
to_act Withdraw caller id = to_withdraw caller id
