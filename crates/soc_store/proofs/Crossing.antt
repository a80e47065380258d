-- A store may go to another thread.
use denote.Param.Send.{IsSend, sendable}
use Rattle.std.proofs.Crossing.{crosses}
use Rattle.soc_base.proofs.Crossings.{shared_text_send}
use Rattle.soc_store.specs.contracts.store.Store as Store

pub store_send : IsSend Store.the_row
store_send = search (sendable, crosses, shared_text_send) depth 300 fits 200000
