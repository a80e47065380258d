-- A shared text may go to another thread, and threads may share it.
use denote.Param.Send.{IsSend, IsSync, sendable}
use Rattle.std.proofs.Crossing.{crosses}
use Rattle.soc_base.specs.contracts.shared_text.SharedText as SharedText

pub shared_text_send : IsSend SharedText.the_row
shared_text_send = search (sendable, crosses) depth 60 fits 20000

pub shared_text_sync : IsSync SharedText.the_row
shared_text_sync = search (sendable, crosses) depth 60 fits 20000
