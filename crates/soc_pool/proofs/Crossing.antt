-- A ring may be shared by threads, and a pass may go to another one.
use denote.Param.Send.{IsSend, IsSync, sendable}
use Rattle.std.proofs.Crossing.{crosses}
use Rattle.atomic_table.proofs.shared.Seat.TheSendSync as table_seat
use Rattle.atomic_table.proofs.shared.Shared.TheSendSync as table_shared
use Rattle.atomic_table.proofs.send_lease.SendLease.TheSendSync as lease
use Rattle.soc_pool.specs.contracts.jobs.Jobs as Jobs
use Rattle.soc_pool.specs.contracts.pass.Pass as Pass

pub jobs_sync : IsSync (Jobs.the_row)
jobs_sync = search (sendable, crosses, table_shared.the_sync, lease.the_sync) depth 60 fits 100000

pub pass_send : IsSend (Pass.the_row)
pass_send = search (sendable, crosses, table_seat.the_send) depth 60 fits 100000
