-- What of a hall may go to another thread, or be shared by threads, where its state may go.
use denote.RattleType.{RattleType}
use denote.Param.Send.{IsSend, IsSync, sendable}
use Rattle.std.proofs.Crossing.{crosses}
use Rattle.atomic_table.proofs.shared.Seat.TheSendSync as table_seat
use Rattle.atomic_table.proofs.shared.Shared.TheSendSync as table_shared
use Rattle.atomic_table.proofs.send_lease.SendLease.TheSendSync as lease
use Rattle.atomic_table.specs.declared.shared.TableRule as rule
use Rattle.soc_hall.specs.contracts.hall.Room as Room
use Rattle.soc_hall.specs.contracts.seats.HallSeat as HallSeat
use Rattle.soc_hall.specs.contracts.view.Place as Place
use Rattle.soc_hall.specs.contracts.view.Start as Start

pub place_send : (T C P : RattleType) → IsSend T → IsSend (Place.the_row T C P)
place_send T C P state = search (sendable, crosses) depth 300 fits 200000

pub seat_send : (S B X C P : RattleType) → IsSend S → IsSend (HallSeat.the_row S B X C P)
seat_send S B X C P slot = search (sendable, crosses, table_seat.the_send) depth 300 fits 200000

pub room_sync : (S V T Q : RattleType) (q : rule.Ghosts Q.Denot S.Denot V.Denot (Start.the_row T).Denot) → IsSend S → IsSync (Room.the_row S V T Q q)
room_sync S V T Q q slot = search (sendable, crosses, table_shared.the_sync, lease.the_sync) depth 60 fits 100000
