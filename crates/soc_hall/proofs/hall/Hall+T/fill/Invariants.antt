use Rattle.std.proofs.Common.{◌≡◌, ◌≤◌, ◌+◌, length, All, vec_capacity}
use Rattle.soc_hall.specs.Seats.{known_of, IsSeatOf, IsNew}
use Rattle.soc_hall.specs.inner.Chairs.{IsNewChair}
use Rattle.soc_hall.proofs.hall.Hall+T.fill.Given as goal

abbrev pub invariant-loop-made : goal.invariant-loop-made
invariant-loop-made g l = record {
  chair : IsNewChair g.T.Logged.basis_of g.T.Logged.log_of l.self l.chair;
  parts : l.chair.me.0.parts + l._made ≡ l.seats + 1;
  long : length l.list.items + 1 ≡ l._made;
  room : l.seats ≤ vec_capacity l.list;
  each : All (λ seat. IsSeatOf l.self seat × IsNew (g.T.Logged.basis_of l.self.table.shared.key.state.value) (g.T.Logged.log_of l.self.table.shared.key.state.value) (known_of seat)) l.list.items;
}
