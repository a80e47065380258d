use Rattle.std.proofs.Common.{◌≡◌, ◌≤◌, [], length, map, All, vec_capacity}
use Rattle.crossbeam_queue.specs.Passes as kit
use Rattle.soc_pool.specs.declared.rule.Role.TheVariants.{Makes}
use Rattle.soc_pool.specs.Passes.{seen_of, numbers_below, IsPassOf, IsNew}
use Rattle.soc_pool.specs.inner.Rule.{unseen}
use Rattle.soc_pool.proofs.jobs.Jobs.fill.Given as goal

abbrev pub invariant-loop-number : goal.invariant-loop-number
invariant-loop-number l = record {
  roll : kit.IsPassOf l.self.ring l.roll × ((kit.view l.roll).role ≡ Makes) × ((kit.view l.roll).gone ≡ []) × ((kit.view l.roll).seen ≡ unseen l._number);
  count : length l.list.items ≡ l._number;
  room : l.passes ≤ vec_capacity l.list;
  each : All (λ pass. IsPassOf l.self pass × IsNew pass) l.list.items;
  numbers : map (λ pass. (seen_of pass).number) l.list.items ≡ numbers_below l._number;
}
