use Rattle.std.proofs.Common.{◌≡◌, ◌++◌, map}
use Rattle.crossbeam_queue.specs.Passes as kit
use Rattle.soc_pool.specs.declared.rule.Role.TheVariants.{Makes}
use Rattle.soc_pool.specs.Passes.{seen_of}
use Rattle.soc_pool.proofs.jobs.Jobs.gather.Given as goal

abbrev pub invariant-loop-pass : goal.invariant-loop-pass
invariant-loop-pass l = record {
  can_next : goal.iterator-loop-pass.can_next l.pass-iterator;
  is_finite : goal.iterator-loop-pass.is_finite l.pass-iterator;
  all : l.yielded ++ l.pass-iterator.rest.items ≡ l.fn.list.items;
  roll : kit.IsPassOf l.self.ring l.roll × ((kit.view l.roll).role ≡ Makes) × ((kit.view l.roll).seen ≡ (kit.view l.fn.roll).seen);
  gone : (kit.view l.roll).gone ≡ map (λ pass. seen_of pass) l.yielded;
}
