-- The roll of a ring's passes stays, whatever passes go and come back.
use Rattle.std.proofs.Common.{◌≡◌, sym, ap, subst}
use Rattle.crossbeam_queue.specs.Passes as kit
use Rattle.soc_pool.specs.declared.jobs.Job.{Job}
use Rattle.soc_pool.specs.declared.jobs.Jobs.{Jobs}
use Rattle.soc_pool.specs.declared.pass.Passes.{Passes}
use Rattle.soc_pool.specs.declared.rule.View.{View}
use Rattle.soc_pool.specs.Passes.{IsRollOf, all_of, roll_of}

pub roll_stays : (ring : Jobs) (before after : Passes) → roll_of after ≡ roll_of before → IsRollOf ring before → IsRollOf ring after
roll_stays ring before after same is = subst (λ (roll : kit.Pass Job View). kit.IsPassOf ring.ring roll) (sym same) is

pub all_stay : (before after : Passes) → roll_of after ≡ roll_of before → all_of after ≡ all_of before
all_stay before after same = ap (λ (roll : kit.Pass Job View). (kit.view roll).seen.number) same
