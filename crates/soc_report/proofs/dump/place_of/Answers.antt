use Rattle.std.proofs.Common.{eqb, []}
use Rattle.std.proofs.lemmas.Bool.{eq-eqb}
use Rattle.soc_dump.specs.declared.thread.Thread.{Thread}
use Rattle.soc_report.proofs.NoteLemmas.{first_here, first_nowhere}
use Rattle.soc_report.proofs.dump.place_of.Goals as goal

abbrev no_thread : Thread
no_thread = record { id = 0; stack_start = 0; stack = record { ref_ptr = (0, 0); now = [] }; context = record { ref_ptr = (0, 0); now = [] } }

pub returns-then-threads-place : goal.returns-then-threads-place
returns-then-threads-place c =
    first_here (λ (t : Thread). eqb t.id c.args.id) c.args.threads.now c.loop-place.place _ c.loop-place-test.true (eq-eqb _ _ c.if-threads-place.true) c.loop-place.invariant

pub returns : goal.returns
returns c = first_nowhere (λ (t : Thread). eqb t.id c.args.id) c.args.threads.now c.loop-place.place no_thread c.loop-place.invariant c.loop-place-test.false
