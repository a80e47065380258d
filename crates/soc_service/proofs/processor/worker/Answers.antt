use Rattle.std.proofs.Common.{◌≡◌, ◌++◌, ◌∷◌, [], refl, ap, ◌∙◌}
use Rattle.soc_hall.specs.Seats.{known_of}
use Rattle.soc_pool.specs.Passes.{seen_of}
use Rattle.soc_service.specs.declared.processor.WorkerStop.TheVariants as S
use Rattle.soc_service.proofs.Options.{if_some_on, of_match, of_none}
use Rattle.soc_service.proofs.Worked.{ends_unnoted, has_worked_more, has_worked_none, puts_given, puts_none, puts_refilled, puts_taken, takes_end, takes_given, takes_more, takes_none, takes_whole, took, worked_given, worked_part, worked_whole}
use Rattle.soc_service.proofs.processor.worker.Goals as goal

pub loop-init : goal.loop-init
loop-init g c = record {
  seat = c.requires.seat;
  pass = c.requires.pass;
  basis = refl;
  takes = takes_none _ _ c.new-lists.ensures.0;
  puts = puts_none c.args.pass;
  worked = has_worked_none g.T.Logged g.T.SharedDesk.command_of _ _ _ _ _ c.new-lists.ensures.0 c.new-lists.ensures.1 c.new-lists.ensures.2 c.new-lists.ensures.3;
}

-- an allocation failed before a job was taken
pub returns-then-is_err-clause-taken : goal.returns-then-is_err-clause-taken
returns-then-is_err-clause-taken g c =
    let e = c.end_of.ensures in
    takes_given _ c.loop.pass (seen_of c.args.pass).takes c.loop.lists.taken.items _ S.NoMemory _ e.given.1 (ap (λ l. l.items) e.lists.0 ∙ c.reserve.ensures.items) e.given.2 (takes_whole _ _ _ c.loop.invariant.takes)

pub returns-then-is_err-clause-puts : goal.returns-then-is_err-clause-puts
returns-then-is_err-clause-puts g c = puts_given _ c.loop.pass c.args.pass c.end_of.ensures.given.1 c.loop.invariant.puts

pub returns-then-is_err-clause-worked : goal.returns-then-is_err-clause-worked
returns-then-is_err-clause-worked g c =
    let e = c.end_of.ensures in
    worked_given g.T.Logged g.T.SharedDesk.command_of _ _ _ c.loop.lists.taken.items c.loop.lists.made.items c.loop.lists.stale.items c.loop.lists.missed.items _ _ _ _ S.NoMemory _
    (ap (λ l. l.items) e.lists.0 ∙ c.reserve.ensures.items) (ap (λ l. l.items) e.lists.1) (ap (λ l. l.items) e.lists.2) (ap (λ l. l.items) e.lists.3) e.given.2 (ap (λ s. known_of s) e.given.0)
    (worked_whole g.T.Logged g.T.SharedDesk.command_of _ _ _ _ _ _ S.NoMemory c.loop.invariant.worked)

pub process-after-requires-clause-reporter : goal.process-after-requires-clause-reporter
process-after-requires-clause-reporter g c = if_some_on (λ basis. (g.T.SharedDesk.desk_of basis).row_of ≡ g.R.Reporter.row_of c.args.reporter.now) _ _ c.loop.invariant.basis c.requires.reporter

-- an end was taken
pub returns-in-End-clause-worked : goal.returns-in-End-clause-worked
returns-in-End-clause-worked g c =
    let e = c.end_of-in-End.ensures in
    worked_given g.T.Logged g.T.SharedDesk.command_of _ _ _ c.loop.lists.taken.items c.loop.lists.made.items c.loop.lists.stale.items c.loop.lists.missed.items _ _ _ _ S.Ended _
    (ap (λ l. l.items) e.lists.0 ∙ c.reserve.ensures.items) (ap (λ l. l.items) e.lists.1) (ap (λ l. l.items) e.lists.2) (ap (λ l. l.items) e.lists.3) e.given.2 (ap (λ s. known_of s) e.given.0)
    (worked_whole g.T.Logged g.T.SharedDesk.command_of _ _ _ _ _ _ S.Ended c.loop.invariant.worked)

pub returns-in-End-clause-taken : goal.returns-in-End-clause-taken
returns-in-End-clause-taken g c =
    let e = c.end_of-in-End.ensures in
    takes_given _ c.next-after.result.0 (seen_of c.args.pass).takes c.loop.lists.taken.items _ S.Ended _ e.given.1 (ap (λ l. l.items) e.lists.0 ∙ c.reserve.ensures.items) e.given.2
    (takes_end _ _ _ _ c.loop.invariant.takes (took c.loop.pass c.refill-pass.result c.next-after.result.0 _ _ c.refill-pass.ensures.put c.next-after.ensures.taken c.in-End.is))

pub returns-in-End-clause-puts : goal.returns-in-End-clause-puts
returns-in-End-clause-puts g c =
    puts_given _ c.next-after.result.0 c.args.pass c.end_of-in-End.ensures.given.1
    (puts_taken c.args.pass c.refill-pass.result c.next-after.result.0 _ c.next-after.ensures.taken
    (puts_refilled c.args.pass c.loop.pass c.refill-pass.result c.refill-pass.ensures.put c.loop.invariant.puts))

-- memory was wanting for the crash
pub returns-in-None-outcome-clause-taken : goal.returns-in-None-outcome-clause-taken
returns-in-None-outcome-clause-taken g c =
    let e = c.end_of-in-None-outcome.ensures in
    let listed = c.push_reserved.ensures.items ∙ ap (λ l. l ++ c.in-Crash.id ∷ []) c.reserve.ensures.items in
    takes_given _ c.next-after.result.0 (seen_of c.args.pass).takes c.push_reserved.new.self.items _ S.NoMemory _ e.given.1 (ap (λ l. l.items) e.lists.0) e.given.2
    (takes_whole _ _ _ (takes_more _ _ _ _ _ c.in-Crash.id c.loop.invariant.takes (took c.loop.pass c.refill-pass.result c.next-after.result.0 _ _ c.refill-pass.ensures.put c.next-after.ensures.taken c.in-Crash.is) listed))

pub returns-in-None-outcome-clause-worked : goal.returns-in-None-outcome-clause-worked
returns-in-None-outcome-clause-worked g c =
    let e = c.end_of-in-None-outcome.ensures in
    let listed = c.push_reserved.ensures.items ∙ ap (λ l. l ++ c.in-Crash.id ∷ []) c.reserve.ensures.items in
    worked_given g.T.Logged g.T.SharedDesk.command_of _ _ _ c.push_reserved.new.self.items c.loop.lists.made.items c.loop.lists.stale.items c.loop.lists.missed.items _ _ _ _ S.NoMemory _
    (ap (λ l. l.items) e.lists.0) (ap (λ l. l.items) e.lists.1) (ap (λ l. l.items) e.lists.2) (ap (λ l. l.items) e.lists.3) e.given.2 (ap (λ s. known_of s) e.given.0)
    (worked_part g.T.Logged g.T.SharedDesk.command_of _ _ _ _ _ _ _ _ c.in-Crash.id c.loop.invariant.worked
    (of_none _ _ _ c.in-None-outcome.is c.process-after.ensures.works) listed)

pub returns-in-None-outcome-clause-puts : goal.returns-in-None-outcome-clause-puts
returns-in-None-outcome-clause-puts g c =
    puts_given _ c.next-after.result.0 c.args.pass c.end_of-in-None-outcome.ensures.given.1
    (puts_taken c.args.pass c.refill-pass.result c.next-after.result.0 _ c.next-after.ensures.taken
    (puts_refilled c.args.pass c.loop.pass c.refill-pass.result c.refill-pass.ensures.put c.loop.invariant.puts))

-- what became of the crash couldn't be noted
pub returns-in-Err-clause-taken : goal.returns-in-Err-clause-taken
returns-in-Err-clause-taken g c =
    let e = c.end_of-in-Err.ensures in
    let listed = c.push_reserved.ensures.items ∙ ap (λ l. l ++ c.in-Crash.id ∷ []) c.reserve.ensures.items in
    takes_given _ c.next-after.result.0 (seen_of c.args.pass).takes c.push_reserved.new.self.items _ S.NoMemory _ e.given.1 (ap (λ l. l.items) (e.lists.0 ∙ c.in-Err.ensures.taken)) e.given.2
    (takes_whole _ _ _ (takes_more _ _ _ _ _ c.in-Crash.id c.loop.invariant.takes (took c.loop.pass c.refill-pass.result c.next-after.result.0 _ _ c.refill-pass.ensures.put c.next-after.ensures.taken c.in-Crash.is) listed))

pub returns-in-Err-clause-worked : goal.returns-in-Err-clause-worked
returns-in-Err-clause-worked g c =
    let e = c.end_of-in-Err.ensures in
    let listed = c.push_reserved.ensures.items ∙ ap (λ l. l ++ c.in-Crash.id ∷ []) c.reserve.ensures.items in
    worked_given g.T.Logged g.T.SharedDesk.command_of _ _ _ c.push_reserved.new.self.items c.loop.lists.made.items c.loop.lists.stale.items c.loop.lists.missed.items _ _ _ _ S.NoMemory _
    (ap (λ l. l.items) (e.lists.0 ∙ c.in-Err.ensures.taken)) (ap (λ l. l.items) e.lists.1 ∙ c.in-Err.ensures.err.0) (ap (λ l. l.items) e.lists.2 ∙ c.in-Err.ensures.err.1) (ap (λ l. l.items) e.lists.3 ∙ c.in-Err.ensures.err.2)
    e.given.2 (ap (λ s. known_of s) e.given.0)
    (worked_part g.T.Logged g.T.SharedDesk.command_of _ _ _ _ _ _ _ _ c.in-Crash.id c.loop.invariant.worked
    (ends_unnoted g.T.Logged g.T.SharedDesk.command_of g.T.SharedDesk.desk_of g.met.T.SharedDesk.tells _ _ _ c.in-Some-outcome.outcome (of_match _ _ _ _ c.in-Some-outcome.is c.process-after.ensures.works)) listed)

pub returns-in-Err-clause-puts : goal.returns-in-Err-clause-puts
returns-in-Err-clause-puts g c =
    puts_given _ c.next-after.result.0 c.args.pass c.end_of-in-Err.ensures.given.1
    (puts_taken c.args.pass c.refill-pass.result c.next-after.result.0 _ c.next-after.ensures.taken
    (puts_refilled c.args.pass c.loop.pass c.refill-pass.result c.refill-pass.ensures.put c.loop.invariant.puts))

-- one crash more
pub loop-preserved : goal.loop-preserved
loop-preserved g c =
    let i = c.loop.invariant in
    let listed = c.push_reserved.ensures.items ∙ ap (λ l. l ++ c.in-Crash.id ∷ []) c.reserve.ensures.items in
    let noted = ap (λ l. l.items) c.in-Ok.ensures.taken ∙ listed in record {
      seat = c.process-after.ensures.seat;
      pass = c.next-after.ensures.pass;
      basis = c.process-after.ensures.basis ∙ i.basis;
      takes = takes_more _ _ _ _ _ c.in-Crash.id i.takes (took c.loop.pass c.refill-pass.result c.next-after.result.0 _ _ c.refill-pass.ensures.put c.next-after.ensures.taken c.in-Crash.is) noted;
      puts = puts_taken c.args.pass c.refill-pass.result c.next-after.result.0 _ c.next-after.ensures.taken
          (puts_refilled c.args.pass c.loop.pass c.refill-pass.result c.refill-pass.ensures.put i.puts);
      worked = has_worked_more g.T.Logged g.T.SharedDesk.command_of _ _ _ _ _ _ _ _ _ _ _ c.in-Crash.id c.in-Some-outcome.outcome i.worked
          (of_match _ _ _ _ c.in-Some-outcome.is c.process-after.ensures.works) noted c.in-Ok.ensures.made c.in-Ok.ensures.stale c.in-Ok.ensures.missed;
    }
