use Rattle.std.proofs.Common.{◌≡◌, drop, take, sym, ◌∙◌, ap, arith}
use Rattle.soc_ledger.specs.Due.{due_ids}
use Rattle.soc_service.specs.Changes.{events_in}
use Rattle.soc_crew.proofs.Passes.{wait_all, wait_more}
use Rattle.soc_crew.proofs.jobs.due_from.Goals as goal

pub loop-place-preserved : goal.loop-place-preserved
loop-place-preserved g c =
    let due = due_ids (events_in (g.T.Logged.log_of c.args.desk.now)) in
    let before = c.loop-place.invariant in record {
      behind = let behind = before.behind in omega arith;
      are = c.in_ok-push_back.ensures.items ∙ wait_more due c.loop-place.ids.items c.args.from c.loop-place.place c.in-Some.id (sym c.in-Some.ensures) before.behind before.are;
    }

pub returns-in_default : goal.returns-in_default
returns-in_default g c =
    let due = due_ids (events_in (g.T.Logged.log_of c.args.desk.now)) in
    let within = c.loop-place-test.true in
    wait_all due c.loop-place.ids.items c.args.from c.loop-place.place 4_294_967_295 (sym c.in_default.ensures) (omega arith) c.loop-place.invariant.are

pub returns : goal.returns
returns g c =
    let due = due_ids (events_in (g.T.Logged.log_of c.args.desk.now)) in
    let past = c.loop-place-test.false in
    let end = c.loop-place.auto.place-end in
    let all : c.loop-place.place ≡ 4_294_967_295 = omega arith in
    c.loop-place.invariant.are ∙ ap (λ n. drop c.args.from (take n due)) all
