use Rattle.std.proofs.Common.{◌<◌, length, ◌∙◌, ap, subst, arith, rules}
use Rattle.std.proofs.Math.Logic.{∥∥₁_map}
use Rattle.soc_hall.specs.Seats.{seats_in}
use Rattle.soc_pool.proofs.Rolls.{all_stay, roll_stays}
use Rattle.soc_crew.specs.Gains.{Ends}
use Rattle.soc_crew.proofs.Passes.{started_with}
use Rattle.soc_crew.proofs.Seats.{closed, stays_as}
use Rattle.soc_crew.proofs.crew.serve_with.Goals as goal

pub returns-in_default-clause-ends : goal.returns-in_default-clause-ends
returns-in_default-clause-ends g c =
    ∣ stays_as (c.unserved.ensures.0)
    g.T.Logged.log_of g.T.Logged.basis_of _ (ap (λ t. t.kept) c.unserved.ensures.3) ∣₁

pub returns-in_default-with_capacity-clause-ends : goal.returns-in_default-with_capacity-clause-ends
returns-in_default-with_capacity-clause-ends g c =
    ∣ stays_as (c.unserved-in_default-with_capacity.ensures.0)
    g.T.Logged.log_of g.T.Logged.basis_of _ (ap (λ t. t.kept) c.unserved-in_default-with_capacity.ensures.3) ∣₁

pub returns-in_default-with_capacity-2-clause-ends : goal.returns-in_default-with_capacity-2-clause-ends
returns-in_default-with_capacity-2-clause-ends g c =
    ∣ stays_as (c.unserved-in_default-with_capacity-2.ensures.0)
    g.T.Logged.log_of g.T.Logged.basis_of _ (ap (λ t. t.kept) c.unserved-in_default-with_capacity-2.ensures.3) ∣₁

pub returns-in_default-put_due-clause-ends : goal.returns-in_default-put_due-clause-ends
returns-in_default-put_due-clause-ends g c =
    ∣ stays_as (c.unserved-in_default-put_due.ensures.0)
    g.T.Logged.log_of g.T.Logged.basis_of _ (ap (λ t. t.kept) c.unserved-in_default-put_due.ensures.3) ∣₁

pub returns-in-Err-clause-ends : goal.returns-in-Err-clause-ends
returns-in-Err-clause-ends g c =
    ∣ stays_as (c.unserved-in-Err.ensures.0 ∙ c.in-Err.ensures.back)
    g.T.Logged.log_of g.T.Logged.basis_of _ (ap (λ t. t.kept) c.unserved-in-Err.ensures.3) ∣₁

pub serve_in-served-requires-clause-lists : goal.serve_in-served-requires-clause-lists
serve_in-served-requires-clause-lists g c κs within =
    let collecting = c.in-Ok-with_capacity.ensures in
    let processing = c.in-Ok-with_capacity-2.ensures in
    let buffers = c.in-Ok.ensures.buffers in
    (search rules, omega arith, search rules, omega arith)

pub serve_in-served-requires-clause-count : goal.serve_in-served-requires-clause-count
serve_in-served-requires-clause-count g c κs within =
    let buffers = c.in-Ok.ensures.buffers in
    let passes = c.in-Ok.ensures.passes.1 in
    let roll = c.in-Ok.ensures.roll.2 in
    let seats = c.in-Ok-over.ensures.count in
    (omega arith, omega arith, omega arith, omega arith)

pub serve_in-served-requires-clause-ticket : goal.serve_in-served-requires-clause-ticket
serve_in-served-requires-clause-ticket g c κs within =
    let buffers = c.in-Ok.ensures.buffers in
    let parts = c.open-door.ensures.parts in
    let handed = c.requires.handed in
    let refused = c.requires.refused in
    (c.open-door.ensures.unused.0, c.open-door.ensures.unused.1, omega arith, omega arith)

pub close-desk-requires-clause-all : goal.close-desk-requires-clause-all
close-desk-requires-clause-all g c =
    let seats = c.in-Ok-over.ensures.count.0 in
    let of = c.in-Ok-over.ensures.hall in
    let back = c.serve_in-served.ensures.seats.1 in
    omega arith

pub close-jobs-requires-clause-roll : goal.close-jobs-requires-clause-roll
close-jobs-requires-clause-roll g c = roll_stays c.in-Ok.stock.jobs c.in-Ok.stock.passes c.serve_in-served.new.passes c.serve_in-served.ensures.passes.2 c.in-Ok.ensures.roll.0

pub close-jobs-requires-clause-all : goal.close-jobs-requires-clause-all
close-jobs-requires-clause-all g c =
    let passes = c.in-Ok.ensures.passes.1 in
    let all = c.in-Ok.ensures.roll.1 in
    let back = c.serve_in-served.ensures.passes.1 in
    let same = all_stay c.in-Ok.stock.passes c.serve_in-served.new.passes c.serve_in-served.ensures.passes.2 in
    omega arith

pub close-listener-requires-clause-handed : goal.close-listener-requires-clause-handed
close-listener-requires-clause-handed g c =
    let whole = c.open-door.ensures.parts.0 in
    let back = c.serve_in-served.ensures.ticket.1 in
    omega arith

pub close-listener-requires-clause-refused : goal.close-listener-requires-clause-refused
close-listener-requires-clause-refused g c =
    let whole = c.open-door.ensures.parts.1 in
    let back = c.serve_in-served.ensures.ticket.2 in
    omega arith

pub returns-clause-ends : goal.returns-clause-ends
returns-clause-ends g c =
    let opened = c.of-opened.result.value in
    let basis = g.T.Logged.basis_of opened in
    let opening = g.T.Logged.log_of opened in
    let some = c.requires.collectors.0 in
    let seats = c.in-Ok-over.ensures.count.0 in
    let back = c.serve_in-served.ensures.seats.1 in
    let some_seat : 0 < length (seats_in c.serve_in-served.new.seats) = omega arith in
    let end = c.close-desk.result in
    let kept = c.serve_in-served.result.0.kept in
    subst
    (λ b. ∥ Ends g.T.Logged.answers (g.T.Logged.log_of b) (g.T.Logged.log_of end) (g.T.Logged.basis_of b) (g.T.Logged.basis_of end) kept ∥₁)
    c.of-opened.ensures
    (∥∥₁_map c.serve_in-served.ensures.seated
    (λ seated. closed basis (g.T.Logged.basis_of end) opening (g.T.Logged.log_of end) kept (seats_in c.serve_in-served.new.seats) some_seat seated c.close-desk.ensures))

pub returns-clause-jobs : goal.returns-clause-jobs
returns-clause-jobs g c =
    started_with _ c.in-Ok.stock.own _ _ _ _ _ _ c.in-Ok.ensures.own.1 c.in-Ok-put_due.ensures.puts c.in-Ok-put_due.ensures.takes c.in-Ok.ensures.buffers
    c.close-jobs.ensures c.serve_in-served.ensures.jobs
