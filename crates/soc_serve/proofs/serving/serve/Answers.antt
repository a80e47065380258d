use denote.Param.Send.{sendable}
use Rattle.std.proofs.Common.{◌≡◌, map, refl, sym, ap, subst, ◌∙◌}
use Rattle.std.specs.Prelude.{None}
use Rattle.std.specs.Coded.{Coded-set, coded_ℕ}
use Rattle.std.proofs.Crossing.{crosses}
use Rattle.std.proofs.Math.Logic.{∥∥₁_elim, ∥∥₁_map₂}
use Rattle.soc_edge.specs.Ahead.{Outlook, outlook}
use Rattle.soc_edge.specs.Disk.{GoesOn}
use Rattle.soc_desk.specs.Basis.{Basis}
use Rattle.soc_desk.specs.State.{State}
use Rattle.soc_book.specs.Books.{StandsFor}
use Rattle.soc_book.proofs.Openings.{opens_over}
use Rattle.soc_book.proofs.Standing.{allowed_in}
use Rattle.soc_turns.specs.Grounds.{basis_of, desk_by}
use Rattle.soc_turns.specs.Runs.{RunsFrom}
use Rattle.soc_turns.proofs.Crossing.{shared_send}
use Rattle.soc_serve.specs.Hosts.{IsRight}
use Rattle.soc_serve.proofs.Seats.{closes_by, opening_by, told_by}
use Rattle.soc_edge.specs.World.{surroundings}
use Rattle.soc_serve.specs.inner.Serving.{ClosesBook}
use Rattle.soc_serve.proofs.Hostings.{not_served, serves_desk, served_on}
use Rattle.soc_serve.proofs.Rings.{leaves_ring}
use Rattle.soc_serve.proofs.serving.serve.Goals as goal

pub returns-in-Err-clause-serves : goal.returns-in-Err-clause-serves
returns-in-Err-clause-serves g c = (record { not = c.in-Err.ensures.refused _; cause = c.in-Err.ensures.disk_cause }, refl)

pub returns-in-Err-clause-over : goal.returns-in-Err-clause-over
returns-in-Err-clause-over g c is =
    absurd ((not_served _ _ c.in-Err.end (c.in-Err.ensures.refused (record { moments = λ _. None; throttles = λ _. None; ids = λ _. None }))).1 is)

pub returns-in-Err-clause-listener_cause : goal.returns-in-Err-clause-listener_cause
returns-in-Err-clause-listener_cause g c is =
    absurd ((not_served _ _ c.in-Err.end (c.in-Err.ensures.refused (record { moments = λ _. None; throttles = λ _. None; ids = λ _. None }))).0 is)

pub over-book-requires-clause-opens : goal.over-book-requires-clause-opens
over-book-requires-clause-opens g c = rw c.of-opened.ensures c.in-Ok-open.ensures.opens

pub serve_together-book-requires-send-T : goal.serve_together-book-requires-send-T
serve_together-book-requires-send-T g c κs within =
    let disk = c.type_bounds.send-D in
    let reporter = c.type_bounds.sync-Q in
    search (sendable, crosses, shared_send) depth 20 fits 4000

pub returns-clause-serves : goal.returns-clause-serves
returns-clause-serves g c =
    let before = outlook (g.C.Clock.told c.args.clock.now) (g.W.Draws.told c.args.draws.now) in
    let after = outlook (g.C.Clock.told c.serve_together-book.new.clock) (g.W.Draws.told c.serve_together-book.new.draws) in
    let first = c.over-book.result.book in
    let e = c.over-book.ensures in
    let shared = c.serve_together-book.result.desk in
    let second = shared.book in
    let end = c.close-end.result in
    let together = c.serve_together-book.ensures.ends in
    let kept : second.vault.disk.ghost_name ≡ first.vault.disk.ghost_name =
    ∥∥₁_elim together (Coded-set coded_ℕ _ _) (λ t. ap (λ basis. basis.lent) t.same_basis) in
    let lent = sym e.same_disk ∙ (sym kept ∙ (sym (ap (λ book. book.vault.disk.ghost_name) c.into_book-book.ensures) ∙ (sym c.close-end.ensures.same_disk ∙ sym c.into_disk-disk.ensures.same_disk))) in
    served_on g.D.Disk.state _ c.close-end.new.book.vault.disk.now (c.disk-1.given.1 lent ∙ c.into_disk-disk.ensures.disk) _ _ _ _ _ (g.K.Tells.told c.close-end.new.output) after _
    (serves_desk g.D.Telling.tells c.args.purpose.now.reporter.now (g.S.Stacks.stack_of c.args.purpose.now.stacks.now) c.args.purpose.now.setup.now c.args.purpose.now.site.now.crew c.serve_together-book.result.served.kept c.serve_together-book.result.jobs
    (surroundings (g.K.Tells.told c.args.output.now) (g.D.Disk.state c.args.disk.now) before)
    (surroundings (g.K.Tells.told c.close-end.new.output) (g.D.Disk.state c.close-end.new.book.vault.disk.now) after)
    end ((g.met.D.Telling g.world.𝓛 g.world.𝓜 g.world.𝓡 ((λ s x. x), (λ x. x), (λ x. x), λ x. x)).steady c.args.disk.now)
    first second e.reporter e.limits
    (subst (λ d. GoesOn (g.D.Disk.state c.args.disk.now) (g.D.Disk.state d)) (sym e.disk) c.open.ensures.goes_on)
    (leaves_ring _ c.args.purpose.now.site.now.crew _ c.serve_together-book.result.failed c.serve_together-book.result.jobs c.serve_together-book.ensures.jobs c.close-end.ensures.failed c.close-end.ensures.done)
    (λ basis is. opens_over g.D.Disk.state e.disk (e.stands basis) (c.in-Ok-open.ensures.opens basis is))
    (λ basis state rows digest stands.
    let over =
    subst (λ book. (basis : Basis) (state : State) → basis.row_of ≡ g.Q.Reporter.row_of book.reporter.now → basis.digest ≡ g.Q.Reporter.digest_of book.reporter.now
    → StandsFor basis book state
    → (swept : State) × StandsFor basis c.close-end.new.book swept
    × ((early late : Outlook) → ClosesBook (surroundings (g.K.Tells.told c.open.new.output) (g.D.Disk.state book.vault.disk.now) early)
    (surroundings (g.K.Tells.told c.close-end.new.output) (g.D.Disk.state c.close-end.new.book.vault.disk.now) late) end basis state swept))
    c.into_book-book.ensures c.close-end.ensures.closes basis state rows digest stands in (
      over.0,
      allowed_in over.1,
      subst (λ o. ClosesBook (surroundings (g.K.Tells.told o) (g.D.Disk.state second.vault.disk.now) before)
          (surroundings (g.K.Tells.told c.close-end.new.output) (g.D.Disk.state c.close-end.new.book.vault.disk.now) after) end basis state over.0)
          c.in-Ok-open.ensures.output (over.2 before after),
    ))
    (∥∥₁_map₂ shared.runs together (λ runs t. record {
      runs = subst (λ opened. RunsFrom (basis_of g.D.Telling.tells second) opened second) (ap (λ basis. basis.opened) t.same_basis ∙ e.opened) runs;
      gains = t.gains;
      same_reporter = ap (λ basis. basis.reporter) t.same_basis;
      same_limits = ap (λ basis. basis.limits) t.same_basis;
      seats = map (told_by (desk_by g.Q.Reporter.row_of g.Q.Reporter.digest_of g.D.Telling.tells)) t.seats;
      closes = closes_by (desk_by g.Q.Reporter.row_of g.Q.Reporter.digest_of g.D.Telling.tells) (λ basis. IsRight (desk_by g.Q.Reporter.row_of g.Q.Reporter.digest_of g.D.Telling.tells basis)) IsRight (λ basis log command receipt log' right. right) _ _ t.seats t.closes;
      opened = opening_by (desk_by g.Q.Reporter.row_of g.Q.Reporter.digest_of g.D.Telling.tells) (λ basis. IsRight (desk_by g.Q.Reporter.row_of g.Q.Reporter.digest_of g.D.Telling.tells basis)) IsRight (λ basis log command receipt log' right. right) _ _ t.seats t.closes _ t.opened;
    })))
