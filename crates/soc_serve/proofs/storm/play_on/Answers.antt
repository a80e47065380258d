use denote.Param.Send.{sendable}
use Rattle.std.proofs.Common.{◌≡◌, map, true, IsTrue, ap, ◌∙◌, subst}
use Rattle.std.specs.Prelude.{IfOk, Some}
use Rattle.std.proofs.Crossing.{crosses}
use Rattle.std.proofs.Math.Logic.{∥∥₁_map₂}
use Rattle.soc_edge.specs.DiskLog.{disk_told}
use Rattle.soc_desk.specs.Basis.{Basis}
use Rattle.soc_desk.specs.State.{State}
use Rattle.soc_book.specs.Books.{StandsFor, reporter_of}
use Rattle.soc_book.proofs.Openings.{opens_over}
use Rattle.soc_turns.specs.Grounds.{basis_of, desk_by}
use Rattle.soc_turns.specs.Runs.{RunsFrom}
use Rattle.soc_turns.proofs.Crossing.{shared_send}
use Rattle.soc_serve.specs.Hosts.{IsRight}
use Rattle.soc_serve.proofs.Seats.{closes_by, opening_by, told_by}
use Rattle.soc_serve.specs.Storm.{Subsides}
use Rattle.soc_serve.proofs.Storms.{plays_ok}
use Rattle.soc_serve.proofs.storm.play_on.Goals as goal

pub over-book-requires-clause-opens : goal.over-book-requires-clause-opens
over-book-requires-clause-opens g c = rw c.of-opened.ensures c.in-Ok.ensures.opens

pub serve_together-book-requires-send-T : goal.serve_together-book-requires-send-T
serve_together-book-requires-send-T g c κs within =
    let reporter = c.type_bounds.sync-P in
    search (sendable, crosses, shared_send) depth 300 fits 200000

pub returns : goal.returns
returns g c =
    let shared = c.serve_together-book.result.desk in
    let first = c.over-book.result.book in
    let second = shared.book in
    let e = c.over-book.ensures in
    plays_ok (disk_told c.args.disk.now) (ap (λ bytes. Some bytes) c.requires.empty) c.args.setting.reporter.now c.args.limits c.args.words.now.count first second e.reporter e.limits
    (λ basis is. opens_over disk_told e.disk (e.stands basis) (c.in-Ok.ensures.opens basis is))
    c.serve_together-book.result.served.kept c.sum_up-text.result
    (subst (λ b. IfOk c.sum_up-text.result (λ text. (basis : Basis) (state : State) → basis.row_of ≡ g.P.Reporter.row_of (reporter_of b) → IsTrue basis.is_told → StandsFor basis b state → Subsides basis state c.args.words.now.count text))
    c.into_book-book.ensures c.sum_up-text.ensures.subsides)
    (∥∥₁_map₂ shared.runs c.serve_together-book.ensures.ends (λ runs t. record {
      runs = subst (λ opened. RunsFrom (basis_of true second) opened second) (ap (λ basis. basis.opened) t.same_basis ∙ e.opened) runs;
      gains = t.gains;
      same_reporter = ap (λ basis. basis.reporter) t.same_basis;
      same_limits = ap (λ basis. basis.limits) t.same_basis;
      seats = map (told_by (desk_by g.P.Reporter.row_of g.P.Reporter.digest_of true)) t.seats;
      closes = closes_by (desk_by g.P.Reporter.row_of g.P.Reporter.digest_of true) (λ basis. IsRight (desk_by g.P.Reporter.row_of g.P.Reporter.digest_of true basis)) IsRight (λ basis log command receipt log' right. right) _ _ t.seats t.closes;
      opened = opening_by (desk_by g.P.Reporter.row_of g.P.Reporter.digest_of true) (λ basis. IsRight (desk_by g.P.Reporter.row_of g.P.Reporter.digest_of true basis)) IsRight (λ basis log command receipt log' right. right) _ _ t.seats t.closes _ t.opened;
    }))
