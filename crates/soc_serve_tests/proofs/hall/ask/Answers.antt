use Rattle.std.proofs.Common.{◌≡◌, List, None, sym, subst}
use Rattle.soc_desk.specs.declared.desk.Command.{Command}
use Rattle.soc_desk.specs.Basis.{Basis}
use Rattle.soc_desk.specs.Kinds.{NeedsNothing}
use Rattle.soc_hall.specs.Seats.{known_of, seen_of}
use Rattle.soc_service.specs.declared.change.Change.{Change}
use Rattle.soc_service.specs.Answers.{MayAsk}
use Rattle.soc_service.specs.inner.Stays.{may_others}
use Rattle.soc_turns.specs.Grounds.{desk_basis}
use Rattle.soc_serve_tests.proofs.hall.ask.Goals as goal

may_any : (basis : Basis) (log : List Change) (command prepared : Command) → prepared ≡ command → NeedsNothing command → MayAsk basis log prepared
may_any basis log command prepared is nothing = subst (λ c. MayAsk basis log c) (sym is) (may_others basis log command nothing)

pub ask-seat-requires-clause-may : goal.ask-seat-requires-clause-may
ask-seat-requires-clause-may g c basis is =
    may_any (desk_basis _ None basis.limits _) (seen_of (known_of c.args.seat)) c.args.command c.new-prepared.result c.new-prepared.ensures c.requires.nothing
