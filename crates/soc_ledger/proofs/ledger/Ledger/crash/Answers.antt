use Rattle.std.proofs.Common.{ap, ◌∙◌}
use Rattle.std.specs.Option.{option_map}
use Rattle.std.proofs.lemmas.Option.{slice_get-map}
use Rattle.soc_ledger.specs.declared.crash.Filed.{Filed}
use Rattle.soc_ledger.specs.State.{standing_of}
use Rattle.soc_ledger.proofs.Whole.{standing_at}
use Rattle.soc_ledger.proofs.ledger.Ledger.crash.Goals as goal

pub returns-clause-standing : goal.returns-clause-standing
returns-clause-standing c =
    let filed = c.get.result.now.filed in
    standing_at c.self.invariant.tells c.args.number c.get.result.now.standing filed.id c.get.ensures.standing
    (slice_get-map (λ (f : Filed). f.id) c.self.inside.crashes.filed c.args.number ∙ ap (option_map (λ (f : Filed). f.id)) c.get.ensures.filed)
    ∙ ap (λ t. standing_of t.log filed.id) c.self.view_is
