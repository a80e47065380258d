use Rattle.std.proofs.Common.{sym, ◌∙◌}
use Rattle.std.specs.Coded.{Coded-set, ×_prop}
use Rattle.atomic_table.specs.Seated.{table_id_coded}
use Rattle.soc_pool.specs.Passes.{IsPassOf}
use Rattle.soc_service.proofs.Options.{known_some, nil_prop}
use Rattle.soc_service.proofs.desk.HallDesk.put.Goals as goal

pub put_or_wait-requires : goal.put_or_wait-requires
put_or_wait-requires g c =
    known_some (λ p. IsPassOf c.args.self.now.jobs.now p) c.args.self.now.pass c.in-Some-take.pass (×_prop (Coded-set table_id_coded _ _) (nil_prop _))
    (sym c.take.ensures.value ∙ c.in-Some-take.is) c.args.self.now.passes
