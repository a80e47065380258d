-- A plan for which the body is passed over.
use Rattle.std.specs.Prelude.{◌≡◌, Result, Ok, Err, ⊤}
use Rattle.soc_base.specs.declared.no_memory.NoMemory.{NoMemory}
use Rattle.soc_session.specs.declared.intake.Intake.{Intake}
use Rattle.soc_session.specs.declared.intake.Intake.TheVariants.{Passes}
use Rattle.soc_session.specs.declared.plans.Plan.{Plan}

abbrev pub IsPassing : Result Plan NoMemory → Result Intake NoMemory → Type 0
IsPassing (Ok plan) result = result ≡ Ok (Passes plan)
IsPassing (Err error) (Ok intake) = ⊥
IsPassing (Err error) (Err other) = ⊤
