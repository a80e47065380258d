-- Without rules in the settings file each crash is accepted, whatever is drawn.
use Rattle.std.proofs.Common.{◌≡◌, ℕ, ◌<◌, ◌%◌, true, arith}
use Rattle.std.specs.Prelude.{nat_lt, codes}
use Rattle.std.proofs.lemmas.Bool.{lt-ltb}
use Rattle.soc_throttle.specs.declared.rule.Outcome.TheVariants.{Accept}
use Rattle.soc_throttle.specs.Verdicts.{Annotations, verdict_of, accept_all}

pub verdict_of-accept_all : (annotations : Annotations) (draw : ℕ) → verdict_of accept_all annotations draw ≡ (codes "accept_all", Accept)
verdict_of-accept_all annotations draw =
    let below : draw % 100 < 100 = omega arith in
    let test : nat_lt (draw % 100) 100 ≡ true = lt-ltb (draw % 100) 100 below in
    rw test
