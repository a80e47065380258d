-- Worked examples.
use Rattle.std.specs.Prelude.{◌≡◌, length, refl}
use Rattle.soc_arm64.specs.Machine.{registers}

every_place : length registers ≡ 33
every_place = refl
