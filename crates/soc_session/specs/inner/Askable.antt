-- Which commands sessions ask.
use Rattle.std.specs.Prelude.{Bool, true, false}
use Rattle.soc_desk.specs.declared.desk.Command.{Command}
use Rattle.soc_desk.specs.declared.desk.Command.TheVariants as C

-- the command may be asked at any time
abbrev pub is_askable : Command → Bool
is_askable (C.Finish processed) = false
is_askable _ = true
