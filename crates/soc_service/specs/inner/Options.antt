-- What holds of any value holds of an optional one.
use Rattle.std.specs.Prelude.{Option, None, Some, IfSome}

pub for_some : {X : Type 0} {P : X → Type 0} (o : Option X) → ((x : X) → P x) → IfSome o P
for_some None each = tt
for_some (Some x) each = each x
