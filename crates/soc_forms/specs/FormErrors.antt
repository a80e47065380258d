-- When a message is refused: by a reason that stands, or for want of memory.
use Rattle.std.specs.Prelude.{ℕ, List, Option, ⊤}
use Rattle.soc_forms.specs.declared.form_error.FormError.{FormError}
use Rattle.soc_forms.specs.declared.form_error.FormError.TheVariants.{Malformed, NoMemory}
use Rattle.soc_forms.specs.FormLines.{LinesFault}

-- the lines are refused by their first reason; want of memory is free
abbrev pub LinesRefusal : Option (List ℕ) → List (List ℕ × List ℕ) → FormError → Type 0
LinesRefusal encoding kinds (Malformed reason) = LinesFault encoding kinds reason
LinesRefusal encoding kinds NoMemory = ⊤
