-- The registers of a context that is long enough, and of one that isn't.
use Rattle.std.proofs.Common.{◌≡◌, ℕ, ◌<◌, ◌≤◌, List, length, Some, None, refl}
use Rattle.std.specs.Prelude.{map}
use Rattle.std.proofs.lemmas.Bool.{le-leb, lt-leb}
use Rattle.soc_dump.specs.declared.field.Field.{Field}
use Rattle.soc_dump.specs.Number.{number_of}
use Rattle.soc_dump.specs.Registers.{context_registers}

module _ (size : ℕ) (registers : List Field) (context : List ℕ) where
  pub registers-some : size ≤ length context → Some (map (number_of context) registers) ≡ context_registers size registers context
  registers-some long = let test = le-leb size (length context) long in rw test refl

  pub registers-none : length context < size → None ≡ context_registers size registers context
  registers-none short = let test = lt-leb size (length context) short in rw test refl
