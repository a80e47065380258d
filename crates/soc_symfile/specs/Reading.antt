-- What reading a symbol file answers.
use Rattle.std.specs.Prelude.{◌≡◌, ℕ, Result, Ok, Err}
use Rattle.soc_symfile.specs.declared.error.SymError.{SymError}
use Rattle.soc_symfile.specs.declared.error.SymError.TheVariants.{BadLine, NoMemory}
use Rattle.soc_symfile.specs.Records.{Records}

-- a bad line is refused by its number, from 1; want of memory is free
abbrev pub IsRefusal : SymError → Result Records ℕ → Type 0
IsRefusal (BadLine line) records = records ≡ Err line
IsRefusal NoMemory records = Unit {0}

-- the records, or the first bad line
abbrev pub Gives : Result Records SymError → Result Records ℕ → Type 0
Gives (Ok file) records = records ≡ Ok file
Gives (Err refusal) records = IsRefusal refusal records
