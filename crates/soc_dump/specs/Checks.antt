-- Checks in their order, of which the first that fails refuses the dump.
use Rattle.std.specs.Prelude.{◌≡◌, ℕ, Bool, if◌then◌else◌, List, [], ◌∷◌, Option, None, Some, Result, Ok, Err}
use Rattle.soc_dump.specs.declared.error.DumpError.{DumpError}
use Rattle.soc_dump.specs.declared.error.DumpError.TheVariants.{NoMagic, BadVersion, OutOfFile, BadStream, TwoStreams, NoMemory}
use Rattle.soc_dump.specs.Part.{is_inside}

-- a check: the refusal that it gives, if it fails
abbrev pub Check : Type 0
Check = Option DumpError

abbrev pub check : Bool → DumpError → Check
check holds refusal = if holds then None else Some refusal

-- the part that a place and a size name lies in the file
abbrev pub inside : List ℕ → ℕ → ℕ → Check
inside file place size = check (is_inside file place size) (OutOfFile place)

abbrev pub first_refusal : List Check → Option DumpError
first_refusal [] = None
first_refusal (None ∷ checks) = first_refusal checks
first_refusal (Some refusal ∷ checks) = Some refusal

-- what a reader answers with: want of memory at any time, else the refusal that was found
abbrev pub IsRefusal : DumpError → Option DumpError → Type 0
IsRefusal NoMemory found = Unit {0}
IsRefusal (NoMagic place) found = found ≡ Some (NoMagic place)
IsRefusal (BadVersion place) found = found ≡ Some (BadVersion place)
IsRefusal (OutOfFile place) found = found ≡ Some (OutOfFile place)
IsRefusal (BadStream kind place) found = found ≡ Some (BadStream kind place)
IsRefusal (TwoStreams kind place) found = found ≡ Some (TwoStreams kind place)

-- where all checks hold, a value that meets P; else the first that fails
abbrev pub IsRead : {X : Type 0} → Result X DumpError → List Check → (X → Type 0) → Type 0
IsRead (Ok value) checks P = (first_refusal checks ≡ None) × P value
IsRead (Err refusal) checks P = IsRefusal refusal (first_refusal checks)
