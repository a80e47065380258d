-- What reading one list file answers.
use Rattle.std.specs.Prelude.{◌≡◌, ℕ, true, false, List, ◌++◌, map, None, Some, Result, Ok, Err, ⊤}
use Rattle.soc_siglists.specs.declared.error.ListName.{ListName}
use Rattle.soc_siglists.specs.declared.error.ListError.{ListError}
use Rattle.soc_siglists.specs.declared.error.ListError.TheVariants as list
use Rattle.soc_siglists.specs.declared.maker.MakeError.{MakeError}
use Rattle.soc_siglists.specs.declared.maker.MakeError.TheVariants.{Syntax, Failed, NoMemory}
use Rattle.soc_siglists.specs.Patterns.{is_pattern}
use Rattle.soc_siglists.specs.Entries.{entries, entries_from}
use Rattle.soc_siglists.specs.Reading.{bad_entry, bad_line, patterns_in}

-- what an entry's text is made to
abbrev pub MakesPattern : Result (List ℕ) MakeError → List ℕ → Type 0
MakesPattern (Ok pattern) text = (pattern ≡ text) × (is_pattern text ≡ true)
MakesPattern (Err Syntax) text = is_pattern text ≡ false
MakesPattern (Err Failed) text = ⊤
MakesPattern (Err NoMemory) text = ⊤

abbrev pub refusal : MakeError → ListName → ℕ → ListError
refusal Syntax name line = list.BadPattern name line
refusal Failed name line = list.MakerFault
refusal NoMemory name line = list.NoMemory

-- the file has no bad line, and these patterns
abbrev pub HasPatterns : List (List ℕ) → ListName → List ℕ → Type 0
HasPatterns patterns name bytes = (bad_line name bytes ≡ None) × (patterns ≡ patterns_in bytes)

-- a refusal of the file
abbrev pub RefusesFile : ListError → ListName → List ℕ → Type 0
RefusesFile (list.BadPattern other line) name bytes = bad_line name bytes ≡ Some (other, line)
RefusesFile list.MakerFault name bytes = ⊤
RefusesFile list.NoMemory name bytes = ⊤

-- where a reader stands: these patterns were made, and this is left, from the line with this number on
pub record ReadsOn (bytes : List ℕ) (patterns : List (List ℕ)) (line : ℕ) (rest : List ℕ) : Type 0 where
  pub same_bad : bad_entry (entries bytes) ≡ bad_entry (entries_from line rest)
  pub same_patterns : patterns_in bytes ≡ patterns ++ map (λ entry. entry.1) (entries_from line rest)
