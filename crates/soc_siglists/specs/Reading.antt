-- What reading three list files answers.
use Rattle.std.specs.Prelude.{◌≡◌, ℕ, not, List, map, find, Option, None, Some, option_map, Result, Ok, Err, ⊤}
use Rattle.std.specs.Option.{option_or}
use Rattle.soc_siglists.specs.declared.error.ListName.{ListName}
use Rattle.soc_siglists.specs.declared.error.ListName.TheVariants.{Irrelevant, Prefix, Sentinel}
use Rattle.soc_siglists.specs.declared.error.ListError.{ListError}
use Rattle.soc_siglists.specs.declared.error.ListError.TheVariants.{BadPattern, MakerFault, NoMemory}
use Rattle.soc_siglists.specs.Patterns.{is_pattern}
use Rattle.soc_siglists.specs.Entries.{entries}
use Rattle.soc_siglists.specs.Lists.{ListTexts}

-- the number of the first entry that is no pattern
abbrev pub bad_entry : List (ℕ × List ℕ) → Option ℕ
bad_entry found = option_map (λ entry. entry.0) (find (λ entry. not (is_pattern entry.1)) found)

-- the list and the line of the first one in a file
abbrev pub bad_line : ListName → List ℕ → Option (ListName × ℕ)
bad_line list bytes = option_map (λ line. (list, line)) (bad_entry (entries bytes))

-- the first one of the three files, in this order
abbrev pub first_bad : List ℕ → List ℕ → List ℕ → Option (ListName × ℕ)
first_bad irrelevant prefix sentinel = option_or (bad_line Irrelevant irrelevant) (option_or (bad_line Prefix prefix) (bad_line Sentinel sentinel))

-- the patterns of a file
abbrev pub patterns_in : List ℕ → List (List ℕ)
patterns_in bytes = map (λ entry. entry.1) (entries bytes)

abbrev pub lists_in : List ℕ → List ℕ → List ℕ → ListTexts
lists_in irrelevant prefix sentinel = record {
  irrelevant = patterns_in irrelevant;
  prefix = patterns_in prefix;
  sentinel = patterns_in sentinel;
}

-- the lists of three files without a bad line, or their first bad line; what the maker's faults and want of memory
-- answer says nothing of the files
abbrev pub Gives : Result ListTexts ListError → List ℕ → List ℕ → List ℕ → Type 0
Gives (Ok lists) irrelevant prefix sentinel = (first_bad irrelevant prefix sentinel ≡ None) × (lists ≡ lists_in irrelevant prefix sentinel)
Gives (Err (BadPattern list line)) irrelevant prefix sentinel = first_bad irrelevant prefix sentinel ≡ Some (list, line)
Gives (Err MakerFault) irrelevant prefix sentinel = ⊤
Gives (Err NoMemory) irrelevant prefix sentinel = ⊤
