-- Lists and symbols, read from their texts.
use Rattle.std.specs.Prelude.{◌≡◌, ℕ, List, [], ◌∷◌, filter_map, find, Option, Some, None, option_map, Result, Ok, Err, ⊤}
use Rattle.std.specs.Option.{option_or}
use Rattle.std.specs.Result.{result_ok, result_err}
use Rattle.std.specs.Str.{bytes_eq}
use Rattle.soc_siglists.specs.declared.error.ListName.{ListName}
use Rattle.soc_siglists.specs.Lists.{ListTexts}
use Rattle.soc_siglists.specs.Reading.{first_bad, lists_in}
use Rattle.soc_symfile.specs.Path.{path_of}
use Rattle.soc_symfile.specs.Records.{Records, records_of}
use Rattle.soc_report.specs.declared.error.KitError.{KitError}
use Rattle.soc_report.specs.declared.error.KitError.TheVariants.{BadLine, BadPattern, MakerFault, TreeFault, Missing, NoMemory}
use Rattle.soc_report.specs.Texts.{SymbolText, KitTexts, name_of}

-- a symbol file's path and its records
pub record SymbolEntry : Type 0 where
  pub path : List ℕ
  pub records : Records

pub record KitEntry : Type 0 where
  pub lists : ListTexts
  pub symbols : List SymbolEntry

-- nothing where a line is bad
abbrev pub symbol_entry : SymbolText → Option SymbolEntry
symbol_entry symbol =
    option_map (λ records. record { path = symbol.path; records = records }) (result_ok (records_of symbol.content))

-- the kit of texts that aren't refused
abbrev pub kit_of : KitTexts → KitEntry
kit_of texts = record {
  lists = lists_in texts.irrelevant texts.prefix texts.sentinel;
  symbols = filter_map symbol_entry texts.symbols;
}

-- the symbols of a debug file with an id: those of the first symbol file whose path is theirs
abbrev pub symbols_in : KitEntry → List ℕ → List ℕ → Option Records
symbols_in kit debug_file debug_id =
    option_map (λ s. s.records) (find (λ s. bytes_eq s.path (path_of debug_file debug_id)) kit.symbols)

-- ---- the first text that is refused: the lists, and then the symbol files in order

abbrev pub bad_pattern : ListName × ℕ → KitError
bad_pattern bad = BadPattern bad.0 bad.1

abbrev pub bad_symbols : SymbolText → Option KitError
bad_symbols symbol = option_map (λ line. BadLine (name_of symbol.path) line) (result_err (records_of symbol.content))

abbrev pub first_bad_symbols : List SymbolText → Option KitError
first_bad_symbols [] = None
first_bad_symbols (symbol ∷ more) = option_or (bad_symbols symbol) (first_bad_symbols more)

abbrev pub refusal_of : KitTexts → Option KitError
refusal_of texts =
    option_or (option_map bad_pattern (first_bad texts.irrelevant texts.prefix texts.sentinel)) (first_bad_symbols texts.symbols)

-- the texts, none of which is refused, or the first refusal; what the maker's faults and want of memory answer says
-- nothing of the texts
abbrev pub IsKit : Result KitTexts KitError → KitTexts → Type 0
IsKit (Ok kit) texts = (refusal_of texts ≡ None) × (kit ≡ texts)
IsKit (Err MakerFault) texts = ⊤
IsKit (Err NoMemory) texts = ⊤
IsKit (Err TreeFault) texts = refusal_of texts ≡ Some TreeFault
IsKit (Err (Missing name)) texts = refusal_of texts ≡ Some (Missing name)
IsKit (Err (BadLine name line)) texts = refusal_of texts ≡ Some (BadLine name line)
IsKit (Err (BadPattern list line)) texts = refusal_of texts ≡ Some (BadPattern list line)
