-- What a walk sees of a process: its modules with their symbols, and its memory.
use Rattle.std.specs.Prelude.{◌≡◌, ℕ, ◌<◌, ◌-◌, ◌==◌, ◌&&◌, ◌||◌, nat_lt, Bool, true, false, if◌then◌else◌, List, length, map, find, Option, None, Some, is_some}
use Rattle.std.specs.Option.{option_map_or}
use Rattle.soc_cfi.specs.Rules.{Rule, rules_at}
use Rattle.soc_dump.specs.Dump.{Contents}
use Rattle.soc_dump.specs.Entries.{MemoryEntry, ModuleEntry}
use Rattle.soc_dump.specs.Identity.{debug_file_of, debug_id_of}
use Rattle.soc_dump.specs.Memory.{holds_address, regions_of, word_in}
use Rattle.soc_base.specs.Options.{◌>>=◌}
use Rattle.soc_symfile.specs.Records.{Records}
use Rattle.soc_symfile.specs.Found.{is_in_function, start_of}
use Rattle.soc_symfile.specs.Cfi.{span_at}
use Rattle.soc_step.specs.Machine.{bytes_of}
use Rattle.soc_step.specs.Surroundings.{Surroundings, surroundings}
use Rattle.soc_arm64.specs.Step as arm
use Rattle.soc_walk.specs.Architecture.{machine_for}
use Rattle.soc_walk.specs.declared.architecture.Architecture.{Architecture}
use Rattle.soc_walk.specs.declared.architecture.Architecture.TheVariants.{X86, Amd64, Arm64}

-- the symbols of a module, by its debug file and its debug id
abbrev pub Kit : Type 0
Kit = List ℕ → List ℕ → Option Records

-- no debug file has symbols whose name has more bytes
abbrev pub NoneLonger : Kit → ℕ → Type 0
NoneLonger kit most = (file id : List ℕ) → most < length file → kit file id ≡ None

-- a module and its symbols, where it has some
pub record LoadedEntry : Type 0 where
  pub entry : ModuleEntry
  pub symbols : Option Records

pub record ProcessEntry : Type 0 where
  pub architecture : Architecture
  pub loaded : List LoadedEntry
  pub regions : List MemoryEntry

-- a module without a debug file or without a debug id has no symbols
abbrev pub symbols_for : Kit → ModuleEntry → Option Records
symbols_for kit entry =
    let file = debug_file_of entry in let id = debug_id_of entry.code_view in
    if (length file == 0) || (length id == 0) then None else kit file id

abbrev pub loaded_with : Kit → ModuleEntry → LoadedEntry
loaded_with kit entry = record { entry = entry; symbols = symbols_for kit entry }

abbrev pub process_of : Kit → Contents → Architecture → ProcessEntry
process_of kit dump architecture = record { architecture = architecture; loaded = map (loaded_with kit) dump.modules; regions = regions_of dump }

-- the first module that holds an address
abbrev pub holds : ℕ → LoadedEntry → Bool
holds address loaded = holds_address address loaded.entry

abbrev pub loaded_at : ProcessEntry → ℕ → Option LoadedEntry
loaded_at process address = find (holds address) process.loaded

abbrev pub is_in_module : ProcessEntry → ℕ → Bool
is_in_module process address = is_some (loaded_at process address)

-- how far an offset in the module that holds an address lies behind the begin of what the module's symbols name there
abbrev pub into_function : ProcessEntry → ℕ → ℕ → Option ℕ
into_function process address offset = do
  loaded ← loaded_at process address
  records ← loaded.symbols
  start ← start_of records offset
  Some (offset - start)

-- whether an address of a module can be code: with symbols, where a function covers it
abbrev pub is_code : ℕ → LoadedEntry → Bool
is_code address loaded = option_map_or (λ records. is_in_function records (address - loaded.entry.base)) loaded.symbols true

abbrev pub is_in_code : ProcessEntry → ℕ → Bool
is_in_code process address = option_map_or (is_code address) (loaded_at process address) false

-- a word that counts as a return address for the module that holds it: with symbols, where it lies above the module's
-- base and a function covers the address before it
abbrev pub returns_into : ℕ → LoadedEntry → Bool
returns_into word loaded =
    option_map_or (λ records. nat_lt loaded.entry.base word && is_in_function records (word - 1 - loaded.entry.base)) loaded.symbols true

abbrev pub returns_into_module : ProcessEntry → ℕ → Bool
returns_into_module process word = option_map_or (returns_into word) (loaded_at process word) false

-- ARM64 asks for the module that holds the address before the word, the others for the one that holds the word
abbrev pub takes_on : Architecture → ProcessEntry → ℕ → Bool
takes_on X86 process word = returns_into_module process word
takes_on Amd64 process word = returns_into_module process word
takes_on Arm64 process word = arm.takes (is_in_module process) (is_in_code process) word

abbrev pub rules_in : ProcessEntry → ℕ → Option (List Rule)
rules_in process address = do
  loaded ← loaded_at process address
  records ← loaded.symbols
  span ← span_at records (address - loaded.entry.base)
  Some (rules_at span (address - loaded.entry.base))

-- a walk asks for words of the architecture's width alone
abbrev pub word_at : ProcessEntry → ℕ → ℕ → Option ℕ
word_at process address width =
    if width == bytes_of (machine_for process.architecture).width then word_in process.regions address width else None

abbrev pub surroundings_of : ProcessEntry → Surroundings
surroundings_of process = surroundings (word_at process) (is_in_module process) (takes_on process.architecture process) (rules_in process)
