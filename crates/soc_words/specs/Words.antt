-- What the words of a command line say: a command, and options as clap's simple commands read them. Which commands and options
-- there are is this project's profile.
use Rattle.std.specs.Prelude.{ℕ, ◌≤◌, true, ◌&&◌, if◌then◌else◌, List, [], ◌∷◌, find, length, nat_le, nat_lt, Option, None, Some, codes, option_and_then, option_map, unwrap_or}
use Rattle.std.specs.Char.{is_digit}
use Rattle.std.specs.List.{list_all}
use Rattle.std.specs.Option.{option_map_or}
use Rattle.std.specs.Str.{bytes_eq}
use Rattle.std.specs.Str.Parse.{digits_value}
use Rattle.clap.specs.Walk.{Row, Rule}
use Rattle.clap.specs.Words.{App, Kinds, Shape, fault_of, first_of, matches_of, new_rule, with_rule}
use Rattle.clap.specs.Simple.{new_shape}
use Rattle.clap.specs.declared.builder.action.ArgAction.TheVariants.{Set}
use Rattle.soc_words.specs.declared.words.Task.{Task}
use Rattle.soc_words.specs.declared.words.Task.TheVariants.{Check, Make, Replay, Serve, Storm, Export}
use Rattle.soc_words.specs.declared.words.Numbers.{Numbers}
use Rattle.soc_words.specs.declared.words.Words.{Words}

-- ---- commands and their options

abbrev pub tasks : List Task
tasks = Check ∷ Make ∷ Replay ∷ Serve ∷ Storm ∷ Export ∷ []

abbrev pub name_of : Task → List ℕ
name_of Check = codes "check"
name_of Make = codes "make"
name_of Replay = codes "replay"
name_of Serve = codes "serve"
name_of Storm = codes "storm"
name_of Export = codes "export"

abbrev pub options_of : Task → List (List ℕ)
options_of Check = codes "journal" ∷ []
options_of Make = codes "seed" ∷ codes "count" ∷ []
options_of Replay = codes "journal" ∷ codes "tree" ∷ []
options_of Serve = codes "journal" ∷ codes "tree" ∷ codes "listen" ∷ codes "collectors" ∷ codes "processors" ∷ []
options_of Storm = codes "seed" ∷ codes "count" ∷ codes "collectors" ∷ codes "processors" ∷ []
options_of Export = codes "journal" ∷ codes "tree" ∷ []

-- an option that holds a text, and one that holds a number in a range
pub record TextOption : Type 0 where
  pub name : List ℕ
  pub default : List ℕ

pub record NumberOption : Type 0 where
  pub name : List ℕ
  pub least : ℕ
  pub most : ℕ
  pub default : ℕ

abbrev pub journal : TextOption
journal = record { name = codes "journal"; default = codes "journal.soc" }

abbrev pub tree : TextOption
tree = record { name = codes "tree"; default = codes "." }

abbrev pub listen : TextOption
listen = record { name = codes "listen"; default = codes "127.0.0.1:8000" }

-- any number of 18 digits
abbrev pub seed : NumberOption
seed = record { name = codes "seed"; least = 0; most = 999_999_999_999_999_999; default = 1 }

abbrev pub count : NumberOption
count = record { name = codes "count"; least = 1; most = 65536; default = 1 }

abbrev pub collectors : NumberOption
collectors = record { name = codes "collectors"; least = 1; most = 8; default = 2 }

abbrev pub processors : NumberOption
processors = record { name = codes "processors"; least = 1; most = 8; default = 2 }

-- ---- how the words behind the command are read

-- an option `--name`, with one value
abbrev pub option_rule : List ℕ → Rule
option_rule name = record (new_rule name) { long = Some name; action = Some Set }

-- no flag for help or the version, and no program's name before the words
abbrev pub bare_shape : List ℕ → Shape
bare_shape name = record (new_shape name) { no_binary_name = true; disable_help_flag = true; disable_version_flag = true }

abbrev pub bare_app : List ℕ → App
bare_app name = record { top = bare_shape name; subs = [] }

abbrev pub with_options : App → List (List ℕ) → App
with_options app [] = app
with_options app (name ∷ names) = with_options (with_rule app (option_rule name)) names

unfoldable pub app_for : Task → App
app_for task = with_options (bare_app (name_of task)) (options_of task)

-- ---- what they say

-- the number that 1 to 18 digits write
abbrev pub number_of : List ℕ → Option ℕ
number_of text =
    if nat_lt 0 (length text) && nat_lt (length text) 19 && list_all (λ c. is_digit c 10) text then Some (digits_value 10 text) else None

-- the same of a number in a range
abbrev pub number_between : ℕ → ℕ → List ℕ → Option ℕ
number_between least most text = option_and_then (λ n. if nat_le least n && nat_le n most then Some n else None) (number_of text)

-- what the option holds: its value, or its default where it isn't given
abbrev pub text_in : TextOption → List Row → List ℕ
text_in option rows = unwrap_or (first_of option.name rows) option.default

-- the same of a number; nothing where its text is none or it is out of its range
abbrev pub number_in : NumberOption → List Row → Option ℕ
number_in option rows = option_map_or (number_between option.least option.most) (first_of option.name rows) (Some option.default)

abbrev pub words_with : Task → List Row → Numbers → Words
words_with task rows numbers = record {
  command = task;
  journal = text_in journal rows;
  tree = text_in tree rows;
  listen = text_in listen rows;
  seed = numbers.seed;
  count = numbers.count;
  collectors = numbers.collectors;
  processors = numbers.processors;
}

-- all four, where each has its form and range
abbrev pub numbers_in : List Row → Option Numbers
numbers_in rows =
    option_and_then (λ s. option_and_then (λ n. option_and_then (λ c. option_map (λ p. record { seed = s; count = n; collectors = c; processors = p })
    (number_in processors rows)) (number_in collectors rows)) (number_in count rows)) (number_in seed rows)

abbrev pub words_in : Task → List Row → Option Words
words_in task rows = option_map (words_with task rows) (numbers_in rows)

-- where clap finds no fault
abbrev pub where_faultless : Kinds → Option Words → Option Words
where_faultless [] said = said
where_faultless (kind ∷ kinds) said = None

abbrev pub words_for : List (List ℕ) → Task → Option Words
words_for rest task = where_faultless (fault_of (app_for task) rest) (words_in task (matches_of (app_for task) rest))

abbrev pub task_named : List ℕ → Option Task
task_named name = find (λ task. bytes_eq (name_of task) name) tasks

-- what the words say, where they are the program's
unfoldable pub words_of : List (List ℕ) → Option Words
words_of [] = None
words_of (first ∷ rest) = option_and_then (words_for rest) (task_named first)

-- ---- ranges

-- a number from `least` to `most`
pub record IsWithin (least most n : ℕ) : Type 0 where
  pub at_least : least ≤ n
  pub at_most : n ≤ most

-- each of the four numbers is in the range of its option
pub record AreInRanges (s n c p : ℕ) : Type 0 where
  pub of_seed : IsWithin seed.least seed.most s
  pub of_count : IsWithin count.least count.most n
  pub of_collectors : IsWithin collectors.least collectors.most c
  pub of_processors : IsWithin processors.least processors.most p

abbrev pub LieInRanges : Words → Type 0
LieInRanges said = AreInRanges said.seed said.count said.collectors said.processors
