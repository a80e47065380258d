-- Which file is refused, or that a key or the journal is, and the line that tells it: this project's profile.
use Rattle.std.specs.Prelude.{ℕ, List, [], ◌++◌, codes, decimal}
use Rattle.soc_edge.specs.declared.tree.TreeError.{TreeError}
use Rattle.soc_edge.specs.declared.tree.TreeError.TheVariants as tree
use Rattle.soc_siglists.specs.declared.error.ListName.{ListName}
use Rattle.soc_siglists.specs.declared.error.ListName.TheVariants.{Irrelevant, Prefix, Sentinel}
use Rattle.soc_report.specs.declared.error.KitError.{KitError}
use Rattle.soc_report.specs.declared.error.KitError.TheVariants as kit
use Rattle.soc_replay.specs.declared.refusal.FileRefusal.{FileRefusal}
use Rattle.soc_replay.specs.declared.refusal.FileRefusal.TheVariants.{SettingsNotToml, BadSetting, BadRule, TokensNotToml, BadToken, BadPattern, BadSymbols, Missing, UnknownKey, NotJournal, BadEntry, Altered}
use Rattle.soc_replay.specs.declared.refusal.FilesFault.{FilesFault}
use Rattle.soc_replay.specs.declared.refusal.FilesFault.TheVariants.{Refused, Tree, Maker, NoMemory}
use Rattle.soc_replay.specs.declared.settings.SettingsError.{SettingsError}
use Rattle.soc_replay.specs.declared.settings.SettingsError.TheVariants as settings
use Rattle.soc_replay.specs.declared.token_text.TokensError.{TokensError}
use Rattle.soc_replay.specs.declared.token_text.TokensError.TheVariants as tokens

abbrev pub of_tree : TreeError → FilesFault
of_tree tree.Failed = Tree
of_tree tree.NoMemory = NoMemory

abbrev pub of_settings : SettingsError → FilesFault
of_settings settings.NotToml = Refused SettingsNotToml
of_settings (settings.BadSetting key) = Refused (BadSetting key)
of_settings (settings.BadRule index) = Refused (BadRule index)
of_settings settings.NoMemory = NoMemory

abbrev pub of_tokens : TokensError → FilesFault
of_tokens tokens.NotToml = Refused TokensNotToml
of_tokens (tokens.BadToken index) = Refused (BadToken index)
of_tokens tokens.NoMemory = NoMemory

abbrev pub of_kit : KitError → FilesFault
of_kit (kit.BadLine name line) = Refused (BadSymbols name line)
of_kit (kit.BadPattern list line) = Refused (BadPattern list line)
of_kit (kit.Missing name) = Refused (Missing name)
of_kit kit.MakerFault = Maker
of_kit kit.TreeFault = Tree
of_kit kit.NoMemory = NoMemory

abbrev pub list_file : ListName → List ℕ
list_file Irrelevant = codes "irrelevant.txt"
list_file Prefix = codes "prefix.txt"
list_file Sentinel = codes "sentinel.txt"

-- a file is refused by a number, with a detail
abbrev pub line_of : List ℕ → List ℕ → List ℕ → List ℕ
line_of name number detail = codes "refused " ++ (name ++ (number ++ (detail ++ codes "\n")))

abbrev pub refusal_line : FileRefusal → List ℕ
refusal_line SettingsNotToml = line_of (codes "settings.toml") (codes ": 110") []
refusal_line (BadSetting key) = line_of (codes "settings.toml") (codes ": 111 ") key
refusal_line (BadRule index) = line_of (codes "settings.toml") (codes ": 20 ") (decimal index)
refusal_line TokensNotToml = line_of (codes "tokens.toml") (codes ": 110") []
refusal_line (BadToken index) = line_of (codes "tokens.toml") (codes ": 70 ") (decimal index)
refusal_line (BadPattern list line) = line_of (list_file list) (codes ": 60 ") (decimal line)
refusal_line (BadSymbols name line) = line_of name (codes ": 50 ") (decimal line)
refusal_line (Missing name) = line_of name (codes ": 72") []
refusal_line UnknownKey = line_of (codes "token") [] []
refusal_line NotJournal = line_of (codes "journal") (codes ": 30") []
refusal_line (BadEntry place) = line_of (codes "journal") (codes ": 33 ") (decimal place)
refusal_line (Altered id) = line_of (codes "journal") (codes ": 34 ") id
