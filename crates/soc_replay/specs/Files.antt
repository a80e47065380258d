-- What the files of a tree say of a run: this project's profile.
use Rattle.std.specs.Prelude.{◌≡◌, ℕ, nat_le, if◌then◌else◌, IfSome, IsOk, List, length, option_and_then, Option, None, Some, Ok, Err, Result, codes}
use Rattle.soc_report.specs.declared.error.KitError.{KitError}
use Rattle.soc_report.specs.Kits.{refusal_of}
use Rattle.soc_report.specs.Texts.{Files, KitTexts, missing_in, texts_in, text_at}
use Rattle.soc_replay.specs.declared.refusal.FileRefusal.TheVariants as F
use Rattle.soc_replay.specs.declared.refusal.FilesFault.{FilesFault}
use Rattle.soc_replay.specs.declared.refusal.FilesFault.TheVariants.{Refused}
use Rattle.soc_replay.specs.declared.setup.Setup.{Setup}
use Rattle.soc_replay.specs.Refusals.{of_kit}
use Rattle.soc_replay.specs.Setup.{setup_of}

-- settings and tokens, and the texts that reports are made with
pub record Said : Type 0 where
  pub setup : Setup
  pub texts : KitTexts

-- the most bytes of a file that is shown as it stands
abbrev pub most_shown : ℕ
most_shown = 65_536

-- such a file; one that is missing or too long counts as none
abbrev pub shown_at : Files → List ℕ → Option (List ℕ)
shown_at files name = option_and_then (λ bytes. if nat_le (length bytes) most_shown then Some bytes else None) (files name)

-- what settings and tokens say, with the service's own page and what tells which program answers
abbrev pub setup_in : Files → Result Setup FilesFault
setup_in files =
    setup_of (text_at files (codes "settings.toml")) (text_at files (codes "tokens.toml"))
    (shown_at files (codes "ui.html")) (shown_at files (codes "version.json"))

-- No file is missing, and neither settings nor tokens are refused: the lists are looked at, whose patterns are made.
abbrev pub ReachesLists : Files → Type 0
ReachesLists files = (missing_in files ≡ None) × IsOk (setup_in files)

-- the lists and the symbol files are looked at last
abbrev pub kit_says : Setup → KitTexts → Option KitError → Result Said FilesFault
kit_says setup texts None = Ok (record { setup = setup; texts = texts })
kit_says setup texts (Some error) = Err (of_kit error)

abbrev pub setup_says : KitTexts → Result Setup FilesFault → Result Said FilesFault
setup_says texts (Ok setup) = kit_says setup texts (refusal_of texts)
setup_says texts (Err fault) = Err fault

abbrev pub missing_says : Files → Option (List ℕ) → Result Said FilesFault
missing_says files None = setup_says (texts_in files) (setup_in files)
missing_says files (Some name) = Err (Refused (F.Missing name))

-- all files are read before any of them is looked at
abbrev pub files_say : Files → Result Said FilesFault
files_say files = missing_says files (missing_in files)

-- what the files of a tree say, where the tree tells them
abbrev pub Says : Option Files → Result Said FilesFault → Type 0
Says files said = IfSome files (λ told. files_say told ≡ said)
