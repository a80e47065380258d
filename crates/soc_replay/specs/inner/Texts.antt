-- The texts of a run, as they were read from its files.
use Rattle.std.specs.Prelude.{◌≡◌, None, Some, codes, ⊤}
use Rattle.soc_report.specs.Texts.{Files, missing_in, texts_in, text_at}
use Rattle.soc_replay.specs.declared.refusal.FileRefusal.{FileRefusal}
use Rattle.soc_replay.specs.declared.refusal.FileRefusal.TheVariants as F
use Rattle.soc_replay.specs.declared.refusal.FilesFault.{FilesFault}
use Rattle.soc_replay.specs.declared.refusal.FilesFault.TheVariants.{Refused, Tree, Maker, NoMemory}
use Rattle.soc_replay.specs.declared.texts.Texts.{Texts}
use Rattle.soc_replay.specs.Files.{shown_at}

-- these are the files' bytes, and no file is missing
pub record AreTexts (files : Files) (texts : Texts) : Type 0 where
  pub settings : texts.settings ≡ text_at files (codes "settings.toml")
  pub tokens : texts.tokens ≡ text_at files (codes "tokens.toml")
  pub none_missing : missing_in files ≡ None
  pub kit : texts.kit ≡ texts_in files
  pub page : texts.page ≡ shown_at files (codes "ui.html")
  pub version : texts.version ≡ shown_at files (codes "version.json")

abbrev pub IsReadRefusal : Files → FileRefusal → Type 0
IsReadRefusal files (F.Missing name) = missing_in files ≡ Some name
IsReadRefusal files _ = ⊥

-- no pattern is made yet
abbrev pub IsOfReading : FilesFault → Type 0
IsOfReading Maker = ⊥
IsOfReading _ = ⊤

-- what comes while files are read: the first that is missing; faults of the tree and want of memory say nothing of them
abbrev pub IsReadFault : Files → FilesFault → Type 0
IsReadFault files (Refused refusal) = IsReadRefusal files refusal
IsReadFault files Tree = ⊤
IsReadFault files NoMemory = ⊤
IsReadFault files Maker = ⊥
