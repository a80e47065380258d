-- Files that give nothing to go by.
use Rattle.std.specs.Prelude.{◌≡◌, Err, ⊤}
use Rattle.soc_report.specs.Texts.{Files}
use Rattle.soc_replay.specs.declared.refusal.FilesFault.{FilesFault}
use Rattle.soc_replay.specs.declared.refusal.FilesFault.TheVariants.{Refused, Tree, Maker, NoMemory}
use Rattle.soc_replay.specs.Files.{ReachesLists, files_say}

-- a refusal is what the files say, and the maker is asked once the lists are reached; faults of the tree and want of memory
-- say nothing of the files
abbrev pub IsFilesFault : Files → FilesFault → Type 0
IsFilesFault files (Refused refusal) = files_say files ≡ Err (Refused refusal)
IsFilesFault files Tree = ⊤
IsFilesFault files Maker = ReachesLists files
IsFilesFault files NoMemory = ⊤
