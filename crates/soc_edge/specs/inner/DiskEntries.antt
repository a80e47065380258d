-- How a disk in memory keeps its log: entries, the first of them first, and the bytes of their writes one after another.
use Rattle.std.specs.Prelude.{ℕ, ◌+◌, ◌≤◌, List, [], ◌∷◌, take, drop, ⊤}
use Rattle.soc_edge.specs.declared.memory.disk.DiskStep.{DiskStep}
use Rattle.soc_edge.specs.declared.memory.disk.DiskStep.TheVariants.{Write, Sync}
use Rattle.soc_edge.specs.DiskLog.{Made, Wrote, Synced}

-- how many bytes the writes have
abbrev pub bytes_of : List DiskStep → ℕ
bytes_of [] = 0
bytes_of (Write place count ∷ entries) = count + bytes_of entries
bytes_of (Sync ∷ entries) = bytes_of entries

-- how many syncs there are
abbrev pub syncs_of : List DiskStep → ℕ
syncs_of [] = 0
syncs_of (Write place count ∷ entries) = syncs_of entries
syncs_of (Sync ∷ entries) = syncs_of entries + 1

-- each write ends within the room
abbrev pub AllEnd : ℕ → List DiskStep → Type 0
AllEnd room [] = ⊤
AllEnd room (Write place count ∷ entries) = (place + count ≤ room) × AllEnd room entries
AllEnd room (Sync ∷ entries) = AllEnd room entries

-- an entry, whose bytes stand first
abbrev pub made_by : DiskStep → List ℕ → Made
made_by (Write place count) bytes = Wrote place (take count bytes)
made_by Sync bytes = Synced

-- the bytes behind those of an entry
abbrev pub bytes_after : DiskStep → List ℕ → List ℕ
bytes_after (Write place count) bytes = drop count bytes
bytes_after Sync bytes = bytes

-- the log with these entries made after it
abbrev pub log_of : List Made → List DiskStep → List ℕ → List Made
log_of log [] bytes = log
log_of log (entry ∷ entries) bytes = log_of (made_by entry bytes ∷ log) entries (bytes_after entry bytes)
