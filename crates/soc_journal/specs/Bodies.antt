-- What is read of the entries of a journal.
use Rattle.std.specs.Prelude.{◌≡◌, ℕ, ◌+◌, ◌-◌, ◌<◌, ◌≤◌, max, Result, Ok, Err, List, length, take, drop, ⊤}
use Rattle.soc_edge.specs.Disk.{written, Tears}
use Rattle.soc_journal.specs.Entries.{Entry, IsEntryOf, first_gate, second_version, entry_text}
use Rattle.soc_journal.specs.Text.{version_of, StandsAt}
use Rattle.soc_journal.specs.declared.error.ReadError.{ReadError}
use Rattle.soc_journal.specs.declared.error.ReadError.TheVariants.{StoreFault, Altered, NoMemory}

-- an entry that ends at or before the gate stands at this place
pub record StandsBefore (bytes : List ℕ) (place gate : ℕ) (entry : Entry) : Type 0 where
  pub legal : IsEntryOf second_version entry
  pub stands : StandsAt bytes place entry
  pub ends : place + length (entry_text entry) ≤ gate

-- the bytes from this place on begin with the text
abbrev pub ReadsFrom : List ℕ → ℕ → List ℕ → Type 0
ReadsFrom bytes place text = take (length text) (drop place bytes) ≡ text

-- how many bytes of a text are compared at once: 64 KiB
abbrev pub piece_size : ℕ
piece_size = 65_536

-- what a disk gives of a body of so many bytes at a place: all of them, or fewer
abbrev pub GivesBody : List ℕ → ℕ → ℕ → Result (List ℕ) ReadError → Type 0
GivesBody bytes place count (Ok body) = (count ≤ length bytes - place) × (body ≡ take count (drop place bytes))
GivesBody bytes place count (Err Altered) = length bytes - place < count
GivesBody bytes place count (Err StoreFault) = ⊤
GivesBody bytes place count (Err NoMemory) = ⊤

-- ---- laws

-- a write at the gate, whole or torn, leaves the entries before the gate and the version byte, and a whole one gives the
-- disk's length
pub record IsApart : Type 0 where
  pub entries : (bytes after : List ℕ) (place gate count : ℕ) (entry : Entry) → Tears gate count bytes after
      → StandsBefore bytes place gate entry → StandsBefore after place gate entry
  pub version : (bytes after : List ℕ) (gate count : ℕ) → first_gate ≤ gate → first_gate ≤ length bytes → Tears gate count bytes after
      → version_of after ≡ version_of bytes
  pub whole : (bytes piece : List ℕ) (gate : ℕ) → Tears gate (length piece) bytes (written bytes gate piece)
  pub size : (bytes piece : List ℕ) (gate : ℕ) → gate ≤ length bytes → length (written bytes gate piece) ≡ max (length bytes) (gate + length piece)
