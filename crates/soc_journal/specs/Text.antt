-- The text of a journal, the entries that it stands for, and the first place where it stands for none: this project's
-- profile.
use Rattle.std.specs.Prelude.{◌≡◌, ◌≢◌, ℕ, ◌⊎◌, List, [], ◌∷◌, ◌++◌, length, slice_index}
use Rattle.std.specs.List.{AllByRecursion}
use Rattle.soc_journal.specs.Entries.{Entry, IsEntryOf, open_gate, closed_gate, second_version, version_place, header, entry_text, entries_text, place_behind}

-- the byte behind `SOCJ000`
abbrev pub version_of : List ℕ → ℕ
version_of bytes = slice_index bytes version_place

-- the bytes are the header, these entries, each of a kind that the version has, and the rest
pub record Begins (entries : List Entry) (rest bytes : List ℕ) : Type 0 where
  pub whole : bytes ≡ header (version_of bytes) ++ (entries_text entries ++ rest)
  pub legal : AllByRecursion (IsEntryOf (version_of bytes)) entries

-- the bytes are the header, these entries, one closed gate, and anything
pub record JournalText (entries : List Entry) (bytes : List ℕ) : Type 0 where
  pub gate : ℕ
  pub rest : List ℕ
  pub begins : Begins entries (gate ∷ rest) bytes
  pub closed : gate ≢ open_gate

-- behind some entries, at this place, stands neither one more entry nor a closed gate
pub record FirstBad (bytes : List ℕ) (place : ℕ) : Type 0 where
  pub entries : List Entry
  pub rest : List ℕ
  pub begins : Begins entries rest bytes
  pub behind : place ≡ place_behind entries
  pub no_entry : (entry : Entry) (more : List ℕ) → IsEntryOf (version_of bytes) entry → rest ≢ entry_text entry ++ more
  pub no_gate : (gate : ℕ) (more : List ℕ) → gate ≢ open_gate → rest ≢ gate ∷ more

-- the bytes begin with `SOCJ000` and a version byte
pub record HasHeader (bytes : List ℕ) : Type 0 where
  pub rest : List ℕ
  pub whole : bytes ≡ header (version_of bytes) ++ rest

-- a journal without entries, as it is written
abbrev pub empty_journal : List ℕ
empty_journal = header second_version ++ closed_gate ∷ []

-- the entry stands at this place of the bytes
pub record StandsAt (bytes : List ℕ) (place : ℕ) (entry : Entry) : Type 0 where
  pub front : List ℕ
  pub rest : List ℕ
  pub whole : bytes ≡ front ++ (entry_text entry ++ rest)
  pub before : length front ≡ place

-- the bytes are a journal of these entries, or of these and all of some more
abbrev pub EitherText : List Entry → List Entry → List ℕ → Type 0
EitherText entries more bytes = JournalText entries bytes ⊎ JournalText (entries ++ more) bytes

-- ---- laws

-- at most one list of entries fits given bytes
abbrev pub IsOneText : Type 0
IsOneText = (bytes : List ℕ) (entries others : List Entry) → JournalText entries bytes → JournalText others bytes → entries ≡ others

-- a journal has no bad place, and bytes have one first bad place at most
pub record IsOneFault : Type 0 where
  pub no_text : (bytes : List ℕ) (place : ℕ) (entries : List Entry) → FirstBad bytes place → ¬ (JournalText entries bytes)
  pub one : (bytes : List ℕ) (place other : ℕ) → FirstBad bytes place → FirstBad bytes other → place ≡ other

-- an entry of a journal stands behind those before it, and no other entry stands there
pub record IsOneEntry : Type 0 where
  pub stands : (bytes : List ℕ) (front back : List Entry) (entry : Entry)
      → JournalText (front ++ entry ∷ back) bytes → StandsAt bytes (place_behind front) entry
  pub one : (bytes : List ℕ) (version place : ℕ) (entry other : Entry)
      → IsEntryOf version entry → IsEntryOf version other → StandsAt bytes place entry → StandsAt bytes place other → entry ≡ other
