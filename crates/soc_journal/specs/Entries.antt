-- Entries of a journal and their bytes: this project's profile.
use Rattle.std.specs.Prelude.{ℕ, ◌+◌, ◌≤◌, Bool, ◌||◌, ◌&&◌, not, ◌==◌, IsTrue, List, [], ◌∷◌, ◌++◌, length, flat_map, codes}
use Rattle.std.specs.Int.{to_le_bytes, w32}

-- the gate of an entry that counts; every other byte is a closed gate, and this is the one that is written
abbrev pub open_gate : ℕ
open_gate = 1

abbrev pub closed_gate : ℕ
closed_gate = 0

-- `1`, the version byte of a journal of the first version; every other byte is the second version, and `2` is written
abbrev pub first_version : ℕ
first_version = 49

abbrev pub second_version : ℕ
second_version = 50

-- `A`: the record of an accepted crash
abbrev pub accept_kind : ℕ
accept_kind = 65

-- `Q`: the id of a crash that was asked for
abbrev pub ask_kind : ℕ
ask_kind = 81

-- `W`: the id of a crash that was withdrawn
abbrev pub withdraw_kind : ℕ
withdraw_kind = 87

-- `R`: a report that was kept
abbrev pub report_kind : ℕ
report_kind = 82

-- the version has this kind of entry
abbrev pub has_kind : ℕ → ℕ → Bool
has_kind version kind =
    (kind == accept_kind || kind == ask_kind) || (not (version == first_version) && (kind == withdraw_kind || kind == report_kind))

-- where the version byte stands, behind `SOCJ000`
abbrev pub version_place : ℕ
version_place = 7

-- where the first gate stands, behind the version byte
abbrev pub first_gate : ℕ
first_gate = 8

-- how many bytes stand before an entry's body: its gate, its kind and the body's length
abbrev pub head_size : ℕ
head_size = 6

-- how many bytes an entry has beside its body as it is written: those, and the closed gate behind it
abbrev pub beside_body : ℕ
beside_body = 7

-- the most bytes that a body has
abbrev pub max_body : ℕ
max_body = 67_108_864

pub record Entry : Type 0 where
  pub kind : ℕ
  pub body : List ℕ

-- the version has such an entry
pub record IsEntryOf (version : ℕ) (entry : Entry) : Type 0 where
  pub known : IsTrue (has_kind version entry.kind)
  pub short : length entry.body ≤ max_body

-- an entry that counts: an open gate, the kind, the body's length in 4 bytes, and the body
unfoldable pub entry_text : Entry → List ℕ
entry_text entry = open_gate ∷ entry.kind ∷ (to_le_bytes w32 (length entry.body) ++ entry.body)

abbrev pub entries_text : List Entry → List ℕ
entries_text entries = flat_map entry_text entries

-- what a journal begins with
abbrev pub header : ℕ → List ℕ
header version = codes "SOCJ000" ++ version ∷ []

-- where the gate stands behind the header and these entries
abbrev pub place_behind : List Entry → ℕ
place_behind entries = first_gate + length (entries_text entries)

-- an entry as it is written: with the closed gate behind it
abbrev pub sealed : Entry → List ℕ
sealed entry = entry_text entry ++ closed_gate ∷ []

-- entries as they are written: one behind the other, with the closed gate behind the last
abbrev pub sealed_all : List Entry → List ℕ
sealed_all entries = entries_text entries ++ closed_gate ∷ []
