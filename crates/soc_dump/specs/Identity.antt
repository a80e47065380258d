-- How a module names its debug file: a code view record of a PDB file (`RSDS`), or an ELF build id.
use Rattle.std.specs.Prelude.{◌≡◌, ℕ, ◌<◌, ◌==◌, ◌&&◌, nat_le, Bool, if◌then◌else◌, List, [], ◌∷◌, ◌++◌, length, drop, map, slice_index, codes, true, Option, MatchOption}
use Rattle.std.specs.List.{before_first}
use Rattle.std.specs.Str.Lossy.{utf8_lossy}
use Rattle.std.specs.Fmt.{digits}
use Rattle.hex.specs.Hex.{encode_upper}
use Rattle.soc_text.specs.Paths.{base_name_of}
use Rattle.soc_dump.specs.Layout.{code_view_kind, code_view_id, pdb_kind, pdb_age, pdb_file, build_id_kind}
use Rattle.soc_dump.specs.Number.{number_of}
use Rattle.soc_dump.specs.Entries.{ModuleEntry}

abbrev pub is_pdb : List ℕ → Bool
is_pdb bytes = nat_le pdb_file (length bytes) && (number_of bytes code_view_kind == pdb_kind)

abbrev pub is_build_id : List ℕ → Bool
is_build_id bytes = nat_le code_view_id (length bytes) && (number_of bytes code_view_kind == build_id_kind)

-- a GUID prints as a number of four bytes and two of two bytes, each with its highest byte first, and eight bytes
abbrev pub guid_order : List ℕ
guid_order = 3 ∷ 2 ∷ 1 ∷ 0 ∷ 5 ∷ 4 ∷ 7 ∷ 6 ∷ 8 ∷ 9 ∷ 10 ∷ 11 ∷ 12 ∷ 13 ∷ 14 ∷ 15 ∷ []

-- bytes past the end count as zeros
unfoldable pub guid_bytes_of : List ℕ → List ℕ
guid_bytes_of guid = map (λ at. slice_index guid at) guid_order

abbrev pub guid_text : List ℕ → List ℕ
guid_text guid = encode_upper (guid_bytes_of guid)

-- the id of a PDB file: the GUID, and the age in hexadecimal
abbrev pub pdb_id_of : List ℕ → List ℕ
pdb_id_of bytes = guid_text (drop code_view_id bytes) ++ digits 16 true (number_of bytes pdb_age)

-- the first sixteen bytes of a build id as a GUID, and an age of 0
abbrev pub build_id_of : List ℕ → List ℕ
build_id_of bytes = guid_text (drop code_view_id bytes) ++ codes "0"

-- nothing for any other record
unfoldable pub debug_id_of : List ℕ → List ℕ
debug_id_of bytes = if is_pdb bytes then pdb_id_of bytes else if is_build_id bytes then build_id_of bytes else []

-- the path that the record of a PDB file names, up to a NUL or the end
abbrev pub pdb_path_of : List ℕ → List ℕ
pdb_path_of bytes = before_first (λ byte. byte == 0) (drop pdb_file bytes)

-- the file name of a PDB file's path, or the module's own name for a build id; nothing for any other record
unfoldable pub debug_file_of : ModuleEntry → List ℕ
debug_file_of loaded =
    if is_pdb loaded.code_view then utf8_lossy (base_name_of (pdb_path_of loaded.code_view))
    else if is_build_id loaded.code_view then loaded.name
    else []

-- this text, or none where it has more than so many bytes
abbrev pub IfShort : ℕ → List ℕ → Option (List ℕ) → Type 0
IfShort most text found = MatchOption found (most < length text) (λ name. name ≡ text)
