-- What stands for a module's debug file, by the kind of its record.
use Rattle.std.proofs.Common.{◌≡◌, ◌==◌, ℕ, ◌+◌, ◌-◌, ◌<◌, true, false, not, List, [], length, take, drop, refl, sym, ◌∙◌, ap, arith}
use Rattle.std.specs.List.{before_first, position_or_len, suffix_len}
use Rattle.std.specs.Str.Lossy.{utf8_lossy}
use Rattle.std.proofs.lemmas.List.{take_all}
use Rattle.std.proofs.lemmas.List.Sums.{position_or_len_is, suffix_len_is}
use Rattle.memchr.specs.Find.{Passes, Nowhere, NoneBefore, NoneAfter, is_byte, is_byte2}
use Rattle.soc_base.proofs.Folk.{not_true}
use Rattle.soc_dump.specs.Entries.{ModuleEntry}
use Rattle.soc_dump.specs.Identity.{is_pdb, is_build_id, pdb_id_of, build_id_of, pdb_path_of, debug_id_of, debug_file_of}
use Rattle.soc_text.specs.Paths.{base_name_of, is_separator}

module _ (bytes : List ℕ) where
  pub debug_id_of-pdb : is_pdb bytes ≡ true → debug_id_of bytes ≡ pdb_id_of bytes
  unfolding debug_id_of
  debug_id_of-pdb pdb = rw pdb refl

  pub debug_id_of-build : is_pdb bytes ≡ false → is_build_id bytes ≡ true → debug_id_of bytes ≡ build_id_of bytes
  unfolding debug_id_of
  debug_id_of-build pdb build = rw (pdb, build) refl

  pub debug_id_of-other : is_pdb bytes ≡ false → is_build_id bytes ≡ false → debug_id_of bytes ≡ []
  unfolding debug_id_of
  debug_id_of-other pdb build = rw (pdb, build) refl

module _ (loaded : ModuleEntry) where
  pub debug_file_of-pdb : is_pdb loaded.code_view ≡ true → debug_file_of loaded ≡ utf8_lossy (base_name_of (pdb_path_of loaded.code_view))
  unfolding debug_file_of
  debug_file_of-pdb pdb = rw pdb refl

  pub debug_file_of-build : is_pdb loaded.code_view ≡ false → is_build_id loaded.code_view ≡ true → debug_file_of loaded ≡ loaded.name
  unfolding debug_file_of
  debug_file_of-build pdb build = rw (pdb, build) refl

  pub debug_file_of-other : is_pdb loaded.code_view ≡ false → is_build_id loaded.code_view ≡ false → debug_file_of loaded ≡ []
  unfolding debug_file_of
  debug_file_of-other pdb build = rw (pdb, build) refl

-- what stands before a NUL that was found, and all where none was
module _ (bytes : List ℕ) where
  pub before_nul-some : (end : ℕ) → NoneBefore (Passes (is_byte 0) bytes) 0 (length bytes) end × Passes (is_byte 0) bytes end
      → take end bytes ≡ before_first (λ byte. byte == 0) bytes
  before_nul-some end found =
      let inside : end < length bytes = found.0.high in
      let place : position_or_len (λ byte. byte == 0) bytes ≡ end =
      position_or_len_is (λ byte. byte == 0) bytes end 0 (omega arith) (λ k below. not_true _ (found.0.before k (omega arith) below)) (λ _. found.1) in
      ap (λ n. take n bytes) (sym place)

  pub before_nul-none : Nowhere (Passes (is_byte 0) bytes) 0 (length bytes) → bytes ≡ before_first (λ byte. byte == 0) bytes
  before_nul-none none =
      let place : position_or_len (λ byte. byte == 0) bytes ≡ length bytes =
      position_or_len_is (λ byte. byte == 0) bytes (length bytes) 0 (omega arith) (λ k below. not_true _ (none k (omega arith) below)) (λ within. absurd (omega arith)) in
      sym (ap (λ n. take n bytes) place ∙ take_all (length bytes) bytes (omega arith))

-- the file name behind the last separator of a path, and all where it has none
module _ (path : List ℕ) where
  pub name-some : (place : ℕ) → NoneAfter (Passes (is_byte2 47 92) path) 0 (length path) place × Passes (is_byte2 47 92) path place
      → drop (place + 1) path ≡ base_name_of path
  name-some place found =
      let inside : place < length path = found.0.high in
      let last : place + 1 - 1 ≡ place = omega arith in
      let behind : suffix_len (λ byte. not (is_separator byte)) path ≡ length path - (place + 1) =
      suffix_len_is (λ byte. not (is_separator byte)) path (place + 1) 0 (omega arith) (λ k above below. ap not (not_true _ (found.0.after k above below)))
      (λ _. rw last (ap not found.1)) in
      ap (λ n. drop n path) {x = place + 1} {y = length path - suffix_len (λ byte. not (is_separator byte)) path} (omega (arith, behind))

  pub name-none : Nowhere (Passes (is_byte2 47 92) path) 0 (length path) → path ≡ base_name_of path
  name-none none =
      let behind : suffix_len (λ byte. not (is_separator byte)) path ≡ length path - 0 =
      suffix_len_is (λ byte. not (is_separator byte)) path 0 0 (omega arith) (λ k above below. ap not (not_true _ (none k above below))) (λ some. absurd (omega (arith, some))) in
      ap (λ n. drop n path) {x = 0} {y = length path - suffix_len (λ byte. not (is_separator byte)) path} (omega (arith, behind))
