-- The first element that passes a test, by its place.
use Rattle.std.proofs.Common.{◌≡◌, ℕ, ◌+◌, ◌<◌, ◌≤◌, ◌==◌, Bool, true, false, cond, not, List, [], ◌∷◌, length, map, Option, Some, None, refl, sym, ◌∙◌, ap, arith}
use Rattle.std.specs.Prelude.{◌||◌, find, position, slice_get}
use Rattle.std.specs.List.{position_or_len}
use Rattle.std.specs.Option.{option_and_then}
use Rattle.std.proofs.lemmas.Bool.Decides.{nat_tests}
use Rattle.std.proofs.lemmas.List.{length-map}
use Rattle.std.proofs.lemmas.List.Folds.{find_at}
use Rattle.std.proofs.lemmas.Option.{slice_get_past}
use Rattle.soc_dump.specs.Entries.{ModuleEntry}
use Rattle.soc_dump.specs.Identity.{debug_file_of, debug_id_of}
use Rattle.soc_dump.specs.Memory.{holds_address}
use Rattle.soc_symfile.specs.Records.{Records}
use Rattle.soc_walk.specs.Process.{Kit, LoadedEntry, NoneLonger, holds, loaded_with, symbols_for}

module _ {A : Type 0} (test : A → Bool) (xs : List A) where
  pub find-at : (place : Option ℕ) → position test xs ≡ place → find test xs ≡ option_and_then (slice_get xs) place
  find-at None none =
      let out : length xs ≤ position_or_len test xs = grind (arith, nat_tests) in
      find_at test xs ∙ slice_get_past xs (position_or_len test xs) out
  find-at (Some i) found =
      let same : position_or_len test xs ≡ i = grind (arith, nat_tests) in
      find_at test xs ∙ ap (slice_get xs) same

module _ {X Y : Type 0} (f : X → Y) (p : Y → Bool) where
  position_or_len-map : (xs : List X) → position_or_len p (map f xs) ≡ position_or_len (λ x. p (f x)) xs
  position_or_len-map [] = refl
  position_or_len-map (x ∷ xs) = ap (λ n. cond (not (p (f x))) (1 + n) 0) (position_or_len-map xs)

  pub position-map : (xs : List X) → position p (map f xs) ≡ position (λ x. p (f x)) xs
  position-map xs = rw (position_or_len-map xs, length-map xs f) refl

-- a module stands among the modules where it stands among them with their symbols
pub found-in : (kit : Kit) (modules : List ModuleEntry) (loaded : List LoadedEntry) (address : ℕ) → loaded ≡ map (loaded_with kit) modules → position (holds_address address) modules ≡ position (holds address) loaded
found-in kit modules loaded address is =
    sym (ap (position (holds address)) is ∙ position-map (loaded_with kit) (holds address) modules)

either_none : (b : Bool) (o : Option Records) → o ≡ None → cond b None o ≡ None
either_none true o none = refl
either_none false o none = none

-- a debug file with a longer name than all that have symbols has none
pub longer_none : (kit : Kit) (entry : ModuleEntry) (most : ℕ) → NoneLonger kit most → most < length (debug_file_of entry) → symbols_for kit entry ≡ None
longer_none kit entry most none longer =
    either_none ((length (debug_file_of entry) == 0) || (length (debug_id_of entry.code_view) == 0)) _ (none (debug_file_of entry) (debug_id_of entry.code_view) longer)
