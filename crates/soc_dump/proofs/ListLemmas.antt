-- A list, read entry by entry.
use Rattle.std.proofs.Common.{◌≡◌, ℕ, ◌+◌, ◌-◌, ◌*◌, ◌<◌, ◌≤◌, List, [], ◌∷◌, ◌++◌, length, take, drop, Option, None, refl, sym, ◌∙◌, ap, append_assoc, add-one, set, arith}
use Rattle.std.specs.Prelude.{map, flat_map}
use Rattle.std.proofs.lemmas.List.{append-nil, map-append, map-id, take_all, take_rest}
use Rattle.std.proofs.Math.Seq.{take-suc-set}
use Rattle.soc_dump.specs.declared.error.DumpError.{DumpError}
use Rattle.byteorder.specs.Endian.{little_number}
use Rattle.soc_dump.specs.Part.{places}
use Rattle.soc_dump.specs.Checks.{Check, first_refusal, IsRefusal}
use Rattle.soc_dump.specs.declared.system.System.{System}
use Rattle.soc_dump.specs.Entries.{ThreadEntry, ModuleEntry, MemoryEntry, ExceptionEntry}
use Rattle.soc_dump.specs.Dump.{Contents, entries_from}
use Rattle.soc_dump.proofs.CheckLemmas.{first_refusal-append_none, refused_first, refused_next}
use Rattle.soc_dump.proofs.DirectoryLemmas.{places-cons}

-- of all entries some were read as the items, with no refusal, and the rest are left
pub record Reading {I E X : Type 0} (view : X → E) (value : I → E) (checks : I → List Check) (all rest : List I) (items : List X) : Type 0 where
  pub checked : first_refusal (flat_map checks all) ≡ first_refusal (flat_map checks rest)
  pub read : map value all ≡ map view items ++ map value rest

pub reading_start : {I E X : Type 0} (view : X → E) (value : I → E) (checks : I → List Check) (all : List I) → Reading view value checks all all []
reading_start view value checks all = record { checked = refl; read = refl }

module _ {I E X : Type 0} (view : X → E) (value : I → E) (checks : I → List Check) (all rest : List I) (items : List X) (entry : I)
    (before : Reading view value checks all (entry ∷ rest) items) where
  pub reading_next : (item : X) → first_refusal (checks entry) ≡ None → view item ≡ value entry
      → Reading view value checks all rest (items ++ item ∷ [])
  reading_next item none is = record {
    checked = before.checked ∙ first_refusal-append_none (checks entry) (flat_map checks rest) none;
    read = before.read ∙ ap (λ e. map view items ++ (e ∷ map value rest)) (sym is)
        ∙ sym (append_assoc (map view items) (view item ∷ []) (map value rest))
        ∙ ap (λ es. es ++ map value rest) (sym (map-append view items (item ∷ [])));
  }

  pub reading_refused : (refusal : DumpError) → IsRefusal refusal (first_refusal (checks entry))
      → IsRefusal refusal (first_refusal (flat_map checks all))
  reading_refused refusal found = rw before.checked (refused_first refusal (checks entry) (flat_map checks rest) found)

-- the entries from an index on
pub entries_from-next : (file : List ℕ) (first size count index : ℕ) → index < count
    → entries_from file (first + index * size) size (count - index)
    ≡ drop (first + index * size) file ∷ entries_from file (first + (index + 1) * size) size (count - (index + 1))
entries_from-next file first size count index below =
    let some : 0 < count - index = omega arith in
    let next : (first + index * size) + size ≡ first + (index + 1) * size = omega arith in
    let fewer : (count - index) - 1 ≡ count - (index + 1) = omega arith in
    rw (places-cons (first + index * size) size (count - index) some, next, fewer) refl

-- one more entry of a list
module _ {E X : Type 0} (view : X → E) (value : List ℕ → E) (checks : List ℕ → List Check) (file : List ℕ) (first size count index : ℕ)
    (below : index < count) (items : List X)
    (before : Reading view value checks (entries_from file first size count) (entries_from file (first + index * size) size (count - index)) items) where
  reading_at : Reading view value checks (entries_from file first size count)
      (drop (first + index * size) file ∷ entries_from file (first + (index + 1) * size) size (count - (index + 1))) items
  reading_at = let next = entries_from-next file first size count index below in rw next at before

  pub entry_refused : (refusal : DumpError) → IsRefusal refusal (first_refusal (checks (drop (first + index * size) file)))
      → IsRefusal refusal (first_refusal (flat_map checks (entries_from file first size count)))
  entry_refused refusal found = reading_refused view value checks (entries_from file first size count)
      (entries_from file (first + (index + 1) * size) size (count - (index + 1))) items (drop (first + index * size) file) reading_at refusal found

  pub entry_read : (item : X) → (first_refusal (checks (drop (first + index * size) file)) ≡ None) × (view item ≡ value (drop (first + index * size) file))
      → Reading view value checks (entries_from file first size count) (entries_from file (first + (index + 1) * size) size (count - (index + 1))) (items ++ item ∷ [])
  entry_read item found = reading_next view value checks (entries_from file first size count)
      (entries_from file (first + (index + 1) * size) size (count - (index + 1))) items (drop (first + index * size) file) reading_at item found.0 found.1

-- a refusal among the entries is the list's, since its shape is right
pub list_refused : (shape : Check) (checks : List ℕ → List Check) (entries all : List (List ℕ)) (refusal : DumpError)
    → first_refusal (shape ∷ []) ≡ None → entries ≡ all → IsRefusal refusal (first_refusal (flat_map checks all))
    → IsRefusal refusal (first_refusal (shape ∷ flat_map checks entries))
list_refused shape checks entries all refusal right same found = rw same (refused_next refusal (shape ∷ []) (flat_map checks all) right found)

-- one more of some numbers that stand side by side
pub number_read : (bytes : List ℕ) (width first size count index at : ℕ) (items : List ℕ) (x : ℕ) → index < count → at ≡ first + index * size
    → Reading (λ unit. unit) (λ place. little_number width (drop place bytes)) (λ _. []) (places first size count) (places (first + index * size) size (count - index)) items
    → x ≡ little_number width (take (length bytes - at) (drop at bytes))
    → Reading (λ unit. unit) (λ place. little_number width (drop place bytes)) (λ _. []) (places first size count) (places (first + (index + 1) * size) size (count - (index + 1))) (items ++ x ∷ [])
number_read bytes width first size count index at items x below here before is =
    let some : 0 < count - index = omega arith in
    let next : (first + index * size) + size ≡ first + (index + 1) * size = omega arith in
    let fewer : (count - index) - 1 ≡ count - (index + 1) = omega arith in
    let cons = places-cons (first + index * size) size (count - index) some in
    let split = rw (next, fewer) at cons in
    let left = rw split at before in
    let value = rw (take_rest bytes at, here) at is in
    reading_next (λ unit. unit) (λ place. little_number width (drop place bytes)) (λ _. []) (places first size count)
    (places (first + (index + 1) * size) size (count - (index + 1))) items (first + index * size) left x refl value

-- all numbers are read
pub numbers_done : (bytes : List ℕ) (width first size count index : ℕ) (xs : List ℕ)
    → Reading (λ unit. unit) (λ place. little_number width (drop place bytes)) (λ _. []) (places first size count) (places (first + index * size) size (count - index)) (take index xs)
    → count ≤ index → length xs ≤ index → xs ≡ map (λ place. little_number width (drop place bytes)) (places first size count)
numbers_done bytes width first size count index xs before done long =
    let none : count - index ≡ 0 = omega arith in
    let left = rw none at before in
    let whole = take_all index xs long in
    let all : map (λ place. little_number width (drop place bytes)) (places first size count) ≡ map (λ unit. unit) (take index xs) ++ [] = left.read in
    sym (all ∙ append-nil (map (λ unit. unit) (take index xs)) ∙ map-id (take index xs) ∙ whole)

-- a number is written behind those that were read
pub number_set : (bytes : List ℕ) (width first size count index : ℕ) (xs : List ℕ) (x : ℕ) → index < length xs
    → Reading (λ unit. unit) (λ place. little_number width (drop place bytes)) (λ _. []) (places first size count) (places (first + (index + 1) * size) size (count - (index + 1))) (take index xs ++ x ∷ [])
    → Reading (λ unit. unit) (λ place. little_number width (drop place bytes)) (λ _. []) (places first size count) (places (first + (index + 1) * size) size (count - (index + 1))) (take (index + 1) (set xs index x))
number_set bytes width first size count index xs x below before =
    let written : take (index + 1) (set xs index x) ≡ take index xs ++ x ∷ [] = rw add-one (take-suc-set xs index x below) in
    rw written before

-- a dump's contents, part by part
pub contents_same : {threads threads' : List ThreadEntry} {modules modules' : List ModuleEntry} {memory memory' : List MemoryEntry}
    {exception exception' : Option ExceptionEntry} {system system' : Option System}
    → threads ≡ threads' → modules ≡ modules' → memory ≡ memory' → exception ≡ exception' → system ≡ system'
    → ◌≡◌ {A = Contents} (record { threads = threads; modules = modules; memory = memory; exception = exception; system = system })
    (record { threads = threads'; modules = modules'; memory = memory'; exception = exception'; system = system' })
contents_same a b c d e = cc
