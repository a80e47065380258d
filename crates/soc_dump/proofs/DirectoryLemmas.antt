-- The directory, read entry by entry.
use Rattle.std.proofs.Common.{◌≡◌, ℕ, zero, suc, ◌+◌, ◌-◌, ◌*◌, ◌<◌, ◌==◌, Bool, true, false, rules, List, [], ◌∷◌, ◌++◌, None, Some, refl, sym, ◌∙◌, append_assoc, arith, subst}
use Rattle.std.specs.Prelude.{All, IsTrue, find, cond}
use Rattle.soc_dump.specs.declared.directory.Stream.{Stream}
use Rattle.soc_dump.specs.declared.error.DumpError.{DumpError}
use Rattle.soc_dump.specs.Part.{places, is_inside}
use Rattle.soc_dump.specs.Checks.{first_refusal, IsRefusal}
use Rattle.soc_dump.specs.Directory.{stream_at, is_used, directory_checks, streams_named, stream_checks, stream_of, AllInside}
use Rattle.std.proofs.lemmas.List.Elements.{All-append}
use Rattle.soc_dump.proofs.CheckLemmas.{first_refusal-append_none, refused_first}

-- the places of n entries, the first of them apart
pub places-cons : (first size count : ℕ) → 0 < count → places first size count ≡ first ∷ places (first + size) size (count - 1)
places-cons first size zero some = absurd (omega arith)
places-cons first size (suc count) some = let same : suc count - 1 ≡ count = omega arith in rw same refl

module _ (file : List ℕ) (place count : ℕ) (some : 0 < count) where
  streams_named-used : is_used (stream_at file place) ≡ true
      → streams_named file place count ≡ stream_at file place ∷ streams_named file (place + 12) (count - 1)
  streams_named-used used = rw (places-cons place 12 count some, used) refl

  streams_named-unused : is_used (stream_at file place) ≡ false
      → streams_named file place count ≡ streams_named file (place + 12) (count - 1)
  streams_named-unused unused = rw (places-cons place 12 count some, unused) refl

All-one : {X : Type 0} (P : X → Type 0) (x : X) → P x → All P (x ∷ [])
All-one P x holds zero d below = holds
All-one P x holds (suc k) d below = absurd (omega arith)

-- some streams were kept, and some are left
pub record Browsed (file : List ℕ) (all kept rest : List Stream) : Type 0 where
  pub checked : first_refusal (directory_checks file [] all) ≡ first_refusal (directory_checks file kept rest)
  pub whole : all ≡ kept ++ rest
  pub within : AllInside file kept

pub browsed_start : (file : List ℕ) (all : List Stream) → Browsed file all [] all
browsed_start file all = record { checked = refl; whole = refl; within = search rules }

module _ (file : List ℕ) (all kept rest : List Stream) (stream : Stream) (before : Browsed file all kept (stream ∷ rest)) where
  pub browsed_refused : (refusal : DumpError) → IsRefusal refusal (first_refusal (stream_checks file kept stream))
      → IsRefusal refusal (first_refusal (directory_checks file [] all))
  browsed_refused refusal is = rw before.checked (refused_first refusal (stream_checks file kept stream) (directory_checks file (kept ++ stream ∷ []) rest) is)

  pub browsed_next : first_refusal (stream_checks file kept stream) ≡ None → IsTrue (is_inside file stream.place stream.size)
      → Browsed file all (kept ++ stream ∷ []) rest
  browsed_next none lies = record {
    checked = before.checked ∙ first_refusal-append_none (stream_checks file kept stream) _ none;
    whole = before.whole ∙ sym (append_assoc kept (stream ∷ []) rest);
    within = All-append (λ s. IsTrue (is_inside file s.place s.size)) kept (stream ∷ []) before.within (All-one (λ s. IsTrue (is_inside file s.place s.size)) stream lies);
  }

-- one more entry of a directory
module _ (file : List ℕ) (all kept : List Stream) (place count index : ℕ) (below : index < count)
    (before : Browsed file all kept (streams_named file (place + index * 12) (count - index)))
    (stream : Stream) (is : stream ≡ stream_at file (place + index * 12)) where
  left : ℕ
  left = count - index

  next_place : (place + index * 12) + 12 ≡ place + (index + 1) * 12
  next_place = omega arith

  fewer : (count - index) - 1 ≡ count - (index + 1)
  fewer = omega arith

  some_left : 0 < count - index
  some_left = omega arith

  browsed_at : is_used stream ≡ true → Browsed file all kept (stream ∷ streams_named file (place + (index + 1) * 12) (count - (index + 1)))
  browsed_at used =
      let here = rw is at used in
      let named = streams_named-used file (place + index * 12) (count - index) some_left here in
      let next = rw (next_place, fewer, ← is) at named in
      rw next at before

  pub entry_unused : is_used stream ≡ false → Browsed file all kept (streams_named file (place + (index + 1) * 12) (count - (index + 1)))
  entry_unused unused =
      let here = rw is at unused in
      let named = streams_named-unused file (place + index * 12) (count - index) some_left here in
      let next = rw (next_place, fewer) at named in
      rw next at before

  pub entry_refused : is_used stream ≡ true → (refusal : DumpError) → IsRefusal refusal (first_refusal (stream_checks file kept stream))
      → IsRefusal refusal (first_refusal (directory_checks file [] all))
  entry_refused used refusal found = browsed_refused file all kept _ stream (browsed_at used) refusal found

  pub entry_kept : is_used stream ≡ true → (first_refusal (stream_checks file kept stream) ≡ None) × IsTrue (is_inside file stream.place stream.size)
      → Browsed file all (kept ++ stream ∷ []) (streams_named file (place + (index + 1) * 12) (count - (index + 1)))
  entry_kept used found = browsed_next file all kept _ stream (browsed_at used) found.0 found.1

-- what holds of each holds of the one that is found
pub find-holds : {X : Type 0} (P : X → Type 0) (test : X → Bool) (xs : List X) (x : X) → All P xs → Some x ≡ find test xs → P x
find-holds P test [] x all found = absurd (cc)
find-holds P test (y ∷ ys) x all found =
    let first : P y = all 0 y (omega arith) in
    let rest : All P ys = λ k d below. all (suc k) d (omega arith) in
    elim (test y) as (λ here. Some x ≡ cond here (Some y) (find test ys) → P x) [
      | true ↦ λ is. let same : y ≡ x = cc in subst P same first
      | false ↦ λ is. find-holds P test ys x rest is
    ] found

pub find-inside : (file : List ℕ) (kind : ℕ) (streams : List Stream) (stream : Stream) → AllInside file streams → Some stream ≡ stream_of kind streams
    → IsTrue (is_inside file stream.place stream.size)
find-inside file kind streams stream all found =
    find-holds (λ s. IsTrue (is_inside file s.place s.size)) (λ s. s.kind == kind) streams stream all found
