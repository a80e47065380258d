-- Words of regions, found among the program's values.
use Rattle.std.proofs.Common.{◌≡◌, ℕ, zero, suc, ◌-◌, ◌<◌, ◌≤◌, Bool, true, false, List, [], ◌∷◌, ◌++◌, length, get_or, None, Some, refl, sym, ◌∙◌, ap, cond, IsTrue, arith}
use Rattle.std.proofs.lemmas.List.{length-map}
use Rattle.std.proofs.lemmas.Option.{slice_get-map, slice_get-get_or}
use Rattle.std.specs.Prelude.{map, find, option_map, slice_get}
use Rattle.soc_dump.specs.declared.memory.Region.{Region}
use Rattle.soc_dump.specs.declared.thread.Thread.{Thread}
use Rattle.soc_dump.specs.Entries.{MemoryEntry}
use Rattle.soc_dump.specs.Memory.{holds_word, word_of, word_in, stack_of}
use Rattle.soc_dump.specs.Views.{memory_entry, thread_entry}

find-map : {A B : Type 0} (f : A → B) (test : B → Bool) (xs : List A) → find test (map f xs) ≡ option_map f (find (λ x. test (f x)) xs)
find-map f test [] = refl
find-map f test (x ∷ xs) =
    elim (test (f x)) as (λ here. cond here (Some (f x)) (find test (map f xs)) ≡ option_map f (cond here (Some x) (find (λ y. test (f y)) xs))) [
      | true ↦ refl
      | false ↦ find-map f test xs
    ]

find-append_some : {A : Type 0} (test : A → Bool) (xs ys : List A) (x : A) → find test xs ≡ Some x → find test (xs ++ ys) ≡ Some x
find-append_some test [] ys x found = cc
find-append_some test (y ∷ xs) ys x found =
    elim (test y) as (λ here. cond here (Some y) (find test xs) ≡ Some x → cond here (Some y) (find test (xs ++ ys)) ≡ Some x) [
      | true ↦ λ is. is
      | false ↦ λ is. find-append_some test xs ys x is
    ] found

find-append_none : {A : Type 0} (test : A → Bool) (xs ys : List A) → find test xs ≡ None → find test (xs ++ ys) ≡ find test ys
find-append_none test [] ys found = refl
find-append_none test (y ∷ xs) ys found =
    elim (test y) as (λ here. cond here (Some y) (find test xs) ≡ None → cond here (Some y) (find test (xs ++ ys)) ≡ find test ys) [
      | true ↦ λ is. absurd (cc)
      | false ↦ λ is. find-append_none test xs ys is
    ] found

-- what is found passes
pub find-passes : {A : Type 0} (test : A → Bool) (xs : List A) (x : A) → Some x ≡ find test xs → test x ≡ true
find-passes test [] x found = absurd (cc)
find-passes test (y ∷ xs) x found = here (test y) refl found (find-passes test xs x) where
  here : (passes : Bool) → test y ≡ passes → Some x ≡ cond passes (Some y) (find test xs)
      → (Some x ≡ find test xs → test x ≡ true) → test x ≡ true
  here true is first later = let same : x ≡ y = cc in ap test same ∙ is
  here false is first later = later first

pub holds_word-same : (address width : ℕ) (one other : MemoryEntry) → one ≡ other → holds_word address width other ≡ true → IsTrue (holds_word address width one)
holds_word-same address width one other same holds = ap (holds_word address width) same ∙ holds

module _ (memory : List Region) (threads : List Thread) (address width : ℕ) where
  pub word_in-memory : (region : Region) → Some region ≡ find (λ r. holds_word address width (memory_entry r)) memory
      → Some (word_of address width (memory_entry region)) ≡ word_in (map memory_entry memory ++ map stack_of (map thread_entry threads)) address width
  word_in-memory region found =
      let here = find-map memory_entry (holds_word address width) memory ∙ ap (option_map memory_entry) (sym found) in
      let whole = find-append_some (holds_word address width) (map memory_entry memory) (map stack_of (map thread_entry threads)) (memory_entry region) here in
      sym (ap (option_map (word_of address width)) whole)

  stacks : None ≡ find (λ r. holds_word address width (memory_entry r)) memory
      → word_in (map memory_entry memory ++ map stack_of (map thread_entry threads)) address width
      ≡ option_map (word_of address width) (option_map stack_of (option_map thread_entry (find (λ t. holds_word address width (stack_of (thread_entry t))) threads)))
  stacks none =
      let here = find-map memory_entry (holds_word address width) memory ∙ ap (option_map memory_entry) (sym none) in
      let rest = find-append_none (holds_word address width) (map memory_entry memory) (map stack_of (map thread_entry threads)) here in
      let stack = find-map stack_of (holds_word address width) (map thread_entry threads) in
      let thread = find-map thread_entry (λ e. holds_word address width (stack_of e)) threads in
      ap (option_map (word_of address width)) (rest ∙ stack ∙ ap (option_map stack_of) thread)

  pub word_in-stack : (thread : Thread) → None ≡ find (λ r. holds_word address width (memory_entry r)) memory
      → Some thread ≡ find (λ t. holds_word address width (stack_of (thread_entry t))) threads
      → Some (word_of address width (stack_of (thread_entry thread))) ≡ word_in (map memory_entry memory ++ map stack_of (map thread_entry threads)) address width
  word_in-stack thread none found = sym (stacks none ∙ ap (λ o. option_map (word_of address width) (option_map stack_of (option_map thread_entry o))) (sym found))

  pub word_in-none : None ≡ find (λ r. holds_word address width (memory_entry r)) memory
      → None ≡ find (λ t. holds_word address width (stack_of (thread_entry t))) threads
      → None ≡ word_in (map memory_entry memory ++ map stack_of (map thread_entry threads)) address width
  word_in-none none nowhere = sym (stacks none ∙ ap (λ o. option_map (word_of address width) (option_map stack_of (option_map thread_entry o))) (sym nowhere))

slice_get-behind : {A : Type 0} (xs ys : List A) (i : ℕ) → length xs ≤ i → slice_get (xs ++ ys) i ≡ slice_get ys (i - length xs)
slice_get-behind [] ys i le = let same : i - 0 ≡ i = omega arith in rw same refl
slice_get-behind (x ∷ xs) ys zero le = absurd (omega arith)
slice_get-behind (x ∷ xs) ys (suc i) le =
    let same : suc i - suc (length xs) ≡ i - length xs = omega arith in rw same (slice_get-behind xs ys i (omega arith))

-- a stack stands behind the regions of the memory list
pub stack_behind : (memory : List Region) (threads : List Thread) (index : ℕ) (d : Thread) → length memory ≤ index → index - length memory < length threads
    → slice_get (map memory_entry memory ++ map stack_of (map thread_entry threads)) index ≡ Some (stack_of (thread_entry (get_or threads (index - length memory) d)))
stack_behind memory threads index d behind inside =
    let count : length (map memory_entry memory) ≡ length memory = length-map memory memory_entry in
    slice_get-behind (map memory_entry memory) (map stack_of (map thread_entry threads)) index (omega (arith, count))
    ∙ ap (slice_get (map stack_of (map thread_entry threads))) (ap (λ n. index - n) count)
    ∙ slice_get-map stack_of (map thread_entry threads) (index - length memory)
    ∙ ap (option_map stack_of) (slice_get-map thread_entry threads (index - length memory))
    ∙ ap (λ o. option_map stack_of (option_map thread_entry o)) (slice_get-get_or threads (index - length memory) d inside)
