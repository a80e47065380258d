-- Tables that find a module or a region by an address.
use Rattle.std.proofs.Common.{◌≡◌, ℕ, ◌+◌, ◌-◌, ◌<◌, ◌≤◌, ◌^◌, ◌++◌, List, length, None, Some, sym, ◌∙◌, ap, arith, IsTrue}
use Rattle.std.specs.Prelude.{map, position, slice_get, option_map}
use Rattle.std.proofs.lemmas.Bool.Decides.{nat_tests}
use Rattle.std.proofs.lemmas.List.{map-append}
use Rattle.std.proofs.lemmas.List.Quantifiers.{position-Some}
use Rattle.std.proofs.lemmas.Option.{get_or_from_slice_get}
use Rattle.std.proofs.lemmas.Simd.{map-map}
use Rattle.soc_dump.specs.declared.memory.Region.{Region}
use Rattle.soc_dump.specs.declared.modules.Module.{Module}
use Rattle.soc_dump.specs.declared.thread.Thread.{Thread}
use Rattle.soc_dump.specs.Covering.{covers, first_covering, interval_from}
use Rattle.soc_dump.specs.Entries.{ModuleEntry, MemoryEntry}
use Rattle.soc_dump.specs.Memory.{holds_word, holds_address, word_interval, word_in, word_of, stack_of}
use Rattle.soc_dump.specs.Views.{memory_entry, module_entry, thread_entry}
use Rattle.soc_dump.proofs.CoveringLemmas.{covers-interval_from, position-map, find-position, find-nowhere}

covers-module : (entry : ModuleEntry) (x : ℕ) → x < 2 ^ 64 → covers x (interval_from entry.base entry.size) ≡ holds_address x entry
covers-module entry x small = covers-interval_from entry.base entry.size x small

pub module_found : (modules : List Module) (x : ℕ) → x < 2 ^ 64
    → first_covering (map (λ loaded. interval_from loaded.base loaded.size) modules) x ≡ position (holds_address x) (map module_entry modules)
module_found modules x small =
    let entries = map-map (λ (entry : ModuleEntry). interval_from entry.base entry.size) module_entry modules in
    ap (position (covers x)) (sym entries)
    ∙ position-map (λ (entry : ModuleEntry). interval_from entry.base entry.size) holds_address covers-module x (map module_entry modules) small

module _ (width : ℕ) (some : 1 ≤ width) where
  covers-region : (region : MemoryEntry) (x : ℕ) → x < 2 ^ 64 → covers x (word_interval width region) ≡ holds_word x width region
  covers-region region x small =
      covers-interval_from region.start (length region.bytes + 1 - width) x small ∙ grind (arith, nat_tests)

  pub region_found : (memory : List Region) (threads : List Thread) (x : ℕ) → x < 2 ^ 64
      → first_covering (map (λ region. word_interval width (memory_entry region)) memory ++ map (λ thread. word_interval width (stack_of (thread_entry thread))) threads) x
      ≡ position (holds_word x width) (map memory_entry memory ++ map stack_of (map thread_entry threads))
  region_found memory threads x small =
      let regions = map-map (word_interval width) memory_entry memory in
      let entries = map-map stack_of thread_entry threads in
      let stacks = ap (map (word_interval width)) entries ∙ map-map (word_interval width) (λ (thread : Thread). stack_of (thread_entry thread)) threads in
      let whole = map-append (word_interval width) (map memory_entry memory) (map stack_of (map thread_entry threads)) in
      ap (position (covers x)) (sym (rw (regions, stacks) at whole))
      ∙ position-map (word_interval width) (λ y. holds_word y width) covers-region x (map memory_entry memory ++ map stack_of (map thread_entry threads)) small

-- the word of the first region that holds it
module _ (regions : List MemoryEntry) (address width : ℕ) where
  pub word_in-nowhere : position (holds_word address width) regions ≡ None → None ≡ word_in regions address width
  word_in-nowhere none = sym (ap (option_map (word_of address width)) (find-nowhere (holds_word address width) regions none))

  module _ (index : ℕ) (region : MemoryEntry) (found : position (holds_word address width) regions ≡ Some index) (is : slice_get regions index ≡ Some region) where
    pub word_in-at : Some (word_of address width region) ≡ word_in regions address width
    word_in-at = sym (ap (option_map (word_of address width)) (find-position (holds_word address width) regions index found ∙ is))

    pub holds-at : IsTrue (holds_word address width region)
    holds-at =
        let here = (position-Some (holds_word address width) regions index region found).1 in
        rw (get_or_from_slice_get regions index region region is) at here
