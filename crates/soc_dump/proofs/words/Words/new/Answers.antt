use Rattle.std.proofs.Common.{◌≡◌, ◌+◌, ◌++◌, ◌∙◌, None, length, map, arith}
use Rattle.std.proofs.lemmas.List.{length-map}
use Rattle.soc_dump.specs.declared.memory.Region.{Region}
use Rattle.soc_dump.specs.declared.thread.Thread.{Thread}
use Rattle.soc_dump.specs.Covering.{covers, owner_in}
use Rattle.soc_dump.specs.Memory.{stack_of, word_interval}
use Rattle.soc_dump.specs.Views.{memory_entry, thread_entry}
use Rattle.soc_dump.proofs.CoveringLemmas.{position_from-zero}
use Rattle.soc_dump.proofs.LayerLemmas.{position_from-twice}
use Rattle.soc_dump.proofs.TableLemmas.{region_found}
use Rattle.soc_dump.proofs.words.Words.new.Goals as goal

pub invariant_of-result : goal.invariant_of-result
invariant_of-result c =
    let memory = c.args.memory.now in
    let threads = c.args.threads.now in
    let regions = map (λ (region : Region). word_interval c.args.width (memory_entry region)) memory in
    let stacks = map (λ (thread : Thread). word_interval c.args.width (stack_of (thread_entry thread))) threads in
    let count = length-map memory (λ (region : Region). word_interval c.args.width (memory_entry region)) in
    let next : 0 + length regions ≡ length memory = omega (arith, count) in
    let one = rw c.empty-table.ensures at c.in_ok-extend_by_memory.ensures in
    let two = rw (c.as_slice.ensures.value, c.in_ok-stacks.ensures) at c.in_ok-extend.ensures in
    record {
      some = c.requires.some;
      fits = c.requires.fits;
      found = λ address small.
          position_from-twice (covers address) None (owner_in c.extend_by_memory.new.table address) (owner_in c.extend.new.self address) 0 (length memory)
          regions stacks next (one address small) (two address small)
          ∙ position_from-zero (covers address) (regions ++ stacks)
          ∙ region_found c.args.width c.requires.some memory threads address small;
    }
