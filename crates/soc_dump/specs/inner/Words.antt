-- How words that were made ready hold their regions.
use Rattle.std.specs.Prelude.{◌≡◌, ℕ, ◌<◌, ◌≤◌, ◌^◌, ◌++◌, map, position}
use Rattle.soc_dump.specs.declared.words.Words.TheInside.{Inside}
use Rattle.soc_dump.specs.Covering.{owner_in}
use Rattle.soc_dump.specs.Memory.{RegionWords, holds_word, stack_of}
use Rattle.soc_dump.specs.Views.{memory_entry, thread_entry}

abbrev pub words_held : Inside → RegionWords
words_held w = record {
  regions = map memory_entry w.memory.now ++ map stack_of (map thread_entry w.threads.now);
  width = w.width;
}

-- the table finds the first region that holds a word
pub record AreFound (w : Inside) : Type 0 where
  pub some : 1 ≤ w.width
  pub fits : w.width ≤ 8
  pub found : (address : ℕ) → address < 2 ^ 64 → owner_in w.table address ≡ position (holds_word address w.width) (words_held w).regions
