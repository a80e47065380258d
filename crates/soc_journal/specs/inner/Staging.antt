-- How entries are written behind a closed gate: words of private contracts and proofs.
use Rattle.std.specs.Prelude.{◌≡◌, ℕ, ◌+◌, ◌<◌, ◌≤◌, List, ◌++◌, length, drop}
use Rattle.std.specs.Option.{option_map}
use Rattle.std.specs.List.{AllByRecursion}
use Rattle.soc_edge.specs.Disk.{DiskTold, MayTear, written}
use Rattle.soc_journal.specs.Entries.{Entry, IsEntryOf, second_version, entries_text, sealed_all}

-- entries as they are written, but for the gate of the first
unfoldable pub behind_all : List Entry → List ℕ
behind_all entries = drop 1 (sealed_all entries)

-- so many bytes the entries have, they and the closed gate behind them are no more than this, and each may be written
pub record HasLength (entries : List Entry) (most count : ℕ) : Type 0 where
  pub count_is : count ≡ length (entries_text entries)
  pub fits : count + 1 ≤ most
  pub legal : AllByRecursion (IsEntryOf second_version) entries

-- of entries that have room, the first were looked at: they leave so many bytes beside the closed gate, and each may be written
pub record HasLooked (entries rest : List Entry) (most left : ℕ) : Type 0 where
  pub front : List Entry
  pub whole : entries ≡ front ++ rest
  pub left_is : left + length (entries_text front) + 1 ≡ most
  pub legal : AllByRecursion (IsEntryOf second_version) front

-- the first entries were written behind the closed gate at a place, one call of the disk for each, and the next stands here
pub record HasStaged (place : ℕ) (entries : List Entry) (before : DiskTold) (next : ℕ) (rest : List Entry) (now : DiskTold) : Type 0 where
  pub front : List Entry
  pub whole : entries ≡ front ++ rest
  pub some : 0 < length front
  pub next_is : next ≡ place + length (entries_text front)
  pub content : now.content ≡ option_map (λ old. written old (place + 1) (behind_all front)) before.content
  pub tears : MayTear (place + 1) (length (behind_all front)) before now
  pub calls : now.calls + length rest ≤ before.calls + length entries
