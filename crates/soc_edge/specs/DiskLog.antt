-- A disk in memory, by what it began with and the writes and syncs that it has made since, the latest first.
use Rattle.std.specs.Prelude.{◌≡◌, ◌⊎◌, ℕ, ◌+◌, ◌-◌, ◌/◌, ◌%◌, ◌≤◌, Bool, ◌||◌, nat_lt, nat_le, ◌==◌, if◌then◌else◌, Some, List, [], ◌∷◌, length, take, map}
use Rattle.soc_edge.specs.Calls.{Calls, is_due}
use Rattle.soc_edge.specs.Disk.{written, Tears, DiskTold}

-- a write at a place, or a sync
pub data Made : Type 0 where
  Wrote : ℕ → List ℕ → Made
  Synced : Made

-- what a read gives
abbrev pub reads_as : List ℕ → List Made → List ℕ
reads_as first [] = first
reads_as first (Wrote place bytes ∷ log) = written (reads_as first log) place bytes
reads_as first (Synced ∷ log) = reads_as first log

-- a stop may leave this image: what the last sync left, and then each later write, whole, torn or lost
abbrev pub IsImage : List ℕ → List Made → List ℕ → Type 0
IsImage first [] image = image ≡ first
IsImage first (Wrote place bytes ∷ log) image =
    (earlier : List ℕ) × IsImage first log earlier × Tears place (length bytes) earlier image
IsImage first (Synced ∷ log) image = image ≡ reads_as first log

-- A stop at a moment since t might have left this image. The moment is how many writes and syncs were made.
abbrev pub WasImageSince : List ℕ → List Made → ℕ → List ℕ → Type 0
WasImageSince first [] t image = (t ≤ 0) × (image ≡ first)
WasImageSince first (made ∷ log) t image =
    ((t ≤ length (made ∷ log)) × IsImage first (made ∷ log) image) ⊎ WasImageSince first log t image

-- how many bytes were written in all
abbrev pub bytes_written : List Made → ℕ
bytes_written [] = 0
bytes_written (Wrote place bytes ∷ log) = bytes_written log + length bytes
bytes_written (Synced ∷ log) = bytes_written log

-- a disk in memory: the content that it began with, what it made since, how many bytes and how many writes and syncs
-- it has room for, and its calls
pub record DiskState : Type 0 where
  pub first : List ℕ
  pub log : List Made
  pub room : ℕ
  pub limit : ℕ
  pub calls : Calls

-- what a read gives
abbrev pub content_of : DiskState → List ℕ
content_of disk = reads_as disk.first disk.log

-- a sync is refused: it is one of the calls that fail, or there is no room for one more
abbrev pub refuses_sync : DiskState → Bool
refuses_sync disk = is_due disk.calls || nat_le disk.limit (length disk.log)

-- a write of so many bytes is refused: for these reasons, or where it ends past the room, or where the writes so far
-- and it hold more bytes than there is room for
abbrev pub refuses_write : DiskState → ℕ → ℕ → Bool
refuses_write disk place count =
    refuses_sync disk || (nat_lt disk.room (place + count) || nat_lt disk.room (bytes_written disk.log + count))

-- the byte whose bits are all 1
abbrev pub all_bits : ℕ
all_bits = 255

-- a byte that differs in each bit
abbrev pub flipped : ℕ → ℕ
flipped byte = all_bits - byte

-- what a stop may do to a write that no sync has settled: each way by its digit of base 4
abbrev pub ways : ℕ
ways = 4

abbrev pub loses : ℕ
loses = 0

abbrev pub keeps : ℕ
keeps = 1

abbrev pub halves : ℕ
halves = 2

-- the write is lost, kept, kept by the first half of its bytes, or else left with each of them flipped
abbrev pub torn : ℕ → ℕ → List ℕ → List ℕ → List ℕ
torn choice place bytes content =
    if choice == loses then content
    else if choice == keeps then written content place bytes
    else if choice == halves then written content place (take (length bytes / 2) bytes)
    else written content place (map flipped bytes)

-- the image that a stop leaves by a choice, and what is left of the choice: its last digit of base 4 is for the first
-- unsettled write, the next one for the second, and so on
pub record Stopped : Type 0 where
  pub image : List ℕ
  pub choice : ℕ

abbrev pub stopped : List ℕ → List Made → ℕ → Stopped
stopped first [] choice = record { image = first; choice = choice }
stopped first (Wrote place bytes ∷ log) choice = record {
  image = torn ((stopped first log choice).choice % ways) place bytes (stopped first log choice).image;
  choice = (stopped first log choice).choice / ways;
}
stopped first (Synced ∷ log) choice = record { image = reads_as first log; choice = choice }

-- as contracts see it; the moment is how many writes and syncs were made
abbrev pub disk_told : DiskState → DiskTold
disk_told disk = record {
  content = Some (content_of disk);
  images = IsImage disk.first disk.log;
  since = WasImageSince disk.first disk.log;
  moment = length disk.log;
  calls = disk.calls.made;
  faults = disk.calls.failed;
}
