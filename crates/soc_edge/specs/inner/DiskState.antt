-- A disk in memory by its fields, and what is true of them.
use Rattle.std.specs.Prelude.{◌≡◌, ◌≤◌, [], vec_len, vec_capacity}
use Rattle.soc_edge.specs.declared.memory.disk.MemDisk.TheInside.{Inside}
use Rattle.soc_edge.specs.inner.DiskEntries.{bytes_of, AllEnd, log_of}
use Rattle.soc_edge.specs.DiskLog.{DiskState, reads_as}

abbrev pub disk_state : Inside → DiskState
disk_state disk = record {
  first = disk.first.items;
  log = log_of [] disk.log.items disk.written.items;
  room = disk.room;
  limit = disk.limit;
  calls = disk.calls;
}

-- What a read gives is the log played on the content that the disk began with, and there is room for what may come.
pub record IsSound (disk : Inside) : Type 0 where
  pub reads : disk.bytes.items ≡ reads_as disk.first.items (log_of [] disk.log.items disk.written.items)
  pub counted : vec_len disk.written ≡ bytes_of disk.log.items
  pub ends : AllEnd disk.room disk.log.items
  pub first_fits : vec_len disk.first ≤ disk.room
  pub bytes_fit : vec_len disk.bytes ≤ disk.room
  pub written_fits : vec_len disk.written ≤ disk.room
  pub log_fits : vec_len disk.log ≤ disk.limit
  pub first_room : disk.room ≤ vec_capacity disk.first
  pub bytes_room : disk.room ≤ vec_capacity disk.bytes
  pub written_room : disk.room ≤ vec_capacity disk.written
  pub log_room : disk.limit ≤ vec_capacity disk.log
