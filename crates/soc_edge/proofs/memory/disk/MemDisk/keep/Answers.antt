use Rattle.std.proofs.Common.{◌≡◌, ◌≤◌, ◌+◌, ℕ, List, [], ◌∷◌, length, ap, sym, ◌∙◌, arith}
use Rattle.soc_edge.specs.inner.DiskEntries.{bytes_of}
use Rattle.soc_edge.specs.DiskLog.{DiskState, Made, Wrote, bytes_written, reads_as}
use Rattle.soc_edge.specs.inner.DiskState.{disk_state}
use Rattle.soc_edge.specs.Disk.{written}
use Rattle.soc_edge.proofs.DiskKept.{length-log_of, bytes_written-log_of, log_of-kept, AllEnd-kept, bytes_of-kept, length-written-le}
use Rattle.soc_edge.proofs.memory.disk.MemDisk.keep.Goals as goal

pub put-requires : goal.put-requires
put-requires c =
    let room = ap (λ (s : DiskState). s.room) c.self.view_is in
    omega (arith, room, c.requires.ends, c.self.invariant.bytes_room)

pub append-requires : goal.append-requires
append-requires c =
    let disk = c.self.inside in
    let sound = c.self.invariant in
    let room = ap (λ (s : DiskState). s.room) c.self.view_is in
    let count = ap (λ (s : DiskState). bytes_written s.log) c.self.view_is in
    let within : bytes_of disk.log.items ≤ length disk.written.items = omega (arith, disk.written.ok, sound.counted) in
    omega (arith, room, count, c.requires.written_fits, sound.written_room, sound.counted, bytes_written-log_of [] disk.log.items disk.written.items within)

pub add-requires : goal.add-requires
add-requires c =
    let disk = c.self.inside in
    let made = ap (λ (s : DiskState). length s.log) c.self.view_is in
    let limit = ap (λ (s : DiskState). s.limit) c.self.view_is in
    omega (arith, length-log_of [] disk.log.items disk.written.items, made, limit, c.requires.log_fits, c.self.invariant.log_room, disk.log.ok)

pub invariant_of-self : goal.invariant_of-self
invariant_of-self c =
    let disk = c.self.inside in
    let sound = c.self.invariant in
    let place = c.args.place in
    let piece = c.args.bytes.now in
    let made = ap (λ (s : DiskState). length s.log) c.self.view_is in
    let limit = ap (λ (s : DiskState). s.limit) c.self.view_is in
    let room = ap (λ (s : DiskState). s.room) c.self.view_is in
    let count = ap (λ (s : DiskState). bytes_written s.log) c.self.view_is in
    let counted : bytes_of disk.log.items ≡ length disk.written.items = omega (arith, disk.written.ok, sound.counted) in
    let within : bytes_of disk.log.items ≤ length disk.written.items = omega arith in
    let ends : place + length piece ≤ disk.room = omega (arith, room, c.requires.ends) in
    let fits : length disk.bytes.items ≤ disk.room = omega (arith, sound.bytes_fit, disk.bytes.ok) in
    let log_is = log_of-kept disk.log.items c.add.new.log.items disk.written.items c.append.new.bytes.items piece place counted c.add.ensures.items c.append.ensures.items in
    let longer : length c.put.new.bytes.items ≤ disk.room =
    omega (arith, ap (λ (x : List ℕ). length x) c.put.ensures.written, length-written-le disk.bytes.items place piece disk.room fits ends) in
    record {
      reads = c.put.ensures.written
          ∙ (ap (λ (x : List ℕ). written x place piece) sound.reads
          ∙ ap (λ (log : List Made). reads_as disk.first.items log) (sym log_is));
      counted = omega (arith, c.append.ensures.len, sound.counted, bytes_of-kept disk.log.items c.add.new.log.items place (length piece) c.add.ensures.items);
      ends = AllEnd-kept disk.room disk.log.items c.add.new.log.items place (length piece) c.add.ensures.items sound.ends ends;
      first_fits = sound.first_fits;
      bytes_fit = omega (arith, longer, c.put.new.bytes.ok);
      written_fits = omega (arith, room, count, c.requires.written_fits, c.append.ensures.len, sound.counted, bytes_written-log_of [] disk.log.items disk.written.items within);
      log_fits = omega (arith, length-log_of [] disk.log.items disk.written.items, made, limit, c.requires.log_fits, c.add.ensures.len, disk.log.ok);
      first_room = sound.first_room;
      bytes_room = omega (arith, sound.bytes_room, c.put.ensures.room);
      written_room = omega (arith, sound.written_room, c.append.ensures.room);
      log_room = omega (arith, sound.log_room, c.add.ensures.room);
    }

pub returns : goal.returns
returns c =
    let disk = c.self.inside in
    let place = c.args.place in
    let piece = c.args.bytes.now in
    let counted : bytes_of disk.log.items ≡ length disk.written.items = omega (arith, disk.written.ok, c.self.invariant.counted) in
    let log_is = log_of-kept disk.log.items c.add.new.log.items disk.written.items c.append.new.bytes.items piece place counted c.add.ensures.items c.append.ensures.items in
    ap (λ (log : List Made). record (disk_state disk) { log = log }) log_is
    ∙ ap (λ (s : DiskState). record s { log = Wrote place piece ∷ s.log }) c.self.view_is
