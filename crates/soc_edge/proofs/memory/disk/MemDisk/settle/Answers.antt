use Rattle.std.proofs.Common.{List, [], ◌∷◌, length, ap, sym, ◌∙◌, arith}
use Rattle.soc_edge.specs.DiskLog.{DiskState, Made, Synced}
use Rattle.soc_edge.specs.inner.DiskState.{disk_state}
use Rattle.soc_edge.proofs.DiskKept.{length-log_of, log_of-settled, reads_as-settled, AllEnd-settled, bytes_of-settled}
use Rattle.soc_edge.proofs.memory.disk.MemDisk.settle.Goals as goal

pub add-requires : goal.add-requires
add-requires c =
    let disk = c.self.inside in
    let made = ap (λ (s : DiskState). length s.log) c.self.view_is in
    let limit = ap (λ (s : DiskState). s.limit) c.self.view_is in
    omega (arith, length-log_of [] disk.log.items disk.written.items, made, limit, c.requires, c.self.invariant.log_room, disk.log.ok)

pub invariant_of-self : goal.invariant_of-self
invariant_of-self c =
    let disk = c.self.inside in
    let sound = c.self.invariant in
    let made = ap (λ (s : DiskState). length s.log) c.self.view_is in
    let limit = ap (λ (s : DiskState). s.limit) c.self.view_is in
    let is = c.add.ensures.items in
    record {
      reads = reads_as-settled disk.first.items disk.bytes.items disk.log.items c.add.new.log.items disk.written.items is sound.reads;
      counted = sound.counted ∙ sym (bytes_of-settled disk.log.items c.add.new.log.items is);
      ends = AllEnd-settled disk.room disk.log.items c.add.new.log.items is sound.ends;
      first_fits = sound.first_fits;
      bytes_fit = sound.bytes_fit;
      written_fits = sound.written_fits;
      log_fits = omega (arith, length-log_of [] disk.log.items disk.written.items, made, limit, c.requires, c.add.ensures.len, disk.log.ok);
      first_room = sound.first_room;
      bytes_room = sound.bytes_room;
      written_room = sound.written_room;
      log_room = omega (arith, sound.log_room, c.add.ensures.room);
    }

pub returns : goal.returns
returns c =
    let disk = c.self.inside in
    ap (λ (log : List Made). record (disk_state disk) { log = log }) (log_of-settled disk.log.items c.add.new.log.items disk.written.items c.add.ensures.items)
    ∙ ap (λ (s : DiskState). record s { log = Synced ∷ s.log }) c.self.view_is
