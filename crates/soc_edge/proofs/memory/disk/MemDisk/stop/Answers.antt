use Rattle.std.proofs.Common.{◌≡◌, ◌≤◌, ℕ, List, [], ◌++◌, length, vec_capacity, ap, sym, subst, ◌∙◌, arith}
use Rattle.soc_edge.specs.declared.memory.disk.DiskStep.{DiskStep}
use Rattle.soc_edge.specs.inner.DiskEntries.{AllEnd, bytes_of, log_of}
use Rattle.soc_edge.specs.DiskLog.{DiskState, Made, IsImage, reads_as, stopped}
use Rattle.soc_edge.proofs.DiskStop.{AllEnd-wider, IsImage-stopped, stopped-fits}
use Rattle.soc_edge.proofs.memory.disk.MemDisk.stop.Goals as goal

pub play-requires-clause-ends : goal.play-requires-clause-ends
play-requires-clause-ends c =
    let disk = c.self.inside in
    let P : List DiskStep → Type 0 = λ entries. AllEnd (vec_capacity disk.first) entries in
    subst P (sym c.deref.ensures.value) (AllEnd-wider disk.room (vec_capacity disk.first) disk.log.items c.self.invariant.first_room c.self.invariant.ends)

pub append-requires : goal.append-requires
append-requires c =
    let disk = c.self.inside in
    let sound = c.self.invariant in
    let low : length disk.first.items ≤ disk.room = omega (arith, sound.first_fits, disk.first.ok) in
    let fits = stopped-fits disk.room disk.first.items c.play.new.image.items disk.log.items c.deref.result.now disk.written.items c.deref-2.result.now c.args.choice
    c.deref.ensures.value c.deref-2.ensures.value c.play.ensures.image low sound.ends in
    omega (arith, fits, c.clear.ensures.len, c.clear.ensures.capacity, sound.bytes_room, ap (λ (x : List ℕ). length x) c.deref-3.ensures.value)

pub invariant_of-result : goal.invariant_of-result
invariant_of-result c =
    let disk = c.self.inside in
    let sound = c.self.invariant in
    let low : length disk.first.items ≤ disk.room = omega (arith, sound.first_fits, disk.first.ok) in
    let fits = stopped-fits disk.room disk.first.items c.play.new.image.items disk.log.items c.deref.result.now disk.written.items c.deref-2.result.now c.args.choice
    c.deref.ensures.value c.deref-2.ensures.value c.play.ensures.image low sound.ends in
    let same : c.append.new.bytes.items ≡ c.play.new.image.items =
    c.append.ensures.items ∙ (ap (λ (x : List ℕ). x ++ c.deref-3.result.now) c.clear.ensures.items ∙ c.deref-3.ensures.value) in
    let no_entries = c.clear-3.ensures.items in
    let length_same = ap (λ (x : List ℕ). length x) same in
    let End : List DiskStep → Type 0 = λ entries. AllEnd disk.room entries in
    record {
      reads = same ∙ ap (λ (entries : List DiskStep). reads_as c.play.new.image.items (log_of [] entries c.clear-2.new.self.items)) (sym no_entries);
      counted = c.clear-2.ensures.len ∙ ap (λ (entries : List DiskStep). bytes_of entries) (sym no_entries);
      ends = subst End (sym no_entries) tt;
      first_fits = omega (arith, fits, c.play.new.image.ok);
      bytes_fit = omega (arith, fits, length_same, c.append.new.bytes.ok);
      written_fits = omega (arith, c.clear-2.ensures.len);
      log_fits = omega (arith, c.clear-3.ensures.len);
      first_room = omega (arith, sound.first_room, c.play.ensures.room);
      bytes_room = omega (arith, sound.bytes_room, c.clear.ensures.capacity, c.append.ensures.room);
      written_room = omega (arith, sound.written_room, c.clear-2.ensures.capacity);
      log_room = omega (arith, sound.log_room, c.clear-3.ensures.capacity);
    }

pub returns-clause-image : goal.returns-clause-image
returns-clause-image c =
    let first : c.self.inside.first.items ≡ c.args.self.first = ap (λ (s : DiskState). s.first) c.self.view_is in
    let log : log_of [] c.self.inside.log.items c.self.inside.written.items ≡ c.args.self.log = ap (λ (s : DiskState). s.log) c.self.view_is in
    let here : log_of [] c.deref.result.now c.deref-2.result.now ≡ c.args.self.log =
    ap (λ (x : List DiskStep). log_of [] x c.deref-2.result.now) c.deref.ensures.value
    ∙ (ap (λ (x : List ℕ). log_of [] c.self.inside.log.items x) c.deref-2.ensures.value ∙ log) in
    let is : c.play.new.image.items ≡ (stopped c.args.self.first c.args.self.log c.args.choice).image =
    c.play.ensures.image
    ∙ (ap (λ (x : List Made). (stopped c.self.inside.first.items x c.args.choice).image) here
    ∙ ap (λ (x : List ℕ). (stopped x c.args.self.log c.args.choice).image) first) in
    let P : List ℕ → Type 0 = λ image. IsImage c.args.self.first c.args.self.log image in
    subst P (sym is) (IsImage-stopped c.args.self.first c.args.self.log c.args.choice)
