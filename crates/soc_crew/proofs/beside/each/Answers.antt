use Rattle.std.proofs.Common.{◌≡◌, length, ◌∙◌}
use Rattle.soc_crew.proofs.Replaced.{replaced}
use Rattle.soc_crew.proofs.beside.each.Goals as goal

pub returns-then-threads-gt0-clause-each : goal.returns-then-threads-gt0-clause-each
returns-then-threads-gt0-clause-each g c =
    let kept : length c.for_each_mut.new.s ≡ length c.as_mut_slice.result.now = c.for_each_mut.auto.s in
    rw (replaced c.args.all.items c.for_each_mut.new.s c.args.all.len (kept ∙ c.as_mut_slice.ensures.len), ← c.as_mut_slice.ensures.value) c.for_each_mut.ensures
