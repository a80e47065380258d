use Rattle.std.specs.Map.{keys_of}
use Rattle.soc_siglists.proofs.Fronts.{later_rise, up_to_later, still_begun}
use Rattle.soc_siglists.proofs.patterns.literals_of.Goals as goal

pub loop-name-preserved : goal.loop-name-preserved
loop-name-preserved c =
    let inv = c.loop-name.invariant in
    let name = c.in-Some.name.now in
    let value = c.in-Some.field-0-1.now in
    let later = c.next.new.self in
    let rising = rw c.in-Some.ensures.steps at inv.rising in
    record {
      rising = later_rise (name, value) later rising;
      up_to = up_to_later c.push.new.self name value later rising (rw c.in_ok-of.ensures at c.in_ok-push.ensures.up_to);
      begun =
          still_begun c.loop-name.literals c.push.new.self (keys_of c.args.names.now) name value later (rw c.in-Some.ensures.steps at inv.begun)
          (rw c.in_ok-of.ensures at c.in_ok-push.ensures.begun);
    }
