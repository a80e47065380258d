use Rattle.std.proofs.Common.{rules, ◌≡◌, ◌+◌, arith, ap, length, ◌∙◌}
use Rattle.std.proofs.lemmas.List.{length_push, map_push}
use Rattle.soc_ledger.specs.declared.crash.Filed.{Filed}
use Rattle.soc_ledger.specs.declared.event.Event.TheVariants.{Accepted}
use Rattle.soc_ledger.specs.Events.{was_accepted}
use Rattle.soc_ledger.specs.inner.Tables.{ids_in}
use Rattle.soc_ledger.proofs.Logs.{unknown}
use Rattle.soc_ledger.proofs.Whole.{goes_last, id_count, tells-accepted}
use Rattle.soc_ledger.proofs.ledger.Ledger.accept.Goals as goal

pub follow-requires-clause-later : goal.follow-requires-clause-later
follow-requires-clause-later c since before after =
    let known : c.default.result ≡ unknown = search rules in
    goes_last c.self.invariant.tells (Accepted c.args.filed.id) c.len.result since c.default.result c.after-standing.result c.len.ensures.count c.after-standing.ensures (ap (λ s. s.due_since) known) after

pub invariant_of-self : goal.invariant_of-self
invariant_of-self c =
    let old = c.self.invariant in
    let known : c.default.result ≡ unknown = search rules in
    let longer : length c.push.new.self.filed ≡ length c.self.inside.crashes.filed + 1 = ap length c.push.ensures.filed ∙ length_push c.self.inside.crashes.filed c.args.filed in
    let few : length c.self.inside.crashes.filed ≡ length c.args.self.now.crashes = ap (λ t. length t.crashes) c.self.view_is in record {
      tells =
          tells-accepted old.tells c.args.filed.id c.len-number.result c.len.result c.default.result c.after-standing.result _ _ _ _
          (ap (λ t. was_accepted t.log c.args.filed.id) c.self.view_is ∙ c.requires.is_new) (c.len-number.ensures.count ∙ id_count c.self.inside.crashes.filed) known
          c.len.ensures.count c.after-standing.ensures
          c.push-2.ensures.events (ap ids_in c.push.ensures.filed ∙ map_push (λ (f : Filed). f.id) c.self.inside.crashes.filed c.args.filed) c.push.ensures.standings c.follow.ensures.due;
      few = omega (arith, longer, few, c.requires.few);
      log_room = omega (arith, c.push-2.ensures.room, old.log_room);
      crash_room = omega (arith, c.push.ensures.room, old.crash_room);
      due_room = omega (arith, c.follow.ensures.room, old.due_room);
    }
