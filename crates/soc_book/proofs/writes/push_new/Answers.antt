use Rattle.std.proofs.Common.{subst}
use Rattle.std.specs.Prelude.{List}
use Rattle.soc_book.proofs.Words.{NewCrash}
use Rattle.soc_book.proofs.Standing.{IsAccepting, accepting_one}
use Rattle.soc_book.proofs.writes.push_new.Goals as goal

pub loop-new-preserved : goal.loop-new-preserved
loop-new-preserved c =
    let l = c.loop-new in
    let behind = c.next.new.self.rest.items in
    let here = subst (λ (rest : List NewCrash). IsAccepting c.args.ledger.now c.args.crashes.items c.args.first l.ledger rest l.place) c.in-Some.ensures.steps.0 l.invariant.accepting in
    let e = c.filed.ensures in
    record {
      can_next = tt;
      is_finite = tt;
      accepting = accepting_one c.args.ledger.now c.args.crashes.items c.args.first l.ledger l.place c.in-Some.new behind here c.filed.result c.accept.new.self c.saturating_add-behind.result
          (record { id = e.id; place_is = e.place; content = e.content; product = e.product; digest = e.digest }) c.accept.ensures c.saturating_add-behind.ensures;
    }
