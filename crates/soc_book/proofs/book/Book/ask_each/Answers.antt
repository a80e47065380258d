use Rattle.std.proofs.Common.{rules, ℕ, List, [], ◌∷◌, length, sym, ap, subst, arith, length-append}
use Rattle.soc_book.proofs.Words.{Command, Receipt, NeedsNothing, AsksAll, IsUnderWay}
use Rattle.soc_book.proofs.Joinings.{all_next, may_empty, way_begins, way_ends, yielded_all, yielded_few, yielded_fewer, yielded_more}
use Rattle.soc_book.proofs.Settings.{same_setting}
use Rattle.soc_book.proofs.book.Book.ask_each.Goals as goal

pub loop-prepared-init : goal.loop-prepared-init
loop-prepared-init g c =
    let s = c.args.self.now in
    record {
      can_next = tt;
      is_finite = tt;
      all = search rules;
      may = may_empty s.ledger s.vault.journal s.limits c.new-batch.result c.new-batch.ensures;
      count = search (rules, ap (λ (xs : List Receipt). length xs) c.requires.none, ap (λ (xs : List (List ℕ)). length xs) c.new-batch.ensures.ids);
      capacity = search rules;
      way = subst (λ (rs : List Receipt). IsUnderWay s [] rs s c.new-batch.result) (sym c.requires.none) (way_begins s c.new-batch.result c.new-batch.ensures);
    }

pub take_up-requires-clause-nothing : goal.take_up-requires-clause-nothing
take_up-requires-clause-nothing g c =
    all_next NeedsNothing c.loop-prepared.yielded c.loop-prepared.prepared-iterator.rest.items c.args.commands.items c.in-Some.prepared c.next.new.self.rest.items c.loop-prepared.invariant.all c.in-Some.ensures.steps.0 c.requires.nothing

pub take_up-requires-clause-room : goal.take_up-requires-clause-room
take_up-requires-clause-room g c =
    let i = c.loop-prepared.invariant in
    let count = i.count in
    let capacity = i.capacity in
    let room = c.requires.room in
    omega (arith, count, capacity, room, yielded_fewer c.loop-prepared.yielded c.loop-prepared.prepared-iterator.rest.items c.args.commands.items c.in-Some.prepared c.next.new.self.rest.items i.all c.in-Some.ensures.steps.0)

pub loop-prepared-preserved : goal.loop-prepared-preserved
loop-prepared-preserved g c =
    let i = c.loop-prepared.invariant in
    let e = c.take_up.ensures in
    let before = i.count in
    let count = e.count in
    let least = i.capacity in
    let capacity = e.capacity in
    record {
      can_next = tt;
      is_finite = tt;
      all = yielded_more c.loop-prepared.yielded c.loop-prepared.prepared-iterator.rest.items c.args.commands.items c.in-Some.prepared c.next.new.self.rest.items i.all c.in-Some.ensures.steps.0;
      may = e.may;
      count = omega (arith, before, count, length-append c.loop-prepared.yielded (c.in-Some.prepared ∷ []));
      capacity = omega (arith, least, capacity);
      way = e.goes_on c.args.self.now c.loop-prepared.yielded i.way;
    }

pub store_all-requires-clause-room : goal.store_all-requires-clause-room
store_all-requires-clause-room g c =
    let i = c.loop-prepared.invariant in
    let count = i.count in
    let capacity = i.capacity in
    let room = c.requires.room in
    omega (arith, count, capacity, room, yielded_few c.loop-prepared.yielded c.loop-prepared.prepared-iterator.rest.items c.args.commands.items i.all)

pub returns-clause-setting : goal.returns-clause-setting
returns-clause-setting g c = same_setting c.loop-prepared.invariant.way.setting c.store_all.ensures.setting

pub returns-clause-asks : goal.returns-clause-asks
returns-clause-asks g c =
    let i = c.loop-prepared.invariant in
    let s = c.store_all.new.self in
    let way = c.store_all.ensures.goes_on c.args.self.now c.loop-prepared.yielded i.way in
    subst (λ (cs : List Command). AsksAll c.args.self.now cs c.store_all.new.receipts.items s)
    (yielded_all c.loop-prepared.yielded c.loop-prepared.prepared-iterator.rest.items c.args.commands.items i.all (search rules)) (way_ends way c.store_all.ensures.empty (g.met.D.Disk.sound s.vault.disk.now))
