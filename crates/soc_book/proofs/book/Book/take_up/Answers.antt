use Rattle.std.proofs.Common.{ℕ, List, [], ◌∷◌, ◌++◌, length, sym, ap, subst, ◌∙◌, arith, length-append}
use Rattle.soc_book.proofs.Words.{Command, NeedsNothing, IsUnderWay, IsPrepared, command_of}
use Rattle.soc_book.proofs.Joinings.{joined, may_empty, way_joins, way_stays}
use Rattle.soc_book.proofs.book.Book.take_up.Goals as goal

pub ask_alone-requires-clause-prepared : goal.ask_alone-requires-clause-prepared
ask_alone-requires-clause-prepared g c = subst IsPrepared (sym c.in-Some.ensures.joins.0) c.prepared.invariant

pub ask_alone-requires-clause-nothing : goal.ask_alone-requires-clause-nothing
ask_alone-requires-clause-nothing g c = subst NeedsNothing (sym (ap command_of c.in-Some.ensures.joins.0 ∙ c.prepared.view_is)) c.requires.nothing

pub ask_alone-requires-clause-room : goal.ask_alone-requires-clause-room
ask_alone-requires-clause-room g c =
    let room = c.requires.room in
    omega (arith, room, ap (λ (xs : List (List ℕ)). length xs) c.in-Some.ensures.joins.1.ids)

pub returns-in-Some-clause-may : goal.returns-in-Some-clause-may
returns-in-Some-clause-may g c =
    let s = c.ask_alone.new.self in
    may_empty s.ledger s.vault.journal s.limits c.ask_alone.new.batch c.ask_alone.ensures.empty

pub returns-in-Some-clause-count : goal.returns-in-Some-clause-count
returns-in-Some-clause-count g c =
    let count = c.ask_alone.ensures.count in
    omega (arith, count, ap (λ (xs : List (List ℕ)). length xs) c.in-Some.ensures.joins.1.ids, ap (λ (xs : List (List ℕ)). length xs) c.ask_alone.ensures.empty.ids)

pub returns-in-Some-clause-goes_on : goal.returns-in-Some-clause-goes_on
returns-in-Some-clause-goes_on g c before commands way =
    let e = c.join.ensures in
    let stays = way_stays way e.setting e.disk e.stands c.join.new.batch c.in-Some.ensures.joins.1 in
    subst (λ (command : Command). IsUnderWay before (commands ++ command ∷ []) c.ask_alone.new.receipts.items c.ask_alone.new.self c.ask_alone.new.batch)
    (ap command_of c.in-Some.ensures.joins.0 ∙ c.prepared.view_is) (c.ask_alone.ensures.goes_on before commands stays)

pub returns-in_default-clause-count : goal.returns-in_default-clause-count
returns-in_default-clause-count g c =
    let j = joined c.args.batch.now c.join.new.batch _ c.args.prepared c.prepared.view_is c.prepared.invariant c.in_default.ensures.joins in
    omega (arith, ap (λ (xs : List (List ℕ)). length xs) j.4.ids, length-append c.args.batch.now.ids.items (j.1.new.id ∷ []))

pub returns-in_default-clause-goes_on : goal.returns-in_default-clause-goes_on
returns-in_default-clause-goes_on g c before commands way =
    let e = c.join.ensures in
    let j = joined c.args.batch.now c.join.new.batch _ c.args.prepared c.prepared.view_is c.prepared.invariant c.in_default.ensures.joins in
    subst (λ (command : Command). IsUnderWay before (commands ++ command ∷ []) c.args.receipts.now.items c.join.new.self c.join.new.batch) j.2
    (way_joins way e.setting e.disk e.stands j.0 j.1 c.join.new.batch j.3 j.4)
