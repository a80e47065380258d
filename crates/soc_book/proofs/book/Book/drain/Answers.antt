use Rattle.std.proofs.Common.{◌≡◌, ap, sym, ◌∙◌, arith}
use Rattle.soc_book.proofs.Words.{Looks-append}
use Rattle.soc_book.proofs.Settings.{same_setting}
use Rattle.soc_book.proofs.Turnings.{drain_stopped, drained, due_count_is, next_turn}
use Rattle.soc_book.proofs.book.Book.drain.Goals as goal

pub returns-in-Err-clause-does : goal.returns-in-Err-clause-does
returns-in-Err-clause-does g c = λ caller may basis state row stands.
    let so_far = c.loop-turns.invariant in
    let between = so_far.turned basis state row stands in
    let turn = c.in-Err.ensures.turns basis between.0 (row ∙ ap g.R.Reporter.row_of (sym so_far.setting.reporter)) between.1 in
    let looks = Looks-append _ _ _ so_far.looks c.in-Err.ensures.looks in
    (turn.0, turn.1, drain_stopped stands _ looks caller may c.loop-turns.turns between.0 turn.0 between.2 c.in-Err.refusal _ so_far.looks.goes_on turn.2)

pub returns-in-Err-clause-looks : goal.returns-in-Err-clause-looks
returns-in-Err-clause-looks g c = Looks-append _ _ _ c.loop-turns.invariant.looks c.in-Err.ensures.looks

pub loop-turns-preserved : goal.loop-turns-preserved
loop-turns-preserved g c =
    let so_far = c.loop-turns.invariant in
    record {
      setting = same_setting so_far.setting c.in_default.ensures.setting;
      looks = Looks-append _ _ _ so_far.looks c.in_default.ensures.looks;
      turned = λ basis state row stands.
          let between = so_far.turned basis state row stands in
          let turn = c.in_default.ensures.turns basis between.0 (row ∙ ap g.R.Reporter.row_of (sym so_far.setting.reporter)) between.1 in
          let some = c.loop-turns-test.true in
          (turn.0, turn.1, next_turn basis state c.loop-turns.turns between.0 turn.0 c.in_default.field-0 _ _ between.2 (rw (c.due-due.ensures, due_count_is stands) at some) turn.2);
    }

pub returns-clause-does : goal.returns-clause-does
returns-clause-does g c = λ caller may basis state row stands.
    let so_far = c.loop-turns.invariant in
    let between = so_far.turned basis state row stands in
    let same : c.loop-turns.turns ≡ c.due-due.result = omega arith in
    (between.0, between.1, drained stands _ so_far.looks caller may c.loop-turns.turns c.from.result between.0 (same ∙ sym c.from.ensures) (c.from.ensures ∙ c.due-due.ensures) between.2)
