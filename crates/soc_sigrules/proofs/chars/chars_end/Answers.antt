use Rattle.std.proofs.Common.{sym, ◌<◌, arith}
use Rattle.soc_sigrules.proofs.CharLemmas.{passes-start, passes-yes, passes-no, passes-here, passes-end}
use Rattle.soc_sigrules.proofs.chars.chars_end.Goals.{then-begins_char+else-left-eq0, else-begins_char}
use Rattle.soc_sigrules.proofs.chars.chars_end.Goals as goal

pub returns-then-left-eq0 : goal.returns-then-left-eq0
returns-then-left-eq0 c =
    passes-here c.args.count c.args.text.now c.loop-place.place c.loop-place.left c.loop-place.invariant c.loop-place-test.true (sym c.if-begins_char.ensures) c.if-left-eq0.true

pub loop-place-init : goal.loop-place-init
loop-place-init c = passes-start c.args.count c.args.text.now

pub loop-place-preserved : goal.loop-place-preserved
loop-place-preserved c = elim c.if-begins_char.branch [
  | then-begins_char+else-left-eq0 w ↦
      let some : 0 < c.loop-place.left = omega (arith, w.if-left-eq0.false) in
      rw w.left-is
      (passes-yes c.args.count c.args.text.now c.loop-place.place c.loop-place.left c.loop-place.invariant c.loop-place-test.true (sym w.if-begins_char.ensures) some)
  | else-begins_char w ↦
      rw w.left-is
      (passes-no c.args.count c.args.text.now c.loop-place.place c.loop-place.left c.loop-place.invariant c.loop-place-test.true (sym w.if-begins_char.ensures))
]

pub returns : goal.returns
returns c = passes-end c.args.count c.args.text.now c.loop-place.place c.loop-place.left c.loop-place.invariant c.loop-place-test.false
