use Rattle.std.proofs.Common.{◌≡◌, ◌+◌, ◌-◌, ◌/◌, length, take, not, refl, sym, ◌∙◌, ap, arith}
use Rattle.std.specs.List.{suffix_len}
use Rattle.std.proofs.lemmas.List.{take_all}
use Rattle.std.proofs.lemmas.List.Sums.{suffix_len-take_yes, suffix_len-take_no}
use Rattle.soc_text.specs.Paths.{is_separator}
use Rattle.soc_dump.specs.Entries.{units}
use Rattle.soc_dump.proofs.Utf16Lemmas.{units-length}
use Rattle.soc_dump.proofs.utf16.name_start.Goals as goal

pub loop-start-init : goal.loop-start-init
loop-start-init c =
    let path = c.args.path.now in
    let count = units-length path in
    record {
      within = omega arith;
      passed = rw (take_all (length path / 2) (units path) (omega (arith, count)), count) refl;
    }

pub returns-then-is_separator-clause-value : goal.returns-then-is_separator-clause-value
returns-then-is_separator-clause-value c =
    let found = units c.args.path.now in
    let start = c.loop-start.start in
    let count = units-length c.args.path.now in
    let none : suffix_len (λ unit. not (is_separator unit)) (take start found) ≡ 0 =
    suffix_len-take_no (λ unit. not (is_separator unit)) found start 0 c.loop-start-test.true (omega (arith, count, c.loop-start.invariant.within))
    (ap not (ap is_separator (sym c.unit_at.ensures) ∙ sym c.is_separator.ensures ∙ c.if-is_separator.true)) in
    omega (arith, none, c.loop-start.invariant.passed)

pub loop-start-preserved : goal.loop-start-preserved
loop-start-preserved c =
    let found = units c.args.path.now in
    let start = c.loop-start.start in
    let count = units-length c.args.path.now in
    let one : suffix_len (λ unit. not (is_separator unit)) (take start found) ≡ 1 + suffix_len (λ unit. not (is_separator unit)) (take (start - 1) found) =
    suffix_len-take_yes (λ unit. not (is_separator unit)) found start 0 c.loop-start-test.true (omega (arith, count, c.loop-start.invariant.within))
    (ap not (ap is_separator (sym c.unit_at.ensures) ∙ sym c.is_separator.ensures ∙ c.if-is_separator.false)) in
    record {
      within = omega (arith, c.loop-start.invariant.within);
      passed = omega (arith, one, c.loop-start.invariant.passed, c.loop-start-test.true);
    }
