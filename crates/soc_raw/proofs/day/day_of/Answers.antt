use Rattle.std.proofs.Common.{◌≡◌, pos, arith, rules, ◌∙◌, ap, unsigned_abs, ◌+ℤ◌, ◌*ℤ◌, w8, w16, FitsSigned, to_z-of_z}
use Rattle.jiff_core.proofs.SignedLemmas.{signed_casts}
use Rattle.soc_raw.proofs.Calendar.{the_date, real_date, real_day_of}
use Rattle.soc_raw.proofs.day.day_of.Goals as goal

pub returns-clause-value : goal.returns-clause-value
returns-clause-value c =
    let instant : (c.in-Ok.timestamp.nanosecond +ℤ pos 0) ≡ (pos c.args.moment *ℤ pos 1_000_000_000 +ℤ pos 0) = omega (arith, signed_casts, c.in-Ok.ensures.value) in
    let year_fits : FitsSigned w16 c.year.result = search rules in
    let month_fits : FitsSigned w8 c.month.result = search rules in
    let day_fits : FitsSigned w8 c.day.result = search rules in
    let year = c.unsigned_abs.ensures.value ∙ ap unsigned_abs (to_z-of_z year_fits ∙ c.year.ensures) in
    let month = c.unsigned_abs-2.ensures.value ∙ ap unsigned_abs (to_z-of_z month_fits ∙ c.month.ensures) in
    let day = c.unsigned_abs-3.ensures.value ∙ ap unsigned_abs (to_z-of_z day_fits ∙ c.day.ensures) in
    the_date c.to_datetime.result c.date-date.result c.args.moment _ _ _ c.requires (c.to_datetime.ensures ∙ instant) c.date-date.ensures year month day

pub returns-clause-real : goal.returns-clause-real
returns-clause-real c = real_date _ _ (returns-clause-value c) (real_day_of c.args.moment c.requires)
