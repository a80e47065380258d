use Rattle.std.proofs.Common.{arith}
use Rattle.std.proofs.lemmas.Result.{err_from_is_err_and}
use Rattle.soc_raw.specs.inner.Parts.{crash_of_parts}
use Rattle.soc_raw.proofs.Records.{read_is, refused}
use Rattle.soc_raw.proofs.raw_crash.RawCrash.decode.Goals as goal

pub returns-in_err-parts-clause-bad : goal.returns-in_err-parts-clause-bad
returns-in_err-parts-clause-bad c =
    let p = err_from_is_err_and c.from_residual.result c.from_residual.ensures.1 in
    rw (p.1, p.2) (refused c.in_err-parts.field-0.0 c.args.b.now c.in_err-parts.ensures)

pub invariant_of-result : goal.invariant_of-result
invariant_of-result c =
    let r = read_is c.args.b.now (crash_of_parts c.in_ok-parts.parts) (λ i. omega (arith, c.type_inv.b i)) (omega arith) c.in_ok-parts.ensures in
    record { moment_in = r.1.moment; few_annotations = r.1.few_annotations; few_dumps = r.1.few_dumps; fits = r.1.fits }

pub returns-clause-ok : goal.returns-clause-ok
returns-clause-ok c = (read_is c.args.b.now (crash_of_parts c.in_ok-parts.parts) (λ i. omega (arith, c.type_inv.b i)) (omega arith) c.in_ok-parts.ensures).0

pub returns-clause-whole : goal.returns-clause-whole
returns-clause-whole c = (read_is c.args.b.now (crash_of_parts c.in_ok-parts.parts) (λ i. omega (arith, c.type_inv.b i)) (omega arith) c.in_ok-parts.ensures).1
