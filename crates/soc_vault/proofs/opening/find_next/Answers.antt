use Rattle.std.proofs.Common.{length, ap, arith}
use Rattle.std.proofs.lemmas.Result.{err_from_is_err_and}
use Rattle.soc_edge.proofs.Disks.{Looks-append}
use Rattle.soc_vault.proofs.Findings.{finds_err, finds_none, moves_by}
use Rattle.soc_vault.proofs.Standing.{counts_entry}
use Rattle.soc_vault.proofs.opening.find_next.Goals as goal

pub returns-in_err-mark-clause-finds : goal.returns-in_err-mark-clause-finds
returns-in_err-mark-clause-finds g c =
    let p = err_from_is_err_and c.from_residual.result c.from_residual.ensures.1 in
    rw (p.1, p.2) (finds_err (g.D.Disk.state c.args.disk.now).content c.args.opening.now c.next.new.self (g.D.Disk.state c.args.disk.now).images (g.D.Disk.state c.next.new.disk).images c.in_err-mark.field-0.0 c.in_err-mark.ensures.finds)

pub returns-in_default-clause-finds : goal.returns-in_default-clause-finds
returns-in_default-clause-finds g c =
    finds_none (g.D.Disk.state c.args.disk.now).content c.args.opening.now c.next.new.self (g.D.Disk.state c.args.disk.now).images (g.D.Disk.state c.next.new.disk).images c.in_ok-mark.field-0 c.in_default.is c.in_ok-mark.ensures.finds

pub returns-clause-moves : goal.returns-clause-moves
returns-clause-moves g c =
    let moved = rw c.in-Some.is at c.in_ok-mark.ensures.moves in
    let counted = rw c.in-Some.is at c.in_ok-mark.ensures.handed_out in
    moves_by c.args.opening.now c.next.new.self c.in-Some.mark c.in-Ok.body c.as_slice.result.now moved.0 moved.1 counted.fits c.as_slice.ensures c.if-as_slice-mark.false

pub returns-clause-counts : goal.returns-clause-counts
returns-clause-counts g c =
    let counted = rw c.in-Some.is at c.in_ok-mark.ensures.handed_out in
    counts_entry c.next.new.self.version c.in-Some.mark.kind c.in-Some.mark.length c.in-Some.mark.place c.next.new.self.length c.in-Ok.body c.as_slice.result.now counted c.as_slice.ensures c.if-as_slice-mark.false

pub returns-clause-within : goal.returns-clause-within
returns-clause-within g c =
    let fits = rw c.in-Some.is at c.in_ok-mark.ensures.within in
    let same = ap (λ x. length x) c.as_slice.ensures in
    omega (arith, fits, same, c.if-as_slice-mark.false)

pub returns-in-Err-clause-looks : goal.returns-in-Err-clause-looks
returns-in-Err-clause-looks g c = Looks-append _ _ _ c.next.ensures.disk_stays c.body.ensures.disk_stays

pub returns-then-as_slice-mark-clause-looks : goal.returns-then-as_slice-mark-clause-looks
returns-then-as_slice-mark-clause-looks g c = Looks-append _ _ _ c.next.ensures.disk_stays c.body.ensures.disk_stays

pub returns-clause-looks : goal.returns-clause-looks
returns-clause-looks g c = Looks-append _ _ _ c.next.ensures.disk_stays c.body.ensures.disk_stays
