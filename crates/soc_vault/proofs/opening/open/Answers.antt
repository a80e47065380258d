use Rattle.std.proofs.lemmas.Result.{err_from_is_err_and}
use Rattle.soc_edge.proofs.Disks.{GoesOn-append}
use Rattle.soc_vault.proofs.Opened.{first_moment, read_moment, whole_moment, stops_before, opens}
use Rattle.soc_vault.proofs.opening.open.Goals as goal

pub returns-in_err-opening-clause-any_moment : goal.returns-in_err-opening-clause-any_moment
returns-in_err-opening-clause-any_moment g c =
    first_moment (g.D.Disk.state c.args.disk.now) (g.D.Disk.state c.open.new.disk) c.open.ensures.disk_stays c.open.ensures.tears

pub returns-in_err-opening-2-clause-bad_entry : goal.returns-in_err-opening-2-clause-bad_entry
returns-in_err-opening-2-clause-bad_entry g c place =
    let p = err_from_is_err_and c.from_residual-in_err-opening-2.result c.from_residual-in_err-opening-2.ensures.1 in
    rw (p.1, p.2) (λ is.
    stops_before (g.D.Disk.state c.args.disk.now) (g.D.Disk.state c.open.new.disk) c.open.ensures.disk_stays c.open.ensures.tears
    (g.D.Disk.state c.give_all.new.disk) (g.met.D.Disk.sound c.open.new.disk) c.give_all.ensures.looks
    c.in_ok-opening.ensures.created c.text_is_one.ensures c.fault_is_one.ensures g.R.Recover.was_given g.R.Recover.refuses c.give_all.new.into place (c.in_err-opening-2.ensures.bad_entry place (cc)))

pub returns-in_err-opening-2-clause-any_moment : goal.returns-in_err-opening-2-clause-any_moment
returns-in_err-opening-2-clause-any_moment g c =
    read_moment (g.D.Disk.state c.args.disk.now) (g.D.Disk.state c.open.new.disk) c.open.ensures.disk_stays c.open.ensures.tears
    (g.D.Disk.state c.give_all.new.disk) (g.met.D.Disk.sound c.open.new.disk) c.give_all.ensures.looks

pub returns-in_err-finish-clause-any_moment : goal.returns-in_err-finish-clause-any_moment
returns-in_err-finish-clause-any_moment g c =
    whole_moment (g.D.Disk.state c.args.disk.now) (g.D.Disk.state c.open.new.disk) c.open.ensures.disk_stays c.open.ensures.tears
    (g.D.Disk.state c.give_all.new.disk) (g.met.D.Disk.sound c.open.new.disk) c.give_all.ensures.looks
    c.in_ok-opening.ensures.created c.text_is_one.ensures (g.R.Recover.was_given c.give_all.new.into) c.in_ok-opening-2.opening c.in_ok-opening-2.ensures.given
    (g.D.Disk.state c.finish.new.disk) c.finish.ensures.tears.goes_on c.finish.ensures.any_moment

pub returns-clause-opens : goal.returns-clause-opens
returns-clause-opens g c =
    opens (g.D.Disk.state c.args.disk.now) (g.D.Disk.state c.open.new.disk) c.open.ensures.disk_stays c.open.ensures.tears
    (g.D.Disk.state c.give_all.new.disk) (g.met.D.Disk.sound c.open.new.disk) c.give_all.ensures.looks
    c.in_ok-opening.ensures.created c.text_is_one.ensures (g.R.Recover.was_given c.give_all.new.into) c.in_ok-opening-2.opening c.in_ok-opening-2.ensures.given
    (g.D.Disk.state c.finish.new.disk) c.finish.ensures.tears.goes_on c.finish.ensures.any_moment
    c.in_ok-opening.opening c.in_ok-opening.ensures.opened c.args.limit c.in_ok-finish.field-0 c.in_ok-finish.ensures.journal c.in_ok-opening-2.ensures.limit c.in_ok-opening.ensures.limit c.in_ok-finish.ensures.at_rest

pub returns-clause-any_moment : goal.returns-clause-any_moment
returns-clause-any_moment g c =
    whole_moment (g.D.Disk.state c.args.disk.now) (g.D.Disk.state c.open.new.disk) c.open.ensures.disk_stays c.open.ensures.tears
    (g.D.Disk.state c.give_all.new.disk) (g.met.D.Disk.sound c.open.new.disk) c.give_all.ensures.looks
    c.in_ok-opening.ensures.created c.text_is_one.ensures (g.R.Recover.was_given c.give_all.new.into) c.in_ok-opening-2.opening c.in_ok-opening-2.ensures.given
    (g.D.Disk.state c.finish.new.disk) c.finish.ensures.tears.goes_on c.finish.ensures.any_moment

pub returns-in_err-opening-2-clause-goes_on : goal.returns-in_err-opening-2-clause-goes_on
returns-in_err-opening-2-clause-goes_on g c = GoesOn-append _ _ _ c.open.ensures.tears.goes_on c.give_all.ensures.looks.goes_on

pub returns-in_err-finish-clause-goes_on : goal.returns-in_err-finish-clause-goes_on
returns-in_err-finish-clause-goes_on g c = GoesOn-append _ _ _ (GoesOn-append _ _ _ c.open.ensures.tears.goes_on c.give_all.ensures.looks.goes_on) c.finish.ensures.tears.goes_on

pub returns-clause-goes_on : goal.returns-clause-goes_on
returns-clause-goes_on g c = GoesOn-append _ _ _ (GoesOn-append _ _ _ c.open.ensures.tears.goes_on c.give_all.ensures.looks.goes_on) c.finish.ensures.tears.goes_on
