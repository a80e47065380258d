use Rattle.soc_edge.proofs.Disks.{Looks-append}
use Rattle.soc_vault.proofs.Findings.{fewer_left, reading_begins}
use Rattle.soc_vault.proofs.opening.give_all.Goals as goal

pub loop-found-init : goal.loop-found-init
loop-found-init g c =
    reading_begins (g.R.Recover.was_given c.args.into.now) (g.R.Recover.name c.args.into.now) (g.D.Disk.state c.args.disk.now) c.args.opening (g.met.D.Disk.sound c.args.disk.now) c.requires.fresh c.requires.reads

pub loop-found-smaller : goal.loop-found-smaller
loop-found-smaller g c =
    fewer_left c.loop-found.opening c.find_next.new.opening c.in-Some.found c.in_ok-found.ensures.opening (rw c.in-Some.is at c.in_ok-found.ensures.moves)

pub returns-in_err-found-clause-looks : goal.returns-in_err-found-clause-looks
returns-in_err-found-clause-looks g c = Looks-append _ _ _ c.loop-found.invariant.looks c.find_next.ensures.looks

pub returns-in_err-recover-clause-looks : goal.returns-in_err-recover-clause-looks
returns-in_err-recover-clause-looks g c = Looks-append _ _ _ c.loop-found.invariant.looks c.find_next.ensures.looks

pub returns-clause-looks : goal.returns-clause-looks
returns-clause-looks g c = Looks-append _ _ _ c.loop-found.invariant.looks c.find_next.ensures.looks
