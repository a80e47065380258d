use Rattle.soc_book.proofs.Standing.{allowed_in}
use Rattle.soc_serve.proofs.Hostings.{unswept}
use Rattle.soc_serve.proofs.serving.close.Goals as goal

pub returns-in_default-clause-closes : goal.returns-in_default-clause-closes
returns-in_default-clause-closes g c basis state rows digest stands =
    (state, stands, λ early late. unswept _ _ early late (g.met.D.Disk.sound c.args.book.now.vault.disk.now) basis state (allowed_in stands))
