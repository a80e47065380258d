use Rattle.soc_store.proofs.StoreLemmas.{place_there}
use Rattle.soc_store.proofs.rows.Rows.place_at.Goals as goal

pub returns : goal.returns
returns c = place_there (λ e. e.place) (λ e. e.row.value) c.self.inside.entries.items c.args.self.now c.args.i c.index.result.now c.self.view_is c.requires c.index.ensures
