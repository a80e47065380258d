use Rattle.std.proofs.Common.{subst}
use Rattle.soc_store.specs.Stored.{PlacesRise}
use Rattle.soc_store.proofs.rows.Rows.len.Goals as goal

pub returns-clause-places_rise : goal.returns-clause-places_rise
returns-clause-places_rise c = subst PlacesRise c.self.view_is c.self.invariant
