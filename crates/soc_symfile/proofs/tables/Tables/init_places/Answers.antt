use Rattle.std.proofs.lemmas.Simd.{map-map}
use Rattle.soc_symfile.specs.inner.Tables.{owner_entry, owner_address}
use Rattle.soc_symfile.specs.Views.{label_entry}
use Rattle.soc_symfile.proofs.tables.Tables.init_places.Goals as goal

pub returns : goal.returns
returns c = rw (← c.self.view_is, map-map owner_address (owner_entry label_entry c.self.inside.deltas.items) c.self.inside.inits.items, ← c.as_slice.ensures.value) c.index.ensures
