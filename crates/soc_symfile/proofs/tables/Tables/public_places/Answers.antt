use Rattle.std.proofs.lemmas.Simd.{map-map}
use Rattle.soc_symfile.specs.inner.Tables.{label_address}
use Rattle.soc_symfile.specs.Views.{label_entry}
use Rattle.soc_symfile.proofs.tables.Tables.public_places.Goals as goal

pub returns : goal.returns
returns c = rw (← c.self.view_is, map-map label_address label_entry c.self.inside.publics.items, ← c.as_slice.ensures.value) c.index.ensures
