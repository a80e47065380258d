use Rattle.std.proofs.lemmas.Simd.{map-map}
use Rattle.soc_symfile.specs.inner.Tables.{owner_entry, same_line, owner_address}
use Rattle.soc_symfile.proofs.tables.Tables.function_places.Goals as goal

pub returns : goal.returns
returns c = rw (← c.self.view_is, map-map owner_address (owner_entry same_line c.self.inside.sources.items) c.self.inside.functions.items, ← c.as_slice.ensures.value) c.index.ensures
