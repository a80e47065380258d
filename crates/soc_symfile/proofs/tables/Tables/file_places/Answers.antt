use Rattle.std.proofs.lemmas.Simd.{map-map}
use Rattle.soc_symfile.specs.inner.Tables.{file_number}
use Rattle.soc_symfile.specs.Views.{file_entry}
use Rattle.soc_symfile.proofs.tables.Tables.file_places.Goals as goal

pub returns : goal.returns
returns c = rw (← c.self.view_is, map-map file_number file_entry c.self.inside.files.items, ← c.as_slice.ensures.value) c.index.ensures
