use Rattle.std.proofs.Common.{map}
use Rattle.soc_symfile.specs.inner.Tables.{file_number}
use Rattle.soc_symfile.proofs.FoundLemmas.{file-none, file-some}
use Rattle.soc_symfile.proofs.symfile.SymFile.file_named.Goals as goal

pub returns-in_err-at : goal.returns-in_err-at
returns-in_err-at c =
    let index = rw (← c.as_slice.ensures.value) at c.self.invariant.files in
    rw (c.from_residual.ensures, ← c.self.view_is, ← c.from.ensures)
    (file-none c.self.inside.tables.files _ (c.in_err-at.ensures (map file_number c.self.inside.tables.files) index))

pub returns : goal.returns
returns c =
    let index = rw (← c.as_slice.ensures.value) at c.self.invariant.files in
    rw (← c.self.view_is, ← c.from.ensures)
    (file-some c.self.inside.tables.files _ c.in_ok-at.at _ (c.in_ok-at.ensures (map file_number c.self.inside.tables.files) index) c.file.ensures)
