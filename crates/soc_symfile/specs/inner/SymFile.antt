-- How a symbol file holds its records.
use Rattle.std.specs.Prelude.{map}
use Rattle.soc_symfile.specs.declared.symfile.SymFile.TheInside.{Inside}
use Rattle.soc_symfile.specs.Records.{Records}
use Rattle.soc_symfile.specs.inner.Tables.{owner_address, label_address, file_number}
use Rattle.soc_symfile.specs.inner.Places.{IsIndex}

abbrev pub records_in_file : Inside → Records
records_in_file s = s.tables

-- the sorted places are those of the records
pub record IsIndexed (s : Inside) : Type 0 where
  pub functions : IsIndex s.functions.items (map owner_address s.tables.functions)
  pub publics : IsIndex s.publics.items (map label_address s.tables.publics)
  pub files : IsIndex s.files.items (map file_number s.tables.files)
  pub inits : IsIndex s.inits.items (map owner_address s.tables.inits)
