-- What the program's values hold, without the places where their slices lie in memory.
use Rattle.std.specs.Prelude.{map, option_map}
use Rattle.soc_symfile.specs.declared.entries.Extent.{Extent}
use Rattle.soc_symfile.specs.declared.entries.Label.{Label}
use Rattle.soc_symfile.specs.declared.entries.File.{File as NamedFile}
use Rattle.soc_symfile.specs.declared.entries.Line.{Line}
use Rattle.soc_symfile.specs.declared.entries.Line.TheVariants as L
use Rattle.soc_symfile.specs.declared.cfi_span.CfiSpan.{CfiSpan}
use Rattle.soc_symfile.specs.declared.found.Found.{Found}
use Rattle.soc_symfile.specs.Line.{ExtentEntry, LabelEntry, FileEntry, LineEntry, Other, File, Function, Source, Public, Init, Delta}
use Rattle.soc_symfile.specs.Found.{Finding}
use Rattle.soc_symfile.specs.Cfi.{Span}

abbrev pub extent_entry : Extent → ExtentEntry
extent_entry extent = record { address = extent.address; size = extent.size; text = extent.text.now }

abbrev pub label_entry : Label → LabelEntry
label_entry label = record { address = label.address; text = label.text.now }

abbrev pub file_entry : NamedFile → FileEntry
file_entry file = record { number = file.number; name = file.name.now }

abbrev pub span_of : CfiSpan → Span
span_of span = record { init = span.init.now; deltas = map label_entry span.deltas.now }

abbrev pub finding_of : Found → Finding
finding_of found = record {
  function = option_map (λ s. s.now) found.function;
  file = option_map (λ s. s.now) found.file;
  line = found.line;
}

abbrev pub line_entry : Line → LineEntry
line_entry L.Other = Other
line_entry (L.File file) = File (file_entry file)
line_entry (L.Function extent) = Function (extent_entry extent)
line_entry (L.Source line) = Source line
line_entry (L.Public label) = Public (label_entry label)
line_entry (L.Init extent) = Init (extent_entry extent)
line_entry (L.Delta label) = Delta (label_entry label)
