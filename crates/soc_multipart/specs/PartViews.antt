-- What contracts see of a part.
use Rattle.std.specs.Prelude.{List, ℕ, map}
use Rattle.soc_multipart.specs.declared.parts.Part.{Part}
use Rattle.soc_multipart.specs.Parts.{PartText}

-- a part without where its content lies in memory
abbrev pub part_text : Part → PartText
part_text p = record { name = p.name; file = p.file; kind = p.kind; content = p.content.now }

abbrev pub part_texts : List Part → List PartText
part_texts ps = map part_text ps
