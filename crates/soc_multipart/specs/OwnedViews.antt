-- What contracts see of a part that owns its content.
use Rattle.std.specs.Prelude.{List, map}
use Rattle.soc_multipart.specs.declared.owned_parts.OwnedPart.{OwnedPart}
use Rattle.soc_multipart.specs.Parts.{PartText}

-- a part by what it says
abbrev pub owned_text : OwnedPart → PartText
owned_text p = record { name = p.name; file = p.file; kind = p.kind; content = p.content }

abbrev pub owned_texts : List OwnedPart → List PartText
owned_texts ps = map owned_text ps
