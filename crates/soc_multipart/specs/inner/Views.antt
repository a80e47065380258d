-- What contracts see of the types that borrow from a body.
use Rattle.std.specs.Prelude.{◌≡◌, ℕ, List, [], ◌∷◌, ◌++◌, map}
use Rattle.soc_multipart.specs.declared.params.Param.{Param}
use Rattle.soc_multipart.specs.declared.heads.Line.{Line}
use Rattle.soc_multipart.specs.declared.heads.Named.{Named}
use Rattle.soc_multipart.specs.declared.heads.Named.TheVariants.{Never, Once, Often}
use Rattle.soc_multipart.specs.declared.heads.HeadEnd.{HeadEnd}
use Rattle.soc_multipart.specs.declared.heads.HeadEnd.TheVariants.{Content, Open}
use Rattle.soc_text.specs.Lines.{crlf}
use Rattle.soc_multipart.specs.Params.{ParamText}
use Rattle.soc_multipart.specs.Heads.{LineText}

-- a parameter without where it lies in memory
abbrev pub param_text : Param → ParamText
param_text p = record { name = p.name.now; value = p.value.items }

abbrev pub param_texts : List Param → List ParamText
param_texts ps = map param_text ps

-- a line without where it lies in memory
abbrev pub line_text : Line → LineText
line_text l = record { name = l.name.now; raw = l.raw.now }

abbrev pub line_texts : List Line → List LineText
line_texts ls = map line_text ls

-- whether there is no value, this one, or more
abbrev pub HasValues : List (List ℕ) → Named → Type 0
HasValues values Never = values ≡ []
HasValues values (Once value) = values ≡ value.now ∷ []
HasValues values Often = (first : List ℕ) × (second : List ℕ) × (more : List (List ℕ)) × (values ≡ first ∷ second ∷ more)

-- by an empty line at the front of rest, behind which the content stands in tail, or not
abbrev pub EndsSo : List ℕ → List ℕ → HeadEnd → Type 0
EndsSo rest tail (Content content) = (tail ≡ crlf ++ content.now) × ((front : List ℕ) × (rest ≡ crlf ++ front))
EndsSo rest tail (Open open') = (open'.now ≡ tail) × ((front : List ℕ) → ¬ (rest ≡ crlf ++ front))
