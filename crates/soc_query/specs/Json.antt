-- An answer as a JSON object (RFC 8259), compact, with names in byte order: this project's profile.
use Rattle.std.specs.Prelude.{ℕ, List, ◌++◌, codes, decimal}
use Rattle.soc_schema.specs.Commas.{joined}
use Rattle.soc_schema.specs.Fields.{name_of}
use Rattle.soc_schema.specs.RowJson.{row_json, value_json}
use Rattle.soc_query.specs.declared.answer.Term.{Term}
use Rattle.soc_query.specs.declared.answer.Facet.{Facet}
use Rattle.soc_query.specs.declared.answer.Answer.{Answer}

abbrev pub term_json : Term → List ℕ
term_json t = codes "{\"count\":" ++ decimal t.count ++ codes ",\"term\":" ++ value_json t.value ++ codes "}"

abbrev pub facet_json : Facet → List ℕ
facet_json f = codes "\"" ++ name_of f.field ++ codes "\":[" ++ joined term_json f.terms ++ codes "]"

abbrev pub answer_json : Answer → List ℕ
answer_json a =
    codes "{\"errors\":[],\"facets\":{" ++ joined facet_json a.facets ++ codes "},\"hits\":[" ++ joined row_json a.hits ++ codes "],\"total\":" ++ decimal a.total ++ codes "}"
