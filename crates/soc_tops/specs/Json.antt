-- Top crashers as a JSON object (RFC 8259), compact, with names in byte order: this project's profile.
use Rattle.std.specs.Prelude.{ℕ, List, ◌++◌, Option, None, Some, codes, decimal}
use Rattle.serde_json.specs.Written.{compact_text}
use Rattle.serde_json.specs.Data.{string}
use Rattle.soc_schema.specs.Commas.{joined}
use Rattle.soc_tops.specs.declared.tops.Top.{Top}
use Rattle.soc_tops.specs.declared.tops.Tops.{Tops}

-- a rank, or null
abbrev pub rank_json : Option ℕ → List ℕ
rank_json None = codes "null"
rank_json (Some rank) = decimal rank

abbrev pub counts_json : Top → List ℕ
counts_json t = codes "{\"count\":" ++ decimal t.count ++ codes ",\"old_count\":" ++ decimal t.old_count

abbrev pub ranks_json : Top → List ℕ
ranks_json t = codes ",\"old_rank\":" ++ rank_json t.old_rank ++ codes ",\"rank\":" ++ decimal t.rank

abbrev pub top_json : Top → List ℕ
top_json t = counts_json t ++ ranks_json t ++ codes ",\"signature\":" ++ compact_text (string t.signature) ++ codes "}"

abbrev pub tops_json : Tops → List ℕ
tops_json t = codes "{\"tops\":[" ++ joined top_json t.tops ++ codes "],\"total\":" ++ decimal t.total ++ codes "}"
