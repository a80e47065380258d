-- The pages, line by line. This project's profile.
use Rattle.std.specs.Prelude.{ℕ, List, [], ◌++◌, codes, decimal}
use Rattle.std.specs.Option.{option_map_or}
use Rattle.std.specs.List.{flat_map}
use Rattle.soc_schema.specs.declared.value.Cell.{Cell}
use Rattle.soc_schema.specs.Fields.{name_of}
use Rattle.soc_schema.specs.Rows.{value_of}
use Rattle.soc_query.specs.declared.answer.Term.{Term}
use Rattle.soc_query.specs.declared.answer.Facet.{Facet}
use Rattle.soc_query.specs.declared.answer.Answer.{Answer}
use Rattle.soc_tops.specs.declared.tops.Top.{Top}
use Rattle.soc_tops.specs.declared.tops.Tops.{Tops}
use Rattle.soc_pages.specs.Escape.{escaped, shown}

-- ---- a report

abbrev pub field_row : Cell → List ℕ
field_row cell = codes "<tr><th>" ++ (escaped (name_of cell.field) ++ (codes "</th><td>" ++ (shown cell.value ++ codes "</td></tr>\n")))

abbrev pub report_page : List ℕ → List Cell → List ℕ
report_page id row =
    codes "<!DOCTYPE html>\n<title>" ++ (escaped id ++ (codes "</title>\n<table>\n" ++ (flat_map field_row row ++ codes "</table>\n")))

-- ---- a search

-- a hit's value in a column, where it has one
abbrev pub column_cell : List Cell → ℕ → List ℕ
column_cell hit column = codes "<td>" ++ (option_map_or shown (value_of hit column) [] ++ codes "</td>")

abbrev pub hit_row : List ℕ → List Cell → List ℕ
hit_row columns hit = codes "<tr>" ++ (flat_map (column_cell hit) columns ++ codes "</tr>\n")

abbrev pub term_item : Term → List ℕ
term_item term = codes "<li>" ++ (shown term.value ++ (codes ": " ++ (decimal term.count ++ codes "</li>\n")))

abbrev pub facet_lines : Facet → List ℕ
facet_lines facet =
    codes "<h2>" ++ (escaped (name_of facet.field) ++ (codes "</h2>\n<ul>\n" ++ (flat_map term_item facet.terms ++ codes "</ul>\n")))

abbrev pub search_page : Answer → List ℕ
search_page answer =
    codes "<!DOCTYPE html>\n<title>search</title>\n<p>" ++ (decimal answer.total ++ (codes "</p>\n<table>\n"
    ++ (flat_map (hit_row answer.columns) answer.hits ++ (codes "</table>\n" ++ flat_map facet_lines answer.facets))))

-- ---- top crashers

abbrev pub top_row : Top → List ℕ
top_row top =
    codes "<tr><td>" ++ (decimal top.rank ++ (codes "</td><td>" ++ (escaped top.signature ++ (codes "</td><td>"
    ++ (decimal top.count ++ (codes "</td><td>" ++ (decimal top.old_count ++ codes "</td></tr>\n")))))))

abbrev pub tops_page : Tops → List ℕ
tops_page tops =
    codes "<!DOCTYPE html>\n<title>top crashers</title>\n<p>" ++ (decimal tops.total ++ (codes "</p>\n<table>\n"
    ++ (flat_map top_row tops.tops ++ codes "</table>\n")))
