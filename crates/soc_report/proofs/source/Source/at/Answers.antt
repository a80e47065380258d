use Rattle.std.proofs.Common.{◌<◌, ◌∙◌, length, get_or, sym, ap, List, arith}
use Rattle.std.proofs.lemmas.List.{get_or-map as get_or-map_within}
use Rattle.std.proofs.Math.ListN.{get_or-map}
use Rattle.soc_report.specs.Report.{Source, sources}
use Rattle.soc_report.specs.inner.Known.{source_view, no_line}
use Rattle.soc_report.proofs.source.Source.at.Goals as goal

pub returns : goal.returns
returns c =
    let within : c.from.result < length c.table.result.now = omega (arith, c.table.ensures.len, c.from.ensures, c.requires) in
    sym (get_or-map_within source_view c.table.result.now c.from.result _ no_line.source within)
    ∙ ap (λ (l : List Source). get_or l c.from.result no_line.source) c.table.ensures.sources
    ∙ get_or-map (λ l. l.source) sources c.from.result no_line
    ∙ ap (λ k. (get_or sources k no_line).source) c.from.ensures
