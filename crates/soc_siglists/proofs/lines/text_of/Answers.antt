use Rattle.std.proofs.lemmas.List.Sums.{suffix_len-le-length}
use Rattle.soc_siglists.specs.Entries.{is_end_blank}
use Rattle.soc_siglists.proofs.lines.text_of.Goals as goal

pub slice_bounds-result-count : goal.slice_bounds-result-count
slice_bounds-result-count c = rw c.end_blanks_len.ensures (suffix_len-le-length is_end_blank c.args.line.now)
