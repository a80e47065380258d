use Rattle.std.proofs.Common.{◌∙◌, ap, ◌++◌}
use Rattle.std.specs.Prelude.{codes}
use Rattle.serde_json.specs.Written.{compact_text}
use Rattle.serde_json.specs.Data.{string}
use Rattle.soc_tops.specs.Json.{counts_json, ranks_json}
use Rattle.soc_tops.proofs.PieceLemmas.{put_five}
use Rattle.soc_tops.proofs.json.put_top.Goals as goal

pub returns : goal.returns
returns c =
    let top = c.args.top.now in
    put_five c.args.out.now.items (counts_json top) (ranks_json top) (codes ",\"signature\":") (compact_text (string top.signature)) (codes "}")
    c.put_counts.new.out.items c.put_ranks.new.out.items c.extend_from_slice.new.self.items c.put_text.new.out.items c.extend_from_slice-2.new.self.items
    c.in_ok-put_counts.ensures c.in_ok-put_ranks.ensures c.in_ok-extend_from_slice.ensures.items
    (c.in_ok-put_text.ensures ∙ ap (λ t. c.extend_from_slice.new.self.items ++ compact_text (string t)) c.as_str.ensures)
    c.in_ok-extend_from_slice-2.ensures.items
