use Rattle.std.proofs.Common.{◌≡◌, ◌∙◌, ◌+◌, ◌/◌, [], length, ap, sym, unwrap_or}
use Rattle.std.specs.Prelude.{slice_get}
use Rattle.std.proofs.lemmas.List.Splits.{length-slice_split}
use Rattle.soc_report.specs.inner.Parts.{is_slash, parts_of, middle_of}
use Rattle.soc_report.proofs.parts.middle_part.Goals as goal

pub returns : goal.returns
unfolding middle_of
returns c =
    let long : c.slashes.result + 1 ≡ length (parts_of c.args.path.now) = ap (λ n. n + 1) c.slashes.ensures ∙ sym (length-slice_split is_slash c.args.path.now) in
    c.part_at.ensures ∙ ap (λ n. unwrap_or (slice_get (parts_of c.args.path.now) (n / 2)) []) long
