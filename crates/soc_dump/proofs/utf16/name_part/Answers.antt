use Rattle.std.proofs.Common.{◌≡◌, ◌-◌, ◌*◌, length, drop, not, ◌∙◌, ap, arith}
use Rattle.std.specs.List.{suffix_len}
use Rattle.std.proofs.lemmas.List.{take_rest}
use Rattle.soc_text.specs.Paths.{is_separator}
use Rattle.soc_dump.specs.Entries.{units}
use Rattle.soc_dump.proofs.Utf16Lemmas.{units-drop}
use Rattle.soc_dump.proofs.utf16.name_part.Goals as goal

pub returns : goal.returns
returns c =
    let path = c.args.path.now in
    let start = c.name_start.result in
    let place : start ≡ length (units path) - suffix_len (λ unit. not (is_separator unit)) (units path) = omega (arith, c.name_start.ensures.value) in
    rw (take_rest path (start * 2)) (units-drop path start ∙ ap (λ n. drop n (units path)) place)
