use Rattle.std.proofs.Common.{◌≡◌, ℕ, ◌+◌, ◌-◌, ◌<◌, ◌≤◌, List, length, get_or, arith}
use Rattle.std.specs.Str.{IsUtf8}
use Rattle.std.proofs.lemmas.Str.{lead_after_ascii}
use Rattle.soc_text.proofs.paths.base_name.Goals as goal

-- a character begins behind an ASCII byte
begins_behind : (text : List ℕ) (at : ℕ) → IsUtf8 text → 0 < at → at ≤ length text → get_or text (at - 1) 0 < 128
    → at < length text → 128 ≤ get_or text at 0 → 192 ≤ get_or text at 0
begins_behind text at utf8 some within ascii before lead =
    let next : (at - 1) + 1 ≡ at = omega arith in
    let first = lead_after_ascii text (at - 1) utf8 ascii in
    let here = rw next at first in
    here before lead

pub range_from-requires : goal.range_from-requires
range_from-requires c = λ some.
    let bytes = c.as_bytes.ensures.value in
    let within = rw bytes at c.base_start-start.ensures.bound in
    let behind = rw bytes at c.base_start-start.ensures.behind some in
    (within, λ before lead. begins_behind c.args.path.now c.base_start-start.result c.utf8.path some within behind before lead)
