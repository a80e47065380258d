use Rattle.std.proofs.Common.{◌≡◌, length, ◌∙◌, ap}
use Rattle.uuid.specs.Text.{hyphenated_text, lower}
use Rattle.soc_raw.specs.Day.{day_of}
use Rattle.soc_raw.specs.CrashId.{as_version_4}
use Rattle.soc_raw.proofs.Ids.{made_is_id, id_made, hyphenated_len, real_of}
use Rattle.soc_raw.proofs.crash_id.CrashId.make.Goals as goal

pub stamped-requires-clause-sized : goal.stamped-requires-clause-sized
stamped-requires-clause-sized c =
    ap length (c.as_bytes.ensures.value ∙ c.encode_lower-text.ensures.text) ∙ hyphenated_len _

pub returns : goal.returns
returns c =
    let version = c.hyphenated.ensures ∙ c.into_uuid-uuid.ensures ∙ c.from_random_bytes.ensures.value in
    let text : c.as_bytes.result.now ≡ hyphenated_text lower (as_version_4 c.args.draw) =
    c.as_bytes.ensures.value ∙ c.encode_lower-text.ensures.text ∙ ap (hyphenated_text lower) version in
    id_made c.as_bytes.result.now c.stamped.result c.args.draw c.args.digit _ _ text c.day_of.ensures.value c.stamped.ensures

pub invariant_of-result : goal.invariant_of-result
invariant_of-result c =
    made_is_id c.stamped.result c.args.draw c.args.digit (day_of c.args.moment) (returns c) (real_of _ _ c.day_of.ensures.value c.day_of.ensures.real)
