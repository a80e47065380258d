use Rattle.std.proofs.Common.{◌≡◌, ◌<◌, ◌∙◌, [], length, map, ap, sym, arith}
use Rattle.std.proofs.lemmas.List.{get_or-map as get_or-map_within, length-map}
use Rattle.std.specs.Str.{is_utf8}
use Rattle.soc_report.proofs.PathLemmas.{all_false, refuses_paths}
use Rattle.soc_report.proofs.paths.read_paths.Goals as goal

pub returns-in_default-clause-refuses : goal.returns-in_default-clause-refuses
returns-in_default-clause-refuses c =
    let bad = rw c.in_default.is at c.in_ok-path.ensures in
    let entries = c.deref-entry-items.result.now in
    let inside : c.loop-entry.entry-index < length entries = c.loop-entry-test.true in
    let long : length (map (λ t. t.now) entries) ≡ length entries = length-map entries (λ t. t.now) in
    let within : c.loop-entry.entry-index < length (map (λ t. t.now) entries) = omega arith in
    let here = get_or-map_within (λ t. t.now) entries c.loop-entry.entry-index (record { ref_ptr = (0, 0); now = [] }) [] inside in
    refuses_paths c.no_list-in_default.result c.args.bytes.now (map (λ t. t.now) entries) c.no_list-in_default.ensures
    (sym c.in_ok-entries.ensures ∙ ap (map (λ t. t.now)) (sym c.deref-entry-items.ensures.value))
    (all_false (map (λ t. t.now) entries) c.loop-entry.entry-index [] within (ap is_utf8 here ∙ bad))
