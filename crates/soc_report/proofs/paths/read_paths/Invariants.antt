use Rattle.std.proofs.Common.{◌≡◌, true, map, take}
use Rattle.std.specs.List.{list_all}
use Rattle.std.specs.Str.{is_utf8}
use Rattle.soc_report.proofs.paths.read_paths.Given as goal

-- the entries so far are paths
abbrev pub invariant-loop-entry : goal.invariant-loop-entry
invariant-loop-entry l = record {
  same : l.paths.items ≡ map (λ t. t.now) (take l.entry-index l.entry-items);
  utf8 : list_all is_utf8 l.paths.items ≡ true;
}
