use Rattle.std.proofs.Common.{◌≡◌, length}
use Rattle.std.specs.Str.{IsUtf8}
use Rattle.soc_report.specs.Annotations.{lists_browser}
use Rattle.soc_report.proofs.annotations.lists_browser.Given as goal

-- no item so far is the browser's
abbrev pub invariant-loop-item : goal.invariant-loop-item
invariant-loop-item l = record {
  utf8 : IsUtf8 l.rest;
  same : lists_browser l.fn.text ≡ lists_browser l.rest;
}

abbrev pub decreases-loop-item : goal.decreases-loop-item
decreases-loop-item l = length l.rest
