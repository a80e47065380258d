use Rattle.std.proofs.Common.{◌≡◌, ◌≤◌, length}
use denote.Text.{Utf8}
use denote.Shadow.{shadow}
use Rattle.soc_cfi.specs.Words.{tokens}
use Rattle.soc_cfi.proofs.words.split_token.Given as goal

abbrev pub invariant-loop-later : goal.invariant-loop-later
invariant-loop-later l = record { utf8 : shadow (Utf8 l.rest); same : tokens l.rest ≡ tokens l.text; shorter : length l.rest ≤ length l.text }

abbrev pub decreases-loop-later : goal.decreases-loop-later
decreases-loop-later l = length l.rest
