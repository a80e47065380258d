use Rattle.std.proofs.Common.{length, string_bytes}
use denote.Shadow.{shadow}
use denote.Text.{Utf8}
use Rattle.soc_sigrules.proofs.SpaceLemmas.{On}
use Rattle.soc_sigrules.proofs.spaces.spaced.Given as goal

abbrev pub invariant-loop-word : goal.invariant-loop-word
invariant-loop-word l = record {
  words : On l.fn.text (string_bytes l.out) l.rest;
  utf8 : shadow (Utf8 l.rest);
}

abbrev pub decreases-loop-word : goal.decreases-loop-word
decreases-loop-word l = length l.rest
