use Rattle.std.proofs.Common.{◌≡◌, List, ℕ, ◌++◌}
use Rattle.soc_sigrules.specs.Signatures.{summary_of}
use Rattle.soc_sigrules.proofs.builder.signature.Given as goal

-- these frames were pushed, and the others are left
abbrev pub invariant-loop-frame : goal.invariant-loop-frame
invariant-loop-frame l =
    (pushed : List (List ℕ)) × (pushed ++ l.frame-iterator ≡ l.fn.input.frames) × (l.builder ≡ summary_of l.fn.lists pushed)
