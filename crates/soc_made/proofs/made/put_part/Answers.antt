use Rattle.std.proofs.Common.{List, ℕ, ◌++◌, ap, ◌∙◌}
use Rattle.soc_made.proofs.Pieces.{five-pieces}
use Rattle.soc_made.specs.Made.{part}
use Rattle.soc_made.proofs.made.put_part.Goals as goal

pub returns : goal.returns
unfolding part
returns c =
    five-pieces _ _ _ _ _ _ _ _ _ _ _ c.in_ok-extend_from_slice.ensures.items
    (c.in_ok-extend_from_slice-2.ensures.items ∙ ap (λ (l : List ℕ). c.extend_from_slice.new.self.items ++ l) c.as_bytes.ensures.value)
    c.in_ok-extend_from_slice-3.ensures.items c.in_ok-extend_from_slice-4.ensures.items c.in_ok-extend_from_slice-5.ensures.items
