use Rattle.std.proofs.Common.{◌≡◌, ◌++◌, List, ℕ, length}
use Rattle.std.specs.Prelude.{flat_map}
use Rattle.std.specs.Int.{w32, to_le_bytes}
use Rattle.soc_raw.specs.Record.{pair_text}
use Rattle.soc_raw.proofs.writing.put_texts.Given as goal

-- some pairs stand behind what stood there and the count, and the others are left
abbrev pub invariant-loop-name : goal.invariant-loop-name
invariant-loop-name l =
    (done : List (List ℕ × List ℕ)) × (done ++ l.name-iterator ≡ l.texts)
    × (l.out.items ≡ (l.fn.out.items ++ to_le_bytes w32 (length l.texts)) ++ flat_map pair_text done)
