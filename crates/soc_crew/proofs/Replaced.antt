-- A vector that is worked on as a slice.
use Rattle.std.proofs.Common.{◌≡◌, ℕ, List, ◌++◌, length, take, drop, subst}
use Rattle.std.proofs.Math.Seq.{take-append_seam}

-- all items are replaced
pub replaced : {A : Type 0} (old new : List A) (n : ℕ) → length new ≡ n → take n (new ++ drop (length new) old) ≡ new
replaced old new n is = subst (λ (m : ℕ). take m (new ++ drop (length new) old) ≡ new) is (take-append_seam new (drop (length new) old))
