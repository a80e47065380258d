-- What a write leaves of a told content.
use Rattle.std.proofs.Common.{◌≡◌, ℕ, Option, Some, None, List, length, sym, subst}
use Rattle.std.specs.Option.{option_map}
use Rattle.soc_edge.proofs.Disks.{Tears-written}
use Rattle.soc_edge.specs.Disk.{written, Tears, WhereTold}

-- a told content that was written was torn too
pub WhereTold-written : (old new : Option (List ℕ)) (place : ℕ) (bytes : List ℕ)
    → new ≡ option_map (λ content. written content place bytes) old → WhereTold (Tears place (length bytes)) old new
WhereTold-written None new place bytes is =
    let P : Option (List ℕ) → Type 0 = λ x. WhereTold (Tears place (length bytes)) None x in
    subst P (sym is) tt
WhereTold-written (Some content) new place bytes is =
    let P : Option (List ℕ) → Type 0 = λ x. WhereTold (Tears place (length bytes)) (Some content) x in
    subst P (sym is) (Tears-written content place bytes)
