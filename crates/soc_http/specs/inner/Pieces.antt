-- A text in several pieces, of which a buffer holds the last bytes back.
use Rattle.std.specs.Prelude.{◌≡◌, ℕ, List, ◌++◌, flat_map}
use Rattle.std.specs.Borrow.{Bor}
use Rattle.soc_edge.specs.Told.{Told, Writes}

-- the pieces, one behind the other
abbrev pub pieces_text : List (Bor (List ℕ)) → List ℕ
pieces_text pieces = flat_map (λ piece. piece.now) pieces

-- of the bytes done since the start, the sink took all but the pending ones
pub record IsSent (start now : Told) (pending done : List ℕ) : Type 0 where
  pub taken : List ℕ
  pub whole : done ≡ taken ++ pending
  pub writes : Writes start now taken
