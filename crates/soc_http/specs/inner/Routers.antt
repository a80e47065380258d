-- What a router of literal paths holds.
use Rattle.std.specs.Prelude.{ℕ, Bool, not, ◌&&◌, ◌==◌, nat_lt, List, [], ◌∷◌}
use Rattle.std.specs.List.{list_all}
use Rattle.matchit.specs.Rows.{RowsOf}
use Rattle.matchit.specs.Router.{RouteOf}
use Rattle.soc_http.specs.Route.{Target}

-- a text that a router takes as it stands: it has no brace
abbrev pub is_literal : List ℕ → Bool
is_literal path = list_all (λ b. nat_lt b 256 && (not (b == 123) && not (b == 125))) path

-- the row of a literal path
abbrev pub row_of : List ℕ × Target → List ℕ × RouteOf Target
row_of l = (l.0, record { pattern = l.0; text = l.0; names = []; value = l.1 })

-- the rows of a router that holds these paths and no other
abbrev pub rows_of : List (List ℕ × Target) → RowsOf (RouteOf Target)
rows_of [] = []
rows_of (l ∷ rest) = row_of l ∷ rows_of rest
