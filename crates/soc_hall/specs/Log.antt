-- The hall's log: the changes that the state opened with, and behind them entries, each a change with the number of the seat whose turn added it.
use Rattle.std.specs.Prelude.{◌⊎◌, ◌≡◌, ℕ, ◌==◌, cond, List, [], ◌∷◌, ◌++◌}
use mathlib.Core.List.{IsPrefix}
use Rattle.soc_hall.specs.declared.view.Entry.{Entry}
use Rattle.soc_hall.specs.declared.view.Turn.{Turn}

module _ {X : Type 0} where
  abbrev pub entry : ℕ → X → Entry X
  entry n x = record { by = n; change = x }

  -- a piece, as the turn of the seat n adds it
  abbrev pub tagged : ℕ → List X → List (Entry X)
  tagged n [] = []
  tagged n (x ∷ xs) = entry n x ∷ tagged n xs

  abbrev pub changes : List (Entry X) → List X
  changes [] = []
  changes (e ∷ es) = e.change ∷ changes es

  -- the changes that bear the number n
  abbrev pub changes_by : ℕ → List (Entry X) → List X
  changes_by n [] = []
  changes_by n (e ∷ es) = cond (e.by == n) (e.change ∷ changes_by n es) (changes_by n es)

  -- the log whose entries behind the opening are these
  abbrev pub whole : List X → List (Entry X) → List X
  whole opening es = opening ++ changes es

module _ {X C P : Type 0} where
  -- the pieces of all turns, joined
  abbrev pub pieces : List (Turn X C P) → List X
  pieces [] = []
  pieces (t ∷ ts) = t.piece ++ pieces ts

-- of two beginnings of one list the longer
abbrev pub IsLonger : {A : Type 0} → List A → List A → List A → Type 0
IsLonger s a b = ((s ≡ a) × IsPrefix b s) ⊎ ((s ≡ b) × IsPrefix a s)
