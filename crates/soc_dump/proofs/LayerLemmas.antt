-- Layers of intervals, one behind another.
use Rattle.std.proofs.Common.{◌≡◌, ℕ, ◌+◌, ◌≤◌, Bool, true, false, List, [], ◌∷◌, ◌++◌, length, take, drop, length-take-le, Option, None, Some, refl, sym, ◌∙◌, ap, cond, option_map, arith}
use Rattle.std.proofs.lemmas.List.{take-append-drop}
use Rattle.std.specs.List.{position_from}
use Rattle.std.specs.Option.{option_or}
use Rattle.soc_dump.specs.Covering.{LayerEntry, layer_owner, owner_in}
use Rattle.soc_dump.proofs.CoveringLemmas.{position_from-append}

option_or-assoc : (o p q : Option ℕ) → option_or (option_or o p) q ≡ option_or o (option_or p q)
option_or-assoc None p q = refl
option_or-assoc (Some i) p q = refl

-- a layer behind others
pub owner_in-append : (layers : List LayerEntry) (layer : LayerEntry) (x : ℕ) → owner_in (layers ++ layer ∷ []) x ≡ option_or (owner_in layers x) (layer_owner layer x)
owner_in-append [] layer x = none (layer_owner layer x) where
  none : (o : Option ℕ) → option_or o None ≡ o
  none None = refl
  none (Some i) = refl
owner_in-append (other ∷ layers) layer x =
    ap (option_or (layer_owner other x)) (owner_in-append layers layer x) ∙ sym (option_or-assoc (layer_owner other x) (owner_in layers x) (layer_owner layer x))

module _ {A : Type 0} (test : A → Bool) where
  -- indexes that are counted from a layer's first
  pub position_from-later : (first i : ℕ) (xs : List A) → option_map (λ owner. first + owner) (position_from test i xs) ≡ position_from test (first + i) xs
  position_from-later first i [] = refl
  position_from-later first i (x ∷ xs) =
      let next : first + (i + 1) ≡ (first + i) + 1 = omega arith in
      elim (test x) as (λ here. option_map (λ owner. first + owner) (cond here (Some i) (position_from test (i + 1) xs)) ≡ cond here (Some (first + i)) (position_from test ((first + i) + 1) xs)) [
        | true ↦ refl
        | false ↦ rw (← next) (position_from-later first (i + 1) xs)
      ]

  -- what is found once two lists were put behind others, one after the other
  pub position_from-twice : (before between after : Option ℕ) (first next : ℕ) (front back : List A) → first + length front ≡ next
      → between ≡ option_or before (position_from test first front)
      → after ≡ option_or between (position_from test next back)
      → after ≡ option_or before (position_from test first (front ++ back))
  position_from-twice before between after first next front back count one two =
      let whole = rw count at (position_from-append test first front back) in
      two ∙ ap (λ o. option_or o (position_from test next back)) one
      ∙ option_or-assoc before (position_from test first front) (position_from test next back) ∙ ap (option_or before) (sym whole)

  -- the same of a list's front and its back
  pub position_from-halves : (before between after : Option ℕ) (first middle : ℕ) (xs : List A) → middle ≤ length xs
      → between ≡ option_or before (position_from test first (take middle xs))
      → after ≡ option_or between (position_from test (first + middle) (drop middle xs))
      → after ≡ option_or before (position_from test first xs)
  position_from-halves before between after first middle xs inside one two =
      let count : first + length (take middle xs) ≡ first + middle = ap (λ n. first + n) (length-take-le middle xs inside) in
      position_from-twice before between after first (first + middle) (take middle xs) (drop middle xs) count one two
      ∙ ap (λ ys. option_or before (position_from test first ys)) (take-append-drop middle xs)
