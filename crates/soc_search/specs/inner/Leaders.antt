-- The terms with the greatest counts among many.
use Rattle.std.specs.Prelude.{ℕ, ◌≤◌, ◌<◌, List, [], ◌∷◌, if◌then◌else◌, length, take}
use Rattle.std.specs.List.{AllByRecursion}
use Rattle.std.specs.Ordering.{nat_cmp, is_gt}
use Rattle.std.specs.declared.cmp.Ordering.{Ordering}
use Rattle.soc_query.specs.declared.answer.Term.{Term}

-- greater counts first
abbrev pub by_count : Term → Term → Ordering
by_count t u = nat_cmp u.count t.count

-- in order, behind what it ties with
abbrev pub put_last : {X : Type 0} → (X → X → Ordering) → X → List X → List X
put_last R x [] = x ∷ []
put_last R x (y ∷ ys) = if is_gt (R y x) then x ∷ y ∷ ys else y ∷ put_last R x ys

-- the first of some terms in order, as many as the size
pub record Leading : Type 0 where
  pub size : ℕ
  pub terms : List Term

-- with one term more
abbrev pub with_term : Term → Leading → Leading
with_term t l = record { size = l.size; terms = take l.size (put_last by_count t l.terms) }

-- no count is below the bar, and with a bar above 0 no term is wanting
abbrev pub IsBar : ℕ → Leading → Type 0
IsBar bar l = AllByRecursion (λ t. bar ≤ t.count) l.terms × (0 < bar → l.size ≤ length l.terms)
