-- The rule of the ring: there is one list of the jobs put and one of those taken, and what the ring holds is the rest.
use Rattle.std.specs.Prelude.{◌⊎◌, ◌≡◌, ◌≢◌, ℕ, ◌+◌, ◌<◌, ◌≤◌, List, [], ◌∷◌, ◌++◌, length, ⊤}
use mathlib.Core.Option.{some}
use lib.ListN.{get_elem?}
use Rattle.soc_pool.specs.declared.jobs.Job.{Job}
use Rattle.soc_pool.specs.declared.rule.Entry.{Entry}
use Rattle.soc_pool.specs.declared.rule.Role.{Role}
use Rattle.soc_pool.specs.declared.rule.Role.TheVariants.{Makes, Works, Spent}
use Rattle.soc_pool.specs.declared.rule.Seen.{Seen}
use Rattle.soc_pool.specs.declared.rule.View.{View}
use Rattle.soc_pool.specs.Ring.{jobs, jobs_by, Puts, Takes, TakesFromFull, HasPart, Closes}

-- ---- steps

-- a pass with this number that has seen, put and taken nothing
abbrev pub unseen : ℕ → Seen
unseen n = record { number = n; put = []; taken = []; puts = []; takes = [] }

-- the pass that new ones are made of
abbrev pub maker : View
maker = record { seen = unseen 0; role = Makes; gone = [] }

abbrev pub next_maker : View → View
next_maker v = record v { seen = unseen (v.seen.number + 1) }

abbrev pub newcomer : View → View
newcomer v = record { seen = unseen v.seen.number; role = Works; gone = [] }

abbrev pub gathering : View → View → View
gathering v w = record v { gone = v.gone ++ w.seen ∷ [] }

abbrev pub spent : View
spent = record { seen = unseen 0; role = Spent; gone = [] }

abbrev pub puts_in : View → Job → View → Type 0
puts_in v job w = Puts v.seen job w.seen × (w.role ≡ v.role)

abbrev pub takes_in : View → Job → View → Type 0
takes_in v job w = Takes v.seen job w.seen × (w.role ≡ v.role)

abbrev pub takes_from_full : View → Job → View → Type 0
takes_from_full v job w = TakesFromFull v.seen job w.seen × (w.role ≡ v.role)

-- a pass whose call did nothing learns nothing: what it has seen may be long ago
abbrev pub has_nothing : View → List Job → Type 0
has_nothing v held = ⊤

-- whoever has taken back as many passes as were made knows all of them
abbrev pub has_closed : View → List Job → Type 0
has_closed v held = length v.gone ≡ v.seen.number → Closes v.gone

-- ---- the rule

abbrev pub Lives : Role → Type 0
Lives Makes = ⊤
Lives Works = ⊤
Lives Spent = ⊥

abbrev pub works : Role → ℕ
works Makes = 0
works Works = 1
works Spent = 0

abbrev pub total : {V : Type 0} → (V → ℕ) → List V → ℕ
total f [] = 0
total f (x ∷ xs) = f x + total f xs

-- the maker has the next number and what all passes that were taken back knew, and a pass that works has its part of both lists
abbrev pub Fits : List Entry → List Entry → ℕ → List Seen → View → Role → Type 0
Fits put taken next gone v Makes = (v.seen.number ≡ next) × (v.gone ≡ gone)
Fits put taken next gone v Works = (v.seen.number < next) × HasPart put taken v.seen
Fits put taken next gone v Spent = ⊤

-- the number is that of a pass that works, or of one that was taken back
abbrev pub IsOwned : List View → List Seen → ℕ → Type 0
IsOwned views gone n = ((j : ℕ) × (v : View) × (get_elem? views j ≡ some v) × (v.role ≡ Works) × (v.seen.number ≡ n))
    ⊎ ((k : ℕ) × (g : Seen) × (get_elem? gone k ≡ some g) × (g.number ≡ n))

pub record IsRing (held : List Job) (views : List View) : Type 0 where
  pub put : List Entry
  pub taken : List Entry
  pub next : ℕ
  pub gone : List Seen
  pub content : jobs taken ++ held ≡ jobs put
  pub each : (j : ℕ) (v : View) → get_elem? views j ≡ some v → Fits put taken next gone v v.role
  pub apart : (i j : ℕ) (v w : View) → get_elem? views i ≡ some v → get_elem? views j ≡ some w → Lives v.role → Lives w.role → v.seen.number ≡ w.seen.number → i ≡ j
  pub gone_each : (k : ℕ) (g : Seen) → get_elem? gone k ≡ some g → (g.number < next) × HasPart put taken g
  pub gone_apart : (k l : ℕ) (g h : Seen) → get_elem? gone k ≡ some g → get_elem? gone l ≡ some h → g.number ≡ h.number → k ≡ l
  pub gone_away : (k j : ℕ) (g : Seen) (v : View) → get_elem? gone k ≡ some g → get_elem? views j ≡ some v → Lives v.role → g.number ≢ v.seen.number
  pub owners : (n : ℕ) → n < next → IsOwned views gone n
  pub count : total (λ (v : View). works v.role) views + length gone ≡ next
  pub unused : (n : ℕ) → next ≤ n → (jobs_by n put ≡ []) × (jobs_by n taken ≡ [])
