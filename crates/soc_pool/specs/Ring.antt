-- What a put and a take say: of the lists of jobs put and taken, which only grow, and of which what was taken is a front of what was put. And what all passes say when the ring ends.
use Rattle.std.specs.Prelude.{◌⊎◌, ◌≡◌, ℕ, ◌+◌, ◌==◌, cond, List, [], ◌∷◌, ◌++◌, length, All, refl}
use mathlib.Core.Option.{some}
use mathlib.Core.List.{IsPrefix}
use lib.ListN.{get_elem?}
use Rattle.soc_pool.specs.declared.jobs.Job.{Job}
use Rattle.soc_pool.specs.declared.jobs.TheConstants.{PLACES}
use Rattle.soc_pool.specs.declared.rule.Entry.{Entry}
use Rattle.soc_pool.specs.declared.rule.Seen.{Seen}

pub places_are : PLACES ≡ 1_024
places_are = refl

abbrev pub entry : ℕ → Job → Entry
entry n job = record { by = n; job = job }

abbrev pub jobs : List Entry → List Job
jobs [] = []
jobs (e ∷ es) = e.job ∷ jobs es

-- the jobs of the pass n
abbrev pub jobs_by : ℕ → List Entry → List Job
jobs_by n [] = []
jobs_by n (e ∷ es) = cond (e.by == n) (e.job ∷ jobs_by n es) (jobs_by n es)

-- the pass has seen that what was taken is a front of what was put, and its puts and takes are the entries that bear its number
pub record Owns (v : Seen) : Type 0 where
  pub in_order : IsPrefix (jobs v.taken) (jobs v.put)
  pub puts : jobs_by v.number v.put ≡ v.puts
  pub takes : jobs_by v.number v.taken ≡ v.takes

-- the lists begin with all that the pass has seen
abbrev pub Begins : Seen → List Entry → List Entry → Type 0
Begins v put taken = IsPrefix v.put put × IsPrefix v.taken taken

-- the job was put behind all jobs that were put before
pub record Puts (v : Seen) (job : Job) (w : Seen) : Type 0 where
  pub put : List Entry
  pub taken : List Entry
  pub begins : Begins v put taken
  pub is_now : w ≡ record v { put = put ++ entry v.number job ∷ []; taken = taken; puts = v.puts ++ job ∷ [] }
  pub owns : Owns w

-- the job was taken behind all jobs that were taken before: it is the next of those that were put
pub record Takes (v : Seen) (job : Job) (w : Seen) : Type 0 where
  pub put : List Entry
  pub taken : List Entry
  pub begins : Begins v put taken
  pub is_now : w ≡ record v { put = put; taken = taken ++ entry v.number job ∷ []; takes = v.takes ++ job ∷ [] }
  pub owns : Owns w

-- the same of a ring that was full, and so holds one job less than it has places
abbrev pub TakesFromFull : Seen → Job → Seen → Type 0
TakesFromFull v job w = Takes v job w × (length w.put + 1 ≡ length w.taken + PLACES)

-- the ring was full, so its next job was taken, and then this one was put
abbrev pub PutsOver : Seen → Job → Job → Seen → Type 0
PutsOver v out job w = (u : Seen) × TakesFromFull v out u × Puts u job w

-- the pass has seen a front of both lists, and its puts and takes are the entries that bear its number
pub record HasPart (put taken : List Entry) (v : Seen) : Type 0 where
  pub begins : Begins v put taken
  pub puts : jobs_by v.number put ≡ v.puts
  pub takes : jobs_by v.number taken ≡ v.takes

-- Of all passes of a ring that has ended: there is one list of the jobs put, in order, of which those taken are a front. Each
-- pass has a part of its own of both, no two have one number, and no entry bears a number that is no pass's.
pub record Closes (passes : List Seen) : Type 0 where
  pub put : List Entry
  pub taken : List Entry
  pub left : List Job
  pub in_order : jobs put ≡ jobs taken ++ left
  pub parts : All (HasPart put taken) passes
  pub owners : (number : ℕ) → ((jobs_by number put ≡ []) × (jobs_by number taken ≡ [])) ⊎ ((k : ℕ) × (v : Seen) × (get_elem? passes k ≡ some v) × (v.number ≡ number))
  pub distinct : (j k : ℕ) (v w : Seen) → get_elem? passes j ≡ some v → get_elem? passes k ≡ some w → v.number ≡ w.number → j ≡ k
