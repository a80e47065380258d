-- What the calls of a ring say of its passes.
use Rattle.std.specs.Prelude.{◌⊎◌, ◌≡◌, ℕ, zero, suc, ◌+◌, ◌-◌, ◌^◌, min, List, [], ◌∷◌, ◌++◌, vec_capacity}
use Rattle.crossbeam_queue.specs.Passes as kit
use Rattle.soc_pool.specs.declared.jobs.Job.{Job}
use Rattle.soc_pool.specs.declared.jobs.Job.TheVariants as J
use Rattle.soc_pool.specs.declared.rule.Seen.{Seen}
use Rattle.soc_pool.specs.declared.rule.View.{View}
use Rattle.soc_pool.specs.declared.pass.Pass.{Pass}
use Rattle.soc_pool.specs.declared.pass.Passes.{Passes}
use Rattle.soc_pool.specs.declared.pass.RingEnd.{RingEnd}
use Rattle.soc_pool.specs.declared.jobs.Jobs.{Jobs}
use Rattle.soc_pool.specs.Ring.{Puts}

-- what the pass has seen
abbrev pub seen_of : Pass → Seen
seen_of pass = (kit.view pass.ring).seen

-- how often a put of it was refused, and how often it found no job
abbrev pub fulls_of : Pass → ℕ
fulls_of pass = pass.fulls

abbrev pub empties_of : Pass → ℕ
empties_of pass = pass.empties

abbrev pub passes_in : Passes → List Pass
passes_in passes = passes.list.items

-- for how many passes there is room
abbrev pub room_of : Passes → ℕ
room_of passes = vec_capacity passes.list

-- the roll of all passes of their ring, and how many they are
abbrev pub roll_of : Passes → kit.Pass Job View
roll_of passes = passes.roll

abbrev pub all_of : Passes → ℕ
all_of passes = (kit.view (roll_of passes)).seen.number

-- it is a pass of this ring
abbrev pub IsPassOf : Jobs → Pass → Type 0
IsPassOf ring pass = kit.IsPassOf ring.ring pass.ring

-- the roll is of this ring
abbrev pub IsRollOf : Jobs → Passes → Type 0
IsRollOf ring passes = kit.IsPassOf ring.ring (roll_of passes)

-- what each pass of a ring that has ended had seen
abbrev pub seen_in : RingEnd → List Seen
seen_in end = (kit.view end.roll).gone

-- a pass that has seen, put and taken nothing
pub record IsNew (pass : Pass) : Type 0 where
  pub seen : seen_of pass ≡ record { number = (seen_of pass).number; put = []; taken = []; puts = []; takes = [] }
  pub fulls : fulls_of pass ≡ 0
  pub empties : empties_of pass ≡ 0

-- the numbers from 0 on, so many
abbrev pub numbers_below : ℕ → List ℕ
numbers_below zero = []
numbers_below (suc n) = numbers_below n ++ n ∷ []

-- counted once more, up to the last value
abbrev pub once_more : ℕ → ℕ
once_more n = min (n + 1) (2 ^ 64 - 1)

-- the job of the crash was put, or the ring refused it, which the pass has counted
abbrev pub PutsOrWaits : List ℕ → Pass → Pass → Type 0
PutsOrWaits crash before after =
    (Puts (seen_of before) (J.Crash crash) (seen_of after) × (fulls_of after ≡ fulls_of before))
    ⊎ ((seen_of after ≡ seen_of before) × (fulls_of after ≡ once_more (fulls_of before)))

-- the job of some crash was put, or none
abbrev pub MayPut : Seen → Seen → Type 0
MayPut v w = (w ≡ v) ⊎ ((crash : List ℕ) × Puts v (J.Crash crash) w)
