-- What the threads of a crew do with its ring of jobs.
use Rattle.std.specs.Prelude.{◌≡◌, ℕ, ◌-◌, ◌<◌, Option, Some, MatchOption, List, [], ◌∷◌, ◌++◌, length, take, All}
use Rattle.soc_pool.specs.declared.jobs.Job.{Job}
use Rattle.soc_pool.specs.declared.jobs.Job.TheVariants as J
use Rattle.soc_pool.specs.declared.jobs.TheConstants.{PLACES}
use Rattle.soc_pool.specs.declared.rule.Seen.{Seen}
use Rattle.soc_pool.specs.Ring.{Puts, PutsOver}
use Rattle.soc_service.specs.Works.{crash_jobs}

-- how many `End`s are left to put where one was put, and this job was taken out for it
abbrev pub left_after : ℕ → Option Job → ℕ
left_after left (Some J.End) = left
left_after left _ = left - 1

-- By these steps so many `End`s come to so many that are left to put: each puts one, for which a ring that was full gives a job.
abbrev pub EndsBy : List (Option Job) → ℕ → ℕ → Seen → Seen → Type 0
EndsBy [] ends left v w = (left ≡ ends) × (w ≡ v)
EndsBy (out ∷ steps) ends left v w =
    (0 < ends) × (u : Seen) × MatchOption out (Puts v J.End u) (λ job. PutsOver v job J.End u) × EndsBy steps (left_after ends out) left u w

abbrev pub PutsEnds : ℕ → ℕ → Seen → Seen → Type 0
PutsEnds ends left v w = (steps : List (Option Job)) × EndsBy steps ends left v w

-- who starts a crew puts the jobs of the first crashes that are due, in order, as many as a ring has places, and at the end an `End` for each processor
abbrev pub Starts : List (List ℕ) → ℕ → Seen → Type 0
Starts due processors w = (u : Seen) × (u.puts ≡ crash_jobs (take PLACES due)) × (u.takes ≡ []) × PutsEnds processors 0 u w

-- a collector puts jobs of crashes and takes none
abbrev pub OnlyPuts : Seen → Type 0
OnlyPuts v = (ids : List (List ℕ)) × (v.puts ≡ crash_jobs ids) × (v.takes ≡ [])

-- a processor takes jobs of crashes and at the end an `End`, and puts those of crashes that waited for a place
abbrev pub TakesToEnd : Seen → Type 0
TakesToEnd v =
    (taken : List (List ℕ)) × (put : List (List ℕ)) × (v.takes ≡ crash_jobs taken ++ J.End ∷ []) × (v.puts ≡ crash_jobs put)

-- what all passes of a crew's ring have seen: those of its collectors, those of its processors, and the one of who started it
pub record Shares (Own : Seen → Type 0) (collectors processors : ℕ) (passes : List Seen) : Type 0 where
  pub collecting : List Seen
  pub processing : List Seen
  pub own : Seen
  pub passes_are : passes ≡ (collecting ++ processing) ++ own ∷ []
  pub collectors_are : length collecting ≡ collectors
  pub processors_are : length processing ≡ processors
  pub put : All OnlyPuts collecting
  pub took : All TakesToEnd processing
  pub started : Own own
