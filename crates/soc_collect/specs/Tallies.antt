-- What is counted of the connections that were served. This project's own.
use Rattle.std.specs.Prelude.{ℕ, ◌+◌, Bool, false, ◌||◌}

-- how many connections, how many kept changes and stops, and whether a receipt said stopped
pub record Counts : Type 0 where
  pub connections : ℕ
  pub kept : ℕ
  pub stopped : Bool

abbrev pub nothing_served : Counts
nothing_served = record { connections = 0; kept = 0; stopped = false }

abbrev pub together : Counts → Counts → Counts
together a b = record { connections = a.connections + b.connections; kept = a.kept + b.kept; stopped = a.stopped || b.stopped }

-- with one more connection, of which so many changes and stops came
abbrev pub with_one : Counts → ℕ → Bool → Counts
with_one counts kept stopped = together counts (record { connections = 1; kept = kept; stopped = stopped })
