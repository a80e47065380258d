-- The calls of an object in memory: it fails at the numbers that it was given, counted from 0.
use Rattle.std.specs.Prelude.{ℕ, ◌+◌, min, Bool, List, nat_eq, Result, is_err, if◌then◌else◌}
use Rattle.std.specs.List.{list_any}
use Rattle.soc_edge.specs.Faults.{last_count}

-- how many calls were made, how many of them failed, and the numbers of those that fail
pub record Calls : Type 0 where
  pub fails : List ℕ
  pub made : ℕ
  pub failed : ℕ

abbrev pub no_calls : List ℕ → Calls
no_calls fails = record { fails = fails; made = 0; failed = 0 }

-- the next call is one of those that fail
abbrev pub is_due : Calls → Bool
is_due calls = list_any (λ n. nat_eq n calls.made) calls.fails

-- one more; a count stands still at its last value
abbrev pub one_more : ℕ → ℕ
one_more n = min (n + 1) last_count

-- after a call that succeeded
abbrev pub passed : Calls → Calls
passed calls = record calls { made = one_more calls.made }

-- after a call that failed
abbrev pub failed : Calls → Calls
failed calls = record calls { made = one_more calls.made; failed = one_more calls.failed }

-- after a call that answered this
abbrev pub after_call : {T E : Type 0} → Calls → Result T E → Calls
after_call calls answer = if is_err answer then failed calls else passed calls
