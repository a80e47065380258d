-- A ledger as contracts see it.
use Rattle.std.specs.Prelude.{◌-◌, ℕ, List, [], ◌∷◌, ◌++◌, slice_get}
use Rattle.std.specs.Option.{option_map_or}
use Rattle.soc_ledger.specs.declared.crash.Filed.{Filed}
use Rattle.soc_ledger.specs.declared.crash.Standing.{Standing}
use Rattle.soc_ledger.specs.declared.event.Event.{Event}
use Rattle.soc_ledger.specs.Due.{due_since}
use Rattle.soc_ledger.specs.Events.{was_withdrawn}
use Rattle.soc_ledger.specs.Reported.{has_report, is_kept}

-- a log without contents, the accepted crashes in order, and how many events may follow without an allocation
pub record LedgerState : Type 0 where
  pub log : List Event
  pub crashes : List Filed
  pub room : ℕ

-- what a log says of a crash
abbrev pub standing_of : List Event → List ℕ → Standing
standing_of log id = record { withdrawn = was_withdrawn log id; due_since = due_since log id; has_report = has_report log id; is_kept = is_kept log id }

-- the id of the crash of a number, counted from 0 in the order of acceptance; of no crash, the empty one
abbrev pub id_of : LedgerState → ℕ → List ℕ
id_of ledger number = option_map_or (λ crash. crash.id) (slice_get ledger.crashes number) []

-- one more event
abbrev pub with_event : LedgerState → Event → LedgerState
with_event ledger event = record ledger { log = ledger.log ++ event ∷ []; room = ledger.room - 1 }
