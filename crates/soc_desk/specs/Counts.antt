-- What is counted of a log: all but the journal's size by its events, without their contents. This project's profile.
use Rattle.std.specs.Prelude.{ℕ, nat_lt, List, length}
use Rattle.soc_ledger.specs.declared.event.Event.{Event}
use Rattle.soc_ledger.specs.Due.{due_ids}
use Rattle.soc_ledger.specs.Events.{ask_count, held_ids, withdrawal_count}
use Rattle.soc_ledger.specs.Reported.{report_count}
use Rattle.soc_journal.specs.Entries.{place_behind}
use Rattle.soc_desk.specs.declared.desk.Counts.{Counts}
use Rattle.soc_desk.specs.Basis.{Basis}
use Rattle.soc_desk.specs.Log.{Change, events}
use Rattle.soc_desk.specs.State.{State, doubted, entries_of, kept_of}

-- how many bytes the journal's header and the entries of these changes have
abbrev pub journal_size : List Change → ℕ
journal_size log = place_behind (entries_of (kept_of log))

-- the counts of these events, of which some more are in doubt, and of a journal of this size
abbrev pub counts_with : List Event → List Event → ℕ → Counts
counts_with log doubt size = record {
  asks = ask_count log;
  crashes = length (held_ids log);
  due = length (due_ids log);
  journal_size = size;
  reports = report_count log;
  withdrawn = withdrawal_count log;
  in_doubt = nat_lt 0 (length doubt);
}

abbrev pub counts_of : Basis → State → Counts
counts_of basis state = counts_with (events basis state.log) (doubted basis state) (journal_size state.log)
