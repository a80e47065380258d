-- Worked logs: what events tell, and what the journal behind them tells of each.
use Rattle.std.specs.Prelude.{◌≡◌, true, false, List, [], ◌∷◌, ◌++◌, Some, None, codes, refl}
use Rattle.soc_journal.specs.Entries.{Entry, ask_kind, report_kind, second_version, header, entry_text, sealed_all}
use Rattle.soc_ledger.specs.declared.event.Event.{Event}
use Rattle.soc_ledger.specs.declared.event.Event.TheVariants as E
use Rattle.soc_schema.specs.RowText.{row_text}
use Rattle.soc_desk.specs.Log.{KeptReport, report, keep}
use Rattle.soc_turns.specs.Changes.{changes_at}
use Rattle.soc_turns.specs.Logs.{text_of}

abbrev events : List Event
events = E.Reported (codes "id") true ∷ E.Done (codes "id") ∷ E.Asked (codes "id") ∷ []

abbrev reported : Entry
reported = record { kind = report_kind; body = codes "id, digest and row" }

abbrev asked : Entry
asked = record { kind = ask_kind; body = codes "id" }

-- the second entry is that of the third event: a journal keeps no `Done`
told : changes_at true (Some (header second_version ++ sealed_all (reported ∷ asked ∷ []))) events
    ≡ record { event = E.Reported (codes "id") true; text = Some (codes "id, digest and row") }
    ∷ record { event = E.Done (codes "id"); text = None }
    ∷ record { event = E.Asked (codes "id"); text = Some (codes "id") }
    ∷ []
unfolding entry_text
told = refl

-- a disk that tells nothing tells the events alone
untold : changes_at false None events
    ≡ record { event = E.Reported (codes "id") true; text = None }
    ∷ record { event = E.Done (codes "id"); text = None }
    ∷ record { event = E.Asked (codes "id"); text = None }
    ∷ []
untold = refl

-- of a kept report its id, its digest and its row
report_told : (made : KeptReport) → text_of true (keep (report made)) ≡ Some (made.id ++ (made.digest ++ row_text made.row))
report_told made = refl
