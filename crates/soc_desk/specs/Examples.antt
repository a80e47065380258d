-- Worked logs: what is held, due and reported, who sees what, and what is decided.
use Rattle.std.specs.Prelude.{◌≡◌, ℕ, Bool, List, [], ◌∷◌, ◌++◌, Some, None, true, false, IsTrue, codes, map, replicate, refl}
use Rattle.soc_raw.specs.declared.raw_crash.RawCrash.{RawCrash}
use Rattle.soc_raw.specs.Record.{Crash, content_text, head_text, record_of}
use Rattle.soc_journal.specs.Entries.{entry_text}
use Rattle.soc_query.specs.Queries.{Asked}
use Rattle.soc_query.specs.declared.answer.Answer.{Answer}
use Rattle.std.proofs.Common.{inl, inr, lit<}
use Rattle.soc_schema.specs.declared.caller.Caller.{Caller}
use Rattle.soc_schema.specs.declared.permission.Permission.TheVariants.{Operate}
use Rattle.soc_schema.specs.declared.caller.Products.TheVariants.{All, Some as Only}
use Rattle.soc_schema.specs.declared.value.Value.TheVariants.{Text}
use Rattle.soc_schema.specs.Fields.{field_of_annotation, field_table, permission_of, field_entry}
use Rattle.soc_schema.specs.Reports.{bare_row}
use Rattle.soc_schema.specs.Rows.{cell}
use Rattle.soc_ledger.specs.Due.{due_ids}
use Rattle.soc_ledger.specs.declared.event.Event.TheVariants as E
use Rattle.soc_ledger.specs.Events.{accepted_ids, has_stop}
use Rattle.soc_ledger.specs.Legal.{IsLegal as AreLegal}
use Rattle.soc_desk.specs.Basis.{Basis}
use Rattle.soc_desk.specs.Counts.{counts_of, journal_size}
use Rattle.soc_desk.specs.Decisions.{answers, appends, decide, decide_submission, accepting}
use Rattle.soc_desk.specs.Desk.{Step, with_done}
use Rattle.soc_desk.specs.Grows.{Grows, is_new}
use Rattle.soc_desk.specs.Kinds.{IsReplyTo}
use Rattle.soc_desk.specs.Keeps.{StepKeep, ids_to_keep}
use Rattle.soc_desk.specs.Opens.{as_told, log_of}
use Rattle.soc_desk.specs.Log.{Kept, accept, ask, withdraw, report, Change, keep, done, stop, Accepted, KeptReport, crashes_of, row_in, events}
use Rattle.soc_desk.specs.Reads.{read_reply}
use Rattle.soc_desk.specs.State.{State, settled, doubted, Settles, kept_of}
use Rattle.soc_desk.specs.View.{view_of}
use Rattle.soc_desk.specs.declared.desk.Command.TheVariants as C
use Rattle.soc_desk.specs.declared.desk.Reply.{Reply}
use Rattle.soc_desk.specs.declared.desk.Reply.TheVariants as R
use Rattle.soc_desk.specs.declared.desk.Refusal.TheVariants as F

-- due at once, and due only when it is asked for
abbrev first : List ℕ
first = codes "de1bb258-cbbf-4589-a673-34f800160918"

abbrev second : List ℕ
second = codes "de1bb258-cbbf-4589-a673-34f801160918"

abbrev third : List ℕ
third = codes "de1bb258-cbbf-4589-a673-34f802160918"

abbrev raw_named : List ℕ → List (List ℕ × List ℕ) → Crash
raw_named id annotations = record { id = id; moment = 1_474_156_800; draw = 0; rule = codes "accept_all"; annotations = annotations; dumps = [] }

abbrev firefox : Crash
firefox = raw_named first ((codes "ProductName", codes "Firefox") ∷ (codes "URL", codes "http://u/") ∷ [])

abbrev thunderbird : Crash
thunderbird = raw_named second ((codes "ProductName", codes "Thunderbird") ∷ [])

abbrev accepted : Crash → Change
accepted raw = keep (accept record { id = raw.id; raw = Some raw })

abbrev basis : Basis
basis = record {
  row_of = bare_row;
  digest = Some (replicate 32 1);
  journal_bytes = 1000;
  crashes = 2;
  is_told = true;
}

abbrev log : List Change
log = accepted firefox ∷ accepted thunderbird ∷ []

abbrev due_of : List Change → List (List ℕ)
due_of changes = due_ids (events basis changes)

-- ---- what is due, and what has a report

due_at_once : due_of log ≡ first ∷ []
due_at_once = refl

-- a crash that was asked for twice is due since the first time
abbrev asked : List Change
asked = log ++ keep (ask second) ∷ done first ∷ keep (ask first) ∷ keep (ask second) ∷ []

due_in_order : due_of asked ≡ second ∷ first ∷ []
due_in_order = refl

nothing_due : due_of (with_done (settled asked) (due_of asked)).log ≡ []
nothing_due = refl

row_stays : row_in basis asked first ≡ Some (bare_row firefox)
row_stays = refl

-- a report counts only with the run's own digest, and only where its crash is due
abbrev kept : ℕ → Change
kept byte = keep (report record { id = first; digest = replicate 32 byte; row = cell 34 (Text first) ∷ [] })

counts : row_in basis (log ++ kept 1 ∷ []) first ≡ Some (cell 34 (Text first) ∷ [])
counts = refl

counts_as_done : due_of (log ++ kept 1 ∷ []) ≡ []
counts_as_done = refl

other_digest : due_of (log ++ kept 2 ∷ []) ≡ first ∷ []
other_digest = refl

not_due : row_in basis (log ++ done first ∷ kept 1 ∷ []) first ≡ Some (bare_row firefox)
not_due = refl

-- a withdrawn crash is nowhere, and still counts as accepted
abbrev withdrawn : List Change
withdrawn = log ++ done first ∷ keep (withdraw first) ∷ []

not_held : map (λ (crash : Accepted). crash.id) (crashes_of basis withdrawn) ≡ second ∷ []
not_held = refl

still_counted : accepted_ids (events basis withdrawn) ≡ first ∷ second ∷ []
still_counted = refl

-- what is done and a stop aren't kept over restarts
kept_over_restarts : kept_of (withdrawn ++ stop ∷ []) ≡ accept record { id = first; raw = Some firefox } ∷ accept record { id = second; raw = Some thunderbird } ∷ withdraw first ∷ []
kept_over_restarts = refl

-- ---- who sees what

abbrev caller : Caller
caller = record { permissions = record { protected_data = false; view_rawdump = false; reprocess_crashes = true; operate = false }; products = All }

abbrev limited : Caller
limited = record caller { products = Only (codes "Thunderbird" ∷ []) }

granted_annotations_alone : read_reply (view_of basis log caller) (C.Raw caller first) ≡ Some (R.Raw ((codes "ProductName", codes "Firefox") ∷ []))
unfolding field_of_annotation field_table permission_of field_entry
granted_annotations_alone = refl

not_processed : read_reply (view_of basis log caller) (C.Processed caller first) ≡ Some (R.Refused F.NotProcessed)
not_processed = refl

processed : read_reply (view_of basis asked caller) (C.Processed caller first) ≡ Some (R.Row (bare_row firefox))
unfolding permission_of field_entry field_table
processed = refl

-- a hidden crash, a withdrawn one and one that never was are answered alike
hidden : read_reply (view_of basis asked limited) (C.Processed limited first) ≡ Some (R.Refused F.NoCrash)
hidden = refl

gone : read_reply (view_of basis withdrawn caller) (C.Processed caller first) ≡ Some (R.Refused F.NoCrash)
gone = refl

never_there : read_reply (view_of basis log caller) (C.Processed caller third) ≡ Some (R.Refused F.NoCrash)
never_there = refl

-- a dump needs its permission
no_dump : read_reply (view_of basis log caller) (C.Dump caller first (codes "upload_file_minidump")) ≡ Some (R.Refused F.NoCrash)
no_dump = refl

-- ---- what is decided

repeated : decide_submission basis log thunderbird ≡ answers (R.Repeated second)
unfolding content_text
repeated = refl

other_content : decide_submission basis log (record thunderbird { annotations = [] }) ≡ answers (R.Refused (F.OtherContent second))
unfolding content_text
other_content = refl

too_many : decide_submission basis log (record thunderbird { id = third }) ≡ answers (R.Refused F.TooManyCrashes)
too_many = refl

one_more : decide_submission basis (accepted firefox ∷ []) thunderbird ≡ appends (accepting thunderbird) (R.Stored second false)
one_more = refl

withdrawn_before : decide_submission basis withdrawn firefox ≡ answers (R.Refused (F.Withdrawn first))
withdrawn_before = refl

due_before : decide basis log (C.Priority caller first) ≡ Some (answers (R.Asked false false))
due_before = refl

asked_for : decide basis log (C.Priority caller second) ≡ Some (appends (ask second) (R.Asked true true))
asked_for = refl

ask_of_a_hidden_crash : decide basis log (C.Reprocess limited first) ≡ Some (answers (R.Refused F.NoCrash))
ask_of_a_hidden_crash = refl

-- ---- searches and top crashers, by the view

abbrev by_product : Caller → Asked
by_product who = record { caller = who; conditions = []; sorts = []; columns = 34 ∷ []; facets = 23 ∷ []; facet_size = 50; number = 100; offset = 0 }

abbrev counted : Answer
counted = record {
  total = 1;
  columns = 34 ∷ [];
  hits = (cell 34 (Text first) ∷ []) ∷ [];
  facets = record { field = 23; terms = record { value = Text (codes "Firefox"); count = 1 } ∷ [] } ∷ [];
}

abbrev nothing : Answer
nothing = record { total = 0; columns = 34 ∷ []; hits = []; facets = record { field = 23; terms = [] } ∷ [] }

found : read_reply (view_of basis asked caller) (C.Search (by_product caller)) ≡ Some (R.Found counted)
unfolding permission_of field_entry field_table
found = refl

-- a hidden and a withdrawn report are in no count
found_by_another : read_reply (view_of basis asked limited) (C.Search (by_product limited)) ≡ Some (R.Found nothing)
unfolding permission_of field_entry field_table
found_by_another = refl

found_after_withdrawal : read_reply (view_of basis withdrawn caller) (C.Search (by_product caller)) ≡ Some (R.Found nothing)
unfolding permission_of field_entry field_table
found_after_withdrawal = refl

-- ---- every kind of change

abbrev every_kind : List Change
every_kind = asked ++ done second ∷ kept 1 ∷ keep (withdraw second) ∷ kept 2 ∷ stop ∷ []

all_events : events basis every_kind ≡ E.Accepted first ∷ E.Accepted second ∷ E.Asked second ∷ E.Done first ∷ E.Asked first ∷ E.Asked second ∷ E.Done second
    ∷ E.Reported first true ∷ E.Withdrawn second ∷ E.Reported first false ∷ E.Stopped ∷ []
all_events = refl

legal : AreLegal (events basis every_kind)
legal = (refl, (refl, (refl, (refl, (refl, (refl, (refl, (refl, (refl, (refl, (refl, tt)))))))))))

nothing_due_at_last : due_of every_kind ≡ []
nothing_due_at_last = refl

-- the report that counted is the crash's row
row_at_last : row_in basis every_kind first ≡ Some (cell 34 (Text first) ∷ [])
row_at_last = refl

stopped : has_stop (events basis every_kind) ≡ true
stopped = refl

never : false ≡ true → ⊥
never is = cc

-- ---- steps, and what each appends

abbrev operator : Caller
operator = record { permissions = record { protected_data = true; view_rawdump = true; reprocess_crashes = true; operate = true }; products = All }

turned : Step basis (settled log) (C.Turn operator) (R.Turned (Some first)) (settled (log ++ done first ∷ []))
turned = inl (refl, refl)

grown_by_a_turn : Grows basis (events basis log) [] (C.Turn operator) (R.Turned (Some first)) (E.Done first ∷ []) []
grown_by_a_turn = ((refl, refl), refl)

turn_without_a_permission : Step basis (settled log) (C.Turn caller) (R.Refused (F.NoPermission Operate)) (settled log)
turn_without_a_permission = (refl, refl)

drained : Step basis (settled asked) (C.Drain operator) (R.Drained 2) (settled (asked ++ done second ∷ done first ∷ []))
drained = (refl, refl)

-- the second of two turns failed
drained_once : Step basis (settled asked) (C.Drain operator) (R.Refused F.StoreFault) (settled (asked ++ done second ∷ []))
drained_once = (1, lit< tt, refl)

grown_by_a_failed_drain : Grows basis (events basis asked) [] (C.Drain operator) (R.Refused F.StoreFault) (E.Done second ∷ []) []
grown_by_a_failed_drain = ((1, lit< tt, refl), refl)

stops_once : Step basis (settled log) (C.Stop operator) R.Stopping (settled (log ++ stop ∷ []))
stops_once = inr (refl, refl)

stops_again : Step basis (settled every_kind) (C.Stop operator) R.Stopping (settled every_kind)
stops_again = inr (refl, refl)

not_due_to_fetch : Step basis (settled log) (C.Fetch second) (R.Fetched None) (settled log)
not_due_to_fetch = (refl, refl)

nothing_to_fetch : Step basis (settled log) (C.Fetch third) (R.Refused F.NoCrash) (settled log)
nothing_to_fetch = (refl, refl)

asks_for_it : Step basis (settled log) (C.Priority caller second) (R.Asked true true) (settled (log ++ keep (ask second) ∷ []))
unfolding entry_text record_of head_text content_text
asks_for_it = inr (inr (record { log = log; settles = refl; decides = inl (inl (refl, refl)) }))

-- its write failed, so it is in doubt; the next command finds it there or not
abbrev in_doubt : State
in_doubt = record { log = log; doubt = ask second ∷ [] }

fails_to_ask : Step basis (settled log) (C.Priority caller second) (R.Refused F.StoreFault) in_doubt
unfolding entry_text record_of head_text content_text
fails_to_ask = inr (inr (record { log = log; settles = refl; decides = inl (inr (refl, refl)) }))

was_there : Step basis in_doubt (C.Priority caller second) (R.Asked false false) (settled (log ++ keep (ask second) ∷ []))
was_there = inr (inr (record { log = log ++ keep (ask second) ∷ []; settles = inl refl; decides = inl (refl, refl) }))

was_not_there : Step basis in_doubt (C.Priority caller second) (R.Asked true true) (settled (log ++ keep (ask second) ∷ []))
unfolding entry_text record_of head_text content_text
was_not_there = inr (inr (record { log = log; settles = inr refl; decides = inl (inl (refl, refl)) }))

grown_behind_a_doubt : Grows basis (events basis log) (doubted basis in_doubt) (C.Priority caller second) (R.Asked false false) (E.Asked second ∷ []) []
grown_behind_a_doubt = inr ([], refl, (refl, refl, refl, refl))

grown_into_a_doubt : Grows basis (events basis log) [] (C.Priority caller second) (R.Refused F.StoreFault) [] (E.Asked second ∷ [])
grown_into_a_doubt = inr ((refl, refl, refl), refl)

-- nothing else is in doubt afterwards, and a read leaves no doubt
another_doubt : Grows basis (events basis log) [] (C.Priority caller second) (R.Refused F.StoreFault) [] (E.Withdrawn first ∷ []) → ⊥
another_doubt (inl (some, stays)) = some refl
another_doubt (inr ((held, idle, doubt), same)) = cc

doubt_by_a_read : (reply : Reply) → Grows basis (events basis log) [] (C.Raw caller second) reply [] (E.Withdrawn first ∷ []) → ⊥
doubt_by_a_read reply (reads, (same, doubt)) = cc

-- nothing but the change in doubt stands before a command's own
grown_without_a_doubt : Grows basis (events basis log) [] (C.Priority caller second) (R.Asked true true) (E.Done first ∷ E.Asked second ∷ []) [] → ⊥
grown_without_a_doubt (held, idle, same, clear) = cc

no_mend : Step basis in_doubt (C.Withdraw operator first) (R.Refused F.StoreFault) in_doubt
no_mend = inr (inl (λ is. cc, (refl, refl)))

withdraws_it : Step basis (settled log) (C.Withdraw operator first) R.Withdrawn (settled (log ++ keep (withdraw first) ∷ []))
unfolding entry_text record_of head_text content_text
withdraws_it = inr (inr (record { log = log; settles = refl; decides = inl (inl (refl, refl)) }))

-- there are too many crashes at the limit, and not before
too_many_at_the_limit : (raw : RawCrash) → IsTrue (is_new (events basis log) raw.id) → Grows basis (events basis log) [] (C.Submit raw) (R.Refused F.TooManyCrashes) [] []
too_many_at_the_limit raw new = ((new, refl, refl), refl)

too_many_before_it : (raw : RawCrash) → Grows basis (events basis (accepted firefox ∷ [])) [] (C.Submit raw) (R.Refused F.TooManyCrashes) [] [] → ⊥
too_many_before_it raw ((new, full, clear), same) = never full

stored_at_the_limit : (raw : RawCrash) (due : Bool) → Grows basis (events basis log) [] (C.Submit raw) (R.Stored raw.id due) (E.Accepted raw.id ∷ []) [] → ⊥
stored_at_the_limit raw due (new, few, same, clear) = never few

-- a full journal shows only where the ask would have been written
full_for_a_due_crash : Grows basis (events basis log) [] (C.Priority caller first) (R.Refused F.JournalFull) [] [] → ⊥
full_for_a_due_crash ((held, idle, clear), same) = never idle

-- a journal without room
no_room : Step (record basis { journal_bytes = 64 }) (settled log) (C.Withdraw operator first) (R.Refused F.JournalFull) (settled log)
unfolding entry_text record_of head_text content_text
no_room = inr (inr (record { log = log; settles = refl; decides = inl (refl, refl) }))

-- a caller that sees every product finds each held crash
not_found_though_held : Grows basis (events basis log) [] (C.Raw caller second) (R.Refused F.NoCrash) [] [] → ⊥
not_found_though_held (gone, stays) = never (gone refl)

not_found_by_another : Grows basis (events basis log) [] (C.Raw limited first) (R.Refused F.NoCrash) [] []
not_found_by_another = (λ all. absurd (never all), (refl, refl))

-- a lacked permission is said before memory is wanted
wants_memory_without_it : Step basis (settled log) (C.Withdraw caller first) (R.Refused F.NoMemory) (settled log) → ⊥
wants_memory_without_it (said, same) = cc

-- ---- replies, and the permission of their caller

dump_without_it : (bytes : List ℕ) → IsReplyTo (C.Dump caller first (codes "upload_file_minidump")) (R.Dump bytes) → ⊥
dump_without_it bytes (lacks, own) = cc

stop_without_it : IsReplyTo (C.Stop caller) R.Stopping → ⊥
stop_without_it (lacks, own) = cc

drain_without_it : (count : ℕ) → IsReplyTo (C.Drain caller) (R.Drained count) → ⊥
drain_without_it count (lacks, own) = cc

refused_with_it : IsReplyTo (C.Stop operator) (R.Refused (F.NoPermission Operate)) → ⊥
refused_with_it lacks = cc

stop_with_it : IsReplyTo (C.Stop operator) R.Stopping
stop_with_it = (refl, tt)

-- ---- reports kept for later runs

abbrev reported : List Change
reported = log ++ done first ∷ []

to_keep : ids_to_keep basis reported ≡ first ∷ []
to_keep = refl

-- a crash that is due, one that was kept and one without a digest aren't
due_again : ids_to_keep basis (reported ++ keep (ask first) ∷ []) ≡ []
due_again = refl

kept_already : ids_to_keep basis (reported ++ kept 1 ∷ []) ≡ []
kept_already = refl

kept_by_another : ids_to_keep basis (reported ++ kept 2 ∷ []) ≡ first ∷ []
kept_by_another = refl

without_a_digest : ids_to_keep (record basis { digest = None }) reported ≡ []
without_a_digest = refl

abbrev own_report : KeptReport
own_report = record { id = first; digest = replicate 32 1; row = bare_row firefox }

keeps_one : StepKeep basis (settled reported) (R.Kept 1) (settled (reported ++ keep (report own_report) ∷ []))
unfolding entry_text record_of head_text content_text
keeps_one = inr (record { log = reported; settles = refl; keeps = (refl, refl) })

-- the write of two reports failed, so both are in doubt; the next command finds both there, or none
abbrev two_in_doubt : State
two_in_doubt = record { log = reported; doubt = report own_report ∷ ask second ∷ [] }

both_were_there : Settles two_in_doubt.log two_in_doubt.doubt (reported ++ keep (report own_report) ∷ keep (ask second) ∷ [])
both_were_there = inl refl

none_was_there : Settles two_in_doubt.log two_in_doubt.doubt reported
none_was_there = inr refl

-- ---- opening

abbrev kept_two : List Kept
kept_two = accept record { id = first; raw = Some firefox } ∷ ask first ∷ []

abbrev kept_untold : List Kept
kept_untold = accept record { id = first; raw = None } ∷ ask first ∷ []

-- over a disk that tells nothing the log has the ids alone
opened_untold : log_of (map (as_told false) kept_two) ≡ log_of kept_untold
opened_untold = refl

opened_told : log_of (map (as_told true) kept_two) ≡ accepted firefox ∷ keep (ask first) ∷ []
opened_told = refl

-- ---- counts

-- of events alone, a withdrawn crash counts as withdrawn only, and a doubt isn't counted
counts_of_withdrawn : (record (counts_of basis (record { log = withdrawn; doubt = ask second ∷ [] })) { journal_size = 0 })
    ≡ record { asks = 0; crashes = 1; due = 0; journal_size = 0; reports = 0; withdrawn = 1; in_doubt = true }
counts_of_withdrawn = refl

-- the header alone
size_of_nothing : journal_size [] ≡ 8
size_of_nothing = refl

counts_of_nothing : Step basis (settled []) (C.Counts operator)
    (R.Counted (record { asks = 0; crashes = 0; due = 0; journal_size = 8; reports = 0; withdrawn = 0; in_doubt = false })) (settled [])
counts_of_nothing = (refl, refl)

counts_for_no_operator : Step basis (settled []) (C.Counts caller) (R.Refused (F.NoPermission Operate)) (settled [])
counts_for_no_operator = (refl, refl)

-- a raw crash is given of a crash that is shown to the caller, and of no other
raw_crash_of_another_product : Step basis (settled log) (C.Stack limited first) (R.Refused F.NoCrash) (settled log)
raw_crash_of_another_product = (refl, refl)
