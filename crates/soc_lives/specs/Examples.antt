-- Worked lives: a doubt that the next life finds kept, one that it finds dropped, a submission that is repeated over three
-- lives and withdrawn, and a report that is kept.
use Rattle.std.specs.Prelude.{ℕ, List, [], ◌∷◌, ◌++◌, codes, replicate, Some, None, true, refl}
use Rattle.std.proofs.Common.{inl, inr, lit<, lit≤}
use Rattle.std.specs.List.Sorted.{IsStrictlySortedBy}
use Rattle.soc_raw.specs.CrashId.{is_id}
use Rattle.soc_raw.specs.Record.{Crash, IsCrash, content_text, head_text, record_of}
use Rattle.soc_raw.specs.declared.raw_crash.RawCrash.{RawCrash}
use Rattle.soc_schema.specs.declared.caller.Caller.{Caller}
use Rattle.soc_schema.specs.declared.caller.Products.TheVariants.{All}
use Rattle.soc_schema.specs.Fields.{field_entry, field_table, kind_of}
use Rattle.soc_schema.specs.Reports.{bare_row, bare_row-tells}
use Rattle.soc_schema.specs.RowText.{HasText, row_text}
use Rattle.soc_journal.specs.Entries.{closed_gate, entries_text, entry_text, header, second_version}
use Rattle.soc_desk.specs.declared.desk.Command.TheVariants as C
use Rattle.soc_desk.specs.declared.desk.Reply.TheVariants as R
use Rattle.soc_desk.specs.declared.desk.Refusal.TheVariants as F
use Rattle.soc_desk.specs.Basis.{Basis}
use Rattle.soc_desk.specs.Log.{Kept, KeptReport, accept, ask, withdraw, report, keep, done, IsLegal, IsSound}
use Rattle.soc_desk.specs.Opens.{log_of}
use Rattle.soc_desk.specs.State.{State, settled, StandsFor, entries_of}
use Rattle.soc_lives.specs.Lives.{AllLive, IsTransition, Life, Transition, asking, keeping}

abbrev id : List ℕ
id = codes "de1bb258-cbbf-4589-a673-34f800160918"

abbrev crash : Crash
crash = record { id = id; moment = 1_474_156_800; draw = 0; rule = codes "all"; annotations = []; dumps = [] }

is_crash : IsCrash crash
unfolding is_id record_of head_text content_text IsStrictlySortedBy lib.Utf8.encode
is_crash = record {
  id = refl;
  moment = (lit≤ tt, lit≤ tt);
  draw = lit< tt;
  rule = (codes "all", (refl, refl));
  annotations = tt;
  annotations_rise = tt;
  few_annotations = lit≤ tt;
  dumps = tt;
  dumps_rise = tt;
  few_dumps = lit≤ tt;
  fits = lit≤ tt;
}

abbrev sent : RawCrash
sent = record {
  id = id;
  moment = 1_474_156_800;
  draw = 0;
  rule = codes "all";
  annotations = [];
  dumps = [];
  moment_in = is_crash.moment;
  few_annotations = is_crash.few_annotations;
  few_dumps = is_crash.few_dumps;
  fits = is_crash.fits;
}

abbrev operator : Caller
operator = record { permissions = record { protected_data = true; view_rawdump = true; reprocess_crashes = true; operate = true }; products = All }

abbrev basis : Basis
basis = record { row_of = bare_row; digest = Some (replicate 32 1); journal_bytes = 1000; crashes = 2; is_told = true }

abbrev accepted : Kept
accepted = accept record { id = id; raw = Some crash }

abbrev in_doubt : State
in_doubt = record { log = log_of (accepted ∷ []); doubt = ask id ∷ [] }

-- ---- journals

abbrev journal : List Kept → List ℕ
journal kept = header second_version ++ (entries_text (entries_of kept) ++ closed_gate ∷ [])

one : StandsFor (journal (accepted ∷ [])) (accepted ∷ [])
unfolding record_of head_text content_text
one = record { gate = closed_gate; rest = []; begins = record { whole = refl; legal = (record { known = refl; short = lit≤ tt }, tt) }; closed = λ is. cc }

two : StandsFor (journal (accepted ∷ ask id ∷ [])) (accepted ∷ ask id ∷ [])
unfolding record_of head_text content_text
two = record {
  gate = closed_gate;
  rest = [];
  begins = record { whole = refl; legal = (record { known = refl; short = lit≤ tt }, (record { known = refl; short = lit≤ tt }, tt)) };
  closed = λ is. cc;
}

gone : StandsFor (journal (accepted ∷ withdraw id ∷ [])) (accepted ∷ withdraw id ∷ [])
unfolding record_of head_text content_text
gone = record {
  gate = closed_gate;
  rest = [];
  begins = record { whole = refl; legal = (record { known = refl; short = lit≤ tt }, (record { known = refl; short = lit≤ tt }, tt)) };
  closed = λ is. cc;
}

-- ---- legal logs

sound : IsSound [] (keep accepted)
unfolding is_id
sound = (refl, (refl, is_crash))

none_legal : IsLegal basis []
none_legal = record { events_legal = tt; sound = tt; told = λ told. tt }

one_legal : IsLegal basis (log_of (accepted ∷ []))
one_legal = record { events_legal = (refl, tt); sound = (sound, tt); told = λ told. (refl, tt) }

two_legal : IsLegal basis (log_of (accepted ∷ ask id ∷ []))
two_legal = record { events_legal = (refl, (refl, tt)); sound = (tt, (sound, tt)); told = λ told. (refl, tt) }

gone_legal : IsLegal basis (log_of (accepted ∷ withdraw id ∷ []))
gone_legal = record { events_legal = (refl, (refl, tt)); sound = (tt, (sound, tt)); told = λ told. (refl, tt) }

-- ---- what is done

abbrev submits : Transition
submits = record { action = asking (C.Submit sent) (R.Stored id true); after = settled (log_of (accepted ∷ [])) }

submitted : IsTransition basis (settled []) submits
unfolding entry_text record_of head_text content_text
submitted = (inr (inr (record { log = []; settles = refl; decides = inl (inl (refl, refl)) })), record { log = one_legal; doubt = one_legal })

abbrev fails_to_ask : Transition
fails_to_ask = record { action = asking (C.Reprocess operator id) (R.Refused F.StoreFault); after = in_doubt }

failed_to_ask : IsTransition basis (settled (log_of (accepted ∷ []))) fails_to_ask
unfolding entry_text record_of head_text content_text
failed_to_ask = (inr (inr (record { log = log_of (accepted ∷ []); settles = refl; decides = inl (inr (refl, refl)) })), record { log = one_legal; doubt = two_legal })

abbrev asks : Transition
asks = record { action = asking (C.Reprocess operator id) (R.Asked true true); after = settled (log_of (accepted ∷ ask id ∷ [])) }

did_ask : IsTransition basis (settled (log_of (accepted ∷ []))) asks
unfolding entry_text record_of head_text content_text
did_ask = (inr (inr (record { log = log_of (accepted ∷ []); settles = refl; decides = inl (inl (refl, refl)) })), record { log = two_legal; doubt = two_legal })

abbrev repeats : Transition
repeats = record { action = asking (C.Submit sent) (R.Repeated id); after = settled (log_of (accepted ∷ [])) }

repeated : IsTransition basis (settled (log_of (accepted ∷ []))) repeats
unfolding content_text
repeated = (inr (inr (record { log = log_of (accepted ∷ []); settles = refl; decides = inl (refl, refl) })), record { log = one_legal; doubt = one_legal })

abbrev withdraws : Transition
withdraws = record { action = asking (C.Withdraw operator id) R.Withdrawn; after = settled (log_of (accepted ∷ withdraw id ∷ [])) }

withdrawn : IsTransition basis (settled (log_of (accepted ∷ []))) withdraws
unfolding entry_text record_of head_text content_text
withdrawn = (inr (inr (record { log = log_of (accepted ∷ []); settles = refl; decides = inl (inl (refl, refl)) })), record { log = gone_legal; doubt = gone_legal })

abbrev refuses : Transition
refuses = record { action = asking (C.Submit sent) (R.Refused (F.Withdrawn id)); after = settled (log_of (accepted ∷ withdraw id ∷ [])) }

refused : IsTransition basis (settled (log_of (accepted ∷ withdraw id ∷ []))) refuses
refused = (inr (inr (record { log = log_of (accepted ∷ withdraw id ∷ []); settles = refl; decides = inl (refl, refl) })), record { log = gone_legal; doubt = gone_legal })

-- ---- a doubt

-- the first life stores a crash and fails to write an ask, so that its end leaves either journal
abbrev doubts : List Kept → Life
doubts kept = record { basis = basis; opening = []; transitions = submits ∷ fails_to_ask ∷ []; cut = None; image = journal kept }

-- the second one finds the ask
abbrev finds_it : Life
finds_it = record { basis = basis; opening = accepted ∷ ask id ∷ []; transitions = []; cut = None; image = journal (accepted ∷ ask id ∷ []) }

kept : AllLive [] (doubts (accepted ∷ ask id ∷ []) ∷ finds_it ∷ [])
kept = (
  record { is_told = refl; is_found = inl (refl, refl); legal = none_legal; goes = (submitted, (failed_to_ask, tt)); ends = inr two },
  (record { is_told = refl; is_found = inr two; legal = two_legal; goes = tt; ends = inl two }, tt),
)

-- or doesn't, and writes it when it is asked again
abbrev asks_again : Life
asks_again = record { basis = basis; opening = accepted ∷ []; transitions = asks ∷ []; cut = None; image = journal (accepted ∷ ask id ∷ []) }

dropped : AllLive [] (doubts (accepted ∷ []) ∷ asks_again ∷ [])
dropped = (
  record { is_told = refl; is_found = inl (refl, refl); legal = none_legal; goes = (submitted, (failed_to_ask, tt)); ends = inl one },
  (record { is_told = refl; is_found = inr one; legal = one_legal; goes = (did_ask, tt); ends = inl two }, tt),
)

-- ---- a repeated submission

-- the first life is stopped before it answers, the second one withdraws the crash, and the third one refuses it
abbrev is_stopped : Life
is_stopped = record { basis = basis; opening = []; transitions = []; cut = Some submits; image = journal (accepted ∷ []) }

abbrev withdraws_it : Life
withdraws_it = record { basis = basis; opening = accepted ∷ []; transitions = repeats ∷ withdraws ∷ []; cut = None; image = journal (accepted ∷ withdraw id ∷ []) }

abbrev refuses_it : Life
refuses_it = record { basis = basis; opening = accepted ∷ withdraw id ∷ []; transitions = refuses ∷ []; cut = None; image = journal (accepted ∷ withdraw id ∷ []) }

asked_three_times : AllLive [] (is_stopped ∷ withdraws_it ∷ refuses_it ∷ [])
asked_three_times = (
  record { is_told = refl; is_found = inl (refl, refl); legal = none_legal; goes = tt; ends = (submitted, inr (inl one)) },
  (
    record { is_told = refl; is_found = inr one; legal = one_legal; goes = (repeated, (withdrawn, tt)); ends = inl gone },
    (record { is_told = refl; is_found = inr gone; legal = gone_legal; goes = (refused, tt); ends = inl gone }, tt),
  ),
)

-- ---- a kept report

-- the first life drains and keeps the report, and the second one finds it, with nothing due
abbrev made : KeptReport
made = record { id = id; digest = replicate 32 1; row = bare_row crash }

has_text : HasText made.row (row_text made.row)
unfolding lib.Utf8.encode kind_of field_entry field_table
has_text = record { is_row = (lit≤ tt, record { in_table = lit< tt; of_kind = refl }, tt); values = (((id, (refl, refl)), lit< tt), tt); whole = refl }

abbrev reported : List Kept
reported = accepted ∷ report made ∷ []

abbrev drained : State
drained = settled (log_of (accepted ∷ []) ++ done id ∷ [])

sound_report : IsSound (log_of (accepted ∷ [])) (keep (report made))
sound_report = (refl, refl, bare_row-tells crash, has_text)

drained_legal : IsLegal basis drained.log
drained_legal = record { events_legal = (refl, (refl, tt)); sound = (tt, (sound, tt)); told = λ told. (refl, tt) }

sound_behind : IsSound drained.log (keep (report made))
sound_behind = (refl, refl, bare_row-tells crash, has_text)

kept_legal : IsLegal basis (drained.log ++ keep (report made) ∷ [])
kept_legal = record { events_legal = (refl, (refl, (refl, tt))); sound = (sound_behind, (tt, (sound, tt))); told = λ told. (refl, tt) }

reported_legal : IsLegal basis (log_of reported)
reported_legal = record { events_legal = (refl, (refl, tt)); sound = (sound_report, (sound, tt)); told = λ told. (refl, tt) }

reports : StandsFor (journal reported) reported
unfolding record_of head_text content_text
reports = record {
  gate = closed_gate;
  rest = [];
  begins = record { whole = refl; legal = (record { known = refl; short = lit≤ tt }, (record { known = refl; short = lit≤ tt }, tt)) };
  closed = λ is. cc;
}

abbrev drains : Transition
drains = record { action = asking (C.Drain operator) (R.Drained 1); after = drained }

did_drain : IsTransition basis (settled (log_of (accepted ∷ []))) drains
did_drain = ((refl, refl), record { log = drained_legal; doubt = drained_legal })

abbrev keeps : Transition
keeps = record { action = keeping (R.Kept 1); after = settled (drained.log ++ keep (report made) ∷ []) }

did_keep : IsTransition basis drained keeps
unfolding entry_text record_of head_text content_text
did_keep = (inr (record { log = drained.log; settles = refl; keeps = (refl, refl) }), record { log = kept_legal; doubt = kept_legal })

abbrev idles : Transition
idles = record { action = asking (C.Drain operator) (R.Drained 0); after = settled (log_of reported) }

did_idle : IsTransition basis (settled (log_of reported)) idles
did_idle = ((refl, refl), record { log = reported_legal; doubt = reported_legal })

abbrev keeps_it : Life
keeps_it = record { basis = basis; opening = []; transitions = submits ∷ drains ∷ keeps ∷ []; cut = None; image = journal reported }

abbrev has_it : Life
has_it = record { basis = basis; opening = reported; transitions = idles ∷ []; cut = None; image = journal reported }

report_found : AllLive [] (keeps_it ∷ has_it ∷ [])
report_found = (
  record { is_told = refl; is_found = inl (refl, refl); legal = none_legal; goes = (submitted, (did_drain, (did_keep, tt))); ends = inl reports },
  (record { is_told = refl; is_found = inr reports; legal = reported_legal; goes = (did_idle, tt); ends = inl reports }, tt),
)
