-- The words that these proofs share.
pub use Rattle.soc_base.proofs.Folk.{all_push, and_parts, none_is_not_some, none_long, or_no_left, or_no_right, or_second, or_true, some-injective}
pub use Rattle.soc_base.specs.Names.{value_of, with_value}
pub use Rattle.soc_book.specs.Batches.{AsksAll}
pub use Rattle.soc_book.specs.Books.{AsksBook, SameSetting, StandsFor, allows_others, disk_in, disk_of, reporter_of}
pub use Rattle.soc_book.specs.Keeping.{KeepsReports}
pub use Rattle.soc_book.specs.declared.book.Book.{Book}
pub use Rattle.soc_book.specs.declared.book.Change.{Change as Pending}
pub use Rattle.soc_book.specs.declared.submission.NewCrash.{NewCrash}
pub use Rattle.soc_book.specs.declared.together.NewCrashes.{NewCrashes}
pub use Rattle.soc_book.specs.inner.Batches.{AddsSubmission, AreMadeOf, AsksInTurn, FitsAll, HasPlace, IsEmpty, IsUnderWay, Joins, Leads, MayStore, StoresBook, receipt_of}
pub use Rattle.soc_book.specs.inner.Books.{IsReport, IsRowFor, IsSubmissionOf, Tells, made_of}
pub use Rattle.soc_book.specs.inner.Does.{Adds, Does, IsDecided, IsSettledReply}
pub use Rattle.soc_book.specs.inner.Keepings.{HasGathered, IsBatch, IsEntryOfRow, IsMost, IsSameBatch, KeepsAll, KeepsBatch, KeepsOn, KeptSoFar, LeavesSome, MakesEntry, MayMakeEntry, is_wanted, keep_reply, own_report, rest_ids, with_all}
pub use Rattle.soc_book.specs.inner.Pieces.{AreAppended, Decodes, EndsAs, IsHeldAs, IsRead, IsWritten, RepliesAs, Sees, Stays, product_at}
pub use Rattle.soc_book.specs.inner.Prepared.{IsPrepared, command_of}
pub use Rattle.soc_book.specs.inner.Recoveries.{IsRowOf, NoCrashOf, NoHeldOf, NoReportOf, Recovers, Rows, Takes, TakesCrash, TakesId, TakesNot, TakesReport, is_among_own, kept_pair, told_pair}
pub use Rattle.soc_book.specs.inner.Stands.{AcceptsNone, AddsSettled, AreAccepted, AreBounds, AreFiled, AreHeld, AreNew, ArePending, AreReports, FitJournal, FitNew, FitReports, HasRoom, Fits, HasRow, HasRows, Holds, IsAcceptanceOf, IsFiled, IsFiledAt, IsFiledOf, IsOnDisk, IsPending, IsReportOf, IsSafe, Pushes, PushesNew, Stands, most_together, shown_row, with_reports}
pub use Rattle.soc_book.specs.inner.Steps.{Becomes, WritesBook}
pub use Rattle.soc_book.specs.inner.Turns.{IsTurned, TurnsTo, due_of}
pub use Rattle.soc_desk.proofs.Found.{AreTold, accepted_found, due_accepted, found_accepted, has_row, shows_all}
pub use Rattle.soc_desk.proofs.Logs.{IsApart, accepted_apart, events-more, events_back, has_id, held_accept, held_plain, held_withdraw, none_passes, reverse-cons, reverse-map, reverse-more, reverse-twice, row_in-more, was_accepted-is}
pub use Rattle.soc_desk.proofs.Views.{all-filter_map, all_both, all_weaker, filter_map-same, item, item_id, item_of, items_absent, items_of, seen_under, shown, turned_eq, value_of-with_value, view_items, view_of_items}
pub use Rattle.soc_desk.specs.Asks.{Asks, Gains, IsAltered, IsStoreFault}
pub use Rattle.soc_desk.specs.Basis.{Basis, RowsTell}
pub use Rattle.soc_desk.specs.Decisions.{Decision, accepting, answers, appends, decide, decide_new, decide_priority, decide_repeated, decide_submission, if_seen, lacked, without}
pub use Rattle.soc_desk.specs.Desk.{Appends, Decides, FailsMend, FailsRead, IfElse, IfPermitted, IsOfLog, Refuses, SettlesAndDecides, Step, StepWriting, TurnsFirst, with_done}
pub use Rattle.soc_desk.specs.Grows.{BehindDoubt, Grows, IsDueAt, IsGone, Writes}
pub use Rattle.soc_desk.specs.Keeps.{EndsReports, IsPartOf, KeepAllows, KeepGrows, KeepsFirst, Reports, StandsBetween, ids_to_keep, is_passed_over, is_to_keep, kept_with_doubt, report_of, to_append, to_keep_of}
pub use Rattle.soc_desk.specs.Kinds.{IsOwnReply, IsReplyTo, NeedsNothing}
pub use Rattle.soc_desk.specs.Log.{Accepted, AreSoundBack, Change, IsLegal, IsSound, Kept, KeptReport, accept, accepted_in, accepted_of, ask, done, event_of, events, is_own, keep, raw_of, report, row_after, row_back, row_in, stop, withdraw}
pub use Rattle.soc_desk.specs.Opens.{AreChanges, RefusesEntry, as_told, log_of, told}
pub use Rattle.soc_desk.specs.State.{Allowed, IsLegalState, Settles, State, Survives, body_of, doubted, entries_of, entry_of, has_room, kept_in, kept_of, kind_of, settled}
pub use Rattle.soc_desk.specs.View.{Seen, View, is_in, rows_in, seen_of, view_of}
pub use Rattle.soc_desk.specs.declared.desk.Command.{Command}
pub use Rattle.soc_desk.specs.declared.desk.Limits.{Limits}
pub use Rattle.soc_desk.specs.declared.desk.Receipt.{Receipt}
pub use Rattle.soc_desk.specs.declared.desk.Refusal.{Refusal}
pub use Rattle.soc_desk.specs.declared.desk.Reply.{Reply}
pub use Rattle.soc_edge.proofs.Disks.{GoesOn-append, GoesOn-none, LeavesOnly-append, LeavesOnly-weaker, Looks-append, Looks-none}
pub use Rattle.soc_edge.specs.Disk.{DiskFailed, DiskTold, GoesOn, IsDisk, LeavesOnly, Looks}
pub use Rattle.soc_journal.proofs.Texts.{entries_text-one, length-entries_text-append, length-entry_text, length-sealed, length-sealed_all, place_behind-append, place_behind-push, sealed_one}
pub use Rattle.soc_journal.specs.Entries.{Entry, accept_kind, ask_kind, beside_body, entries_text, entry_text, first_gate, head_size, max_body, place_behind, report_kind, sealed_all, withdraw_kind}
pub use Rattle.soc_journal.specs.States.{AtRest, InDoubt, IsKeptAt, JournalState, journal_after}
pub use Rattle.soc_ledger.proofs.Lists.{AreDistinct, all-more, all-weaker, filter-filter, filter-on, itself, or_no, same_text, true_is_not_false, turned}
pub use Rattle.soc_ledger.proofs.Logs.{distinct_ids, legal-more, not_true, unknown_crash}
pub use Rattle.soc_ledger.proofs.More.{accepted_ids-more, due_since-more}
pub use Rattle.soc_ledger.specs.Due.{due_after, due_ids, due_since, is_due, is_due_at_once, is_since, urged, urged_by, urged_in, waiting}
pub use Rattle.soc_ledger.specs.Events.{accepted_ids, accepted_in as accepts, ask_count, has_stop, held_ids, is_among, is_held, was_accepted, was_withdrawn, withdrawal_count, withdrawn_ids, withdrawn_in as withdraws}
pub use Rattle.soc_ledger.specs.Legal.{IsLegal as AreLegal, IsLegalBack, IsLegalNext}
pub use Rattle.soc_ledger.specs.Reported.{has_report, is_kept, report_count, reported_after, reported_back}
pub use Rattle.soc_ledger.specs.State.{LedgerState, id_of, standing_of, with_event}
pub use Rattle.soc_ledger.specs.declared.crash.Filed.{Filed}
pub use Rattle.soc_ledger.specs.declared.crash.Standing.{Standing}
pub use Rattle.soc_ledger.specs.declared.event.Event.{Event}
pub use Rattle.soc_raw.proofs.Ids.{id_len}
pub use Rattle.soc_raw.proofs.Lengths.{content_at, record_length}
pub use Rattle.soc_raw.proofs.Records.{same_content, same_crash}
pub use Rattle.soc_raw.specs.CrashId.{IsId}
pub use Rattle.soc_raw.specs.RawCrash.{crash_of, record_text}
pub use Rattle.soc_raw.specs.Record.{Crash, IsCrash, content_text, head_text, pairs_text, record_of}
pub use Rattle.soc_raw.specs.declared.raw_crash.RawCrash.{RawCrash}
pub use Rattle.soc_schema.specs.Fields.{permission_of_annotation, uuid_field}
pub use Rattle.soc_schema.specs.Permits.{Granted, granted_annotations, granted_cells, holds, is_granted, shows}
pub use Rattle.soc_schema.specs.Reports.{Report, TellsCrash, bare_row, product_of}
pub use Rattle.soc_schema.specs.RowText.{HasText, row_text}
pub use Rattle.soc_schema.specs.declared.caller.Caller.{Caller}
pub use Rattle.soc_schema.specs.declared.permission.Permission.{Permission}
pub use Rattle.soc_schema.specs.declared.permission.Permission.TheVariants.{Operate, ReprocessCrashes, ViewRawdump}
pub use Rattle.soc_schema.specs.declared.value.Cell.{Cell}
pub use Rattle.soc_schema.specs.declared.value.Value.TheVariants.{Text}
pub use Rattle.soc_search.specs.Seen.{HaveOwnIds, ListTheSame, seen_rows}
pub use Rattle.soc_store.specs.Stored.{PlacesRise, row_at, with_row, without_row}
pub use Rattle.soc_vault.specs.Openings.{Opens, StopsAt, place_from}
pub use Rattle.soc_vault.specs.Vaults.{IsAt, Means, settled_entries}
pub use Rattle.std.proofs.lemmas.Bool.{cases_eq, cases_lt, eq-eqb, eqb-true, false_from_ne_true, le-leb, le-ltb, leb-true, lt-ltb, ne_eqb}
pub use Rattle.std.proofs.lemmas.Bool.Decides.{leb_tells, nat_tests}
pub use Rattle.std.proofs.lemmas.List.{append-nil, drop-drop, drop_all, drop_at, length-drop, length-map, length-take, map-append, take_all, take_at}
pub use Rattle.std.proofs.lemmas.List.Elements.{filter_map-append}
pub use Rattle.std.proofs.lemmas.Option.{IfSome_then, slice_get-map, slice_get_within}
pub use Rattle.std.proofs.lemmas.Result.{err_from_is_err_and}
pub use Rattle.std.proofs.lemmas.Slice.Eq.{bytes_eq-Decides}
pub use Rattle.std.specs.List.{AllByRecursion, cons_option, enumerate_from, find, list_any}
pub use Rattle.std.specs.Option.{option_and_then, option_map, option_map_or}
pub use Rattle.std.specs.Ordering.{is_eq, match_ordering, nat_cmp}
pub use Rattle.std.specs.Prelude.{Contains, IsErrOf, bytes_eq, filter, filter_map, flat_map, if◌then◌else◌, is_err, is_some, nat_le, nat_lt, slice_get, vec_capacity, vec_len}
pub use Rattle.std.specs.declared.cmp.Ordering.TheVariants.{Equal, Greater, Less}
