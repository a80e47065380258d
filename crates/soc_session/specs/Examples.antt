-- Worked rows of what is answered, computed.
use Rattle.std.specs.Prelude.{◌≡◌, ℕ, true, false, List, [], ◌∷◌, codes, Option, None, refl}
use Rattle.std.specs.Fmt.{digits}
use Rattle.soc_raw.specs.declared.raw_crash.RawCrash.{RawCrash}
use Rattle.soc_raw.specs.CrashId.{is_id}
use Rattle.soc_raw.specs.Record.{Crash}
use Rattle.soc_schema.specs.declared.permission.Permission.TheVariants.{ProtectedData}
use Rattle.soc_query.specs.declared.error.QueryError.TheVariants.{NotGranted}
use Rattle.soc_http.specs.declared.reply.Kind.TheVariants.{Json, Html}
use Rattle.soc_desk.specs.declared.desk.Counts.{Counts}
use Rattle.soc_desk.specs.declared.desk.Refusal.TheVariants as F
use Rattle.soc_desk.specs.declared.desk.Reply.TheVariants as D
use Rattle.soc_session.specs.declared.forms.ReplyForm.TheVariants as form
use Rattle.soc_session.specs.Parameters.{crash_named, dump_named, id_in}
use Rattle.soc_session.specs.Plan.{about, says}
use Rattle.soc_session.specs.Replies.{desk_reply, good, not_found, plain, query_refusal, version_reply}
use Rattle.soc_desk.specs.Commands.{to_withdraw}
use Rattle.soc_schema.specs.declared.caller.Caller.{Caller}

abbrev no_stack : Crash → Option (List ℕ)
no_stack crash = None

submission_without_room : desk_reply form.Submission no_stack (D.Refused F.JournalFull) ≡ plain 507 (codes "Discarded=journal_full")
submission_without_room = refl

ask_without_room : desk_reply form.Data no_stack (D.Refused F.JournalFull) ≡ plain 507 (codes "journal_full")
ask_without_room = refl

field_that_is_not_granted : query_refusal (NotGranted (codes "url") ProtectedData) ≡ plain 403 (codes "field url needs protected_data")
field_that_is_not_granted = refl

turn_of_no_crash : desk_reply form.Data no_stack (D.Turned None) ≡ good Json (codes "{\"processed\":null}")
turn_of_no_crash = refl

drain_of_three : desk_reply form.Data no_stack (D.Drained 3) ≡ good Json (codes "{\"processed\":3}")
unfolding digits
drain_of_three = refl

page_of_nothing : desk_reply form.Page no_stack (D.Found (record { total = 0; columns = []; hits = []; facets = [] }))
    ≡ good Html (codes "<!DOCTYPE html>\n<title>search</title>\n<p>0</p>\n<table>\n</table>\n")
unfolding digits
page_of_nothing = refl

-- the first pair counts, whatever the second names
first_of_two_ids : crash_named (codes "crash_ids") ((codes "crash_ids", codes "x") ∷ (codes "crash_ids", codes "de1bb258-cbbf-4589-a673-34f800160918") ∷ []) ≡ None
unfolding is_id
first_of_two_ids = refl

id_in_upper_case : id_in (codes "DE1BB258-cbbf-4589-a673-34f800160918") ≡ None
unfolding is_id
id_in_upper_case = refl

dump_without_a_name : dump_named ((codes "crash_id", codes "x") ∷ []) ≡ codes "upload_file_minidump"
dump_without_a_name = refl

dump_of_the_empty_name : dump_named ((codes "name", []) ∷ []) ≡ []
dump_of_the_empty_name = refl

withdrawal_of_no_crash : (caller : Caller) → about None (to_withdraw caller) form.Data ≡ says not_found
withdrawal_of_no_crash caller = refl

abbrev counted : Counts
counted = record { asks = 3; crashes = 2; due = 1; journal_size = 114; reports = 1; withdrawn = 0; in_doubt = true }

-- the doubt isn't one of the numbers
counts_of_a_log_in_doubt : desk_reply form.Data no_stack (D.Counted counted) ≡ good Json (codes "{\"asks\":3,\"crashes\":2,\"due\":1,\"journal_size\":114,\"reports\":1,\"withdrawn\":0}")
unfolding digits
counts_of_a_log_in_doubt = refl

heartbeat_of_a_log_in_doubt : desk_reply form.Heartbeat no_stack (D.Counted counted) ≡ plain 503 (codes "store_fault")
heartbeat_of_a_log_in_doubt = refl

heartbeat : desk_reply form.Heartbeat no_stack (D.Counted (record counted { in_doubt = false })) ≡ plain 200 (codes "ok")
heartbeat = refl

stack_of_a_crash_without_a_dump : (raw : RawCrash) → desk_reply form.Data no_stack (D.Record raw) ≡ plain 404 (codes "no dump")
stack_of_a_crash_without_a_dump raw = refl

version_that_is_not_told : version_reply None ≡ good Json (codes "{\"name\":\"socorro\"}")
version_that_is_not_told = refl
