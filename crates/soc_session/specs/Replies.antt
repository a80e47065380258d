-- What messages are answered: the table of replies, this project's profile. Each reply here goes on with the connection;
-- `closing` makes it the last one.
use Rattle.std.specs.Prelude.{ℕ, Bool, false, if◌then◌else◌, List, ◌++◌, codes, Option, None, Some, unwrap_or, ⊤}
use Rattle.soc_raw.specs.RawCrash.{crash_of}
use Rattle.soc_raw.specs.Record.{Crash}
use Rattle.soc_schema.specs.declared.value.Cell.{Cell}
use Rattle.soc_schema.specs.Permits.{permission_name}
use Rattle.soc_schema.specs.RowJson.{row_json}
use Rattle.soc_forms.specs.declared.reasons.Reason.{Reason}
use Rattle.soc_forms.specs.Reasons.{reason_text}
use Rattle.soc_query.specs.declared.answer.Answer.{Answer}
use Rattle.soc_query.specs.declared.error.QueryError.{QueryError}
use Rattle.soc_query.specs.declared.error.QueryError.TheVariants as Q
use Rattle.soc_query.specs.Json.{answer_json}
use Rattle.soc_tops.specs.declared.error.TopsError.{TopsError}
use Rattle.soc_tops.specs.declared.error.TopsError.TheVariants as T
use Rattle.soc_tops.specs.declared.tops.Tops.{Tops}
use Rattle.soc_tops.specs.Json.{tops_json}
use Rattle.soc_pages.specs.Pages.{report_page, search_page, tops_page}
use Rattle.soc_http.specs.declared.verb.Verb.{Verb}
use Rattle.soc_http.specs.declared.reply.Kind.{Kind}
use Rattle.soc_http.specs.declared.reply.Kind.TheVariants.{Plain, Json, Octets, Html, OwnPage}
use Rattle.soc_http.specs.declared.reply.Answered.{Answered}
use Rattle.soc_http.specs.declared.head.HeadError.{HeadError}
use Rattle.soc_http.specs.declared.head.HeadError.TheVariants as H
use Rattle.soc_desk.specs.declared.desk.Counts.{Counts}
use Rattle.soc_desk.specs.declared.desk.Refusal.{Refusal}
use Rattle.soc_desk.specs.declared.desk.Refusal.TheVariants as R
use Rattle.soc_desk.specs.declared.desk.Reply.{Reply}
use Rattle.soc_desk.specs.declared.desk.Reply.TheVariants as D
use Rattle.soc_session.specs.declared.forms.ReplyForm.{ReplyForm}
use Rattle.soc_session.specs.declared.forms.ReplyForm.TheVariants as form
use Rattle.soc_session.specs.Json.{annotations_json, asked_json, counts_json, drained_json, turned_json, withdrawn_json}

-- ---- their forms

-- a line of text
abbrev pub plain : ℕ → List ℕ → Answered
plain status text = record { status = status; kind = Plain; allow = None; last = false; body = text ++ codes "\n" }

-- a body of this kind
abbrev pub good : Kind → List ℕ → Answered
good kind body = record { status = 200; kind = kind; allow = None; last = false; body = body }

-- the same reply as the last one of its connection, or not
abbrev pub closing : Bool → Answered → Answered
closing last answered = record answered { last = last }

-- ---- without the desk

abbrev pub no_memory : Answered
no_memory = plain 500 (codes "no_memory")

-- a head that is refused, or a message that is cut short; a fault of the link is not answered
abbrev pub head_refusal : HeadError → Answered
head_refusal H.BadHead = plain 400 (codes "bad head")
head_refusal H.HeadTooLarge = plain 431 (codes "head too large")
head_refusal H.NoLength = plain 411 (codes "no length")
head_refusal H.BodyTooLarge = plain 413 (codes "body too large")
head_refusal H.CutShort = plain 400 (codes "cut short")
head_refusal H.ReadFault = no_memory
head_refusal H.NoMemory = no_memory

abbrev pub no_route : Answered
no_route = plain 404 (codes "no route")

abbrev pub wrong_method : Verb → Answered
wrong_method allow = record (plain 405 (codes "wrong method")) { allow = Some allow }

abbrev pub unknown_token : Answered
unknown_token = plain 403 (codes "unknown token")

abbrev pub not_found : Answered
not_found = plain 404 (codes "not found")

abbrev pub alive : Answered
alive = plain 200 (codes "ok")

-- which program answers, as it is told, or by the service's name alone
abbrev pub version_reply : Option (List ℕ) → Answered
version_reply told = good Json (unwrap_or told (codes "{\"name\":\"socorro\"}"))

-- the service's own page, where it has one
abbrev pub front_reply : Option (List ℕ) → Answered
front_reply (Some page) = good OwnPage page
front_reply None = no_route

-- a submission that isn't kept
abbrev pub discarded : ℕ → List ℕ → Answered
discarded status why = plain status (codes "Discarded=" ++ why)

abbrev pub malformed : Reason → Answered
malformed reason = discarded 400 (codes "malformed_" ++ reason_text reason)

abbrev pub rejected : List ℕ → Answered
rejected rule = discarded 200 (codes "rule_" ++ rule)

-- a query that isn't read
abbrev pub query_refusal : QueryError → Answered
query_refusal (Q.UnknownField name) = plain 400 (codes "unknown field " ++ name)
query_refusal (Q.NotGranted name permission) = plain 403 (codes "field " ++ name ++ codes " needs " ++ permission_name permission)
query_refusal (Q.BadValue name) = plain 400 (codes "bad value " ++ name)
query_refusal (Q.BadNumber name) = plain 400 (codes "bad number " ++ name)
query_refusal Q.TooManyConditions = plain 400 (codes "too many conditions")
query_refusal Q.NoMemory = no_memory

abbrev pub tops_refusal : TopsError → Answered
tops_refusal (T.BadParameter name) = plain 400 (codes "bad parameter " ++ name)
tops_refusal T.NoMemory = no_memory

-- ---- the desk's

-- a journal that has no room: a submission isn't kept
abbrev pub journal_full : ReplyForm → Answered
journal_full form.Submission = discarded 507 (codes "journal_full")
journal_full _ = plain 507 (codes "journal_full")

abbrev pub desk_refusal : ReplyForm → Refusal → Answered
desk_refusal written R.StoreFault = plain 503 (codes "store_fault")
desk_refusal written R.JournalFull = journal_full written
desk_refusal written (R.OtherContent id) = discarded 409 (codes "other_crash_has_this_id")
desk_refusal written R.NoCrash = not_found
desk_refusal written R.NotProcessed = plain 404 (codes "not processed")
desk_refusal written R.TooManyCrashes = discarded 507 (codes "too_many_crashes")
desk_refusal written (R.NoPermission name) = plain 403 (codes "needs " ++ permission_name name)
desk_refusal written (R.Altered id) = plain 500 (codes "store_altered")
desk_refusal written (R.Withdrawn id) = discarded 410 (codes "withdrawn")
desk_refusal written R.NoMemory = no_memory

-- a crash that is kept, now or before
abbrev pub kept : List ℕ → Answered
kept id = plain 200 (codes "CrashID=bp-" ++ id)

abbrev pub row_reply : ReplyForm → List Cell → Answered
row_reply (form.Report id) row = good Html (report_page id row)
row_reply _ row = good Json (row_json row)

abbrev pub found_reply : ReplyForm → Answer → Answered
found_reply form.Page answer = good Html (search_page answer)
found_reply _ answer = good Json (answer_json answer)

abbrev pub tops_reply : ReplyForm → Tops → Answered
tops_reply form.Page tops = good Html (tops_page tops)
tops_reply _ tops = good Json (tops_json tops)

-- what the log has, as JSON, or for a heartbeat whether it is in doubt
abbrev pub counts_reply : ReplyForm → Counts → Answered
counts_reply form.Heartbeat counts = if counts.in_doubt then plain 503 (codes "store_fault") else alive
counts_reply _ counts = good Json (counts_json counts)

-- the stack of a crash, where it has one
abbrev pub stack_reply : Option (List ℕ) → Answered
stack_reply (Some stack) = good Json stack
stack_reply None = plain 404 (codes "no dump")

-- what the desk's reply is answered as, and of a raw crash its stack; no message asks for what the last three answer
abbrev pub desk_reply : ReplyForm → (Crash → Option (List ℕ)) → Reply → Answered
desk_reply written stack (D.Stored id due) = kept id
desk_reply written stack (D.Repeated id) = kept id
desk_reply written stack (D.Asked asked due) = good Json (asked_json asked)
desk_reply written stack D.Withdrawn = good Json withdrawn_json
desk_reply written stack (D.Raw annotations) = good Json (annotations_json annotations)
desk_reply written stack (D.Row row) = row_reply written row
desk_reply written stack (D.Dump bytes) = good Octets bytes
desk_reply written stack (D.Found answer) = found_reply written answer
desk_reply written stack (D.Tops tops) = tops_reply written tops
desk_reply written stack (D.Turned processed) = good Json (turned_json processed)
desk_reply written stack (D.Drained count) = good Json (drained_json count)
desk_reply written stack D.Stopping = plain 200 (codes "stopping")
desk_reply written stack (D.Refused refusal) = desk_refusal written refusal
desk_reply written stack (D.Counted counts) = counts_reply written counts
desk_reply written stack (D.Record raw) = stack_reply (stack (crash_of raw))
desk_reply written stack (D.Kept count) = no_memory
desk_reply written stack (D.Fetched raw) = no_memory
desk_reply written stack (D.Finished changed) = no_memory

-- replies that a text is built of, for which memory may want. They answer reads, so nothing was changed.
abbrev pub BuildsText : Reply → Type 0
BuildsText (D.Raw annotations) = ⊤
BuildsText (D.Row row) = ⊤
BuildsText (D.Found answer) = ⊤
BuildsText (D.Tops tops) = ⊤
BuildsText (D.Counted counts) = ⊤
BuildsText (D.Record raw) = ⊤
BuildsText _ = ⊥
