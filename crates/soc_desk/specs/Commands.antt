-- A command as the definitions above a desk name it: the desk's own, with a raw crash in place of where that lies in memory.
use Rattle.std.specs.Prelude.{ℕ, List}
use Rattle.soc_raw.specs.RawCrash.{crash_of}
use Rattle.soc_raw.specs.Record.{Crash}
use Rattle.soc_schema.specs.declared.caller.Caller.{Caller}
use Rattle.soc_schema.specs.Reports.{Report}
use Rattle.soc_query.specs.Queries.{Asked}
use Rattle.soc_tops.specs.declared.query.TopsQuery.{TopsQuery}
use Rattle.soc_desk.specs.declared.desk.Command.{Command}
use Rattle.soc_desk.specs.declared.desk.Command.TheVariants as C

pub data CommandText : Type 0 where
  to_submit : Crash → CommandText
  to_prioritise : Caller → List ℕ → CommandText
  to_reprocess : Caller → List ℕ → CommandText
  to_withdraw : Caller → List ℕ → CommandText
  to_show_raw : Caller → List ℕ → CommandText
  to_show_report : Caller → List ℕ → CommandText
  to_show_dump : Caller → List ℕ → List ℕ → CommandText
  to_show_stack : Caller → List ℕ → CommandText
  to_search : Asked → CommandText
  to_show_tops : TopsQuery → CommandText
  to_turn : Caller → CommandText
  to_drain : Caller → CommandText
  to_stop : Caller → CommandText
  to_fetch : List ℕ → CommandText
  to_finish : Report → CommandText
  to_count : Caller → CommandText

abbrev pub command_text : Command → CommandText
command_text (C.Submit raw) = to_submit (crash_of raw)
command_text (C.Priority caller id) = to_prioritise caller id
command_text (C.Reprocess caller id) = to_reprocess caller id
command_text (C.Withdraw caller id) = to_withdraw caller id
command_text (C.Raw caller id) = to_show_raw caller id
command_text (C.Processed caller id) = to_show_report caller id
command_text (C.Dump caller id name) = to_show_dump caller id name
command_text (C.Stack caller id) = to_show_stack caller id
command_text (C.Search query) = to_search query
command_text (C.Tops query) = to_show_tops query
command_text (C.Turn caller) = to_turn caller
command_text (C.Drain caller) = to_drain caller
command_text (C.Stop caller) = to_stop caller
command_text (C.Fetch id) = to_fetch id
command_text (C.Finish processed) = to_finish processed
command_text (C.Counts caller) = to_count caller
