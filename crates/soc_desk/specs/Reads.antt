-- What a view answers. This project's profile.
use Rattle.std.specs.Prelude.{ℕ, List, Option, None, Some}
use Rattle.std.specs.Option.{option_map_or, option_and_then}
use Rattle.soc_base.specs.Names.{value_of}
use Rattle.soc_query.specs.Answers.{answer_of}
use Rattle.soc_tops.specs.Tops.{tops_of}
use Rattle.soc_desk.specs.declared.desk.Command.{Command}
use Rattle.soc_desk.specs.declared.desk.Command.TheVariants as C
use Rattle.soc_desk.specs.declared.desk.Reply.{Reply}
use Rattle.soc_desk.specs.declared.desk.Reply.TheVariants as R
use Rattle.soc_desk.specs.declared.desk.Refusal.TheVariants as F
use Rattle.soc_desk.specs.View.{View, Seen, rows_in}

abbrev pub no_crash : Reply
no_crash = R.Refused F.NoCrash

abbrev pub raw_reply : Option Seen → Reply
raw_reply None = no_crash
raw_reply (Some seen) = R.Raw seen.annotations

abbrev pub processed_reply : Option Seen → Reply
processed_reply None = no_crash
processed_reply (Some seen) = option_map_or R.Row seen.row (R.Refused F.NotProcessed)

abbrev pub dump_reply : List ℕ → Option Seen → Reply
dump_reply name seen =
    option_map_or R.Dump (option_and_then (λ dumps. value_of dumps name) (option_and_then (λ s. s.dumps) seen)) no_crash

-- the reply to a read, by the view of its caller alone
abbrev pub read_reply : View → Command → Option Reply
read_reply view (C.Raw caller id) = Some (raw_reply (value_of view id))
read_reply view (C.Processed caller id) = Some (processed_reply (value_of view id))
read_reply view (C.Dump caller id name) = Some (dump_reply name (value_of view id))
read_reply view (C.Search query) = Some (R.Found (answer_of query (rows_in view)))
read_reply view (C.Tops query) = Some (R.Tops (tops_of query (rows_in view)))
read_reply view _ = None
