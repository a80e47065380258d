-- A storm: crashes that the program makes are submitted to a service over objects in memory, and then it is told what the
-- service's log has. This project's profile.
use Rattle.std.specs.Prelude.{◌≡◌, ℕ, zero, suc, ◌%◌, ◌==◌, if◌then◌else◌, Bool, true, false, List, [], ◌∷◌, ◌++◌, length, codes, Some, Ok}
use Rattle.std.specs.List.{AllByRecursion}
use Rattle.soc_base.specs.Names.{value_of}
use Rattle.soc_schema.specs.declared.caller.Caller.{Caller}
use Rattle.soc_schema.specs.declared.caller.Products.TheVariants.{All as AllProducts}
use Rattle.soc_schema.specs.Fields.{signature_field}
use Rattle.soc_schema.specs.Permits.{public_alone}
use Rattle.soc_edge.specs.Told.{Told, Writes, WritesFront}
use Rattle.soc_query.specs.declared.answer.Term.{Term}
use Rattle.soc_query.specs.Answers.{terms_of}
use Rattle.soc_schema.specs.Values.{text_in}
use Rattle.soc_report.specs.Texts.{Files}
use Rattle.soc_ledger.specs.declared.event.Event.{Event}
use Rattle.soc_ledger.specs.declared.event.Event.TheVariants as E
use Rattle.soc_ledger.specs.Due.{due_ids}
use Rattle.soc_ledger.specs.Events.{held_ids}
use Rattle.soc_desk.specs.Basis.{Basis}
use Rattle.soc_desk.specs.Log.{Change, events}
use Rattle.soc_desk.specs.State.{State, IsLegalState}
use Rattle.soc_desk.specs.View.{rows_in, view_of}
use Rattle.soc_made.specs.Made.{made_crash}
use Rattle.soc_replay.specs.Check.{count_line}
use Rattle.soc_replay.specs.Files.{Said, Says}
use Rattle.soc_replay.specs.Opening.{OpensJournal}
use Rattle.soc_edge.specs.World.{Outside, StaysQuiet}
use Rattle.soc_replay.specs.Replay.{digest_of, rows_of}
use Rattle.soc_replay.specs.Tasks.{LeavesTexts}
use Rattle.soc_serve.specs.declared.ending.HostEnd.{HostEnd}
use Rattle.soc_serve.specs.declared.ending.HostEnd.TheVariants as H
use Rattle.soc_serve.specs.declared.lines.LinesFault.TheVariants as L
use Rattle.soc_serve.specs.Lines.{counts_text}
use Rattle.soc_serve.specs.Sweep.{Processes}

-- ---- what is sent

-- the messages of one connection: of the first crashes of a seed each whose number has this rest by the number of connections
abbrev pub script_of : ℕ → ℕ → ℕ → ℕ → List ℕ
script_of seed connections rest zero = []
script_of seed connections rest (suc count) =
    script_of seed connections rest count ++ (if count % connections == rest then made_crash seed count else [])

-- ---- what is told

-- who may see the crashes of each product
abbrev pub onlooker : Caller
onlooker = record { permissions = public_alone; products = AllProducts }

-- each signature, and how many reports have it, in rising order of signatures
abbrev pub signatures_of : Basis → List Change → List Term
signatures_of basis log = terms_of signature_field (rows_in (view_of basis log onlooker))

-- a signature and its number on a line
abbrev pub term_line : Term → List ℕ
term_line term = text_in term.value ++ count_line (codes " ") term.count

abbrev pub term_lines : List Term → List ℕ
term_lines [] = []
term_lines (term ∷ terms) = term_line term ++ term_lines terms

-- the held crashes, those of them that have a report, and the signatures of these
abbrev pub storm_text : Basis → List Change → List ℕ
storm_text basis log = counts_text (events basis log) ++ term_lines (signatures_of basis log)

-- ---- the end of the service

-- the event is that of a kept report
abbrev pub is_report : Event → Bool
is_report (E.Reported id own) = true
is_report _ = false

abbrev pub AreNoReports : List Event → Type 0
AreNoReports events = AllByRecursion (λ event. is_report event ≡ false) events

-- what is due is processed; then nothing is due, each of so many crashes is held, and this text tells what the log has
pub record Subsides (basis : Basis) (closed : State) (count : ℕ) (text : List ℕ) : Type 0 where
  pub processed : ℕ
  pub swept : State
  pub processes : Processes basis closed processed swept
  pub nothing_due : due_ids (events basis swept.log) ≡ []
  pub all_held : length (held_ids (events basis swept.log)) ≡ count
  pub text_is : text ≡ storm_text basis swept.log

-- ---- the whole

-- a tree without files
abbrev pub no_files : Files
no_files = value_of []

-- The service went by what a tree without files says, over an empty disk that tells its content. The log that it left is legal,
-- and has no report that was kept, so that each was made since.
pub record PlaysOut (count : ℕ) (text : List ℕ) : Type 0 where
  pub said : Said
  pub says : Says (Some no_files) (Ok said)
  pub opening : OpensJournal (rows_of said.texts) (digest_of said.texts) said.setup.limits (Some [])
  pub closed : State
  pub legal : IsLegalState opening.basis closed
  pub none_kept : AreNoReports (events opening.basis closed.log)
  pub subsides : Subsides opening.basis closed count text

-- what is told of a storm of so many crashes, whole or cut short
pub record TellsStorm (count : ℕ) (Tells : List ℕ → Type 0) : Type 0 where
  pub text : List ℕ
  pub plays_out : ∥ PlaysOut count text ∥₁
  pub tells : Tells text

-- a storm of so many crashes, by its end; for want of memory nothing is told
abbrev pub EndsStorm : ℕ → Told → Told → HostEnd → Type 0
EndsStorm count before after H.Done = TellsStorm count (Writes before after)
EndsStorm count before after (H.Lines L.Cut) = TellsStorm count (WritesFront before after)
EndsStorm count before after (H.Lines L.NoMemory) = after ≡ before
EndsStorm count before after _ = ⊥

-- nothing outside was touched but the output
pub record Storms (count : ℕ) (before after : Outside) (end : HostEnd) : Type 0 where
  pub texts : LeavesTexts before after
  pub quiet : StaysQuiet before.around after.around
  pub ends : EndsStorm count before.around.streams after.around.streams end
