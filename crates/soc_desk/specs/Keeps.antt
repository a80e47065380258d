-- How the reports of a run are kept for later runs: the doubt is settled, and then each crash that has a report, isn't due
-- and has no report of the run's digest behind its last acceptance or asking gets one appended. This project's profile.
use Rattle.std.specs.Prelude.{◌≡◌, ◌≢◌, ◌⊎◌, ℕ, Bool, not, nat_lt, ◌&&◌, ◌||◌, if◌then◌else◌, List, [], ◌∷◌, ◌++◌, length, filter, Option, is_some, map, IsTrue, true, ⊤}
use Rattle.std.specs.Option.{option_map, option_map_or, option_and_then}
use Rattle.soc_journal.specs.Entries.{max_body}
use Rattle.soc_ledger.specs.declared.event.Event.{Event}
use Rattle.soc_ledger.specs.declared.event.Event.TheVariants as E
use Rattle.soc_ledger.specs.Due.{is_due}
use Rattle.soc_ledger.specs.Events.{held_ids}
use Rattle.soc_ledger.specs.Reported.{has_report, is_kept}
use Rattle.soc_desk.specs.declared.desk.Reply.{Reply}
use Rattle.soc_desk.specs.declared.desk.Reply.TheVariants as R
use Rattle.soc_desk.specs.declared.desk.Refusal.TheVariants as F
use Rattle.soc_desk.specs.Basis.{Basis}
use Rattle.soc_desk.specs.Desk.{FailsMend}
use Rattle.soc_desk.specs.Grows.{BehindDoubt, StaysInDoubt}
use Rattle.soc_desk.specs.Log.{Kept, KeptReport, report, Change, keep, events, row_in}
use Rattle.soc_desk.specs.State.{State, settled, Settles, body_of, doubted, has_room, IsLegalState, kept_of, StandsFor, Allowed}

abbrev pub is_to_keep : List Event → List ℕ → Bool
is_to_keep log id = has_report log id && (not (is_due log id) && not (is_kept log id))

-- the crashes whose reports are to be kept, in the order in which they were accepted; without a digest none
abbrev pub to_keep_of : Basis → List Event → List (List ℕ)
to_keep_of basis log = if is_some basis.digest then filter (is_to_keep log) (held_ids log) else []

abbrev pub ids_to_keep : Basis → List Change → List (List ℕ)
ids_to_keep basis log = to_keep_of basis (events basis log)

-- the report of a crash, made by the run's own lists and symbols
abbrev pub report_of : Basis → List Change → List ℕ → Option KeptReport
report_of basis log id =
    option_and_then (λ digest. option_map (λ row. record { id = id; digest = digest; row = row }) (row_in basis log id)) basis.digest

-- the report is longer than an entry may be, or the journal has no room for it
abbrev pub is_passed_over : Basis → List Change → KeptReport → Bool
is_passed_over basis log made = nat_lt max_body (length (body_of (report made))) || not (has_room basis log (report made))

-- the reports that are kept of these crashes, in order: each that isn't passed over, behind those before it
abbrev pub to_append : Basis → List Change → List (List ℕ) → List Kept
to_append basis log [] = []
to_append basis log (id ∷ ids) =
    option_map_or (λ made.
    if is_passed_over basis log made then to_append basis log ids else report made ∷ to_append basis (log ++ keep (report made) ∷ []) ids)
    (report_of basis log id) (to_append basis log ids)

-- All of these are appended, and the answer has their number; or the first of them, until memory for more runs out; or the
-- first of them, and the one write of some that follow fails.
abbrev pub KeepsFirst : List Change → List Kept → Reply → State → Type 0
KeepsFirst log all (R.Kept count) after = (count ≡ length all) × (after ≡ settled (log ++ map keep all))
KeepsFirst log all (R.Refused F.NoMemory) after =
    (first : List Kept) × (rest : List Kept) × (all ≡ first ++ rest) × (rest ≢ []) × (after ≡ settled (log ++ map keep first))
KeepsFirst log all (R.Refused F.StoreFault) after =
    (first : List Kept) × (failed : List Kept) × (rest : List Kept) × (all ≡ first ++ (failed ++ rest)) × (failed ≢ [])
    × (after ≡ record { log = log ++ map keep first; doubt = failed })
KeepsFirst log all _ after = ⊥

-- the doubt is settled, and the settled log's reports are kept
pub record SettlesAndKeeps (basis : Basis) (before : State) (reply : Reply) (after : State) : Type 0 where
  pub log : List Change
  pub settles : Settles before.log before.doubt log
  pub keeps : KeepsFirst log (to_append basis log (ids_to_keep basis log)) reply after

abbrev pub StepKeep : Basis → State → Reply → State → Type 0
StepKeep basis before reply after = FailsMend before reply after ⊎ SettlesAndKeeps basis before reply after

-- ---- stops

-- the kept changes, and those in doubt
abbrev pub kept_with_doubt : State → List Kept
kept_with_doubt state = kept_of state.log ++ state.doubt

-- the image stands for the first of these changes, and has all that were there before
pub record StandsBetween (before after : List Kept) (image : List ℕ) : Type 0 where
  pub more : List Kept
  pub rest : List Kept
  pub whole : after ≡ before ++ (more ++ rest)
  pub stands : StandsFor image (before ++ more)

-- what a stop while reports are kept may leave: what was allowed before, or some of the reports in order
abbrev pub KeepAllows : State → State → List ℕ → Type 0
KeepAllows before after image = Allowed before image ⊎ StandsBetween (kept_of before.log) (kept_with_doubt after) image

-- ---- whatever the disk tells

-- the first list is the second without some of its items
abbrev pub IsPartOf : List (List ℕ) → List (List ℕ) → Type 0
IsPartOf [] ids = ⊤
IsPartOf (own ∷ owns) [] = ⊥
IsPartOf (own ∷ owns) (id ∷ ids) = ((own ≡ id) × IsPartOf owns ids) ⊎ IsPartOf (own ∷ owns) ids

-- The answer has the number of these reports that were appended, and then nothing is in doubt; or memory was wanted; or the
-- one write of those of some crashes that follow failed, and all of them are in doubt.
abbrev pub EndsReports : Basis → Reply → List Event → List (List ℕ) → List Event → Type 0
EndsReports basis (R.Kept count) log ids after = (count ≡ length ids) × (after ≡ [])
EndsReports basis (R.Refused F.NoMemory) log ids after = after ≡ []
EndsReports basis (R.Refused F.StoreFault) log ids after =
    (failed : List (List ℕ)) × (failed ≢ []) × IsPartOf (ids ++ failed) (to_keep_of basis log)
    × (after ≡ map (λ id. E.Reported id true) failed)
EndsReports basis _ log ids after = ⊥

-- of crashes whose reports are to be kept, some in their order are reported by the run's own lists and symbols
pub record Reports (basis : Basis) (reply : Reply) (after : List Event) (log own : List Event) : Type 0 where
  pub ids : List (List ℕ)
  pub among : IsPartOf ids (to_keep_of basis log)
  pub own_is : own ≡ map (λ id. E.Reported id true) ids
  pub ends : EndsReports basis reply log ids after

-- what keeping reports adds, behind the changes in doubt, where they were kept, or without any; or the doubt couldn't be settled
abbrev pub KeepGrows : Basis → Reply → List Event → List Event → List Event → List Event → Type 0
KeepGrows basis (R.Refused F.StoreFault) log doubt piece after =
    ((doubt ≢ []) × StaysInDoubt doubt piece after) ⊎ BehindDoubt log doubt piece (Reports basis (R.Refused F.StoreFault) after)
KeepGrows basis reply log doubt piece after = BehindDoubt log doubt piece (Reports basis reply after)

-- Reports are kept for later runs, with this answer: always by the log's events, and where the disk tells its content by its
-- changes.
pub record KeepsWith (basis : Basis) (before : State) (reply : Reply) (after : State) : Type 0 where
  pub piece : List Change
  pub behind : after.log ≡ before.log ++ piece
  pub grows : KeepGrows basis reply (events basis before.log) (doubted basis before) (events basis piece)
      (doubted basis after)
  pub legal : IsLegalState basis after
  pub step : IsTrue basis.is_told → StepKeep basis before reply after
