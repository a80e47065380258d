-- What the disk of a vault holds, and where an entry stands in it.
use Rattle.std.specs.Prelude.{◌≡◌, ℕ, IsSomeAnd, Result, Ok, Err, List, [], ◌∷◌, ◌++◌, ⊤}
use Rattle.soc_edge.specs.Disk.{DiskTold}
use Rattle.soc_journal.specs.Bodies.{StandsBefore}
use Rattle.soc_journal.specs.Entries.{Entry, place_behind}
use Rattle.soc_journal.specs.Text.{JournalText, EitherText}
use Rattle.soc_journal.specs.States.{JournalState, AtRest, InDoubt, entries_after}
use Rattle.soc_journal.specs.declared.error.ReadError.{ReadError}
use Rattle.soc_journal.specs.declared.error.ReadError.TheVariants.{StoreFault, Altered, NoMemory}
use Rattle.soc_journal.specs.declared.settled.Settled.{Settled}

-- The disk tells that it holds the journal of these entries, and so does each image that a stop may leave. With a doubt
-- each of them holds these entries, or these and all entries in doubt.
abbrev pub Means : DiskTold → JournalState → List Entry → List Entry → Type 0
Means disk journal entries [] = IsSomeAnd disk.content (λ bytes. AtRest journal entries bytes disk.images)
Means disk journal entries (first ∷ more) = IsSomeAnd disk.content (λ bytes. InDoubt journal entries (first ∷ more) bytes disk.images)

-- an image of these entries, and with a doubt of these, or of these and all entries in doubt
abbrev pub StandsFor : List Entry → List Entry → List ℕ → Type 0
StandsFor entries [] image = JournalText entries image
StandsFor entries (first ∷ more) image = EitherText entries (first ∷ more) image

-- the entries once a doubt, where there is one, is settled
abbrev pub settled_entries : List Entry → List Entry → Settled → List Entry
settled_entries entries [] settled = entries
settled_entries entries (first ∷ more) settled = entries_after entries (first ∷ more) settled

-- one of these entries stands at this place
pub record IsAt (entries : List Entry) (place : ℕ) (entry : Entry) : Type 0 where
  pub before : List Entry
  pub behind : List Entry
  pub whole : entries ≡ before ++ entry ∷ behind
  pub place_is : place ≡ place_behind before

-- what a read at a place answers: the body of an entry that stands there before the closed gate, or that there is none
abbrev pub GivesEntry : List ℕ → ℕ → ℕ → Result (List ℕ) ReadError → Type 0
GivesEntry bytes place gate (Ok body) = (entry : Entry) × StandsBefore bytes place gate entry × (body ≡ entry.body)
GivesEntry bytes place gate (Err Altered) = (entry : Entry) → ¬ (StandsBefore bytes place gate entry)
GivesEntry bytes place gate (Err StoreFault) = ⊤
GivesEntry bytes place gate (Err NoMemory) = ⊤
