-- Which log a desk opens with: the changes that the entries of its journal are, in order. This project's profile.
use Rattle.std.specs.Prelude.{◌≡◌, ℕ, ◌≤◌, Bool, true, false, List, [], ◌∷◌, ◌++◌, length, map, None}
use Rattle.soc_journal.specs.Entries.{Entry}
use Rattle.soc_desk.specs.Basis.{Basis}
use Rattle.soc_desk.specs.Log.{Kept, accept, ask, withdraw, report, Change, keep, accepted_of, IsLegal}
use Rattle.soc_desk.specs.State.{entries_of}

-- how many crashes a log accepts at most
abbrev pub MOST_CRASHES : ℕ
MOST_CRASHES = 4_294_967_295

-- the log of these kept changes
abbrev pub log_of : List Kept → List Change
log_of kept = map keep kept

-- what is known of a change: over a disk that tells nothing, of an accepted crash the id alone
abbrev pub as_told : Bool → Kept → Kept
as_told true change = change
as_told false (accept crash) = accept (record crash { raw = None })
as_told false (ask id) = ask id
as_told false (withdraw id) = withdraw id
as_told false (report made) = report made

-- the basis of a disk that tells its content
abbrev pub told : Basis → Basis
told basis = record basis { is_told = true }

-- the entries are those of these changes, each with its content, and the log is legal
pub record AreChanges (basis : Basis) (entries : List Entry) (kept : List Kept) : Type 0 where
  pub entries_are : entries ≡ entries_of kept
  pub legal : IsLegal (told basis) (log_of kept)
  pub few : length (accepted_of (log_of kept)) ≤ MOST_CRASHES

-- the log that a desk opens with over these entries: that of the one list of changes whose entries they are
pub record OpensWith (basis : Basis) (entries : List Entry) (log : List Change) : Type 0 where
  pub kept : List Kept
  pub are : AreChanges basis entries kept
  pub only : (others : List Kept) → AreChanges basis entries others → others ≡ kept
  pub log_is : log ≡ log_of (map (as_told basis.is_told) kept)

-- the entry is no change that may follow these
abbrev pub RefusesEntry : Basis → List Entry → Entry → Type 0
RefusesEntry basis entries entry =
    (kept : List Kept) (change : Kept) → AreChanges basis entries kept → ¬ (AreChanges basis (entries ++ entry ∷ []) (kept ++ change ∷ []))
