-- What an opening has read and given so far: words of private contracts and proofs.
use Rattle.std.specs.Prelude.{◌≡◌, ℕ, ◌+◌, ◌≤◌, Option, Some, None, IfSome, Result, Ok, Err, List, [], ◌∷◌, ◌++◌, length, ⊤}
use Rattle.soc_edge.specs.Disk.{DiskTold, Looks}
use Rattle.soc_journal.specs.Entries.{Entry, entry_text}
use Rattle.soc_journal.specs.Text.{FirstBad}
use Rattle.soc_journal.specs.Openings.{OpeningState, HasRead, HasReadAll}
use Rattle.soc_journal.specs.declared.error.OpenError.{OpenError}
use Rattle.soc_journal.specs.declared.error.OpenError.TheVariants.{NotOurs, StoreFault, BadEntry, NoMemory}
use Rattle.soc_vault.specs.declared.recovery.Found.{Found}
use Rattle.soc_vault.specs.Openings.{entry_of, place_from}

-- what is found behind some entries
abbrev pub FindsNext : List Entry → List ℕ → (List ℕ → Type 0) → Result (Option Found) OpenError → OpeningState → Type 0
FindsNext entries bytes images (Ok (Some found)) opening = HasRead opening (entries ++ entry_of found ∷ []) bytes images
FindsNext entries bytes images (Ok None) opening = HasReadAll opening entries bytes images
FindsNext entries bytes images (Err (BadEntry place)) opening = FirstBad bytes place
FindsNext entries bytes images (Err NotOurs) opening = ⊤
FindsNext entries bytes images (Err StoreFault) opening = ⊤
FindsNext entries bytes images (Err NoMemory) opening = ⊤

-- the opening moves behind what it has found
abbrev pub MovesBy : OpeningState → Option Found → OpeningState → Type 0
MovesBy before None after = after.place ≡ before.place
MovesBy before (Some found) after =
    (found.place ≡ before.place) × (after.place ≡ before.place + length (entry_text (entry_of found))) × (after.place ≤ after.length)

-- these entries were read and given, from a place on
pub record HasGiven (was_given : ℕ → List Entry → Type 0) (opening : OpeningState) (told : Option (List ℕ)) (images : List ℕ → Type 0) : Type 0 where
  pub start : ℕ
  pub entries : List Entry
  pub given : was_given start entries
  pub behind : opening.place ≡ place_from start entries
  pub reads : IfSome told (λ bytes. HasRead opening entries bytes images)

-- and they are all
pub record HasGivenAll (was_given : ℕ → List Entry → Type 0) (opening : OpeningState) (told : Option (List ℕ)) (images : List ℕ → Type 0) : Type 0 where
  pub start : ℕ
  pub entries : List Entry
  pub given : was_given start entries
  pub behind : opening.place ≡ place_from start entries
  pub reads : IfSome told (λ bytes. HasReadAll opening entries bytes images)

-- while an opening is read: what was given so far, to one of the same name, and that the disk was only looked at
pub record Reading (was_given : ℕ → List Entry → Type 0) (first_name name : Option (List ℕ)) (first now : DiskTold) (begun opening : OpeningState) : Type 0 where
  pub has : HasGiven was_given opening first.content now.images
  pub name_stays : name ≡ first_name
  pub looks : Looks first now
  pub limit : opening.limit ≡ begun.limit
