-- Reading from a window and a source: what is ahead of a reader is what stands unread in its window, and then what the source has left.
use Rattle.std.specs.Prelude.{◌≡◌, ◌≤◌, List, ℕ, ◌++◌, length, Option, None, Some, Result, Ok, Err, ⊤}
use Rattle.std.specs.Io.KnownBytes.{prepend_known, IsAtEnd}
use Rattle.soc_edge.specs.Told.{Told, Reads}
use Rattle.soc_http.specs.declared.head.Head.{Head}
use Rattle.soc_http.specs.declared.head.HeadError.{HeadError}
use Rattle.soc_http.specs.declared.head.HeadError.TheVariants as H
use Rattle.soc_http.specs.Message.{ReadsHead}
use Rattle.soc_http.specs.Block.{HasNoBlock, block_limit}

-- what is ahead, where the source tells it
abbrev pub ahead : List ℕ → Told → Option (List ℕ)
ahead window told = prepend_known window told.left

-- the answers that a text gives only where it ends
abbrev pub IfEnded : Result (Option Head) HeadError → Type 0 → Type 0
IfEnded (Ok None) P = P
IfEnded (Ok (Some head)) P = ⊤
IfEnded (Err H.CutShort) P = P
IfEnded (Err H.BadHead) P = ⊤
IfEnded (Err H.HeadTooLarge) P = ⊤
IfEnded (Err H.NoLength) P = ⊤
IfEnded (Err H.BodyTooLarge) P = ⊤
IfEnded (Err H.ReadFault) P = ⊤
IfEnded (Err H.NoMemory) P = ⊤

-- an answer for which the source failed
abbrev pub IfFault : Result (Option Head) HeadError → Type 0 → Type 0
IfFault (Ok found) P = ⊤
IfFault (Err H.ReadFault) P = P
IfFault (Err H.BadHead) P = ⊤
IfFault (Err H.HeadTooLarge) P = ⊤
IfFault (Err H.NoLength) P = ⊤
IfFault (Err H.BodyTooLarge) P = ⊤
IfFault (Err H.CutShort) P = ⊤
IfFault (Err H.NoMemory) P = ⊤

-- no head has ended yet, and one that isn't too large may still end
abbrev pub IsWithinHead : List ℕ → Type 0
IsWithinHead window = (length window ≤ block_limit) × HasNoBlock window

-- the source gave bytes, and with them the window's text gives this answer, whatever else the source has left
pub record ReadsHeadFrom
    (before after : Told) (old : List ℕ) (result : Result (Option Head) HeadError) (new : List ℕ) : Type 0 where
  pub given : List ℕ
  pub gives : Reads before after given
  pub reads : ReadsHead (old ++ given) result new
  pub ended : IfEnded result (IsAtEnd after.left)
  pub unfinished : IfFault result (IsWithinHead new)

-- the same over all that is ahead, where it is told: what isn't told is not told afterwards
abbrev pub ReadsHeadAhead : Option (List ℕ) → Result (Option Head) HeadError → Option (List ℕ) → Type 0
ReadsHeadAhead None result after = after ≡ None
ReadsHeadAhead (Some text) result None = ⊥
ReadsHeadAhead (Some text) result (Some rest) = ReadsHead text result rest
