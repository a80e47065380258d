-- The window that messages are read through: how it is filled, and what a search for a head's end finds in it.
use Rattle.std.specs.Prelude.{◌≡◌, ℕ, ◌≤◌, List, [], ◌++◌, length, take, Option, None, Some, Result, Ok, Err}
use Rattle.std.specs.Io.KnownBytes.{IsAtEnd}
use Rattle.soc_edge.specs.Told.{Told, Reads}
use Rattle.soc_http.specs.declared.head.HeadError.{HeadError}
use Rattle.soc_http.specs.declared.head.HeadError.TheVariants as H
use Rattle.soc_http.specs.Block.{IsBlock, block_limit}
use Rattle.soc_http.specs.Message.{EndsInHead, HasNoBlockInLimit}
use Rattle.soc_http.specs.Reading.{IsWithinHead}

-- the source gave bytes, which stand behind those of the window
pub record Fills (before after : Told) (old new : List ℕ) : Type 0 where
  pub given : List ℕ
  pub gives : Reads before after given
  pub grown : new ≡ old ++ given

-- what a search for a block finds in the window, with which the source has this left
abbrev pub IsSearched : List ℕ → Told → Result (Option ℕ) HeadError → Type 0
IsSearched window after (Ok None) = (window ≡ []) × IsAtEnd after.left
IsSearched window after (Ok (Some end)) = (end ≤ length window) × (end ≤ block_limit) × IsBlock (take end window)
IsSearched window after (Err H.CutShort) = EndsInHead window × IsAtEnd after.left
IsSearched window after (Err H.HeadTooLarge) = HasNoBlockInLimit window
IsSearched window after (Err H.ReadFault) = IsWithinHead window
IsSearched window after (Err H.BadHead) = ⊥
IsSearched window after (Err H.NoLength) = ⊥
IsSearched window after (Err H.BodyTooLarge) = ⊥
IsSearched window after (Err H.NoMemory) = ⊥
