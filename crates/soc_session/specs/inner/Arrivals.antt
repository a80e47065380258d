-- The next message, as the bytes that the link gave have it.
use Rattle.std.specs.Prelude.{◌≡◌, ℕ, List, [], ◌++◌, Option, None, Some, IfSome, Result, Ok, Err, ⊤}
use Rattle.std.specs.Io.KnownBytes.{IsAtEnd}
use Rattle.soc_edge.specs.Told.{Told, Reads}
use Rattle.soc_http.specs.declared.head.HeadError.{HeadError}
use Rattle.soc_http.specs.declared.head.HeadError.TheVariants as H
use Rattle.soc_http.specs.Message.{Message, TakesMessage}
use Rattle.soc_http.specs.Request.{IsWithinLimits}
use Rattle.soc_session.specs.declared.arrivals.Incoming.{Incoming}
use Rattle.soc_session.specs.declared.rules.Rules.{Rules}
use Rattle.soc_session.specs.Messages.{IsUnfinished, RefusedAt}
use Rattle.soc_session.specs.inner.Intakes.{FitsContent, Says}

-- the message that came: where memory wanted for its content, only the body's length is known
pub record IsMessage (rules : Rules) (incoming : Incoming) (message : Message) : Type 0 where
  pub head : message.head ≡ incoming.head
  pub content : IfSome incoming.content (Says rules message)

abbrev pub ReadsMessage : Rules → List ℕ → Result (Option Incoming) HeadError → List ℕ → Option (List ℕ) → Type 0
ReadsMessage rules text (Ok None) rest left = (text ≡ []) × (rest ≡ []) × IsAtEnd left
ReadsMessage rules text (Ok (Some incoming)) rest left = (message : Message) × IsMessage rules incoming message × TakesMessage text message rest
ReadsMessage rules text (Err H.ReadFault) rest left = IsUnfinished text
ReadsMessage rules text (Err H.NoMemory) rest left = ⊤
ReadsMessage rules text (Err H.BadHead) rest left = RefusedAt text left H.BadHead
ReadsMessage rules text (Err H.HeadTooLarge) rest left = RefusedAt text left H.HeadTooLarge
ReadsMessage rules text (Err H.NoLength) rest left = RefusedAt text left H.NoLength
ReadsMessage rules text (Err H.BodyTooLarge) rest left = RefusedAt text left H.BodyTooLarge
ReadsMessage rules text (Err H.CutShort) rest left = RefusedAt text left H.CutShort

-- the link gave bytes, and with them the window's text gives this answer, whatever else the link has left
pub record Arrives (rules : Rules) (before after : Told) (old : List ℕ) (result : Result (Option Incoming) HeadError) (new : List ℕ) : Type 0 where
  pub given : List ℕ
  pub gives : Reads before after given
  pub reads : ReadsMessage rules (old ++ given) result new after.left

-- head and content are no larger than they may be
pub record IsSized (incoming : Incoming) : Type 0 where
  pub head : IsWithinLimits incoming.head
  pub content : IfSome incoming.content FitsContent
