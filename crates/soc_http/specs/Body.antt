-- Bodies of messages: so many bytes behind a head (RFC 9112, section 6.2).
use Rattle.std.specs.Prelude.{◌≡◌, ℕ, ◌<◌, List, [], ◌++◌, length, Option, None, Some, Result, Ok, Err}
use Rattle.std.specs.Borrow.{Bor}
use Rattle.std.specs.Io.KnownBytes.{IsAtEnd}
use Rattle.soc_edge.specs.Told.{Told, Reads}
use Rattle.soc_http.specs.declared.body.BodyError.{BodyError}
use Rattle.soc_http.specs.declared.body.BodyError.TheVariants as B

-- the text begins with so many bytes, and rest stands behind them
pub record Skips (text : List ℕ) (count : ℕ) (rest : List ℕ) : Type 0 where
  pub front : List ℕ
  pub whole : text ≡ front ++ rest
  pub counted : length front ≡ count

-- fewer bytes than that were taken from the text, and rest stands behind them
pub record StopsEarly (text : List ℕ) (count : ℕ) (rest : List ℕ) : Type 0 where
  pub front : List ℕ
  pub whole : text ≡ front ++ rest
  pub fewer : length front < count

-- what reading a body of so many bytes from the text answers, and what is left behind it
abbrev pub ReadsBody : List ℕ → ℕ → Result (List ℕ) BodyError → List ℕ → Type 0
ReadsBody text count (Ok body) rest = (text ≡ body ++ rest) × (length body ≡ count)
ReadsBody text count (Err B.CutShort) rest = (length text < count) × (rest ≡ [])
ReadsBody text count (Err B.ReadFault) rest = StopsEarly text count rest
ReadsBody text count (Err B.NoMemory) rest = Skips text count rest

-- the same with the bytes that were read: a fault comes only where they are too few, and all of them were taken
abbrev pub ReadsBodyFrom : List ℕ → ℕ → Result (List ℕ) BodyError → List ℕ → Type 0
ReadsBodyFrom text count (Ok body) rest = ReadsBody text count (Ok body) rest
ReadsBodyFrom text count (Err B.CutShort) rest = ReadsBody text count (Err B.CutShort) rest
ReadsBodyFrom text count (Err B.ReadFault) rest = (length text < count) × (rest ≡ [])
ReadsBodyFrom text count (Err B.NoMemory) rest = ReadsBody text count (Err B.NoMemory) rest

-- the body is cut short only where the input ends
abbrev pub IfCut : {A : Type 0} → Result A BodyError → Type 0 → Type 0
IfCut (Ok x) P = Unit {0}
IfCut (Err B.CutShort) P = P
IfCut (Err B.ReadFault) P = Unit {0}
IfCut (Err B.NoMemory) P = Unit {0}

-- the source gave bytes, and with them the window's text gives this answer, whatever else the source has left
pub record BodyFrom
    (before after : Told) (old : List ℕ) (count : ℕ) (result : Result (List ℕ) BodyError) (new : List ℕ) : Type 0 where
  pub given : List ℕ
  pub gives : Reads before after given
  pub reads : ReadsBodyFrom (old ++ given) count result new
  pub ended : IfCut result (IsAtEnd after.left)

-- the same over all that is ahead, where it is told
abbrev pub ReadsBodyAhead : Option (List ℕ) → ℕ → Result (List ℕ) BodyError → Option (List ℕ) → Type 0
ReadsBodyAhead None count result after = after ≡ None
ReadsBodyAhead (Some text) count result None = ⊥
ReadsBodyAhead (Some text) count result (Some rest) = ReadsBody text count result rest

-- ---- a body that is passed over

-- so many bytes were taken, or all that there were
abbrev pub PassesOver : List ℕ → ℕ → Result (Unit {0}) BodyError → List ℕ → Type 0
PassesOver text count (Ok done) rest = Skips text count rest
PassesOver text count (Err B.CutShort) rest = (length text < count) × (rest ≡ [])
PassesOver text count (Err B.ReadFault) rest = (length text < count) × (rest ≡ [])
PassesOver text count (Err B.NoMemory) rest = ⊥

-- the source gave bytes, and with them the window's text begins with the bytes that were passed over, whatever else the
-- source has left
pub record Passes
    (before after : Told) (old : List ℕ) (count : ℕ) (result : Result (Unit {0}) BodyError) (new : List ℕ) : Type 0 where
  pub given : List ℕ
  pub gives : Reads before after given
  pub reads : PassesOver (old ++ given) count result new
  pub ended : IfCut result (IsAtEnd after.left)

-- ---- a piece that is lent

abbrev pub ReadsPiece : List ℕ → Result (Bor (List ℕ)) BodyError → List ℕ → Type 0
ReadsPiece text (Ok piece) rest = text ≡ piece.now ++ rest
ReadsPiece text (Err B.CutShort) rest = (text ≡ []) × (rest ≡ [])
ReadsPiece text (Err B.ReadFault) rest = (text ≡ []) × (rest ≡ [])
ReadsPiece text (Err B.NoMemory) rest = ⊥

-- the source gave bytes, and with them the window's text begins with the piece, whatever else the source has left
pub record PieceFrom
    (before after : Told) (old : List ℕ) (result : Result (Bor (List ℕ)) BodyError) (new : List ℕ) : Type 0 where
  pub given : List ℕ
  pub gives : Reads before after given
  pub reads : ReadsPiece (old ++ given) result new
  pub ended : IfCut result (IsAtEnd after.left)
