-- Bodies of messages while they are read: a piece of one, one that is passed over, and one that is read into its place.
use Rattle.std.specs.Prelude.{◌≡◌, ℕ, ◌<◌, ◌≤◌, List, [], ◌++◌, length, take, Result, Ok, Err}
use Rattle.std.specs.Io.KnownBytes.{IsAtEnd}
use Rattle.soc_edge.specs.Told.{Told, Reads}
use Rattle.soc_http.specs.declared.body.BodyError.{BodyError}
use Rattle.soc_http.specs.declared.body.BodyError.TheVariants as B
use Rattle.soc_http.specs.Body.{IfCut, Skips}

-- ---- a piece of a body

-- what asking for a piece finds: the window has so many bytes of it, at least one and at most those that are left
abbrev pub IsPiece : List ℕ → ℕ → Result ℕ BodyError → List ℕ → Type 0
IsPiece text left (Ok count) window = (window ≡ text) × (0 < count) × (count ≤ left) × (count ≤ length window)
IsPiece text left (Err B.CutShort) window = (text ≡ []) × (window ≡ [])
IsPiece text left (Err B.ReadFault) window = (text ≡ []) × (window ≡ [])
IsPiece text left (Err B.NoMemory) window = ⊥

pub record IsPieceReady
    (before after : Told) (old : List ℕ) (left : ℕ) (result : Result ℕ BodyError) (new : List ℕ) : Type 0 where
  pub given : List ℕ
  pub gives : Reads before after given
  pub reads : IsPiece (old ++ given) left result new
  pub ended : IfCut result (IsAtEnd after.left)

-- ---- a body that is passed over

-- what stands behind so many bytes, once the source gave some
pub record Past (before after : Told) (old new : List ℕ) (count : ℕ) : Type 0 where
  pub given : List ℕ
  pub gives : Reads before after given
  pub skips : Skips (old ++ given) count new

-- ---- a body that is read into its place

abbrev pub ReadsInto : List ℕ → List ℕ → Result (Unit {0}) BodyError → List ℕ → Type 0
ReadsInto text body (Ok done) rest = text ≡ body ++ rest
ReadsInto text body (Err B.CutShort) rest = (length text < length body) × (rest ≡ [])
ReadsInto text body (Err B.ReadFault) rest = (length text < length body) × (rest ≡ [])
ReadsInto text body (Err B.NoMemory) rest = ⊥

pub record IntoFrom
    (before after : Told) (old body : List ℕ) (result : Result (Unit {0}) BodyError) (new : List ℕ) : Type 0 where
  pub given : List ℕ
  pub gives : Reads before after given
  pub reads : ReadsInto (old ++ given) body result new
  pub ended : IfCut result (IsAtEnd after.left)

-- the first bytes of the body are there, and the window is empty unless all of them are
pub record IsFilledTo (before after : Told) (old body new : List ℕ) (at : ℕ) : Type 0 where
  pub given : List ℕ
  pub gives : Reads before after given
  pub whole : old ++ given ≡ take at body ++ new
  pub within : at ≤ length body
  pub emptied : at < length body → new ≡ []
