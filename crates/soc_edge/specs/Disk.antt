-- The disk as this project models it: what a read gives, and which images a stop of the machine may leave.
use Rattle.soc_edge.specs.Faults.{Rose}
use Rattle.std.specs.Prelude.{◌≡◌, ◌⊎◌, ℕ, ◌+◌, ◌-◌, ◌≤◌, min, max, Option, Some, None, List, [], ◌∷◌, ◌++◌, length, take, drop, replicate, ⊤}

-- a content with these bytes at a place; what lies between its end and the place reads as zeros
abbrev pub written : List ℕ → ℕ → List ℕ → List ℕ
written content place [] = content
written content place (byte ∷ bytes) =
    (take place content ++ replicate (place - length content) 0)
    ++ ((byte ∷ bytes) ++ drop (place + length (byte ∷ bytes)) content)

-- a write of so many bytes at a place may be cut short anywhere: its range, and all that lies past the end,
-- may hold any bytes, and the rest stays
pub record Tears (place count : ℕ) (before after : List ℕ) : Type 0 where
  pub front : take (min place (length before)) after ≡ take place before
  pub back : drop (place + count) after ≡ drop (place + count) before
  pub no_shorter : length before ≤ length after
  pub no_longer : length after ≤ max (length before) (place + count)

-- a read at a place gave so many bytes at the front of this: fewer than there is room for only at the end
pub record ReadsAt (content : List ℕ) (place count : ℕ) (into : List ℕ) : Type 0 where
  pub fills : count ≡ min (length into) (length content - place)
  pub bytes : take count into ≡ take count (drop place content)

-- told contents are related; what wasn't told is not told afterwards
abbrev pub WhereTold : (List ℕ → List ℕ → Type 0) → Option (List ℕ) → Option (List ℕ) → Type 0
WhereTold R None None = ⊤
WhereTold R None (Some after) = ⊥
WhereTold R (Some before) None = ⊥
WhereTold R (Some before) (Some after) = R before after

-- each image of the later set comes from one of the earlier set by such a step
abbrev pub Follows : (List ℕ → List ℕ → Type 0) → (List ℕ → Type 0) → (List ℕ → Type 0) → Type 0
Follows step before after =
    (image : List ℕ) → after image → (earlier : List ℕ) × before earlier × step earlier image

-- no image that wasn't possible before
abbrev pub NoMore : (List ℕ → Type 0) → (List ℕ → Type 0) → Type 0
NoMore before after = (image : List ℕ) → after image → before image

-- this is the one image
abbrev pub Only : List ℕ → (List ℕ → Type 0) → Type 0
Only content images = (image : List ℕ) → images image → image ≡ content

-- what a disk tells of itself: the bytes that reads give, where it tells them; the images that a stop may leave now, and
-- those that a stop at a moment or a later one, until now, might have left; the moment of its own clock; how many calls
-- were made, and how many of them failed
pub record DiskTold : Type 1 where
  pub content : Option (List ℕ)
  pub images : List ℕ → Type 0
  pub since : ℕ → List ℕ → Type 0
  pub moment : ℕ
  pub calls : ℕ
  pub faults : ℕ

-- as it reads it is one of its images, this moment is one of those since an earlier one, since this moment there is no
-- other, and each moment since a later one is one since an earlier one
pub record IsDisk (disk : DiskTold) : Type 0 where
  pub reads_as_image : (bytes : List ℕ) → disk.content ≡ Some bytes → disk.images bytes
  pub counts_now : (t : ℕ) (image : List ℕ) → t ≤ disk.moment → disk.images image → disk.since t image
  pub only_now : (image : List ℕ) → disk.since disk.moment image → disk.images image
  pub wider : (s t : ℕ) (image : List ℕ) → s ≤ t → disk.since t image → disk.since s image

-- Time goes on: a stop since an earlier moment might have left what it might have left before, or what a stop since
-- then might have left. No fault is forgotten.
pub record GoesOn (before after : DiskTold) : Type 0 where
  pub later : before.moment ≤ after.moment
  pub keeps : (t : ℕ) (image : List ℕ) → t ≤ before.moment → before.since t image → after.since t image
  pub nothing_else : (t : ℕ) (image : List ℕ) → t ≤ before.moment → after.since t image
      → before.since t image ⊎ after.since before.moment image
  pub wider : (s t : ℕ) (image : List ℕ) → s ≤ t → after.since t image → after.since s image
  pub faults_never_fall : before.faults ≤ after.faults

-- a stop at any moment from the one before until the one after leaves an image that has P
pub record LeavesOnly (before after : DiskTold) (P : List ℕ → Type 0) : Type 0 where
  pub each : (image : List ℕ) → after.since before.moment image → P image

-- an image that a write of so many bytes at a place, which a stop cuts short, makes of one of these
pub record IsTorn (images : List ℕ → Type 0) (place count : ℕ) (image : List ℕ) : Type 0 where
  pub earlier : List ℕ
  pub was : images earlier
  pub tears : Tears place count earlier image

-- nothing was changed: reads give the same, and no stop leaves what it could not have left before
pub record Looks (before after : DiskTold) : Type 0 where
  pub same : after.content ≡ before.content
  pub images : NoMore before.images after.images
  pub any_moment : LeavesOnly before after before.images
  pub goes_on : GoesOn before after

-- so many bytes at a place may have been written, whole, torn or not at all
pub record MayTear (place count : ℕ) (before after : DiskTold) : Type 0 where
  pub images : Follows (Tears place count) before.images after.images
  pub any_moment : LeavesOnly before after (IsTorn before.images place count)
  pub goes_on : GoesOn before after

-- a call failed
abbrev pub DiskFailed : DiskTold → DiskTold → Type 0
DiskFailed before after = Rose before.faults after.faults
