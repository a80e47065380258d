-- The laws of a disk in memory: as it reads it is one of its images, and its moments are in order.
use Rattle.std.specs.Prelude.{◌≡◌, ℕ, ◌+◌, ◌-◌, ◌≤◌, min, Some, List, [], ◌∷◌, ◌++◌, length, take, drop, replicate, refl}
use Rattle.std.proofs.Common.{sym, ◌∙◌, ap, subst, inl, inr, arith, append_assoc}
use Rattle.std.proofs.lemmas.List.{length-append, length-take, length-drop, length-replicate, take_min, take_at, drop_at}
use Rattle.soc_edge.specs.Disk.{written, Tears, IsDisk}
use Rattle.soc_edge.specs.DiskLog.{DiskState, disk_told, Made, Wrote, Synced, reads_as, IsImage, WasImageSince}

-- a content that stays is one that a torn write may leave
pub Tears-same : (place count : ℕ) (content : List ℕ) → Tears place count content content
Tears-same place count content = record {
  front = take_min place content;
  back = refl;
  no_shorter = omega arith;
  no_longer = omega arith;
}

-- what stands before a write
pub length-front : (content : List ℕ) (place : ℕ) → length (take place content ++ replicate (place - length content) 0) ≡ place
length-front content place = simp (length-append, length-take, length-replicate) (omega arith)

-- and so is what the whole write makes of it
pub Tears-written : (content : List ℕ) (place : ℕ) (bytes : List ℕ) → Tears place (length bytes) content (written content place bytes)
Tears-written content place [] = Tears-same place 0 content
Tears-written content place (byte ∷ bytes) =
    let piece = byte ∷ bytes in
    let zeros = replicate (place - length content) 0 in
    let front = take place content ++ zeros in
    let back = drop (place + length piece) content in
    let regroup : (front ++ piece) ++ back ≡ front ++ (piece ++ back) = append_assoc front piece back in
    let count : length (front ++ piece) ≡ place + length piece =
    length-append front piece ∙ ap (λ (n : ℕ). n + length piece) (length-front content place) in
    let whole : length (front ++ (piece ++ back)) ≡ (place + length piece) + (length content - (place + length piece)) =
    ap (λ (x : List ℕ). length x) (sym regroup)
    ∙ (length-append (front ++ piece) back
    ∙ (ap (λ (n : ℕ). n + length back) count
    ∙ ap (λ (n : ℕ). (place + length piece) + n) (length-drop (place + length piece) content))) in
    record {
      front = ap (λ (x : List ℕ). take (min place (length content)) x) (append_assoc (take place content) zeros (piece ++ back))
          ∙ take_at (take place content) (zeros ++ (piece ++ back)) (min place (length content)) (length-take place content);
      back = ap (λ (x : List ℕ). drop (place + length piece) x) (sym regroup)
          ∙ drop_at (front ++ piece) back (place + length piece) count;
      no_shorter = omega (arith, whole);
      no_longer = omega (arith, whole);
    }

pub IsImage-reads : (first : List ℕ) (log : List Made) → IsImage first log (reads_as first log)
IsImage-reads first [] = refl
IsImage-reads first (Wrote place bytes ∷ log) = (reads_as first log, IsImage-reads first log, Tears-written (reads_as first log) place bytes)
IsImage-reads first (Synced ∷ log) = refl

-- as it reads it is one of its images
pub IsImage-told : (first : List ℕ) (log : List Made) (bytes : List ℕ) → Some (reads_as first log) ≡ Some bytes → IsImage first log bytes
IsImage-told first log bytes told =
    let same : reads_as first log ≡ bytes = cc in
    let P : List ℕ → Type 0 = λ image. IsImage first log image in
    subst P same (IsImage-reads first log)

-- this moment is one of those since an earlier one
pub WasImageSince-now : (first : List ℕ) (log : List Made) (t : ℕ) (image : List ℕ) → t ≤ length log → IsImage first log image → WasImageSince first log t image
WasImageSince-now first [] t image low now = (low, now)
WasImageSince-now first (made ∷ log) t image low now = inl (low, now)

WasImageSince-low : (first : List ℕ) (log : List Made) (t : ℕ) (image : List ℕ) → WasImageSince first log t image → t ≤ length log
WasImageSince-low first [] t image was = was.0
WasImageSince-low first (made ∷ log) t image (inl now) = now.0
WasImageSince-low first (made ∷ log) t image (inr past) = omega (arith, WasImageSince-low first log t image past)

-- since this moment there is no other
pub WasImageSince-only : (first : List ℕ) (log : List Made) (image : List ℕ) → WasImageSince first log (length log) image → IsImage first log image
WasImageSince-only first [] image was = was.1
WasImageSince-only first (made ∷ log) image (inl now) = now.1
WasImageSince-only first (made ∷ log) image (inr past) = absurd (omega (arith, WasImageSince-low first log (length (made ∷ log)) image past))

pub WasImageSince-wider : (first : List ℕ) (log : List Made) (s t : ℕ) (image : List ℕ) → s ≤ t → WasImageSince first log t image → WasImageSince first log s image
WasImageSince-wider first [] s t image low was = (omega (arith, was.0), was.1)
WasImageSince-wider first (made ∷ log) s t image low (inl now) = inl (omega (arith, now.0), now.1)
WasImageSince-wider first (made ∷ log) s t image low (inr past) = inr (WasImageSince-wider first log s t image low past)

pub IsDisk-told : (disk : DiskState) → IsDisk (disk_told disk)
IsDisk-told disk = record {
  reads_as_image = λ bytes told. IsImage-told disk.first disk.log bytes told;
  counts_now = λ t image low now. WasImageSince-now disk.first disk.log t image low now;
  only_now = λ image left. WasImageSince-only disk.first disk.log image left;
  wider = λ s t image low was. WasImageSince-wider disk.first disk.log s t image low was;
}
