-- What is read from the window of a disk.
use Rattle.std.proofs.Common.{◌≡◌, ℕ, ◌+◌, ◌-◌, ◌≤◌, min, Option, Some, None, IfSome, List, length, take, drop, ◌∙◌, ap, subst, arith}
use Rattle.std.proofs.lemmas.List.{length-take, take-take, drop-take, drop-drop}
use Rattle.std.proofs.lemmas.Option.{IfSome_then}
use Rattle.soc_edge.specs.Disk.{ReadsAt, DiskTold, GoesOn, Looks, MayTear}
use Rattle.soc_edge.specs.Windows.{Ahead, window_size, ahead_told, Covers, IsWindow}

-- what is copied out of a window that holds all that is wanted, or all that the disk has there
module _ (from held : ℕ) (window : List ℕ) (size : length window ≡ window_size) (low : held ≤ window_size) (place count : ℕ) (into : List ℕ) (behind : from ≤ place) (within : place ≤ from + held)
    (copies : ReadsAt (take held window) (place - from) count into) where
  taken : length (take held window) ≡ held
  taken = length-take held window ∙ omega (arith, size, low)

  fits : count ≤ held - (place - from)
  fits = omega (arith, copies.fills, taken)

  one : (bytes : List ℕ) → held ≤ length bytes - from → take held window ≡ take held (drop from bytes) → min (length into) (length bytes - place) ≤ held - (place - from)
      → ReadsAt bytes place count into
  one bytes holds same enough =
      let sum : held ≡ (place - from) + (held - (place - from)) = omega (arith, behind, within) in
      let back : from + (place - from) ≡ place = omega (arith, behind) in
      record {
        fills = omega (arith, copies.fills, taken, holds, enough, behind);
        bytes = copies.bytes
            ∙ (ap (λ (x : List ℕ). take count (drop (place - from) x)) same
            ∙ (ap (λ (n : ℕ). take count (drop (place - from) (take n (drop from bytes)))) sum
            ∙ (ap (λ (x : List ℕ). take count x) (drop-take (place - from) (held - (place - from)) (drop from bytes))
            ∙ (take-take count (held - (place - from)) (drop (place - from) (drop from bytes)) fits
            ∙ (ap (λ (x : List ℕ). take count x) (drop-drop (place - from) from bytes)
            ∙ ap (λ (n : ℕ). take count (drop n bytes)) back)))));
      }

  pub read_held : (told : Option (List ℕ)) → IfSome told (λ bytes. (held ≤ length bytes - from) × (take held window ≡ take held (drop from bytes)))
      → IfSome told (λ bytes. min (length into) (length bytes - place) ≤ held - (place - from)) → IfSome told (λ bytes. ReadsAt bytes place count into)
  read_held None reads enough = tt
  read_held (Some bytes) reads enough = one bytes reads.0 reads.1 enough

pub read_covered : (told seen : Option (List ℕ)) → told ≡ seen → (from held : ℕ) (window : List ℕ) → IsWindow told from held window → (place count wanted : ℕ) (into : List ℕ) → Covers from held place wanted
    → length into ≡ wanted → ReadsAt (take held window) (place - from) count into → IfSome seen (λ bytes. ReadsAt bytes place count into)
read_covered told seen same from held window is place count wanted into covers size copies =
    let within : place ≤ from + held = omega (arith, covers.ends) in
    let P : Option (List ℕ) → Type 0 = λ t. IfSome t (λ bytes. ReadsAt bytes place count into) in
    subst P same (read_held from held window is.size is.within place count into covers.behind within copies told is.reads
    (IfSome_then told is.reads (λ bytes reads. omega (arith, covers.behind, covers.ends, size))))

-- ---- what the disk tells, with a count of calls of its own

GoesOn-ahead : (before after : DiskTold) (m n : ℕ) → GoesOn before after → GoesOn (ahead_told before m) (ahead_told after n)
GoesOn-ahead before after m n on = record {
  later = on.later;
  keeps = on.keeps;
  nothing_else = on.nothing_else;
  wider = on.wider;
  faults_never_fall = on.faults_never_fall;
}

Looks-ahead : (before after : DiskTold) (m n : ℕ) → Looks before after → Looks (ahead_told before m) (ahead_told after n)
Looks-ahead before after m n looks = record {
  same = looks.same;
  images = looks.images;
  any_moment = record { each = looks.any_moment.each };
  goes_on = GoesOn-ahead before after m n looks.goes_on;
}

MayTear-ahead : (place count : ℕ) (before after : DiskTold) (m n : ℕ) → MayTear place count before after → MayTear place count (ahead_told before m) (ahead_told after n)
MayTear-ahead place count before after m n tears = record {
  images = tears.images;
  any_moment = record { each = tears.any_moment.each };
  goes_on = GoesOn-ahead before after m n tears.goes_on;
}

module _ {D : Type 0} (state : D → DiskTold) (inside seen : Ahead D) (view_is : inside ≡ seen) (after : DiskTold) (n : ℕ) where
  pub Looks-seen : Looks (state inside.disk) after → Looks (ahead_told (state seen.disk) seen.calls) (ahead_told after n)
  Looks-seen looks =
      let P : Ahead D → Type 0 = λ a. Looks (ahead_told (state a.disk) a.calls) (ahead_told after n) in
      subst P view_is (Looks-ahead (state inside.disk) after inside.calls n looks)

  pub MayTear-seen : (place count : ℕ) → MayTear place count (state inside.disk) after → MayTear place count (ahead_told (state seen.disk) seen.calls) (ahead_told after n)
  MayTear-seen place count tears =
      let P : Ahead D → Type 0 = λ a. MayTear place count (ahead_told (state a.disk) a.calls) (ahead_told after n) in
      subst P view_is (MayTear-ahead place count (state inside.disk) after inside.calls n tears)
