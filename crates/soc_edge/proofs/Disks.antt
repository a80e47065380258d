-- What follows from the model of a disk: contents after a write, images of a torn write, and calls one after another.
use Rattle.std.proofs.Common.{◌≡◌, refl, inl, inr, ℕ, ◌+◌, ◌-◌, ◌≤◌, min, max, List, [], ◌∷◌, ◌++◌, length, take, drop, replicate, sym, ◌∙◌, ap, subst, arith, add-zero}
use Rattle.std.proofs.lemmas.List.{append-nil, take-append-drop, length-append, length-take, length-drop, take_all, drop_all, take-take, drop-drop}
pub use Rattle.soc_edge.specs.inner.DiskLaws.{Tears-same, Tears-written, length-front}
use Rattle.soc_edge.specs.Disk.{written, Tears, Only, Follows, DiskTold, IsDisk, GoesOn, LeavesOnly, IsTorn, Looks, MayTear}

-- a write that begins within the content
pub written-within : (content : List ℕ) (place : ℕ) (bytes : List ℕ) → place ≤ length content → written content place bytes ≡ take place content ++ (bytes ++ drop (place + length bytes) content)
written-within content place [] within = rw add-zero (sym (take-append-drop place content))
written-within content place (byte ∷ bytes) within =
    let none : place - length content ≡ 0 = omega arith in
    let rest = (byte ∷ bytes) ++ drop (place + length (byte ∷ bytes)) content in
    ap (λ (n : ℕ). (take place content ++ replicate n 0) ++ rest) none
    ∙ ap (λ (x : List ℕ). x ++ rest) (append-nil (take place content))

-- a write at the end
pub written-end : (content bytes : List ℕ) → written content (length content) bytes ≡ content ++ bytes
written-end content bytes =
    let within : length content ≤ length content = omega arith in
    let past : length content ≤ length content + length bytes = omega arith in
    written-within content (length content) bytes within
    ∙ (ap (λ (x : List ℕ). x ++ (bytes ++ drop (length content + length bytes) content)) (take_all (length content) content within)
    ∙ (ap (λ (x : List ℕ). content ++ (bytes ++ x)) (drop_all (length content + length bytes) content past)
    ∙ ap (λ (x : List ℕ). content ++ x) (append-nil bytes)))

pub length-written : (content : List ℕ) (place : ℕ) (bytes : List ℕ) → place ≤ length content → length (written content place bytes) ≡ max (length content) (place + length bytes)
length-written content place bytes within =
    ap (λ (x : List ℕ). length x) (written-within content place bytes within)
    ∙ simp (length-append, length-take, length-drop) (omega arith)

-- what stands before the place stays
pub take-Tears : (place count k : ℕ) (before after : List ℕ) → Tears place count before after → k ≤ place → k ≤ length before → take k after ≡ take k before
take-Tears place count k before after tears low within =
    let least : k ≤ min place (length before) = omega arith in
    sym (take-take k (min place (length before)) after least)
    ∙ (ap (λ (x : List ℕ). take k x) tears.front ∙ take-take k place before low)

-- what stands behind the range stays
pub drop-Tears : (place count k : ℕ) (before after : List ℕ) → Tears place count before after → place + count ≤ k → drop k after ≡ drop k before
drop-Tears place count k before after tears high =
    let sum : (place + count) + (k - (place + count)) ≡ k = omega arith in
    ap (λ (n : ℕ). drop n after) (sym sum)
    ∙ (sym (drop-drop (k - (place + count)) (place + count) after)
    ∙ (ap (λ (x : List ℕ). drop (k - (place + count)) x) tears.back
    ∙ (drop-drop (k - (place + count)) (place + count) before
    ∙ ap (λ (n : ℕ). drop n before) sum)))

-- a set that names one image, after a step: each image comes from it
pub Follows-only : (step : List ℕ → List ℕ → Type 0) (before after : List ℕ → Type 0) (content : List ℕ) → Only content before → Follows step before after → (image : List ℕ) → after image → step content image
Follows-only step before after content only follows image left =
    let from = follows image left in
    let P : List ℕ → Type 0 = λ x. step x image in
    subst P (only from.0 from.1) from.2

-- nothing was called
pub GoesOn-none : (disk : DiskTold) → IsDisk disk → GoesOn disk disk
GoesOn-none disk sound = record {
  later = omega arith;
  keeps = λ t image low left. left;
  nothing_else = λ t image low left. inl left;
  wider = sound.wider;
  faults_never_fall = omega arith;
}

-- some calls, and then more
pub GoesOn-append : (before middle after : DiskTold) → GoesOn before middle → GoesOn middle after → GoesOn before after
GoesOn-append before middle after first then =
    let begun : before.moment ≤ middle.moment = first.later in
    let ended : middle.moment ≤ after.moment = then.later in
    let kept : before.faults ≤ middle.faults = first.faults_never_fall in
    let more : middle.faults ≤ after.faults = then.faults_never_fall in
    record {
      later = omega arith;
      keeps = λ t image low left.
          let low_too : t ≤ middle.moment = omega arith in
          then.keeps t image low_too (first.keeps t image low left);
      nothing_else = λ t image low left.
          let low_too : t ≤ middle.moment = omega arith in
          elim (then.nothing_else t image low_too left) [
            | inl past ↦ elim (first.nothing_else t image low past) [
              | inl earlier ↦ inl earlier
              | inr here ↦ inr (then.keeps before.moment image begun here)
            ]
            | inr later ↦ inr (then.wider before.moment middle.moment image begun later)
          ];
      wider = then.wider;
      faults_never_fall = omega arith;
    }

-- what has P has Q
pub LeavesOnly-weaker : (before after : DiskTold) (P Q : List ℕ → Type 0) → ((image : List ℕ) → P image → Q image) → LeavesOnly before after P → LeavesOnly before after Q
LeavesOnly-weaker before after P Q weaker leaves = record { each = λ image left. weaker image (leaves.each image left) }

-- some calls, and then more
pub LeavesOnly-append : (before middle after : DiskTold) (P : List ℕ → Type 0) → GoesOn before middle → GoesOn middle after → LeavesOnly before middle P → LeavesOnly middle after P → LeavesOnly before after P
LeavesOnly-append before middle after P begins ends first then = record {
  each = λ image left. elim (ends.nothing_else before.moment image begins.later left) [
    | inl past ↦ first.each image past
    | inr later ↦ then.each image later
  ];
}

pub Looks-none : (disk : DiskTold) → IsDisk disk → Looks disk disk
Looks-none disk sound = record {
  same = refl;
  images = λ image left. left;
  any_moment = record { each = sound.only_now };
  goes_on = GoesOn-none disk sound;
}

pub Looks-append : (before middle after : DiskTold) → Looks before middle → Looks middle after → Looks before after
Looks-append before middle after first then = record {
  same = then.same ∙ first.same;
  images = λ image left. first.images image (then.images image left);
  any_moment = LeavesOnly-append before middle after before.images first.goes_on then.goes_on first.any_moment
      (LeavesOnly-weaker middle after middle.images before.images first.images then.any_moment);
  goes_on = GoesOn-append before middle after first.goes_on then.goes_on;
}

-- an image that stayed may have been torn
pub IsTorn-same : (images : List ℕ → Type 0) (place count : ℕ) (image : List ℕ) → images image → IsTorn images place count image
IsTorn-same images place count image was = record { earlier = image; was = was; tears = Tears-same place count image }

-- a write that changed nothing
pub MayTear-looks : (place count : ℕ) (before after : DiskTold) → Looks before after → MayTear place count before after
MayTear-looks place count before after looks = record {
  images = λ image left. (image, looks.images image left, Tears-same place count image);
  any_moment = LeavesOnly-weaker before after before.images (IsTorn before.images place count) (λ image was. IsTorn-same before.images place count image was) looks.any_moment;
  goes_on = looks.goes_on;
}

-- a write, and then calls that change nothing
pub MayTear-then-looks : (place count : ℕ) (before middle after : DiskTold) → MayTear place count before middle → Looks middle after → MayTear place count before after
MayTear-then-looks place count before middle after first then = record {
  images = λ image left. first.images image (then.images image left);
  any_moment = LeavesOnly-append before middle after (IsTorn before.images place count) first.goes_on then.goes_on first.any_moment
      (LeavesOnly-weaker middle after middle.images (IsTorn before.images place count)
      (λ image left. let from = first.images image left in record { earlier = from.0; was = from.1; tears = from.2 }) then.any_moment);
  goes_on = GoesOn-append before middle after first.goes_on then.goes_on;
}

-- calls that change nothing, and then a write
pub MayTear-behind-looks : (place count : ℕ) (before middle after : DiskTold) → Looks before middle → MayTear place count middle after → MayTear place count before after
MayTear-behind-looks place count before middle after first then = record {
  images = λ image left. let from = then.images image left in (from.0, first.images from.0 from.1, from.2);
  any_moment = LeavesOnly-append before middle after (IsTorn before.images place count) first.goes_on then.goes_on
      (LeavesOnly-weaker before middle before.images (IsTorn before.images place count) (λ image was. IsTorn-same before.images place count image was) first.any_moment)
      (LeavesOnly-weaker middle after (IsTorn middle.images place count) (IsTorn before.images place count)
      (λ image torn. record { earlier = torn.earlier; was = first.images torn.earlier torn.was; tears = torn.tears }) then.any_moment);
  goes_on = GoesOn-append before middle after first.goes_on then.goes_on;
}
