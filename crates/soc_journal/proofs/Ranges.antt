-- Torn ranges that lie within others, and writes one after another: contents, told contents and disks.
use Rattle.std.proofs.Common.{◌≡◌, ◌⊎◌, inl, inr, ℕ, zero, suc, ◌+◌, ◌-◌, ◌<◌, ◌≤◌, min, Option, Some, None, List, [], ◌∷◌, ◌++◌, length, take, drop, replicate, refl, sym, ◌∙◌, ap, subst, arith, append_assoc}
use Rattle.std.specs.Option.{option_map}
use Rattle.std.proofs.lemmas.List.{append-nil, length-append, take_all, take_min, take-take, take-append-le, take_at, drop_at, drop-drop, take-replicate}
use Rattle.std.proofs.Math.Seq.{take-append-add, drop-append-add}
use Rattle.soc_edge.proofs.Disks.{written-within, take-Tears, drop-Tears, Tears-same, length-front, GoesOn-append, LeavesOnly-weaker, LeavesOnly-append}
use Rattle.soc_edge.specs.Disk.{written, Tears, WhereTold, DiskTold, IsTorn, MayTear}

-- a range within another
pub Tears-wider : (place count from size : ℕ) (before after : List ℕ) → Tears from size before after → place ≤ from → from + size ≤ place + count → Tears place count before after
Tears-wider place count from size before after tears low high =
    let within : min place (length before) ≤ length before = omega arith in
    let below : min place (length before) ≤ from = omega arith in
    record {
      front = take-Tears from size (min place (length before)) before after tears below within ∙ take_min place before;
      back = drop-Tears from size (place + count) before after tears high;
      no_shorter = tears.no_shorter;
      no_longer = omega (arith, tears.no_longer);
    }

-- the same range once more
pub Tears-append : (place count : ℕ) (before middle after : List ℕ) → Tears place count before middle → Tears place count middle after → Tears place count before after
Tears-append place count before middle after first then =
    let within : min place (length before) ≤ length middle = omega (arith, first.no_shorter) in
    let below : min place (length before) ≤ place = omega arith in
    record {
      front = take-Tears place count (min place (length before)) middle after then below within ∙ first.front;
      back = then.back ∙ first.back;
      no_shorter = omega (arith, first.no_shorter, then.no_shorter);
      no_longer = omega (arith, first.no_longer, then.no_longer);
    }

pub WhereTold-map : (R S : List ℕ → List ℕ → Type 0) → ((a b : List ℕ) → R a b → S a b) → (before after : Option (List ℕ)) → WhereTold R before after → WhereTold S before after
WhereTold-map R S to None None told = tt
WhereTold-map R S to None (Some after) told = absurd told
WhereTold-map R S to (Some before) None told = absurd told
WhereTold-map R S to (Some before) (Some after) told = to before after told

pub WhereTold-append : (R : List ℕ → List ℕ → Type 0) → ((a b c : List ℕ) → R a b → R b c → R a c) → (before middle after : Option (List ℕ)) → WhereTold R before middle → WhereTold R middle after → WhereTold R before after
WhereTold-append R both None None None first then = tt
WhereTold-append R both None None (Some after) first then = absurd then
WhereTold-append R both None (Some middle) after first then = absurd first
WhereTold-append R both (Some before) None after first then = absurd first
WhereTold-append R both (Some before) (Some middle) None first then = absurd then
WhereTold-append R both (Some before) (Some middle) (Some after) first then = both before middle after first then

-- a told content that stays may have been torn
pub WhereTold-same : (place count : ℕ) (before after : Option (List ℕ)) → after ≡ before → WhereTold (Tears place count) before after
WhereTold-same place count before after same =
    subst (λ (x : Option (List ℕ)). WhereTold (Tears place count) before x) (sym same) (at before)
  where
    at : (told : Option (List ℕ)) → WhereTold (Tears place count) told told
    at None = tt
    at (Some content) = Tears-same place count content

pub MayTear-wider : (place count from size : ℕ) (before after : DiskTold) → MayTear from size before after → place ≤ from → from + size ≤ place + count → MayTear place count before after
MayTear-wider place count from size before after tears low high = record {
  images = λ image left.
      let was = tears.images image left in
      (was.0, was.1, Tears-wider place count from size was.0 image was.2 low high);
  any_moment = LeavesOnly-weaker before after (IsTorn before.images from size) (IsTorn before.images place count)
      (λ image torn. record { earlier = torn.earlier; was = torn.was; tears = Tears-wider place count from size torn.earlier image torn.tears low high }) tears.any_moment;
  goes_on = tears.goes_on;
}

pub MayTear-append : (place count : ℕ) (before middle after : DiskTold) → MayTear place count before middle → MayTear place count middle after → MayTear place count before after
MayTear-append place count before middle after first then = record {
  images = λ image left.
      let later = then.images image left in
      let was = first.images later.0 later.1 in
      (was.0, was.1, Tears-append place count was.0 later.0 image was.2 later.2);
  any_moment = LeavesOnly-append before middle after (IsTorn before.images place count) first.goes_on then.goes_on first.any_moment
      (LeavesOnly-weaker middle after (IsTorn middle.images place count) (IsTorn before.images place count)
      (λ image torn.
      let was = first.images torn.earlier torn.was in
      record { earlier = was.0; was = was.1; tears = Tears-append place count was.0 torn.earlier image was.2 torn.tears }) then.any_moment);
  goes_on = GoesOn-append before middle after first.goes_on then.goes_on;
}

-- ---- a write behind a place, and then of the byte there

-- what stands before the place, and zeros
abbrev pub front_to : List ℕ → ℕ → List ℕ
front_to content place = take place content ++ replicate (place - length content) 0

written-some : (content : List ℕ) (place : ℕ) (bytes : List ℕ) → 0 < length bytes → written content place bytes ≡ front_to content place ++ (bytes ++ drop (place + length bytes) content)
written-some content place [] some = absurd (omega (arith, some))
written-some content place (byte ∷ bytes) some = refl

-- a write over the end of the one before, at least to its end, puts its bytes in place of that end
pub written-over : (content : List ℕ) (place : ℕ) (start end more : List ℕ) → 0 < length end → length end ≤ length more
    → written (written content place (start ++ end)) (place + length start) more ≡ written content place (start ++ more)
written-over content place start end more some longer =
    let front = front_to content place in
    let count = length-append start end in
    let all = length-append start more in
    let back = drop (place + length (start ++ end)) content in
    let now = front ++ ((start ++ end) ++ back) in
    let size : length (front ++ start) ≡ place + length start = omega (arith, length-append front start, length-front content place) in
    let split : now ≡ (front ++ start) ++ (end ++ back) =
    ap (λ (x : List ℕ). front ++ x) (append_assoc start end back) ∙ sym (append_assoc front start (end ++ back)) in
    let regroup : now ≡ (front ++ (start ++ end)) ++ back = sym (append_assoc front (start ++ end) back) in
    let within : place + length start ≤ length now = omega (arith, size, ap (λ (x : List ℕ). length x) split, length-append (front ++ start) (end ++ back)) in
    let before : take (place + length start) now ≡ front ++ start = ap (λ (x : List ℕ). take (place + length start) x) split ∙ take_at (front ++ start) (end ++ back) (place + length start) size in
    let size_too : length (front ++ (start ++ end)) ≡ place + length (start ++ end) = omega (arith, length-append front (start ++ end), length-front content place) in
    let skip = length more - length end in
    let sum : place + length start + length more ≡ length (front ++ (start ++ end)) + skip = omega (arith, size_too, count, longer) in
    let sum_too : place + length (start ++ end) + skip ≡ place + length (start ++ more) = omega (arith, count, all, longer) in
    let behind : drop (place + length start + length more) now ≡ drop (place + length (start ++ more)) content =
    ap (λ (n : ℕ). drop n now) sum
    ∙ (ap (λ (x : List ℕ). drop (length (front ++ (start ++ end)) + skip) x) regroup
    ∙ (drop-append-add (front ++ (start ++ end)) back skip
    ∙ (drop-drop skip (place + length (start ++ end)) content
    ∙ ap (λ (n : ℕ). drop n content) sum_too))) in
    let rest = drop (place + length (start ++ more)) content in
    ap (λ (x : List ℕ). written x (place + length start) more) (written-some content place (start ++ end) (omega (arith, count, some)))
    ∙ (written-within now (place + length start) more within
    ∙ (ap (λ (x : List ℕ). x ++ (more ++ drop (place + length start + length more) now)) before
    ∙ (ap (λ (x : List ℕ). (front ++ start) ++ (more ++ x)) behind
    ∙ (append_assoc front start (more ++ rest)
    ∙ (ap (λ (x : List ℕ). front ++ x) (sym (append_assoc start more rest))
    ∙ sym (written-some content place (start ++ more) (omega (arith, all, some, longer))))))))

side : (n : ℕ) → (n ≡ 0) ⊎ (0 < n)
side zero = inl refl
side (suc n) = inr (omega arith)

one_less : (content : List ℕ) (place : ℕ) → take place (front_to content (place + 1)) ≡ front_to content place
one_less content place = elim (side (length content - place)) [
  | inr inside ↦
      let none : place + 1 - length content ≡ 0 = omega (arith, inside) in
      let none_too : place - length content ≡ 0 = omega (arith, inside) in
      ap (λ (n : ℕ). take place (take (place + 1) content ++ replicate n 0)) none
      ∙ (ap (λ (x : List ℕ). take place x) (append-nil (take (place + 1) content))
      ∙ (take-take place (place + 1) content (omega arith)
      ∙ (sym (append-nil (take place content))
      ∙ ap (λ (n : ℕ). take place content ++ replicate n 0) (sym none_too))))
  | inl none_left ↦
      let past : length content ≤ place = omega (arith, none_left) in
      let size : place ≡ length content + (place - length content) = omega (arith, past) in
      let more : place + 1 - length content ≡ (place - length content) + 1 = omega (arith, past) in
      ap (λ (x : List ℕ). take place (x ++ replicate (place + 1 - length content) 0)) (take_all (place + 1) content (omega (arith, past)))
      ∙ (ap (λ (n : ℕ). take n (content ++ replicate (place + 1 - length content) 0)) size
      ∙ (take-append-add content (replicate (place + 1 - length content) 0) (place - length content)
      ∙ (ap (λ (x : List ℕ). content ++ x) (take-replicate (place - length content) (place + 1 - length content) 0 (omega arith))
      ∙ ap (λ (x : List ℕ). x ++ replicate (place - length content) 0) (sym (take_all place content past)))))
]

pub written-opened : (content : List ℕ) (place byte : ℕ) (piece : List ℕ) → written (written content (place + 1) piece) place (byte ∷ []) ≡ written content place (byte ∷ piece)
written-opened content place byte [] = refl
written-opened content place byte (first ∷ more) =
    let piece = first ∷ more in
    let front = front_to content (place + 1) in
    let back = piece ++ drop (place + 1 + length piece) content in
    let now = front ++ back in
    let size : length front ≡ place + 1 = length-front content (place + 1) in
    let long : place - length now ≡ 0 = omega (arith, size, length-append front back) in
    let before : take place now ≡ front_to content place = take-append-le place front back (omega (arith, size)) ∙ one_less content place in
    let behind : drop (place + 1) now ≡ back = drop_at front back (place + 1) size in
    let same : place + 1 + length piece ≡ place + length (byte ∷ piece) = omega arith in
    ap (λ (n : ℕ). (take place now ++ replicate n 0) ++ (byte ∷ drop (place + 1) now)) long
    ∙ (ap (λ (x : List ℕ). x ++ (byte ∷ drop (place + 1) now)) (append-nil (take place now))
    ∙ (ap (λ (x : List ℕ). x ++ (byte ∷ drop (place + 1) now)) before
    ∙ (ap (λ (x : List ℕ). front_to content place ++ (byte ∷ x)) behind
    ∙ ap (λ (n : ℕ). front_to content place ++ (byte ∷ (piece ++ drop n content))) same)))

pub opened_told : (place byte : ℕ) (piece : List ℕ) (told staged_told now_told : Option (List ℕ))
    → staged_told ≡ option_map (λ old. written old (place + 1) piece) told → now_told ≡ option_map (λ old. written old place (byte ∷ [])) staged_told
    → now_told ≡ option_map (λ old. written old place (byte ∷ piece)) told
opened_told place byte piece told staged_told now_told staged opened =
    opened ∙ (ap (λ (x : Option (List ℕ)). option_map (λ old. written old place (byte ∷ [])) x) staged ∙ both told)
  where
    both : (x : Option (List ℕ)) → option_map (λ old. written old place (byte ∷ [])) (option_map (λ old. written old (place + 1) piece) x) ≡ option_map (λ old. written old place (byte ∷ piece)) x
    both None = refl
    both (Some content) = ap (λ (x : List ℕ). Some x) (written-opened content place byte piece)
