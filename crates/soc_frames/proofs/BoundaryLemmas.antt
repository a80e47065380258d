-- Where a name may be cut.
use Rattle.std.proofs.Common.{◌≡◌, ℕ, ◌+◌, ◌<◌, ◌≤◌, Bor, List, length, get_or, ap, sym, ◌∙◌, subst, arith}
use Rattle.std.proofs.lemmas.Str.{IsCharBoundary-after_ascii, IsCharBoundary-before_ascii, IsCharBoundary-end}
use Rattle.std.specs.Str.{IsUtf8, IsCharBoundary}

-- behind an ASCII byte
pub boundary_after : (text other : Bor (List ℕ)) (at next byte : ℕ) → other ≡ text → next ≡ at + 1 → next ≤ length other.now → get_or other.now at 0 ≡ byte → byte < 128 → IsUtf8 text.now → IsCharBoundary text.now next
boundary_after text other at next byte same is within here ascii utf8 =
    let len : length other.now ≡ length text.now = ap (λ (t : Bor (List ℕ)). length t.now) same in
    let inside : at < length text.now = omega arith in
    let byte_is : get_or text.now at 0 ≡ byte = sym (ap (λ (t : Bor (List ℕ)). get_or t.now at 0) same) ∙ here in
    let low : get_or text.now at 0 < 128 = omega arith in
    rw is (IsCharBoundary-after_ascii text.now at utf8 inside low)

-- at the end
pub boundary_end : (text other : Bor (List ℕ)) (at next : ℕ) → other ≡ text → next ≡ at → at ≤ length other.now → length other.now ≤ at → IsCharBoundary text.now next
boundary_end text other at next same is within end =
    let len : length other.now ≡ length text.now = ap (λ (t : Bor (List ℕ)). length t.now) same in
    let all : next ≡ length text.now = omega arith in
    rw all (IsCharBoundary-end text.now)

-- before an ASCII byte
pub boundary_before : (text : List ℕ) (at byte : ℕ) → at < length text → get_or text at 0 ≡ byte → byte < 128 → IsCharBoundary text at
boundary_before text at byte inside here ascii = let low : get_or text at 0 < 128 = omega arith in IsCharBoundary-before_ascii text at inside low

-- of the same text under another name
pub boundary_along : (text other : Bor (List ℕ)) (at : ℕ) → other ≡ text → (IsUtf8 other.now → IsCharBoundary other.now at) → IsUtf8 text.now → IsCharBoundary text.now at
boundary_along text other at same given = subst (λ (t : Bor (List ℕ)). IsUtf8 t.now → IsCharBoundary t.now at) same given

pub boundary_in : (name other : List ℕ) (at : ℕ) → other ≡ name → (IsUtf8 other → IsCharBoundary other at) → IsUtf8 name → IsCharBoundary name at
boundary_in name other at same given = subst (λ (t : List ℕ). IsUtf8 t → IsCharBoundary t at) same given

pub byte_along : (text other : Bor (List ℕ)) (at byte : ℕ) → other ≡ text → get_or other.now at 0 ≡ byte → get_or text.now at 0 ≡ byte
byte_along text other at byte same here = sym (ap (λ (t : Bor (List ℕ)). get_or t.now at 0) same) ∙ here

pub byte_in : (name other : List ℕ) (at byte : ℕ) → other ≡ name → get_or other at 0 ≡ byte → get_or name at 0 ≡ byte
byte_in name other at byte same here = sym (ap (λ (t : List ℕ). get_or t at 0) same) ∙ here

pub length_along : (text other : Bor (List ℕ)) → other ≡ text → length other.now ≡ length text.now
length_along text other same = ap (λ (t : Bor (List ℕ)). length t.now) same
