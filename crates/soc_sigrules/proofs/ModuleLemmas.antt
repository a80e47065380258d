-- Where the first `.dll@` stands.
use Rattle.std.proofs.Common.{◌≡◌, ℕ, zero, suc, ◌+◌, ◌-◌, ◌==◌, ⊎_elim, ◌<◌, ◌≤◌, Bool, true, false, cond, List, ◌∷◌, length, take, drop, get_or, map, Option, Some, None, option_map, refl, sym, ap, ◌∙◌, arith, length-take, length-take-le, length-drop}
use Rattle.std.specs.Prelude.{codes}
use Rattle.std.specs.Str.{IsCharBoundary}
use Rattle.std.specs.Char.{to_ascii_lowercase}
use Rattle.std.specs.Cmp.Lexicographic.{same_text}
use Rattle.std.proofs.lemmas.Bool.{cases_lt}
use Rattle.std.proofs.lemmas.Bool.Decides.{nat_tests}
use Rattle.memchr.specs.Find.{Nowhere, NoneBefore, Passes, is_byte}
use Rattle.std.proofs.lemmas.List.{get_or_past, drop_more, drop_all, get_or-take, get_or-drop, get_or-map, length-map}
use Rattle.soc_base.proofs.Folk.{not_true}
use Rattle.soc_sigrules.specs.Modules.{module_mark, begins_with_mark, mark_place}
use Rattle.soc_sigrules.specs.inner.Candidates.{mark_from}

here : (place : ℕ) (rest : List ℕ) (b : Bool) (byte : ℕ) → begins_with_mark (byte ∷ rest) ≡ b
    → mark_place (byte ∷ rest) ≡ cond b (Some 0) (option_map (λ p. p + 1) (mark_place rest))
here place rest b byte is = ap (λ t. cond t (Some 0) (option_map (λ p. p + 1) (mark_place rest))) is

one_more : (place : ℕ) (found : Option ℕ) → option_map (λ p. place + p) (option_map (λ p. p + 1) found) ≡ option_map (λ p. place + 1 + p) found
one_more place None = refl
one_more place (Some p) = let same : place + (p + 1) ≡ place + 1 + p = omega arith in ap Some same

pub mark-next : (frame : List ℕ) (place : ℕ) → place < length frame → begins_with_mark (drop place frame) ≡ false → mark_from frame place ≡ mark_from frame (place + 1)
mark-next frame place inside none =
    let first = drop_more frame place 0 inside in
    ap (λ (xs : List ℕ). option_map (λ p. place + p) (mark_place xs)) first
    ∙ ap (option_map (λ p. place + p)) (here place (drop (place + 1) frame) false (get_or frame place 0) (ap begins_with_mark (sym first) ∙ none))
    ∙ one_more place (mark_place (drop (place + 1) frame))

pub mark-here : (frame : List ℕ) (place : ℕ) → place < length frame → begins_with_mark (drop place frame) ≡ true → mark_from frame place ≡ Some place
mark-here frame place inside is =
    let first = drop_more frame place 0 inside in
    let same : place + 0 ≡ place = omega arith in
    ap (λ (xs : List ℕ). option_map (λ p. place + p) (mark_place xs)) first
    ∙ ap (option_map (λ p. place + p)) (here place (drop (place + 1) frame) true (get_or frame place 0) (ap begins_with_mark (sym first) ∙ is))
    ∙ ap Some same

pub mark-past : (frame : List ℕ) (place : ℕ) → length frame ≤ place → mark_from frame place ≡ None
mark-past frame place past = ap (λ (xs : List ℕ). option_map (λ p. place + p) (mark_place xs)) (drop_all place frame past)

from_nought : (found : Option ℕ) → found ≡ option_map (λ p. 0 + p) found
from_nought None = refl
from_nought (Some place) = let is : place ≡ 0 + place = omega arith in ap Some is

pub mark-start : (frame : List ℕ) → mark_place frame ≡ mark_from frame 0
mark-start frame = from_nought (mark_place frame)

-- the five bytes, without their case
mark_bytes : (text : List ℕ) → begins_with_mark text ≡ true → map to_ascii_lowercase (take 5 text) ≡ codes ".dll@"
mark_bytes text is = same_text (map to_ascii_lowercase (take 5 text)) (map to_ascii_lowercase module_mark) (sym is)

lower_at : (c : ℕ) → to_ascii_lowercase c ≡ 64 → c ≡ 64
lower_at c is = grind (arith, nat_tests)

mark_length : (text : List ℕ) → begins_with_mark text ≡ true → 5 ≤ length text
mark_length text is = omega (arith, ap length (mark_bytes text is), length-map (take 5 text) to_ascii_lowercase, length-take 5 text)

mark_sign : (text : List ℕ) → begins_with_mark text ≡ true → get_or text 4 0 ≡ 64
mark_sign text is =
    let bytes = mark_bytes text is in
    let len = mark_length text is in
    let taken : length (take 5 text) ≡ 5 = length-take-le 5 text len in
    let lower : to_ascii_lowercase (get_or (take 5 text) 4 0) ≡ 64 = sym (get_or-map to_ascii_lowercase (take 5 text) 4 0 0 (omega arith)) ∙ ap (λ (xs : List ℕ). get_or xs 4 0) bytes in
    sym (get_or-take 5 text 4 0 (omega arith)) ∙ lower_at _ lower

-- the text may be cut before the `@`
pub mark_boundary : (frame : List ℕ) (place : ℕ) → begins_with_mark (drop place frame) ≡ true → IsCharBoundary frame (place + 4)
mark_boundary frame place is =
    let len = mark_length (drop place frame) is in
    let sign : get_or frame (place + 4) 0 ≡ 64 = sym (get_or-drop place frame 4 0) ∙ mark_sign (drop place frame) is in
    (omega (arith, length-drop place frame), λ _ high. absurd (omega arith))

-- no mark begins where there is no `@` four bytes on
unmarked : (frame : List ℕ) (place : ℕ) → ¬ (get_or frame (place + 4) 0 ≡ 64) → begins_with_mark (drop place frame) ≡ false
unmarked frame place none = not_true (begins_with_mark (drop place frame)) (λ is. none (sym (get_or-drop place frame 4 0) ∙ mark_sign (drop place frame) is))

-- nor before the next one
pub mark-skip : (frame : List ℕ) (place n found : ℕ) → found ≡ place + n → found ≤ length frame
    → ((k : ℕ) → place ≤ k → k < found → ¬ (get_or frame (k + 4) 0 ≡ 64)) → mark_from frame place ≡ mark_from frame found
mark-skip frame place zero found same inside none = let is : place ≡ found = omega (arith, same) in ap (mark_from frame) is
mark-skip frame place (suc n) found same inside none =
    let last : place + n < length frame = omega (arith, same, inside) in
    let is : place + n + 1 ≡ found = omega (arith, same) in
    mark-skip frame place n (place + n) refl (omega (arith, last)) (λ k from to. none k from (omega (arith, to, same)))
    ∙ mark-next frame (place + n) last (unmarked frame (place + n) (none (place + n) (omega arith) (omega (arith, same))))
    ∙ ap (mark_from frame) is

sign_inside : (frame : List ℕ) (k : ℕ) → get_or frame k 0 ≡ 64 → k < length frame
sign_inside frame k is = ⊎_elim (λ inside. inside) (λ past. absurd (omega (arith, sym is ∙ get_or_past frame k 0 past))) (cases_lt k (length frame))

-- what is left behind the first place where a sign may stand
module _ (frame rest : List ℕ) (place : ℕ) (left : rest ≡ drop (place + 4) frame) (within : place ≤ length frame) where
  sign_left : (k : ℕ) → place ≤ k → get_or frame (k + 4) 0 ≡ 64 → Passes (is_byte 64) rest (k - place)
  sign_left k from is =
      let index : place + 4 + (k - place) ≡ k + 4 = omega (arith, from) in
      let at : get_or rest (k - place) 0 ≡ 64 = ap (λ (xs : List ℕ). get_or xs (k - place) 0) left ∙ get_or-drop (place + 4) frame (k - place) 0 ∙ ap (λ i. get_or frame i 0) index ∙ is in
      ap (λ x. x == 64) at

  length_left : length rest ≡ length frame - (place + 4)
  length_left = ap length left ∙ length-drop (place + 4) frame

  pub no-candidate : Nowhere (Passes (is_byte 64) rest) 0 (length rest) → mark_from frame place ≡ None
  no-candidate none =
      let whole : length frame ≡ place + (length frame - place) = omega (arith, within) in
      let all : length frame ≤ length frame = omega arith in
      mark-skip frame place (length frame - place) (length frame) whole all
      (λ k from _ is. none (k - place) (omega arith) (omega (arith, from, length_left, sign_inside frame (k + 4) is)) (sign_left k from is))
      ∙ mark-past frame (length frame) all

  pub next-candidate : (found : ℕ) → NoneBefore (Passes (is_byte 64) rest) 0 (length rest) found × Passes (is_byte 64) rest found
      → (place ≤ place + found) × (place + found < length frame) × (mark_from frame place ≡ mark_from frame (place + found))
  next-candidate found is =
      let inside : found < length rest = is.0.high in
      let here : place + found < length frame = omega (arith, inside, length_left) in (
        omega arith,
        here,
        mark-skip frame place found (place + found) refl (omega (arith, here))
            (λ k from to sign. is.0.before (k - place) (omega arith) (omega (arith, from, to)) (sign_left k from sign)),
      )
