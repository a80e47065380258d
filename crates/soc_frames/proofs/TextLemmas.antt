-- Texts: what they end with, and what stands in them.
use Rattle.std.proofs.Common.{◌≡◌, ℕ, ◌-◌, ◌<◌, ◌≤◌, zero, suc, Bool, true, false, cond, ◌||◌, ◌↔◌, List, [], ◌∷◌, ◌++◌, length, take, drop, get_or, codes, refl, ap, sym, ◌∙◌, arith}
use Rattle.std.proofs.lemmas.Bool.Decides.{Decides-eqb}
use Rattle.std.proofs.lemmas.List.{take_all, take-take, length-take-le, get_or_at, get_or-take}
use Rattle.std.proofs.lemmas.Slice.Eq.{starts_is, ends_is}
use Rattle.std.proofs.lemmas.Str.{IsCharBoundary-before_ascii}
use Rattle.std.specs.Str.{IsCharBoundary}
use Rattle.std.specs.Str.Iter.{HasSubslice}
use Rattle.soc_base.proofs.Folk.{or_second}
use Rattle.soc_frames.specs.Depth.{begins, ends}
use Rattle.soc_frames.specs.Cpp.{constant, conversion, contains, end_length, without_end, without_ends, behind_spaces, without_return_type}

-- ---- a piece of a text

begins_is : (text piece : List ℕ) → begins text piece ≡ true → text ≡ piece ++ drop (length piece) text
begins_is text piece e = (starts_is Decides-eqb text piece (begins text piece) refl).0 e

begins_so : (piece rest : List ℕ) → begins (piece ++ rest) piece ≡ true
begins_so piece rest = (starts_is Decides-eqb (piece ++ rest) piece (begins (piece ++ rest) piece) refl).1 rest refl

or_first : (s t : Bool) → s ≡ true → (s || t) ≡ true
or_first true t e = refl
or_first false t e = cc

contains_front : (piece text : List ℕ) → begins text piece ≡ true → contains piece text ≡ true
contains_front piece [] e = e
contains_front piece (byte ∷ text) e = or_first (begins (byte ∷ text) piece) (contains piece text) e

contains_part : (piece front back : List ℕ) → contains piece (front ++ (piece ++ back)) ≡ true
contains_part piece [] back = contains_front piece (piece ++ back) (begins_so piece back)
contains_part piece (byte ∷ front) back =
    or_second (begins (byte ∷ (front ++ (piece ++ back))) piece) (contains piece (front ++ (piece ++ back))) (contains_part piece front back)

pub contains_here : (piece text : List ℕ) → HasSubslice text piece → contains piece text ≡ true
contains_here piece text part = ap (contains piece) part.2 ∙ contains_part piece part.0 part.1

part_here : (piece text : List ℕ) → begins text piece ≡ true → HasSubslice text piece
part_here piece text e = ([], drop (length piece) text, begins_is text piece e)

part_cases : (piece text : List ℕ) (byte : ℕ) (here : Bool) → begins (byte ∷ text) piece ≡ here → (here || contains piece text) ≡ true → (contains piece text ≡ true → HasSubslice text piece) → HasSubslice (byte ∷ text) piece
part_cases piece text byte true e either later = part_here piece (byte ∷ text) e
part_cases piece text byte false e either later = let part = later either in (byte ∷ part.0, part.1, ap (λ t. byte ∷ t) part.2)

pub part_of : (piece text : List ℕ) → contains piece text ≡ true → HasSubslice text piece
part_of piece [] e = part_here piece [] e
part_of piece (byte ∷ text) e = part_cases piece text byte (begins (byte ∷ text) piece) refl e (part_of piece text)

same_truth : (r s : Bool) → (r ≡ true → s ≡ true) → (s ≡ true → r ≡ true) → r ≡ s
same_truth true s to back = sym (to refl)
same_truth false true to back = back refl
same_truth false false to back = refl

-- what a search for the piece says
pub contains_is : (r : Bool) (piece text : List ℕ) → ((r ≡ true) ↔ HasSubslice text piece) → r ≡ contains piece text
contains_is r piece text either =
    same_truth r (contains piece text) (λ e. contains_here piece text (either.0 e)) (λ e. either.1 (part_of piece text e))

-- ---- the end of a text

pub without_ends_still : (n : ℕ) (text : List ℕ) → without_end text ≡ text → without_ends n text ≡ text
without_ends_still zero text e = refl
without_ends_still (suc n) text e = ap (without_ends n) e ∙ without_ends_still n text e

end_still : (text : List ℕ) → end_length text ≡ 0 → without_end text ≡ text
end_still text e = let most : length text ≤ length text - end_length text = omega arith in take_all (length text - end_length text) text most

-- nothing of it is at the end
pub ends_stop : (most len : ℕ) (text : List ℕ) → len ≡ end_length text → len ≡ 0 → without_ends most text ≡ text
ends_stop most len text is none = without_ends_still most text (end_still text (sym is ∙ none))

-- one of them goes
pub ends_more : (name : List ℕ) (end most len : ℕ) → end ≤ length name → end ≤ most → len ≡ end_length (take end name) → 0 < len → len ≤ end → without_ends most (take end name) ≡ without_ends (most - 1) (take (end - len) name)
ends_more name end most len within enough is some fits =
    let text = take end name in
    let one : most ≡ suc (most - 1) = omega arith in
    let size : length text ≡ end = length-take-le end name within in
    let rest : end - len ≤ end = omega arith in
    ap (λ m. without_ends m text) one
    ∙ ap (λ n. without_ends (most - 1) (take (length text - n) text)) (sym is)
    ∙ ap (λ n. without_ends (most - 1) (take (n - len) text)) size
    ∙ ap (without_ends (most - 1)) (take-take (end - len) end name rest)

end_byte : (text : List ℕ) (byte : ℕ) (piece : List ℕ) → ends text (byte ∷ piece) ≡ true → get_or text (length text - length (byte ∷ piece)) 0 ≡ byte
end_byte text byte piece e =
    let at = length text - length (byte ∷ piece) in
    let split : text ≡ take at text ++ byte ∷ piece = (ends_is Decides-eqb text (byte ∷ piece) (ends text (byte ∷ piece)) refl).0 e in
    let size : length (take at text) ≡ at = length-take-le at text (omega arith) in
    ap (λ t. get_or t at 0) split ∙ get_or_at (take at text) byte piece 0 at size

low_cases : (text : List ℕ) (a b c : Bool) (len : ℕ) → ends text constant ≡ a → ends text (codes " ") ≡ b → ends text (codes "&") ≡ c → len ≡ cond a 6 (cond b 1 (cond c 1 0)) → 0 < len → get_or text (length text - len) 0 < 128
low_cases text true b c len e f g is some =
    let here : get_or text (length text - 6) 0 ≡ 32 = end_byte text 32 (codes "const") e in rw is (omega arith)
low_cases text false true c len e f g is some =
    let here : get_or text (length text - 1) 0 ≡ 32 = end_byte text 32 [] f in rw is (omega arith)
low_cases text false false true len e f g is some =
    let here : get_or text (length text - 1) 0 ≡ 38 = end_byte text 38 [] g in rw is (omega arith)
low_cases text false false false len e f g is some = absurd (omega arith)

-- what goes begins with an ASCII byte
pub end_boundary : (name : List ℕ) (end len : ℕ) → end ≤ length name → len ≡ end_length (take end name) → 0 < len → len ≤ end → IsCharBoundary name (end - len)
end_boundary name end len within is some fits =
    let text = take end name in
    let size : length text ≡ end = length-take-le end name within in
    let low : get_or text (length text - len) 0 < 128 = low_cases text (ends text constant) (ends text (codes " ")) (ends text (codes "&")) len refl refl refl is some in
    let at : get_or text (length text - len) 0 ≡ get_or name (end - len) 0 = ap (λ n. get_or text (n - len) 0) size ∙ get_or-take end name (end - len) 0 (omega arith) in
    let ascii : get_or name (end - len) 0 < 128 = omega arith in
    IsCharBoundary-before_ascii name (end - len) (omega arith) ascii

-- ---- the type that a function returns

pub conversion_stays : (text : List ℕ) (r : Bool) → ((r ≡ true) ↔ HasSubslice text conversion) → r ≡ true → text ≡ without_return_type text
conversion_stays text r either e = ap (λ t. cond t text (behind_spaces text)) (sym (sym (contains_is r conversion text either) ∙ e))

pub type_goes : (text rest : List ℕ) (r : Bool) → ((r ≡ true) ↔ HasSubslice text conversion) → r ≡ false → rest ≡ behind_spaces text → rest ≡ without_return_type text
type_goes text rest r either e is = is ∙ ap (λ t. cond t text (behind_spaces text)) (sym (sym (contains_is r conversion text either) ∙ e))
