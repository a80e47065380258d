-- Texts that are cut at a mark, part by part.
use Rattle.std.proofs.Common.{◌≡◌, ℕ, zero, suc, ◌+◌, ◌-◌, ◌<◌, ◌≤◌, Bool, true, false, codes, List, [], ◌∷◌, ◌++◌, length, drop, get_or, Option, None, Some, unwrap_or, refl, sym, ap, ◌∙◌, subst, arith, length-append}
use Rattle.std.specs.Prelude.{slice_get, bytes_eq, ◌||◌}
use Rattle.std.specs.List.{after_first, before_first, position_or_len, list_any}
use Rattle.std.specs.Str.{IsUtf8}
use Rattle.std.proofs.lemmas.Bool.{true≢false}
use Rattle.std.proofs.lemmas.Str.{IsUtf8-drop, IsCharBoundary-after_ascii}
use Rattle.soc_base.proofs.Folk.{or_false}
use Rattle.soc_report.specs.Annotations.{lists_browser}
use Rattle.soc_report.specs.inner.Parts.{parts_of}
use Rattle.soc_report.proofs.AnnotationLemmas.{IsMark, parts_more, parts_none}

get_seam : (front others : List ℕ) (c : ℕ) → get_or (front ++ c ∷ others) (length front) 0 ≡ c
get_seam [] others c = refl
get_seam (x ∷ front) others c = get_seam front others c

drop_seam : (front others : List ℕ) (c : ℕ) → drop (length front + 1) (front ++ c ∷ others) ≡ others
drop_seam [] others c = refl
drop_seam (x ∷ front) others c =
    ap (λ (n : ℕ). drop n (x ∷ (front ++ c ∷ others))) (let e : suc (length front) + 1 ≡ suc (length front + 1) = omega arith in e) ∙ drop_seam front others c

-- what stands behind an ASCII character of a text is text
pub utf8_after : (c : ℕ) (bs front others : List ℕ) → IsUtf8 bs → bs ≡ front ++ c ∷ others → c < 128 → IsUtf8 others
utf8_after c bs front others utf8 is ascii =
    let here : get_or bs (length front) 0 ≡ c = ap (λ (l : List ℕ). get_or l (length front) 0) is ∙ get_seam front others c in
    let long : length bs ≡ length front + suc (length others) = ap length is ∙ length-append front (c ∷ others) in
    let inside : length front < length bs = omega arith in
    let low : get_or bs (length front) 0 < 128 = omega arith in
    let left : drop (length front + 1) bs ≡ others = ap (drop (length front + 1)) is ∙ drop_seam front others c in
    subst IsUtf8 left (IsUtf8-drop bs (length front + 1) utf8 (IsCharBoundary-after_ascii bs (length front) utf8 inside low))

past : (x : List ℕ) (n : ℕ) → 0 < n → slice_get (x ∷ []) n ≡ None
past x zero some = absurd (omega arith)
past x (suc n) some = refl

later : (x : List ℕ) (xs : List (List ℕ)) (n : ℕ) → 0 < n → slice_get (x ∷ xs) n ≡ slice_get xs (n - 1)
later x xs zero some = absurd (omega arith)
later x xs (suc n) some = ap (slice_get xs) (let e : n ≡ suc n - 1 = omega arith in e)

here : (x : List ℕ) (xs : List (List ℕ)) (n : ℕ) → n ≤ 0 → slice_get (x ∷ xs) n ≡ Some x
here x xs zero none = refl
here x xs (suc n) none = absurd (omega arith)

pub part_past : (part : Option (List ℕ)) (rest : List ℕ) (left : ℕ) → part ≡ slice_get (parts_of rest) left → 0 < left → position_or_len (IsMark 47) rest ≡ length rest → [] ≡ unwrap_or part []
part_past part rest left same some none =
    sym (ap (λ (o : Option (List ℕ)). unwrap_or o []) (same ∙ ap (λ (ps : List (List ℕ)). slice_get ps left) (parts_none 47 rest none) ∙ past rest left some))

pub part_more : (part : Option (List ℕ)) (rest front others : List ℕ) (left : ℕ) → part ≡ slice_get (parts_of rest) left → 0 < left
    → position_or_len (IsMark 47) rest < length rest → front ≡ before_first (IsMark 47) rest → others ≡ after_first (IsMark 47) rest → part ≡ slice_get (parts_of others) (left - 1)
part_more part rest front others left same some within is_front is_others =
    same ∙ ap (λ (ps : List (List ℕ)). slice_get ps left) (parts_more 47 rest front others within is_front is_others) ∙ later front (parts_of others) left some

pub part_here : (part : Option (List ℕ)) (rest front others : List ℕ) (left : ℕ) → part ≡ slice_get (parts_of rest) left → left ≤ 0
    → position_or_len (IsMark 47) rest < length rest → front ≡ before_first (IsMark 47) rest → others ≡ after_first (IsMark 47) rest → front ≡ unwrap_or part []
part_here part rest front others left same none within is_front is_others =
    sym (ap (λ (o : Option (List ℕ)). unwrap_or o []) (same ∙ ap (λ (ps : List (List ℕ)). slice_get ps left) (parts_more 47 rest front others within is_front is_others) ∙ here front (parts_of others) left none))

pub part_last : (part : Option (List ℕ)) (rest : List ℕ) (left : ℕ) → part ≡ slice_get (parts_of rest) left → left ≤ 0 → position_or_len (IsMark 47) rest ≡ length rest → rest ≡ unwrap_or part []
part_last part rest left same none nowhere =
    sym (ap (λ (o : Option (List ℕ)). unwrap_or o []) (same ∙ ap (λ (ps : List (List ℕ)). slice_get ps left) (parts_none 47 rest nowhere) ∙ here rest [] left none))

-- ---- a list that commas part

first_false : (a b : Bool) → a ≡ false → (a || b) ≡ b
first_false true b is = absurd (true≢false is)
first_false false b is = refl

pub browser_later : (rest front others : List ℕ) → position_or_len (IsMark 44) rest < length rest → front ≡ before_first (IsMark 44) rest → others ≡ after_first (IsMark 44) rest
    → bytes_eq front (codes "browser") ≡ false → lists_browser rest ≡ lists_browser others
browser_later rest front others within is_front is_others differs =
    ap (list_any (λ item. bytes_eq item (codes "browser"))) (parts_more 44 rest front others within is_front is_others)
    ∙ first_false (bytes_eq front (codes "browser")) (lists_browser others) differs

pub browser_last : (rest : List ℕ) → position_or_len (IsMark 44) rest ≡ length rest → lists_browser rest ≡ bytes_eq rest (codes "browser")
browser_last rest none = ap (list_any (λ item. bytes_eq item (codes "browser"))) (parts_none 44 rest none) ∙ or_false (bytes_eq rest (codes "browser"))
