-- Ranges of a text that grow.
use Rattle.std.proofs.Common.{◌≡◌, ℕ, ◌+◌, ◌-◌, ◌<◌, ◌≤◌, List, [], ◌∷◌, ◌++◌, length, get_or, take, drop, ap, sym, ◌∙◌, arith, length-drop}
use Rattle.std.proofs.lemmas.List.{take_more, take_all, take-take, take-append-drop, drop-take, drop-drop, get_or-drop}

abbrev range : List ℕ → ℕ → ℕ → List ℕ
range text from to = take (to - from) (drop from text)

-- one byte more
pub range_more : (text : List ℕ) (from place : ℕ) → from ≤ place → place < length text → take (place + 1 - from) (drop from text) ≡ take (place - from) (drop from text) ++ get_or text place 0 ∷ []
range_more text from place onward inside =
    let len : length (drop from text) ≡ length text - from = length-drop from text in
    let n : place + 1 - from ≡ (place - from) + 1 = omega arith in
    let at : from + (place - from) ≡ place = omega arith in
    ap (λ k. take k (drop from text)) n
    ∙ take_more (drop from text) (place - from) 0 (omega arith)
    ∙ ap (λ byte. take (place - from) (drop from text) ++ byte ∷ []) (get_or-drop from text (place - from) 0 ∙ ap (λ k. get_or text k 0) at)

-- all that is left
pub range_all : (text : List ℕ) (from to : ℕ) → length text ≤ to → take (to - from) (drop from text) ≡ drop from text
range_all text from to end =
    let len : length (drop from text) ≡ length text - from = length-drop from text in
    take_all (to - from) (drop from text) (omega arith)

-- nothing yet
pub range_none : (text : List ℕ) (from : ℕ) → take (from - from) (drop from text) ≡ []
range_none text from = let none : from - from ≡ 0 = omega arith in ap (λ k. take k (drop from text)) none

pub drop_none : {X : Type 0} (xs : List X) (n : ℕ) → xs ≡ drop (n - n) xs
drop_none xs n = let none : 0 ≡ n - n = omega arith in ap (λ k. drop k xs) none

take_split : (m n : ℕ) (xs : List ℕ) → take (m + n) xs ≡ take m xs ++ take n (drop m xs)
take_split m n xs =
    sym (take-append-drop m (take (m + n) xs))
    ∙ ap (λ t. t ++ drop m (take (m + n) xs)) (take-take m (m + n) xs (omega arith))
    ∙ ap (λ t. take m xs ++ t) (drop-take m n xs)

-- two ranges beside each other
pub range_join : (text : List ℕ) (from middle to : ℕ) → from ≤ middle → middle ≤ to → take (middle - from) (drop from text) ++ take (to - middle) (drop middle text) ≡ take (to - from) (drop from text)
range_join text from middle to low high =
    let whole : to - from ≡ (middle - from) + (to - middle) = omega arith in
    let at : from + (middle - from) ≡ middle = omega arith in
    sym (ap (λ n. take n (drop from text)) whole ∙ take_split (middle - from) (to - middle) (drop from text)
    ∙ ap (λ t. take (middle - from) (drop from text) ++ take (to - middle) t) (drop-drop (middle - from) from text ∙ ap (λ k. drop k text) at))

-- a range and all behind it
pub range_rest : (text : List ℕ) (from middle : ℕ) → from ≤ middle → take (middle - from) (drop from text) ++ drop middle text ≡ drop from text
range_rest text from middle low =
    let at : from + (middle - from) ≡ middle = omega arith in
    ap (λ t. take (middle - from) (drop from text) ++ t) (sym (drop-drop (middle - from) from text ∙ ap (λ k. drop k text) at))
    ∙ take-append-drop (middle - from) (drop from text)
