-- A text, word by word.
use Rattle.std.proofs.Common.{◌≡◌, ℕ, zero, suc, ◌+◌, ◌<◌, ◌≤◌, ◌==◌, Bool, true, false, cond, List, [], ◌∷◌, ◌++◌, length, take, drop, get_or, refl, sym, ap, ◌∙◌, arith, append_assoc, append-nil, length-drop, length-take-le, subst, true≢false, ◌⊎◌, inl, inr}
use Rattle.std.specs.Prelude.{filter, not, nat_lt, codes}
use Rattle.std.specs.Str.{IsUtf8, IsCharBoundary}
use Rattle.std.specs.List.{prefix_len, position_or_len, slice_split}
use Rattle.std.proofs.lemmas.Bool.{cases_lt}
use Rattle.std.proofs.lemmas.Bool.Decides.{nat_tests}
use Rattle.std.proofs.lemmas.List.{take_all, drop_all, drop_more, get_or_default, get_or-drop, length-append}
use Rattle.std.proofs.lemmas.List.Splits.{slice_split_first, slice_split_none, slice_split-cons_yes}
use Rattle.std.proofs.lemmas.List.Sums.{prefix_len_passes, prefix_len_stops, prefix_len-le-length}
use Rattle.std.proofs.lemmas.Str.{IsCharBoundary-start, IsCharBoundary-end, IsCharBoundary-after_ascii, IsCharBoundary-before_ascii}
use Rattle.soc_sigrules.specs.Chars.{joined}
use Rattle.soc_sigrules.specs.Spaces.{is_gap, words}
use Rattle.soc_sigrules.specs.inner.Words.{IsFirstWord}
use Rattle.soc_sigrules.proofs.JoinLemmas.{push_first, push_later}

empty_list : (xs : List ℕ) → length xs ≡ 0 → xs ≡ []
empty_list [] none = refl
empty_list (x ∷ xs) none = absurd (omega arith)

-- a blank at the front says nothing
words-gap : (byte : ℕ) (rest : List ℕ) → is_gap byte ≡ true → words (byte ∷ rest) ≡ words rest
words-gap byte rest gap =
    ap (λ (parts : List (List ℕ)). filter (λ word. nat_lt 0 (length word)) parts) (slice_split-cons_yes is_gap byte rest gap)

gaps-cons : (b : Bool) (byte : ℕ) (rest : List ℕ) → is_gap byte ≡ b → words rest ≡ words (drop (prefix_len is_gap rest) rest)
    → words (byte ∷ rest) ≡ words (drop (prefix_len is_gap (byte ∷ rest)) (byte ∷ rest))
gaps-cons true byte rest gap more =
    let longer : prefix_len is_gap (byte ∷ rest) ≡ suc (prefix_len is_gap rest) = ap (λ t. cond t (1 + prefix_len is_gap rest) 0) gap ∙ omega arith in
    words-gap byte rest gap ∙ more ∙ ap (λ n. words (drop n (byte ∷ rest))) (sym longer)
gaps-cons false byte rest none more =
    let zero_len : prefix_len is_gap (byte ∷ rest) ≡ 0 = ap (λ t. cond t (1 + prefix_len is_gap rest) 0) none in
    ap (λ n. words (drop n (byte ∷ rest))) (sym zero_len)

pub words-gaps : (text : List ℕ) → words text ≡ words (drop (prefix_len is_gap text) text)
words-gaps [] = refl
words-gaps (byte ∷ rest) = gaps-cons (is_gap byte) byte rest refl (words-gaps rest)

not_true : (b : Bool) → not b ≡ true → b ≡ false
not_true true e = absurd (true≢false (sym e))
not_true false e = refl

not_false : (b : Bool) → not b ≡ false → b ≡ true
not_false true e = refl
not_false false e = absurd (true≢false e)

-- behind the blanks at the front stands no blank
behind_gaps : (text : List ℕ) → 0 < length (drop (prefix_len is_gap text) text) → is_gap (get_or (drop (prefix_len is_gap text) text) 0 0) ≡ false
behind_gaps text some =
    let count = prefix_len is_gap text in
    let inside : count < length text = omega (arith, length-drop count text) in
    let zero_more : count + 0 ≡ count = omega arith in
    ap is_gap (get_or-drop count text 0 0 ∙ ap (λ k. get_or text k 0) zero_more) ∙ prefix_len_stops is_gap text 0 inside

before_gap : (text : List ℕ) (k : ℕ) → k < position_or_len is_gap text → is_gap (get_or text k 0) ≡ false
before_gap text k below = not_true _ (prefix_len_passes (λ b. not (is_gap b)) text k 0 below)

at_gap : (text : List ℕ) → position_or_len is_gap text < length text → is_gap (get_or text (position_or_len is_gap text) 0) ≡ true
at_gap text inside = not_false _ (prefix_len_stops (λ b. not (is_gap b)) text 0 inside)

word_some : (text : List ℕ) → 0 < length text → is_gap (get_or text 0 0) ≡ false → 0 < position_or_len is_gap text
word_some [] some none = absurd (omega arith)
word_some (byte ∷ rest) some none =
    let is : position_or_len is_gap (byte ∷ rest) ≡ 1 + position_or_len is_gap rest = ap (λ t. cond (not t) (1 + position_or_len is_gap rest) 0) none in
    omega arith

word-first : (word : List ℕ) (parts : List (List ℕ)) → 0 < length word
    → filter (λ w. nat_lt 0 (length w)) (word ∷ parts) ≡ word ∷ filter (λ w. nat_lt 0 (length w)) parts
word-first word parts some =
    let test : nat_lt 0 (length word) ≡ true = grind (arith, nat_tests) in
    ap (λ t. cond t (word ∷ filter (λ w. nat_lt 0 (length w)) parts) (filter (λ w. nat_lt 0 (length w)) parts)) test

first_word : (text : List ℕ) → 0 < position_or_len is_gap text → (position_or_len is_gap text < length text) ⊎ (length text ≤ position_or_len is_gap text)
    → words text ≡ take (position_or_len is_gap text) text ∷ words (drop (position_or_len is_gap text) text)
first_word text some (inl inside) =
    let end = position_or_len is_gap text in
    let len : length (take end text) ≡ end = length-take-le end text (omega arith) in
    ap (λ (parts : List (List ℕ)). filter (λ w. nat_lt 0 (length w)) parts) (slice_split_first is_gap text 0 inside)
    ∙ word-first (take end text) (slice_split is_gap (drop (end + 1) text)) (omega arith)
    ∙ ap (λ (xs : List (List ℕ)). take end text ∷ xs)
    (sym (words-gap (get_or text end 0) (drop (end + 1) text) (at_gap text inside)) ∙ ap words (sym (drop_more text end 0 inside)))
first_word text some (inr past) =
    let end = position_or_len is_gap text in
    let len : 0 < length text = omega (arith, prefix_len-le-length (λ b. not (is_gap b)) text) in
    let all : take end text ≡ text = take_all end text past in
    let none : drop end text ≡ [] = drop_all end text past in
    ap (λ (parts : List (List ℕ)). filter (λ w. nat_lt 0 (length w)) parts)
    (slice_split_none is_gap text (λ k d inside. ap is_gap (get_or_default text k d 0 inside) ∙ before_gap text k (omega arith)))
    ∙ word-first text [] len
    ∙ ap (λ (xs : List ℕ). xs ∷ []) (sym all)
    ∙ ap (λ (xs : List (List ℕ)). take end text ∷ xs) (ap words (sym none))

-- the first word of a text, by the blanks before it and its own length
pub next_word : (text behind word rest : List ℕ) → behind ≡ drop (prefix_len is_gap text) text → 0 < length behind
    → word ≡ take (position_or_len is_gap behind) behind → rest ≡ drop (position_or_len is_gap behind) behind → IsUtf8 rest → IsFirstWord text word rest
next_word text behind word rest is some is_word is_rest utf8 =
    let first_none : is_gap (get_or behind 0 0) ≡ false = ap (λ (xs : List ℕ). is_gap (get_or xs 0 0)) is ∙ behind_gaps text (subst (λ xs. 0 < length xs) is some) in
    let end = position_or_len is_gap behind in
    let positive : 0 < end = word_some behind some first_none in
    let within : end ≤ length behind = prefix_len-le-length (λ b. not (is_gap b)) behind in
    let len : length word ≡ end = ap length is_word ∙ length-take-le end behind within in
    record {
      first =
          words-gaps text ∙ ap words (sym is) ∙ first_word behind positive (cases_lt end (length behind))
          ∙ ap (λ (xs : List ℕ). xs ∷ words (drop end behind)) (sym is_word) ∙ ap (λ (xs : List ℕ). word ∷ words xs) (sym is_rest);
      some = omega arith;
      shorter = omega (arith, ap length is_rest, length-drop end behind, ap length is, length-drop (prefix_len is_gap text) text);
      utf8 = utf8;
    }

pub no_word : (text behind : List ℕ) → behind ≡ drop (prefix_len is_gap text) text → true ≡ (length behind == 0) → words text ≡ []
no_word text behind is empty =
    let none : length behind ≡ 0 = grind (arith, nat_tests) in
    words-gaps text ∙ ap words (sym is) ∙ ap words (empty_list behind none)

ascii_gap : (byte : ℕ) → is_gap byte ≡ true → byte < 128
ascii_gap byte gap = grind (arith, nat_tests)

gap_cut : (text : List ℕ) (n : ℕ) → IsUtf8 text → n ≡ prefix_len is_gap text → IsCharBoundary text n
gap_cut text zero utf8 is = IsCharBoundary-start text utf8
gap_cut text (suc n) utf8 is =
    let inside : n < length text = omega (arith, prefix_len-le-length is_gap text) in
    let ascii = ascii_gap (get_or text n 0) (prefix_len_passes is_gap text n 0 (omega arith)) in
    let next : n + 1 ≡ suc n = omega arith in
    subst (λ k. IsCharBoundary text k) next (IsCharBoundary-after_ascii text n utf8 inside ascii)

-- where a text may be cut: behind the blanks at its front, and before the first blank
pub gaps_cut : (text : List ℕ) → IsUtf8 text → IsCharBoundary text (prefix_len is_gap text)
gaps_cut text utf8 = gap_cut text (prefix_len is_gap text) utf8 refl

end_cut : (text : List ℕ) → (position_or_len is_gap text < length text) ⊎ (length text ≤ position_or_len is_gap text) → IsCharBoundary text (position_or_len is_gap text)
end_cut text (inl inside) = IsCharBoundary-before_ascii text _ inside (ascii_gap _ (at_gap text inside))
end_cut text (inr past) =
    let same : length text ≡ position_or_len is_gap text = omega (arith, prefix_len-le-length (λ b. not (is_gap b)) text) in
    subst (λ k. IsCharBoundary text k) same (IsCharBoundary-end text)

pub word_cut : (text : List ℕ) → IsCharBoundary text (position_or_len is_gap text)
word_cut text = end_cut text (cases_lt (position_or_len is_gap text) (length text))

-- ---- the words so far

pub record SpacesOn (text out rest : List ℕ) (so_far : List (List ℕ)) : Type 0 where
  pub split : words text ≡ so_far ++ words rest
  pub held : out ≡ joined (codes " ") so_far
  pub empty : (length out == 0) ≡ (length so_far == 0)

pub spaces-start : (text : List ℕ) → SpacesOn text [] text []
spaces-start text = record { split = refl; held = refl; empty = refl }

pub spaces-end : (text out rest : List ℕ) (so_far : List (List ℕ)) → SpacesOn text out rest so_far → words rest ≡ [] → out ≡ joined (codes " ") (words text)
spaces-end text out rest so_far on none =
    on.held ∙ ap (joined (codes " ")) (sym (on.split ∙ ap (λ (xs : List (List ℕ)). so_far ++ xs) none ∙ append-nil so_far))

moved : (text out rest word others : List ℕ) (so_far : List (List ℕ)) → SpacesOn text out rest so_far → IsFirstWord rest word others
    → words text ≡ (so_far ++ word ∷ []) ++ words others
moved text out rest word others so_far on next =
    on.split ∙ ap (λ (xs : List (List ℕ)). so_far ++ xs) next.first ∙ sym (append_assoc so_far (word ∷ []) (words others))

grown : (out word : List ℕ) (so_far : List (List ℕ)) → 0 < length word → (length (out ++ word) == 0) ≡ (length (so_far ++ word ∷ []) == 0)
grown out word so_far some =
    let left : (length (out ++ word) == 0) ≡ false = grind (arith, nat_tests, length-append {A = ℕ}) in
    let right : (length (so_far ++ word ∷ []) == 0) ≡ false = grind (arith, nat_tests, length-append {A = List ℕ}) in
    left ∙ sym right

abbrev pub On : List ℕ → List ℕ → List ℕ → Type 0
On text out rest = (so_far : List (List ℕ)) × SpacesOn text out rest so_far

pub spaces-first : (text out new rest word others : List ℕ) → On text out rest → IsFirstWord rest word others → (length out == 0) ≡ true → new ≡ out ++ word → On text new others
spaces-first text out new rest word others on next empty is =
    let none : length on.0 ≡ 0 = let same = sym on.1.empty ∙ empty in grind (arith, nat_tests) in (
      on.0 ++ word ∷ [],
      record {
        split = moved text out rest word others on.0 on.1 next;
        held = is ∙ ap (λ (xs : List ℕ). xs ++ word) on.1.held ∙ sym (push_first (codes " ") on.0 word none);
        empty = ap (λ (xs : List ℕ). length xs == 0) is ∙ grown out word on.0 next.some;
      },
    )

pub spaces-later : (text out new rest word others : List ℕ) → On text out rest → IsFirstWord rest word others → (length out == 0) ≡ false → new ≡ (out ++ codes " ") ++ word
    → On text new others
spaces-later text out new rest word others on next later is =
    let some : 0 < length on.0 = let same = sym on.1.empty ∙ later in grind (arith, nat_tests) in (
      on.0 ++ word ∷ [],
      record {
        split = moved text out rest word others on.0 on.1 next;
        held = is ∙ ap (λ (xs : List ℕ). (xs ++ codes " ") ++ word) on.1.held ∙ sym (push_later (codes " ") on.0 word some);
        empty = ap (λ (xs : List ℕ). length xs == 0) is ∙ grown (out ++ codes " ") word on.0 next.some;
      },
    )
