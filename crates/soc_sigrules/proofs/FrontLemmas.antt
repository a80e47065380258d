-- The texts of a stack as far as a signature can show them, one word and one text more.
use Rattle.std.proofs.Common.{◌≡◌, ℕ, ◌-◌, ◌<◌, ◌==◌, ◌&&◌, Bool, true, false, cond, List, [], ◌∷◌, ◌++◌, length, Option, Some, None, refl, sym, ap, ◌∙◌, arith, append_assoc, append-nil}
use Rattle.std.specs.Prelude.{◌||◌, not, codes, is_some}
use Rattle.std.specs.List.{last_or, list_all}
use Rattle.std.specs.Str.{IsUtf8}
use Rattle.std.proofs.lemmas.Bool.{eqb-true}
use Rattle.std.proofs.lemmas.Bool.Decides.{nat_tests}
use Rattle.std.proofs.lemmas.List.{nil_from_length}
use Rattle.soc_siglists.specs.Lists.{ListTexts, is_prefix}
use Rattle.soc_sigrules.specs.Chars.{begins_char, char_count, first_chars, joined}
use Rattle.soc_sigrules.specs.Spaces.{words, spaced}
use Rattle.soc_sigrules.specs.Stacks.{separator}
use Rattle.soc_sigrules.specs.Signatures.{StackState, stack_state}
use Rattle.soc_sigrules.specs.inner.Fronts.{with_word, with_words, parted, with_text}
use Rattle.soc_sigrules.specs.inner.Words.{IsFirstWord}
use Rattle.soc_sigrules.proofs.CharLemmas.{chars_yes, chars_no, first_chars-append, first_chars-again, first_chars-none}
use Rattle.soc_sigrules.proofs.JoinLemmas.{push_later}
use Rattle.soc_sigrules.proofs.WordLemmas.{IsWord, AllWords, all_words, all_words-append, words-append}

-- ---- one word more

pub word_later : (front middle last word : List ℕ) → IsUtf8 word → (length front == 0) ≡ false → middle ≡ first_chars 257 (front ++ codes " ") → last ≡ first_chars 257 (middle ++ word)
    → last ≡ with_word front word
word_later front middle last word utf8 some first second =
    second
    ∙ ap (λ (xs : List ℕ). first_chars 257 (xs ++ word)) first
    ∙ first_chars-again 257 (front ++ codes " ") word (first_chars-none word utf8)
    ∙ ap (first_chars 257) (append_assoc front (codes " ") word)
    ∙ ap (λ b. first_chars 257 (cond b word (front ++ (codes " " ++ word)))) (sym some)

pub word_first : (front last word : List ℕ) → (length front == 0) ≡ true → last ≡ first_chars 257 (front ++ word) → last ≡ with_word front word
word_first front last word none is =
    is
    ∙ ap (λ (xs : List ℕ). first_chars 257 (xs ++ word)) (nil_from_length front (eqb-true (length front) 0 none))
    ∙ ap (λ b. first_chars 257 (cond b word (front ++ (codes " " ++ word)))) (sym none)

-- ---- nothing more where there is no room

full_word : (front word : List ℕ) → char_count front ≡ 257 → (length front == 0) ≡ false → with_word front word ≡ front
full_word front word full some =
    let left : 257 - char_count front ≡ 0 = omega (arith, full) in
    ap (λ b. first_chars 257 (cond b word (front ++ (codes " " ++ word)))) some
    ∙ first_chars-append 257 front (codes " " ++ word) (omega (arith, full))
    ∙ ap (λ n. front ++ first_chars n (codes " " ++ word)) left
    ∙ append-nil front

some_front : (front : List ℕ) → char_count front ≡ 257 → (length front == 0) ≡ false
some_front [] full = absurd (omega (arith, full))
some_front (byte ∷ front) full = grind (arith, nat_tests)

full_stays : (front : List ℕ) (list : List (List ℕ)) → char_count front ≡ 257 → with_words front list ≡ front
full_stays front [] full = refl
full_stays front (word ∷ list) full = ap (λ (xs : List ℕ). with_words xs list) (full_word front word full (some_front front full)) ∙ full_stays front list full

-- ---- the words of a text

abbrev pub with_rest : StackState → List ℕ → StackState
with_rest state rest = record state { front = with_words state.front (words rest) }

pub words-more : (now new total : StackState) (rest word others : List ℕ) → with_rest now rest ≡ total → IsFirstWord rest word others
    → new ≡ record now { front = with_word now.front word } → with_rest new others ≡ total
words-more now new total rest word others so_far next is =
    ap (λ (s : StackState). with_rest s others) is ∙ ap (λ (list : List (List ℕ)). record now { front = with_words now.front list }) (sym next.first) ∙ so_far

pub words-end : (now total : StackState) (rest : List ℕ) → with_rest now rest ≡ total → words rest ≡ [] → now ≡ total
words-end now total rest so_far none = sym (ap (λ (list : List (List ℕ)). record now { front = with_words now.front list }) none) ∙ so_far

pub words-full : (now total : StackState) (rest : List ℕ) → with_rest now rest ≡ total → (char_count now.front == 257) ≡ true → now ≡ total
words-full now total rest so_far full =
    sym (ap (λ (front : List ℕ). record now { front = front }) (full_stays now.front (words rest) (eqb-true (char_count now.front) 257 full))) ∙ so_far

-- ---- the first characters of words

some-step : (b : Bool) (count byte : ℕ) (rest : List ℕ) → begins_char byte ≡ b → 0 < count → (length (first_chars count (byte ∷ rest)) == 0) ≡ false
some-step true count byte rest is some =
    let test : (length (byte ∷ first_chars (count - 1) rest) == 0) ≡ false = grind (arith, nat_tests) in
    ap (λ (xs : List ℕ). length xs == 0) (chars_yes byte rest count is some) ∙ test
some-step false count byte rest is some =
    let test : (length (byte ∷ first_chars count rest) == 0) ≡ false = grind (arith, nat_tests) in
    ap (λ (xs : List ℕ). length xs == 0) (chars_no byte rest count is) ∙ test

pub some_chars : (count : ℕ) (word rest : List ℕ) → 0 < count → IsWord word → (length (first_chars count (word ++ rest)) == 0) ≡ false
some_chars count [] rest some is = absurd (omega (arith, is.0))
some_chars count (byte ∷ word) rest some is = some-step (begins_char byte) count byte (word ++ rest) refl some

-- what was kept of words, with one more
one-more : (list : List (List ℕ)) (word : List ℕ) → AllWords list → with_word (first_chars 257 (joined (codes " ") list)) word ≡ first_chars 257 (joined (codes " ") (list ++ word ∷ []))
one-more [] word all = ap (first_chars 257) (sym (append-nil word))
one-more (first ∷ list) word all =
    let text = joined (codes " ") (first ∷ list) in
    let front = first_chars 257 text in
    ap (λ b. first_chars 257 (cond b word (front ++ (codes " " ++ word)))) (some_chars 257 first _ (omega arith) all.0)
    ∙ first_chars-again 257 text (codes " " ++ word) refl
    ∙ ap (first_chars 257) (sym (append_assoc text (codes " ") word) ∙ sym (push_later (codes " ") (first ∷ list) word (omega arith)))

-- the same with more words
many-more : (list more : List (List ℕ)) → AllWords list → AllWords more
    → with_words (first_chars 257 (joined (codes " ") list)) more ≡ first_chars 257 (joined (codes " ") (list ++ more))
many-more list [] all others = ap (λ (ws : List (List ℕ)). first_chars 257 (joined (codes " ") ws)) (sym (append-nil list))
many-more list (word ∷ more) all others =
    ap (λ (front : List ℕ). with_words front more) (one-more list word all)
    ∙ many-more (list ++ word ∷ []) more (all_words-append list (word ∷ []) all (others.0, tt)) others.1
    ∙ ap (λ (ws : List (List ℕ)). first_chars 257 (joined (codes " ") ws)) (append_assoc list (word ∷ []) more)

-- ---- one text more

last_push : {A : Type 0} (before : Option A) (xs : List A) (x : A) → last_or before (xs ++ x ∷ []) ≡ Some x
last_push before [] x = refl
last_push before (y ∷ xs) x = last_push (Some y) xs x

pub some_last : {A : Type 0} (x : A) (xs : List A) → is_some (last_or (Some x) xs) ≡ true
some_last x [] = refl
some_last x (y ∷ xs) = some_last y xs

all-push : (p : List ℕ → Bool) (xs : List (List ℕ)) (x : List ℕ) → not (list_all p (xs ++ x ∷ [])) ≡ (not (list_all p xs) || not (p x))
all-push p [] x = and_one (p x)
  where
    and_one : (b : Bool) → not (b && true) ≡ not b
    and_one true = refl
    and_one false = refl
all-push p (y ∷ xs) x = all-step (p y) (list_all p (xs ++ x ∷ [])) (list_all p xs) (p x) (all-push p xs x)
  where
    all-step : (b more here last : Bool) → not more ≡ (not here || not last) → not (b && more) ≡ (not (b && here) || not last)
    all-step true more here last is = is
    all-step false more here last is = refl

-- the words of texts with the separator between them
words-parted : (text next : List ℕ) → words ((text ++ separator) ++ next) ≡ (words text ++ words separator) ++ words next
words-parted text next =
    ap words (append_assoc text separator next)
    ∙ words-append text 32 (124 ∷ 32 ∷ next) refl
    ∙ ap (λ (ws : List (List ℕ)). words text ++ ws) (words-append (124 ∷ []) 32 next refl)
    ∙ sym (append_assoc (words text) (words separator) (words next))

front-push : (lists : ListTexts) (texts : List (List ℕ)) (text : List ℕ)
    → first_chars 257 (spaced (joined separator (texts ++ text ∷ []))) ≡ with_words (parted (stack_state lists texts)) (words text)
front-push lists [] text =
    ap (λ (t : List ℕ). first_chars 257 (spaced t)) (append-nil text) ∙ sym (many-more [] (words text) tt (all_words text))
front-push lists (first ∷ texts) text =
    let before = joined separator (first ∷ texts) in
    let parting = all_words-append (words before) (words separator) (all_words before) (all_words separator) in
    ap (λ (t : List ℕ). first_chars 257 (spaced t)) (push_later separator (first ∷ texts) text (omega arith))
    ∙ ap (λ (ws : List (List ℕ)). first_chars 257 (joined (codes " ") ws)) (words-parted before text)
    ∙ sym (many-more (words before ++ words separator) (words text) parting (all_words text))
    ∙ ap (λ (front : List ℕ). with_words front (words text)) (sym (many-more (words before) (words separator) (all_words before) (all_words separator)))
    ∙ ap (λ b. with_words (cond b (with_words (first_chars 257 (spaced before)) (words separator)) (first_chars 257 (spaced before))) (words text)) (sym (some_last first texts))

pub same_state : (front front' : List ℕ) (last last' : Option (List ℕ)) (ended ended' : Bool) → front ≡ front' → last ≡ last' → ended ≡ ended'
    → ◌≡◌ {A = StackState} (record { front = front; last = last; is_ended = ended }) (record { front = front'; last = last'; is_ended = ended' })
same_state front front' last last' ended ended' e f g = cc

pub state-push : (lists : ListTexts) (texts : List (List ℕ)) (text : List ℕ) → stack_state lists (texts ++ text ∷ []) ≡ with_text (stack_state lists texts) text (is_prefix lists text)
state-push lists texts text =
    same_state _ _ _ _ _ _ (front-push lists texts text) (last_push None texts text) (all-push (is_prefix lists) texts text)
