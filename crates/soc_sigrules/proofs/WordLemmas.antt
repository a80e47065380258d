-- The words of texts one after another.
use Rattle.std.proofs.Common.{◌≡◌, ℕ, ◌<◌, Bool, true, false, cond, List, [], ◌∷◌, ◌++◌, length, refl, sym, ap, ◌∙◌, arith}
use Rattle.std.specs.Prelude.{filter, nat_lt}
use Rattle.std.specs.List.{slice_split, onto_first, AllByRecursion}
use Rattle.std.proofs.lemmas.Bool.Decides.{nat_tests}
use Rattle.std.proofs.lemmas.List.Elements.{All-from_recursion, filter-append}
use Rattle.std.proofs.lemmas.List.Splits.{slice_split-cons_yes, slice_split-cons_no, slice_split_none, length-slice_split}
use Rattle.soc_sigrules.specs.Spaces.{is_gap, words}

-- ---- two texts with a blank between them

onto-append : (x : ℕ) (parts more : List (List ℕ)) → 0 < length parts → onto_first x (parts ++ more) ≡ onto_first x parts ++ more
onto-append x [] more some = absurd (omega arith)
onto-append x (part ∷ parts) more some = refl

split-cons : (b : Bool) (x : ℕ) (xs : List ℕ) (gap : ℕ) (ys : List ℕ) → is_gap x ≡ b → slice_split is_gap (xs ++ gap ∷ ys) ≡ slice_split is_gap xs ++ slice_split is_gap ys
    → slice_split is_gap ((x ∷ xs) ++ gap ∷ ys) ≡ slice_split is_gap (x ∷ xs) ++ slice_split is_gap ys
split-cons true x xs gap ys is more =
    slice_split-cons_yes is_gap x (xs ++ gap ∷ ys) is
    ∙ ap (λ (parts : List (List ℕ)). [] ∷ parts) more
    ∙ ap (λ (parts : List (List ℕ)). parts ++ slice_split is_gap ys) (sym (slice_split-cons_yes is_gap x xs is))
split-cons false x xs gap ys is more =
    slice_split-cons_no is_gap x (xs ++ gap ∷ ys) is
    ∙ ap (onto_first x) more
    ∙ onto-append x (slice_split is_gap xs) (slice_split is_gap ys) (omega (arith, length-slice_split is_gap xs))
    ∙ ap (λ (parts : List (List ℕ)). parts ++ slice_split is_gap ys) (sym (slice_split-cons_no is_gap x xs is))

split-gap : (xs : List ℕ) (gap : ℕ) (ys : List ℕ) → is_gap gap ≡ true → slice_split is_gap (xs ++ gap ∷ ys) ≡ slice_split is_gap xs ++ slice_split is_gap ys
split-gap [] gap ys is = slice_split-cons_yes is_gap gap ys is
split-gap (x ∷ xs) gap ys is = split-cons (is_gap x) x xs gap ys refl (split-gap xs gap ys is)

abbrev some_byte : List ℕ → Bool
some_byte word = nat_lt 0 (length word)

pub words-append : (xs : List ℕ) (gap : ℕ) (ys : List ℕ) → is_gap gap ≡ true → words (xs ++ gap ∷ ys) ≡ words xs ++ words ys
words-append xs gap ys is = ap (filter some_byte) (split-gap xs gap ys is) ∙ filter-append some_byte (slice_split is_gap xs) (slice_split is_gap ys)

-- ---- what words are

abbrev pub HasNoGap : List ℕ → Type 0
HasNoGap text = AllByRecursion (λ byte. is_gap byte ≡ false) text

abbrev pub IsWord : List ℕ → Type 0
IsWord word = (0 < length word) × HasNoGap word

abbrev pub AllWords : List (List ℕ) → Type 0
AllWords list = AllByRecursion IsWord list

onto-none : (x : ℕ) (parts : List (List ℕ)) → is_gap x ≡ false → AllByRecursion HasNoGap parts → AllByRecursion HasNoGap (onto_first x parts)
onto-none x [] none all = ((none, tt), tt)
onto-none x (part ∷ parts) none all = ((none, all.0), all.1)

parts-cons : (b : Bool) (x : ℕ) (parts : List (List ℕ)) → is_gap x ≡ b → AllByRecursion HasNoGap parts → AllByRecursion HasNoGap (cond b ([] ∷ parts) (onto_first x parts))
parts-cons true x parts is all = (tt, all)
parts-cons false x parts is all = onto-none x parts is all

parts_free : (text : List ℕ) → AllByRecursion HasNoGap (slice_split is_gap text)
parts_free [] = (tt, tt)
parts_free (x ∷ xs) = parts-cons (is_gap x) x (slice_split is_gap xs) refl (parts_free xs)

kept-cons : (b : Bool) (part : List ℕ) (parts : List (List ℕ)) → some_byte part ≡ b → HasNoGap part → AllWords (filter some_byte parts)
    → AllWords (cond b (part ∷ filter some_byte parts) (filter some_byte parts))
kept-cons true part parts is free all = let some : 0 < length part = grind (arith, nat_tests) in ((some, free), all)
kept-cons false part parts is free all = all

kept_words : (parts : List (List ℕ)) → AllByRecursion HasNoGap parts → AllWords (filter some_byte parts)
kept_words [] all = tt
kept_words (part ∷ parts) all = kept-cons (some_byte part) part parts refl all.0 (kept_words parts all.1)

pub all_words : (text : List ℕ) → AllWords (words text)
all_words text = kept_words (slice_split is_gap text) (parts_free text)

pub all_words-append : (list more : List (List ℕ)) → AllWords list → AllWords more → AllWords (list ++ more)
all_words-append [] more all others = others
all_words-append (word ∷ list) more all others = (all.0, all_words-append list more all.1 others)

-- a text without blanks
pub one_word : (word : List ℕ) → IsWord word → words word ≡ word ∷ []
one_word word is =
    let some : some_byte word ≡ true = let h = is.0 in grind (arith, nat_tests) in
    ap (filter some_byte) (slice_split_none is_gap word (All-from_recursion (λ byte. is_gap byte ≡ false) word is.1)) ∙ ap (λ t. cond t (word ∷ []) []) some
