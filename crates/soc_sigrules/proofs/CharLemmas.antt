-- The first characters of a text.
use Rattle.std.proofs.Common.{◌≡◌, ℕ, ◌+◌, ◌-◌, ◌<◌, ◌≤◌, ◌==◌, Bool, true, false, cond, List, [], ◌∷◌, ◌++◌, length, take, drop, get_or, refl, sym, ap, ◌∙◌, arith, append_assoc, append-nil, ◌⊎◌, inl, inr}
use Rattle.std.specs.Str.{IsUtf8, IsCharBoundary}
use Rattle.std.proofs.lemmas.Str.{IsCharBoundary-start}
use Rattle.std.proofs.lemmas.Bool.{cases_lt}
use Rattle.std.proofs.lemmas.Bool.Decides.{nat_tests}
use Rattle.std.proofs.lemmas.List.{take_more, drop_more, drop_all, take_all, take-append-drop}
use Rattle.std.proofs.lemmas.List.Sums.{count_by_more_yes, count_by_more_no, sum_by-cons, sum_by-append}
use Rattle.soc_sigrules.specs.Chars.{begins_char, char_count, first_chars, is_longer}

pub chars_yes : (byte : ℕ) (rest : List ℕ) (count : ℕ) → begins_char byte ≡ true → 0 < count → first_chars count (byte ∷ rest) ≡ byte ∷ first_chars (count - 1) rest
chars_yes byte rest count begins some =
    let test : (count == 0) ≡ false = grind (arith, nat_tests) in
    ap (λ t. cond t (cond (count == 0) [] (byte ∷ first_chars (count - 1) rest)) (byte ∷ first_chars count rest)) begins
    ∙ ap (λ t. cond t [] (byte ∷ first_chars (count - 1) rest)) test

pub chars_end : (byte : ℕ) (rest : List ℕ) → begins_char byte ≡ true → first_chars 0 (byte ∷ rest) ≡ []
chars_end byte rest begins = ap (λ t. cond t [] (byte ∷ first_chars 0 rest)) begins

pub chars_no : (byte : ℕ) (rest : List ℕ) (count : ℕ) → begins_char byte ≡ false → first_chars count (byte ∷ rest) ≡ byte ∷ first_chars count rest
chars_no byte rest count inside =
    ap (λ t. cond t (cond (count == 0) [] (byte ∷ first_chars (count - 1) rest)) (byte ∷ first_chars count rest)) inside

count_yes : (byte : ℕ) (rest : List ℕ) → begins_char byte ≡ true → char_count (byte ∷ rest) ≡ 1 + char_count rest
count_yes byte rest begins = sum_by-cons (λ b. cond (begins_char b) 1 0) byte rest ∙ ap (λ t. cond t 1 0 + char_count rest) begins

count_no : (byte : ℕ) (rest : List ℕ) → begins_char byte ≡ false → char_count (byte ∷ rest) ≡ 0 + char_count rest
count_no byte rest inside = sum_by-cons (λ b. cond (begins_char b) 1 0) byte rest ∙ ap (λ t. cond t 1 0 + char_count rest) inside

pub char_count-append : (a b : List ℕ) → char_count (a ++ b) ≡ char_count a + char_count b
char_count-append a b = sum_by-append (λ b. cond (begins_char b) 1 0) a b

pub le_or_lt : (m n : ℕ) → (m ≤ n) ⊎ (n < m)
le_or_lt m n = elim (cases_lt n m) [ inl less ↦ inr less | inr more ↦ inl more ]

-- what becomes of the text behind a byte
abbrev Splits : ℕ → List ℕ → List ℕ → Type 0
Splits count a b = char_count a ≤ count → first_chars count (a ++ b) ≡ a ++ first_chars (count - char_count a) b

splits-cons : (t : Bool) (byte : ℕ) (a b : List ℕ) (count : ℕ) → begins_char byte ≡ t → ((n : ℕ) → Splits n a b) → Splits count (byte ∷ a) b
splits-cons true byte a b count begins more fits =
    let counted = count_yes byte a begins in
    let left : (count - 1) - char_count a ≡ count - char_count (byte ∷ a) = omega arith in
    chars_yes byte (a ++ b) count begins (omega arith)
    ∙ ap (λ (text : List ℕ). byte ∷ text) (more (count - 1) (omega arith) ∙ ap (λ n. a ++ first_chars n b) left)
splits-cons false byte a b count inside more fits =
    let counted = count_no byte a inside in
    let left : count - char_count a ≡ count - char_count (byte ∷ a) = omega arith in
    chars_no byte (a ++ b) count inside
    ∙ ap (λ (text : List ℕ). byte ∷ text) (more count (omega arith) ∙ ap (λ n. a ++ first_chars n b) left)

splits : (a b : List ℕ) (count : ℕ) → Splits count a b
splits [] b count fits = let same : count ≡ count - 0 = omega arith in ap (λ n. first_chars n b) same
splits (byte ∷ a) b count fits = splits-cons (begins_char byte) byte a b count refl (λ n. splits a b n) fits

-- a text that fits is followed by as much of the next as there is room for
pub first_chars-append : (count : ℕ) (a b : List ℕ) → char_count a ≤ count → first_chars count (a ++ b) ≡ a ++ first_chars (count - char_count a) b
first_chars-append count a b fits = splits a b count fits

abbrev Fills : ℕ → List ℕ → List ℕ → Type 0
Fills count a b = count < char_count a → (first_chars count (a ++ b) ≡ first_chars count a) × (char_count (first_chars count a) ≡ count)

fills-cons : (t z : Bool) (byte : ℕ) (a b : List ℕ) (count : ℕ) → begins_char byte ≡ t → (count == 0) ≡ z → ((n : ℕ) → Fills n a b) → Fills count (byte ∷ a) b
fills-cons true true byte a b count begins none more full =
    let is : count ≡ 0 = grind (arith, nat_tests) in
    rw is (chars_end byte (a ++ b) begins ∙ sym (chars_end byte a begins), ap char_count (chars_end byte a begins))
fills-cons true false byte a b count begins some more full =
    let counted = count_yes byte a begins in
    let positive : 0 < count = grind (arith, nat_tests) in
    let filled = more (count - 1) (omega arith) in
    let front = chars_yes byte a count begins positive in (
      chars_yes byte (a ++ b) count begins positive ∙ ap (λ (text : List ℕ). byte ∷ text) filled.0 ∙ sym front,
      ap char_count front ∙ omega (arith, count_yes byte (first_chars (count - 1) a) begins, filled.1),
    )
fills-cons false z byte a b count inside same more full =
    let counted = count_no byte a inside in
    let filled = more count (omega arith) in
    let front = chars_no byte a count inside in (
      chars_no byte (a ++ b) count inside ∙ ap (λ (text : List ℕ). byte ∷ text) filled.0 ∙ sym front,
      ap char_count front ∙ omega (arith, count_no byte (first_chars count a) inside, filled.1),
    )

pub fills : (a b : List ℕ) (count : ℕ) → Fills count a b
fills [] b count full = absurd (omega arith)
fills (byte ∷ a) b count full = fills-cons (begins_char byte) (count == 0) byte a b count refl refl (λ n. fills a b n) full

-- a text that doesn't fit is followed by nothing
pub first_chars-full : (count : ℕ) (a b : List ℕ) → count < char_count a → first_chars count (a ++ b) ≡ first_chars count a
first_chars-full count a b full = (fills a b count full).0

pub whole : (count : ℕ) (a : List ℕ) → char_count a ≤ count → first_chars count a ≡ a
whole count a fits = ap (first_chars count) (sym (append-nil a)) ∙ first_chars-append count a [] fits ∙ append-nil a

-- the text begins with a character, or is empty
pub first_chars-none : (text : List ℕ) → IsUtf8 text → first_chars 0 text ≡ []
first_chars-none [] utf8 = refl
first_chars-none (byte ∷ rest) utf8 =
    let start = IsCharBoundary-start (byte ∷ rest) utf8 in
    let high : 128 ≤ byte → 192 ≤ byte = λ h. start.1 (omega arith) h in
    let begins : begins_char byte ≡ true = grind (arith, nat_tests) in
    chars_end byte rest begins

taken_again : (count : ℕ) (a b : List ℕ) → first_chars 0 b ≡ [] → (char_count a ≤ count) ⊎ (count < char_count a)
    → first_chars count (first_chars count a ++ b) ≡ first_chars count (a ++ b)
taken_again count a b none (inl fits) = ap (λ (text : List ℕ). first_chars count (text ++ b)) (whole count a fits)
taken_again count a b none (inr full) =
    let filled = fills a b count full in
    let zero_left : count - char_count (first_chars count a) ≡ 0 = omega (arith, filled.1) in
    first_chars-append count (first_chars count a) b (omega (arith, filled.1))
    ∙ ap (λ n. first_chars count a ++ first_chars n b) zero_left
    ∙ ap (λ (text : List ℕ). first_chars count a ++ text) none
    ∙ append-nil (first_chars count a) ∙ sym filled.0

-- what was cut already may be cut again with what follows
pub first_chars-again : (count : ℕ) (a b : List ℕ) → first_chars 0 b ≡ [] → first_chars count (first_chars count a ++ b) ≡ first_chars count (a ++ b)
first_chars-again count a b none = taken_again count a b none (le_or_lt (char_count a) count)

counted_by : (count : ℕ) (text : List ℕ) → (char_count text ≤ count) ⊎ (count < char_count text) → char_count (first_chars count text) ≤ count
counted_by count text (inl fits) = rw (whole count text fits) fits
counted_by count text (inr full) = omega (arith, (fills text [] count full).1)

pub char_count-first : (count : ℕ) (text : List ℕ) → char_count (first_chars count text) ≤ count
char_count-first count text = counted_by count text (le_or_lt (char_count text) count)

-- where a search stands: so many characters more are passed over
pub record Passes (count : ℕ) (text : List ℕ) (place left : ℕ) : Type 0 where
  pub within : place ≤ length text
  pub counted : left + char_count (take place text) ≡ count
  pub same : first_chars count text ≡ take place text ++ first_chars left (drop place text)

pub passes-start : (count : ℕ) (text : List ℕ) → Passes count text 0 count
passes-start count text = record { within = omega arith; counted = omega arith; same = refl }

moved : (place left : ℕ) (text : List ℕ) → place < length text → first_chars left (drop place text) ≡ get_or text place 0 ∷ first_chars (left - 1) (drop (place + 1) text)
    → take place text ++ first_chars left (drop place text) ≡ take (place + 1) text ++ first_chars (left - 1) (drop (place + 1) text)
moved place left text inside is =
    ap (λ (xs : List ℕ). take place text ++ xs) is
    ∙ sym (append_assoc (take place text) (get_or text place 0 ∷ []) (first_chars (left - 1) (drop (place + 1) text)))
    ∙ ap (λ (xs : List ℕ). xs ++ first_chars (left - 1) (drop (place + 1) text)) (sym (take_more text place 0 inside))

pub passes-yes : (count : ℕ) (text : List ℕ) (place left : ℕ) → Passes count text place left → place < length text → begins_char (get_or text place 0) ≡ true → 0 < left
    → Passes count text (place + 1) (left - 1)
passes-yes count text place left so_far inside begins some =
    let more = count_by_more_yes begins_char text place 0 inside begins in
    record {
      within = omega arith;
      counted = omega (arith, so_far.counted);
      same =
          so_far.same
          ∙ moved place left text inside (ap (first_chars left) (drop_more text place 0 inside) ∙ chars_yes (get_or text place 0) (drop (place + 1) text) left begins some);
    }

pub passes-no : (count : ℕ) (text : List ℕ) (place left : ℕ) → Passes count text place left → place < length text → begins_char (get_or text place 0) ≡ false
    → Passes count text (place + 1) left
passes-no count text place left so_far inside none =
    let more = count_by_more_no begins_char text place 0 inside none in
    record {
      within = omega arith;
      counted = omega (arith, so_far.counted);
      same =
          so_far.same
          ∙ ap (λ (xs : List ℕ). take place text ++ xs)
          (ap (first_chars left) (drop_more text place 0 inside) ∙ chars_no (get_or text place 0) (drop (place + 1) text) left none)
          ∙ sym (append_assoc (take place text) (get_or text place 0 ∷ []) (first_chars left (drop (place + 1) text)))
          ∙ ap (λ (xs : List ℕ). xs ++ first_chars left (drop (place + 1) text)) (sym (take_more text place 0 inside));
    }

boundary : (text : List ℕ) (place : ℕ) → place < length text → begins_char (get_or text place 0) ≡ true → IsCharBoundary text place
boundary text place inside begins = (omega arith, λ _ high. grind (arith, nat_tests))

-- the character behind the last one begins here
pub passes-here : (count : ℕ) (text : List ℕ) (place left : ℕ) → Passes count text place left → place < length text → begins_char (get_or text place 0) ≡ true → left ≡ 0
    → (is_longer count text ≡ true) × (take place text ≡ first_chars count text) × IsCharBoundary text place
passes-here count text place left so_far inside begins none =
    let whole : char_count text ≡ char_count (take place text) + char_count (drop place text) =
    ap char_count (sym (take-append-drop place text)) ∙ char_count-append (take place text) (drop place text) in
    let rest : char_count (drop place text) ≡ 1 + char_count (drop (place + 1) text) =
    ap char_count (drop_more text place 0 inside) ∙ count_yes (get_or text place 0) (drop (place + 1) text) begins in
    let above : count < char_count text = omega (arith, so_far.counted) in
    let end : first_chars left (drop place text) ≡ [] =
    ap (λ n. first_chars n (drop place text)) none ∙ ap (first_chars 0) (drop_more text place 0 inside) ∙ chars_end (get_or text place 0) (drop (place + 1) text) begins in (
      grind (arith, nat_tests),
      sym (so_far.same ∙ ap (λ (xs : List ℕ). take place text ++ xs) end ∙ append-nil (take place text)),
      boundary text place inside begins,
    )

-- the text has no more
pub passes-end : (count : ℕ) (text : List ℕ) (place left : ℕ) → Passes count text place left → length text ≤ place
    → (is_longer count text ≡ false) × (first_chars count text ≡ text)
passes-end count text place left so_far past =
    let all : take place text ≡ text = take_all place text past in
    let none : drop place text ≡ [] = drop_all place text past in
    let counted : left + char_count text ≡ count = ap (λ (xs : List ℕ). left + char_count xs) (sym all) ∙ so_far.counted in (
      grind (arith, nat_tests),
      so_far.same ∙ ap (λ (xs : List ℕ). take place text ++ first_chars left xs) none ∙ append-nil (take place text) ∙ all,
    )
