-- How long a token of JSON is when it is printed, against the escapes and the words that it is read from.
use Rattle.std.proofs.Common.{◌≡◌, ℕ, suc, ◌+◌, ◌*◌, ◌-◌, ◌/◌, ◌%◌, ◌<◌, ◌≤◌, Bool, true, false, cond, ◌&&◌, ◌||◌, ◌==◌, nat_lt, nat_eq, List, [], ◌∷◌, ◌++◌, length, take, drop, Option, Some, None, option_and_then, inl, inr, refl, ap, ◌∙◌, subst, arith, append-nil, length-append, length-take, take-append-drop}
use Rattle.std.specs.Prelude.{⊤}
use Rattle.std.specs.Char.{is_ascii_digit, encode_utf8, digit_char}
use Rattle.std.specs.List.{prefix_len, starts_with}
use Rattle.std.proofs.lemmas.Bool.{eqb-true, ltb-true, and_parts, or_cases}
use Rattle.std.proofs.lemmas.Slice.Eq.{bytes_eq-Decides}
use Rattle.json.specs.Ascii.{true_text, false_text, null_text}
use Rattle.json.specs.Token.{Token, begin_object, end_object, begin_array, end_array, key, string, number, boolean, null, bad}
use Rattle.json.specs.Text.{short_escape}
use Rattle.json.specs.Word.{is_operator, is_space, head, ends_word, after_digits, after_minus, after_sign, after_whole, after_fraction, after_exponent, after_number, number_before, literal, word}
use Rattle.json.specs.Print.{escape, escape_byte, escape_letter}
use Rattle.json.proofs.Printed.Strings.{escape_byte_plain}

-- what a token takes when it is printed, with a comma or a colon
abbrev pub token_size : Token → ℕ
token_size begin_object = 2
token_size end_object = 2
token_size begin_array = 2
token_size end_array = 2
token_size (key s) = length (escape s) + 3
token_size (string s) = length (escape s) + 3
token_size (number s) = length s + 1
token_size (boolean b) = 6
token_size null = 5
token_size bad = 0

abbrev pub tokens_size : List Token → ℕ
tokens_size [] = 0
tokens_size (t ∷ ts) = token_size t + tokens_size ts

pub tokens_size-append : (ts us : List Token) → tokens_size (ts ++ us) ≡ tokens_size ts + tokens_size us
tokens_size-append [] us = omega arith
tokens_size-append (t ∷ ts) us = omega (arith, tokens_size-append ts us)

-- ---- escapes

either : (P : List ℕ → Type 0) (b : Bool) (xs ys : List ℕ) → (b ≡ true → P xs) → (b ≡ false → P ys) → P (cond b xs ys)
either P true xs ys p q = p refl
either P false xs ys p q = q refl

abbrev by_letter : ℕ → List ℕ
by_letter x = 92 ∷ escape_letter x ∷ []

abbrev by_digits : ℕ → List ℕ
by_digits x = 92 ∷ 117 ∷ 48 ∷ 48 ∷ digit_char (x / 16) ∷ digit_char (x % 16) ∷ []

-- one byte to six
pub byte_escape : (x : ℕ) → (0 < length (escape_byte x)) × (length (escape_byte x) ≤ 6)
unfolding escape_byte
byte_escape x =
    let P = λ (xs : List ℕ). (0 < length xs) × (length xs ≤ 6) in
    either P (nat_lt 0 (escape_letter x)) (by_letter x) (cond (nat_lt x 32) (by_digits x) (x ∷ [])) (λ a. (omega arith, omega arith))
    (λ a. either P (nat_lt x 32) (by_digits x) (x ∷ []) (λ b. (omega arith, omega arith)) (λ b. (omega arith, omega arith)))

-- only a control byte takes more than two
high_escape : (x : ℕ) → 32 ≤ x → length (escape_byte x) ≤ 2
unfolding escape_byte
high_escape x high =
    let P = λ (xs : List ℕ). length xs ≤ 2 in
    either P (nat_lt 0 (escape_letter x)) (by_letter x) (cond (nat_lt x 32) (by_digits x) (x ∷ [])) (λ a. omega arith)
    (λ a. either P (nat_lt x 32) (by_digits x) (x ∷ []) (λ b. absurd (omega (arith, ltb-true x 32 b))) (λ b. omega arith))

far_escape : (x : ℕ) → 128 ≤ x → escape_byte x ≡ x ∷ []
far_escape x far = escape_byte_plain x (λ e. omega arith) (λ e. omega arith) (omega arith)

pub one_escape : (x : ℕ) → length (escape (x ∷ [])) ≡ length (escape_byte x)
one_escape x = ap length (append-nil (escape_byte x))

-- what short escapes stand for takes two bytes at most
abbrev pub IsShort : Option ℕ → Type 0
IsShort None = ⊤
IsShort (Some c) = length (escape (c ∷ [])) ≤ 2

short_if : (b : Bool) (x y : Option ℕ) → (b ≡ true → IsShort x) → (b ≡ false → IsShort y) → IsShort (cond b x y)
short_if true x y p q = p refl
short_if false x y p q = q refl

one_of_three : (x : ℕ) → ((x == 34) || (x == 92) || (x == 47)) ≡ true → 32 ≤ x
one_of_three x h = grind arith

pub short_escapes : (x : ℕ) → IsShort (short_escape x)
unfolding short_escape escape_byte
short_escapes x =
    short_if ((x == 34) || (x == 92) || (x == 47)) (Some x) _ (λ h. omega (arith, one_escape x, high_escape x (one_of_three x h)))
    (λ h. short_if (x == 98) (Some 8) _ (λ e. omega arith)
    (λ e. short_if (x == 102) (Some 12) _ (λ e. omega arith)
    (λ e. short_if (x == 110) (Some 10) _ (λ e. omega arith)
    (λ e. short_if (x == 114) (Some 13) _ (λ e. omega arith)
    (λ e. short_if (x == 116) (Some 9) None (λ e. omega arith) (λ e. tt))))))

far_more : (x : ℕ) (xs : List ℕ) (n : ℕ) → 128 ≤ x → length (escape xs) ≤ n → length (escape (x ∷ xs)) ≤ n + 1
far_more x xs n far more = omega (arith, length-append (escape_byte x) (escape xs), ap length (far_escape x far))

-- a character, escaped, takes no more than its escape by digits
pub char_escape : (u : ℕ) → length (escape (encode_utf8 u)) ≤ 6
unfolding encode_utf8
char_escape u =
    let d = 128 + u % 64 in
    let c = 128 + u / 64 % 64 in
    let b = 128 + u / 4096 % 64 in
    let one = far_more d [] 0 (omega arith) (omega arith) in
    let two = far_more c (d ∷ []) (0 + 1) (omega arith) one in
    let three = far_more b (c ∷ d ∷ []) (0 + 1 + 1) (omega arith) two in
    let P = λ (xs : List ℕ). length (escape xs) ≤ 6 in
    either P (nat_lt u 128) (u ∷ []) _ (λ s. omega (arith, one_escape u, byte_escape u))
    (λ s. either P (nat_lt u 2048) ((192 + u / 64) ∷ d ∷ []) _ (λ s. omega (arith, far_more (192 + u / 64) (d ∷ []) 1 (omega arith) one))
    (λ s. either P (nat_lt u 65536) ((224 + u / 4096) ∷ c ∷ d ∷ []) _ (λ s. omega (arith, far_more (224 + u / 4096) (c ∷ d ∷ []) 2 (omega arith) two))
    (λ s. omega (arith, far_more (240 + u / 262144) (b ∷ c ∷ d ∷ []) 3 (omega arith) three))))

-- ---- words: how many bytes stand behind one

abbrev pub behind : List ℕ → ℕ
behind [] = 0
behind (x ∷ xs) = cond (is_operator x || is_space x) (suc (length xs)) (behind xs)

behind_if : (b : Bool) (n l : ℕ) → n ≤ l → (n ≤ cond b (suc l) n) × (cond b (suc l) n ≤ suc l)
behind_if true n l h = (omega arith, omega arith)
behind_if false n l h = (omega arith, omega arith)

pub behind_short : (xs : List ℕ) → behind xs ≤ length xs
behind_short [] = omega arith
behind_short (x ∷ xs) = (behind_if (is_operator x || is_space x) (behind xs) (length xs) (behind_short xs)).1

pub behind_grows : (x : ℕ) (xs : List ℕ) → behind xs ≤ behind (x ∷ xs)
behind_grows x xs = (behind_if (is_operator x || is_space x) (behind xs) (length xs) (behind_short xs)).0

digit_in_word : (x : ℕ) → is_ascii_digit x ≡ true → (is_operator x || is_space x) ≡ false
digit_in_word x h = grind arith

-- what is left is no less than what stands behind the word
abbrev Leaves : List ℕ → Option (List ℕ) → Type 0
Leaves t None = ⊤
Leaves t (Some r) = behind t ≤ behind r

leaves_if : (t : List ℕ) (b : Bool) (x y : Option (List ℕ)) → (b ≡ true → Leaves t x) → (b ≡ false → Leaves t y) → Leaves t (cond b x y)
leaves_if t true x y p q = p refl
leaves_if t false x y p q = q refl

leaves_further : (t u : List ℕ) (o : Option (List ℕ)) → behind t ≤ behind u → Leaves u o → Leaves t o
leaves_further t u None le h = tt
leaves_further t u (Some r) le h = omega arith

leaves_then : (t : List ℕ) (f : List ℕ → Option (List ℕ)) (o : Option (List ℕ)) → ((u : List ℕ) → Leaves u (f u)) → Leaves t o → Leaves t (option_and_then f o)
leaves_then t f None more h = tt
leaves_then t f (Some r) more h = leaves_further t r (f r) h (more r)

digit_step : (b : Bool) (x n : ℕ) (xs : List ℕ) → is_ascii_digit x ≡ b → behind xs ≤ behind (drop n xs) → behind (x ∷ xs) ≤ behind (drop (cond b (1 + n) 0) (x ∷ xs))
digit_step true x n xs e more =
    let next : suc n ≡ 1 + n = omega arith in
    subst (λ k. behind (x ∷ xs) ≤ behind (drop k (x ∷ xs))) next (rw (digit_in_word x e) more)
digit_step false x n xs e more = omega arith

past_digits : (t : List ℕ) → behind t ≤ behind (drop (prefix_len is_ascii_digit t) t)
past_digits [] = omega arith
past_digits (x ∷ xs) = digit_step (is_ascii_digit x) x (prefix_len is_ascii_digit xs) xs refl (past_digits xs)

past_byte : (t : List ℕ) (c : ℕ) → (is_operator c || is_space c) ≡ false → (head t == c) ≡ true → behind t ≤ behind (drop 1 t)
past_byte [] c word_byte e = omega arith
past_byte (x ∷ xs) c word_byte e =
    let same : x ≡ c = eqb-true x c e in
    rw (same, word_byte) (omega arith)

past_either : (t : List ℕ) (c d : ℕ) → (is_operator c || is_space c) ≡ false → (is_operator d || is_space d) ≡ false → ((head t == c) || (head t == d)) ≡ true → behind t ≤ behind (drop 1 t)
past_either t c d p q e = elim (or_cases (head t == c) (head t == d) e) [ inl f ↦ past_byte t c p f | inr f ↦ past_byte t d q f ]

past_if : (t : List ℕ) (b : Bool) → (b ≡ true → behind t ≤ behind (drop 1 t)) → behind t ≤ behind (cond b (drop 1 t) t)
past_if t true h = h refl
past_if t false h = omega arith

Leaves-digits : (t : List ℕ) → Leaves t (after_digits t)
Leaves-digits t = leaves_if t (prefix_len is_ascii_digit t == 0) None (Some (drop (prefix_len is_ascii_digit t) t)) (λ e. tt) (λ e. past_digits t)

Leaves-whole : (t : List ℕ) → Leaves t (after_whole t)
Leaves-whole t = leaves_if t (head t == 48) (Some (drop 1 t)) (after_digits t) (past_byte t 48 refl) (λ e. Leaves-digits t)

Leaves-fraction : (t : List ℕ) → Leaves t (after_fraction t)
Leaves-fraction t =
    leaves_if t (head t == 46) (after_digits (drop 1 t)) (Some t) (λ e. leaves_further t (drop 1 t) (after_digits (drop 1 t)) (past_byte t 46 refl e) (Leaves-digits (drop 1 t)))
    (λ e. omega arith)

Leaves-exponent : (t : List ℕ) → Leaves t (after_exponent t)
Leaves-exponent t =
    let u = drop 1 t in
    let v = after_sign u in
    leaves_if t ((head t == 101) || (head t == 69)) (after_digits v) (Some t)
    (λ e. leaves_further t u (after_digits v) (past_either t 101 69 refl refl e)
    (leaves_further u v (after_digits v) (past_if u ((head u == 45) || (head u == 43)) (past_either u 45 43 refl refl)) (Leaves-digits v)))
    (λ e. omega arith)

Leaves-number : (t : List ℕ) → Leaves t (after_number t)
unfolding after_number
Leaves-number t =
    let u = after_minus t in
    leaves_then t after_exponent (option_and_then after_fraction (after_whole u)) Leaves-exponent
    (leaves_then t after_fraction (after_whole u) Leaves-fraction
    (leaves_further t u (after_whole u) (past_if t (head t == 45) (past_byte t 45 refl)) (Leaves-whole u)))

-- the token and what stands behind its word keep within twice the text
abbrev pub Small : List ℕ → Token → Type 0
Small t k = token_size k + 2 * behind t ≤ 2 * length t

small_if : (t : List ℕ) (b : Bool) (x y : Token) → (b ≡ true → Small t x) → (b ≡ false → Small t y) → Small t (cond b x y)
small_if t true x y p q = p refl
small_if t false x y p q = q refl

small_bad : (t : List ℕ) → Small t bad
small_bad t = omega (arith, behind_short t)

small_literal : (t name : List ℕ) (k : Token) → ((r : List ℕ) → behind (name ++ r) ≡ behind r) → token_size k ≤ 2 * length name → Small t (literal name k t)
small_literal t name k inside small =
    small_if t (starts_with nat_eq t name && ends_word (drop (length name) t)) k bad
    (λ e.
    let same : name ≡ take (length name) t = (bytes_eq-Decides name (take (length name) t)).0 (and_parts (starts_with nat_eq t name) (ends_word (drop (length name) t)) e).0 in
    let rest = drop (length name) t in
    let whole : name ++ rest ≡ t = ap (λ (front : List ℕ). front ++ rest) same ∙ take-append-drop (length name) t in
    omega (arith, inside rest, ap behind whole, ap length whole, length-append name rest, behind_short rest))
    (λ e. small_bad t)

small_number : (t : List ℕ) (o : Option (List ℕ)) → behind t < length t → Leaves t o → Small t (number_before t o)
small_number t None some h = small_bad t
small_number t (Some r) some h =
    small_if t (ends_word r) (number (take (length t - length r) t)) bad (λ e. omega (arith, behind_short r, length-take (length t - length r) t)) (λ e. small_bad t)

pub small_word : (t : List ℕ) → behind t < length t → Small t (word t)
unfolding word
small_word t some =
    small_if t (head t == 116) (literal true_text (boolean true) t) _ (λ e. small_literal t true_text (boolean true) (λ r. refl) (omega arith))
    (λ e. small_if t (head t == 102) (literal false_text (boolean false) t) _ (λ e. small_literal t false_text (boolean false) (λ r. refl) (omega arith))
    (λ e. small_if t (head t == 110) (literal null_text null t) (number_before t (after_number t)) (λ e. small_literal t null_text null (λ r. refl) (omega arith))
    (λ e. small_number t (after_number t) some (Leaves-number t))))
