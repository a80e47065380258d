-- How long the tokens of a JSON text are when they are printed: no longer than twice the text, commas and
-- colons counted.
use Rattle.std.proofs.Common.{◌≡◌, ℕ, suc, ◌+◌, ◌*◌, ◌≤◌, Bool, true, false, cond, ◌&&◌, ◌||◌, ◌==◌, nat_lt, List, [], ◌∷◌, length, Option, Some, None, option_and_then, inl, inr, refl, sym, ap, ap₂, ◌∙◌, subst, arith, length-append}
use Rattle.std.specs.Prelude.{⊤}
use Rattle.std.specs.Char.{is_digit, encode_utf8}
use Rattle.std.proofs.lemmas.Bool.{true≢false, eqb-true, eqb-false, ltb-false, and_parts, cases_Bool}
use Rattle.std.proofs.Math.Bool.{or-true}
use Rattle.std.proofs.lemmas.Grind.{flat_map-append}
use Rattle.json.specs.Token.{Token, begin_object, end_object, begin_array, end_array, key, string, number, boolean, null, bad}
use Rattle.json.specs.Text.{code_unit, short_escape, is_high_surrogate, is_low_surrogate, surrogate_pair, Within, plain, after_backslash, after_u, after_high, prepend, content}
use Rattle.json.specs.Word.{is_operator, is_space}
use Rattle.json.specs.Lex.{Lexeme, token, comma, colon, Class, quote, backslash, operator, space, other, class, operator_lexeme, string_token, Mode, between, in_word, in_string, in_escape, lex_byte, lex, Place, fresh, after_value, after_comma, after_key, begins_colon, may_begin, may_close, if_allowed, place_token, punctuate, tokens}
use Rattle.json.specs.Print.{escape, escape_byte}
use Rattle.json.proofs.Printed.Strings.{escape_byte_plain}
use Rattle.soc_forms.proofs.TokenSizes.{token_size, tokens_size, one_escape, IsShort, short_escapes, char_escape, behind, behind_short, behind_grows, small_word}

-- ---- lexemes

abbrev lexeme_size : Lexeme → ℕ
lexeme_size (token t) = token_size t
lexeme_size comma = 0
lexeme_size colon = 0

abbrev lexemes_size : List Lexeme → ℕ
lexemes_size [] = 0
lexemes_size (l ∷ ls) = lexeme_size l + lexemes_size ls

lexeme_if : (b : Bool) (x y : Lexeme) → lexeme_size x ≤ 2 → lexeme_size y ≤ 2 → lexeme_size (cond b x y) ≤ 2
lexeme_if true x y p q = p
lexeme_if false x y p q = q

operator_size : (x : ℕ) → lexeme_size (operator_lexeme x) ≤ 2
operator_size x =
    lexeme_if (x == 123) (token begin_object) _ (omega arith)
    (lexeme_if (x == 125) (token end_object) _ (omega arith)
    (lexeme_if (x == 91) (token begin_array) _ (omega arith)
    (lexeme_if (x == 93) (token end_array) _ (omega arith) (lexeme_if (x == 44) comma colon (omega arith) (omega arith)))))

-- what a byte is, by its class
abbrev Tells : ℕ → Class → Type 0
Tells x quote = ⊤
Tells x backslash = ⊤
Tells x operator = is_operator x ≡ true
Tells x space = is_space x ≡ true
Tells x other = (is_operator x || is_space x) ≡ false

tells : (x : ℕ) → Tells x (class x)
tells x = go (x == 34) (x == 92) (is_operator x) (is_space x) refl refl
  where
    go : (q b o s : Bool) → is_operator x ≡ o → is_space x ≡ s → Tells x (cond q quote (cond b backslash (cond o operator (cond s space other))))
    go true b o s e f = tt
    go false true o s e f = tt
    go false false true s e f = e
    go false false false true e f = f
    go false false false false e f = ap₂ (λ m n. m || n) e f

-- how many bytes the lexer has yet to read lexemes from
abbrev unread : Mode → List ℕ → ℕ
unread between xs = length xs
unread in_word xs = behind xs
unread in_string xs = length xs
unread in_escape xs = length xs

-- what comes behind a byte keeps within twice the bytes there, also behind a string that the byte begins
record IsSmallLater (xs : List ℕ) (k : Mode → List Lexeme) : Type 0 where
  size : (m : Mode) → lexemes_size (k m) ≤ 2 * unread m xs
  text : token_size (string_token (content plain xs)) + lexemes_size (k in_string) ≤ 2 * suc (length xs)

behind_stop : (x : ℕ) (xs : List ℕ) → (is_operator x || is_space x) ≡ true → behind (x ∷ xs) ≡ suc (length xs)
behind_stop x xs e = rw e

lex_step : (m : Mode) (c : Class) (x : ℕ) (xs : List ℕ) (k : Mode → List Lexeme) → Tells x c → IsSmallLater xs k → lexemes_size (lex_byte m c x xs k) ≤ 2 * unread m (x ∷ xs)
lex_step between quote x xs k t h = h.text
lex_step between backslash x xs k t h = omega (arith, h.size in_word, behind_short xs)
lex_step between operator x xs k t h = omega (arith, h.size between, operator_size x)
lex_step between space x xs k t h = omega (arith, h.size between)
lex_step between other x xs k t h =
    let within : behind (x ∷ xs) ≡ behind xs = rw t in
    omega (arith, h.size in_word, behind_short xs, small_word (x ∷ xs) (omega (arith, behind_short xs)))
lex_step in_word quote x xs k t h = omega (arith, h.size in_word, behind_grows x xs)
lex_step in_word backslash x xs k t h = omega (arith, h.size in_word, behind_grows x xs)
lex_step in_word operator x xs k t h = omega (arith, h.size between, operator_size x, behind_stop x xs (rw t))
lex_step in_word space x xs k t h = omega (arith, h.size between, behind_stop x xs (rw (t, or-true)))
lex_step in_word other x xs k t h = omega (arith, h.size in_word, behind_grows x xs)
lex_step in_string quote x xs k t h = omega (arith, h.size between)
lex_step in_string backslash x xs k t h = omega (arith, h.size in_escape)
lex_step in_string operator x xs k t h = omega (arith, h.size in_string)
lex_step in_string space x xs k t h = omega (arith, h.size in_string)
lex_step in_string other x xs k t h = omega (arith, h.size in_string)
lex_step in_escape c x xs k t h = omega (arith, h.size in_string)

-- ---- strings: the lexer passes over what a string's content is read from

inside : (o s : Bool) (x : ℕ) (xs : List ℕ) (k : Mode → List Lexeme) → lex_byte in_string (cond o operator (cond s space other)) x xs k ≡ k in_string
inside true s x xs k = refl
inside false true x xs k = refl
inside false false x xs k = refl

lex_plain : (x : ℕ) (xs : List ℕ) → (x == 34) ≡ false → (x == 92) ≡ false → lex in_string (x ∷ xs) ≡ lex in_string xs
unfolding lex
lex_plain x xs q b = rw (q, b) (inside (is_operator x) (is_space x) x xs (λ m. lex m xs))

lex_backslash : (x : ℕ) (xs : List ℕ) → (x == 92) ≡ true → lex in_string (x ∷ xs) ≡ lex in_escape xs
unfolding lex
lex_backslash x xs b = let same : x ≡ 92 = eqb-true x 92 b in rw same

lex_quote : (x : ℕ) (xs : List ℕ) → (x == 34) ≡ true → lex in_string (x ∷ xs) ≡ lex between xs
unfolding lex
lex_quote x xs q = let same : x ≡ 34 = eqb-true x 34 q in rw same

lex_escaped : (x : ℕ) (xs : List ℕ) → lex in_escape (x ∷ xs) ≡ lex in_string xs
unfolding lex
lex_escaped x xs = refl

no_hex : (x c : ℕ) → is_digit c 16 ≡ false → is_digit x 16 ≡ true → (x == c) ≡ false
no_hex x c n h = elim (cases_Bool (x == c)) [ inl e ↦ absurd (true≢false (sym h ∙ ap (λ y. is_digit y 16) (eqb-true x c e) ∙ n)) | inr e ↦ e ]

lex_hex : (x : ℕ) (xs : List ℕ) → is_digit x 16 ≡ true → lex in_string (x ∷ xs) ≡ lex in_string xs
lex_hex x xs h = lex_plain x xs (no_hex x 34 refl h) (no_hex x 92 refl h)

all_digits : (b : Bool) (u v : ℕ) → cond b (Some u) None ≡ Some v → b ≡ true
all_digits true u v e = refl
all_digits false u v e = absurd (cc)

lex_unit : (a b c d u : ℕ) (xs : List ℕ) → code_unit a b c d ≡ Some u → lex in_string (a ∷ b ∷ c ∷ d ∷ xs) ≡ lex in_string xs
unfolding code_unit
lex_unit a b c d u xs e =
    let four = and_parts (is_digit a 16 && is_digit b 16 && is_digit c 16) (is_digit d 16) (all_digits _ _ u e) in
    let three = and_parts (is_digit a 16 && is_digit b 16) (is_digit c 16) four.0 in
    let two = and_parts (is_digit a 16) (is_digit b 16) three.0 in
    lex_hex a (b ∷ c ∷ d ∷ xs) two.0 ∙ lex_hex b (c ∷ d ∷ xs) two.1 ∙ lex_hex c (d ∷ xs) three.1 ∙ lex_hex d xs four.1

-- the content, escaped and quoted, and what the lexer reads behind it keep within n
abbrev Holds : ℕ → ℕ → Option (List ℕ) → Type 0
Holds later n None = ⊤
Holds later n (Some s) = 2 * length (escape s) + 2 + later ≤ n

holds_if : (later n : ℕ) (b : Bool) (x y : Option (List ℕ)) → (b ≡ true → Holds later n x) → (b ≡ false → Holds later n y) → Holds later n (cond b x y)
holds_if later n true x y p q = p refl
holds_if later n false x y p q = q refl

holds_then : (later n : ℕ) (f : ℕ → Option (List ℕ)) (o : Option ℕ) → ((u : ℕ) → o ≡ Some u → Holds later n (f u)) → Holds later n (option_and_then f o)
holds_then later n f None h = tt
holds_then later n f (Some u) h = h u refl

holds_front : (later later' m n : ℕ) (front : List ℕ) (o : Option (List ℕ)) → Holds later' m o → later ≡ later' → 2 * length (escape front) + m ≤ n → Holds later n (prepend front o)
holds_front later later' m n front None h e le = tt
holds_front later later' m n front (Some s) h e le = omega (arith, ap length (flat_map-append escape_byte front s), length-append (escape front) (escape s))

holds_more : (later later' m n : ℕ) (o : Option (List ℕ)) → Holds later' m o → later ≡ later' → m ≤ n → Holds later n o
holds_more later later' m n None h e le = tt
holds_more later later' m n (Some s) h e le = omega arith

abbrev mode_of : Within → Mode
mode_of plain = in_string
mode_of after_backslash = in_escape
mode_of after_u = in_string
mode_of (after_high h) = in_string

-- twice the bytes of the escape that were read
abbrev begun : Within → ℕ
begun plain = 0
begun after_backslash = 2
begun after_u = 4
begun (after_high h) = 12

abbrev later_size : Mode → List ℕ → ℕ
later_size m xs = lexemes_size (lex m xs)

text_size : (xs : List ℕ) (o : Option (List ℕ)) → later_size in_string xs ≤ 2 * length xs → Holds (later_size in_string xs) (2 * length xs + 0) o
    → token_size (string_token o) + later_size in_string xs ≤ 2 * suc (length xs)
text_size xs None le h = omega arith
text_size xs (Some s) le h = omega arith

mutual
  unfolding content lex

  lex_size : (xs : List ℕ) (m : Mode) → later_size m xs ≤ 2 * unread m xs
  lex_size [] between = omega arith
  lex_size [] in_word = omega arith
  lex_size [] in_string = omega arith
  lex_size [] in_escape = omega arith
  lex_size (x ∷ xs) m =
      lex_step m (class x) x xs (λ next. lex next xs) (tells x)
      (record { size = λ next. lex_size xs next; text = text_size xs (content plain xs) (lex_size xs in_string) (content_size xs plain) })

  content_size : (xs : List ℕ) (w : Within) → Holds (later_size (mode_of w) xs) (2 * length xs + begun w) (content w xs)
  content_size [] plain = tt
  content_size [] after_backslash = tt
  content_size [] after_u = tt
  content_size [] (after_high h) = tt
  content_size (x ∷ xs) plain =
      let later = later_size in_string (x ∷ xs) in
      let n = 2 * length (x ∷ xs) + 0 in
      holds_if later n (x == 34) (Some []) _ (λ q. omega (arith, ap lexemes_size (lex_quote x xs q), lex_size xs between))
      (λ q. holds_if later n (x == 92) (content after_backslash xs) _
      (λ b. holds_more later (later_size in_escape xs) (2 * length xs + 2) n _ (content_size xs after_backslash) (ap lexemes_size (lex_backslash x xs b)) (omega arith))
      (λ b. holds_if later n (nat_lt x 32) None _ (λ l. tt)
      (λ l. holds_front later (later_size in_string xs) (2 * length xs + 0) n (x ∷ []) _ (content_size xs plain) (ap lexemes_size (lex_plain x xs q b))
      (omega (arith, one_escape x, ap length (escape_byte_plain x (eqb-false x 34 q) (eqb-false x 92 b) (ltb-false x 32 l)))))))
  content_size (x ∷ xs) after_backslash =
      let later = later_size in_escape (x ∷ xs) in
      let n = 2 * length (x ∷ xs) + 2 in
      let e = ap lexemes_size (lex_escaped x xs) in
      holds_if later n (x == 117) (content after_u xs) _ (λ u. holds_more later (later_size in_string xs) (2 * length xs + 4) n _ (content_size xs after_u) e (omega arith))
      (λ u. holds_then later n _ (short_escape x) (λ c is. holds_front later (later_size in_string xs) (2 * length xs + 0) n (c ∷ []) _ (content_size xs plain) e
      (omega (arith, subst IsShort is (short_escapes x)))))
  content_size (a ∷ []) after_u = tt
  content_size (a ∷ b ∷ []) after_u = tt
  content_size (a ∷ b ∷ c ∷ []) after_u = tt
  content_size (a ∷ b ∷ c ∷ d ∷ xs) after_u =
      let later = later_size in_string (a ∷ b ∷ c ∷ d ∷ xs) in
      let n = 2 * length (a ∷ b ∷ c ∷ d ∷ xs) + 4 in
      holds_then later n _ (code_unit a b c d) (λ u is.
      let e = ap lexemes_size (lex_unit a b c d u xs is) in
      holds_if later n (is_high_surrogate u) (content (after_high u) xs) _
      (λ high. holds_more later (later_size in_string xs) (2 * length xs + 12) n _ (content_size xs (after_high u)) e (omega arith))
      (λ high. holds_if later n (is_low_surrogate u) None _ (λ low. tt)
      (λ low. holds_front later (later_size in_string xs) (2 * length xs + 0) n (encode_utf8 u) _ (content_size xs plain) e (omega (arith, char_escape u)))))
  content_size (s ∷ []) (after_high h) = tt
  content_size (s ∷ u ∷ []) (after_high h) = tt
  content_size (s ∷ u ∷ a ∷ []) (after_high h) = tt
  content_size (s ∷ u ∷ a ∷ b ∷ []) (after_high h) = tt
  content_size (s ∷ u ∷ a ∷ b ∷ c ∷ []) (after_high h) = tt
  content_size (s ∷ u ∷ a ∷ b ∷ c ∷ d ∷ xs) (after_high h) =
      let later = later_size in_string (s ∷ u ∷ a ∷ b ∷ c ∷ d ∷ xs) in
      let n = 2 * length (s ∷ u ∷ a ∷ b ∷ c ∷ d ∷ xs) + 12 in
      let more = a ∷ b ∷ c ∷ d ∷ xs in
      holds_if later n ((s == 92) && (u == 117)) _ None
      (λ both. holds_then later n _ (code_unit a b c d) (λ l is.
      let e = ap lexemes_size (lex_backslash s (u ∷ more) (and_parts (s == 92) (u == 117) both).0 ∙ lex_escaped u more ∙ lex_unit a b c d l xs is) in
      holds_if later n (is_low_surrogate l) _ None
      (λ low. holds_front later (later_size in_string xs) (2 * length xs + 0) n (encode_utf8 (surrogate_pair h l)) _ (content_size xs plain) e (omega (arith, char_escape (surrogate_pair h l))))
      (λ low. tt)))
      (λ both. tt)

-- ---- commas and colons

allowed_size : (b : Bool) (t : Token) (k : Place → List Token) (next : Place) (n : ℕ) → tokens_size (k next) ≤ n → tokens_size (if_allowed b t k next) ≤ token_size t + n
allowed_size true t k next n h = omega arith
allowed_size false t k next n h = omega arith

place_size : (p : Place) (t : Token) (b : Bool) (k : Place → List Token) (n : ℕ) → ((next : Place) → tokens_size (k next) ≤ n) → tokens_size (place_token p t b k) ≤ token_size t + n
place_size p begin_object b k n h = allowed_size (may_begin p) begin_object k fresh n (h fresh)
place_size p end_object b k n h = allowed_size (may_close p) end_object k after_value n (h after_value)
place_size p begin_array b k n h = allowed_size (may_begin p) begin_array k fresh n (h fresh)
place_size p end_array b k n h = allowed_size (may_close p) end_array k after_value n (h after_value)
place_size p (key s) b k n h = omega arith
place_size p (string s) true k n h = allowed_size (may_begin p) (key s) k after_key n (h after_key)
place_size p (string s) false k n h = allowed_size (may_begin p) (string s) k after_value n (h after_value)
place_size p (number s) b k n h = allowed_size (may_begin p) (number s) k after_value n (h after_value)
place_size p (boolean v) b k n h = allowed_size (may_begin p) (boolean v) k after_value n (h after_value)
place_size p null b k n h = allowed_size (may_begin p) null k after_value n (h after_value)
place_size p bad b k n h = omega arith

punctuate_size : (ls : List Lexeme) (p : Place) → tokens_size (punctuate p ls) ≤ lexemes_size ls
unfolding punctuate
punctuate_size [] fresh = omega arith
punctuate_size [] after_value = omega arith
punctuate_size [] after_comma = omega arith
punctuate_size [] after_key = omega arith
punctuate_size (token t ∷ ls) p = place_size p t (begins_colon ls) (λ next. punctuate next ls) (lexemes_size ls) (punctuate_size ls)
punctuate_size (comma ∷ ls) fresh = omega arith
punctuate_size (comma ∷ ls) after_value = omega (arith, punctuate_size ls after_comma)
punctuate_size (comma ∷ ls) after_comma = omega arith
punctuate_size (comma ∷ ls) after_key = omega arith
punctuate_size (colon ∷ ls) fresh = omega arith
punctuate_size (colon ∷ ls) after_value = omega arith
punctuate_size (colon ∷ ls) after_comma = omega arith
punctuate_size (colon ∷ ls) after_key = omega (arith, punctuate_size ls fresh)

pub tokens_short : (text : List ℕ) → tokens_size (tokens text) ≤ 2 * length text
tokens_short text = omega (arith, punctuate_size (lex between text) fresh, lex_size text between)
