-- How long what a JSON text says is: its members' names and texts are no longer than twice the text.
use Rattle.std.proofs.Common.{◌≡◌, ℕ, zero, suc, ◌+◌, ◌*◌, ◌-◌, ◌^◌, ◌<◌, ◌≤◌, pos, Bool, true, false, cond, ◌&&◌, ◌==◌, nat_lt, nat_le, not, slice_index, List, [], ◌∷◌, ◌++◌, length, drop, Option, Some, None, option_map, option_and_then, decimal, Ordering, Less, Equal, Greater, refl, sym, ap, ◌∙◌, subst, arith, append-nil, length-append, length-take}
use Rattle.std.specs.Prelude.{⊤, neg_ℤ}
use Rattle.std.specs.Fmt.{signed_decimal}
use Rattle.std.specs.Ordering.{nat_cmp, match_ordering}
use Rattle.std.specs.Cmp.Lexicographic.{slice_cmp}
use Rattle.std.specs.Str.Parse.{AllDigits, digits_value}
use Rattle.std.specs.Float.Numeral.{scan_numeral, digits_end}
use Rattle.std.proofs.lemmas.Bool.{true≢false, not-true, ltb-true, leb-true, and_parts}
use Rattle.std.proofs.lemmas.Fmt.{length-decimal-le}
use Rattle.std.proofs.lemmas.Int.Digits.{digits_value-lt}
use Rattle.fast_float.specs.Text.{scan, digits_of}
use Rattle.fast_float.proofs.Reading.{scan_numeral-AllDigits}
use Rattle.json.specs.Token.{Token}
use Rattle.json.specs.Lex.{tokens}
use Rattle.json.specs.Json as json
use Rattle.json.specs.Print.{escape, escape_byte, quoted}
use Rattle.json.specs.Tree.{json_tokens, items_tokens, members_tokens}
use Rattle.json.proofs.Unique.Spelling.{value-json_tokens_back}
use Rattle.serde_json.specs.Data.{Num, unsigned, negative, Data, null, boolean, number, string, array, object, Items, no_items, item, Members, no_members, member, put}
use Rattle.serde_json.specs.Read.{is_integer, float_of, number_from, number_of, of_json, of_items, of_members, max_depth, read}
use Rattle.serde_json.specs.Written.{number_text, comma_if, compact_text, items_text, members_text}
use Rattle.soc_forms.specs.Extras.{text_of}
use Rattle.soc_forms.proofs.LexSizes.{tokens_short}
use Rattle.soc_forms.proofs.TokenSizes.{tokens_size, tokens_size-append, byte_escape}

-- ---- numbers

abbrev NumberIn : ℕ → Option Num → Type 0
NumberIn n None = ⊤
NumberIn n (Some x) = length (number_text x) ≤ n

number_if : (n : ℕ) (b : Bool) (x y : Option Num) → (b ≡ true → NumberIn n x) → NumberIn n y → NumberIn n (cond b x y)
number_if n true x y p q = p refl
number_if n false x y p q = q

float_short : (n : ℕ) (b : Bool) (x : Num) → NumberIn n (Some x) → NumberIn n (cond b (Some x) None)
float_short n true x h = h
float_short n false x h = tt

no_fraction : (bs : List ℕ) → (scan_numeral bs).point ≡ false → (scan_numeral bs).fraction ≡ []
unfolding scan_numeral
no_fraction bs e = rw e

whole_within : (bs : List ℕ) → length (scan_numeral bs).whole ≤ length bs
unfolding scan_numeral
whole_within bs = omega (arith, length-take (digits_end bs 0 - 0) (drop 0 bs))

digits_short : (ds : List ℕ) → AllDigits 10 ds → 0 < length ds → digits_value 10 ds < 2 ^ 64 → length (decimal (digits_value 10 ds)) ≤ length ds
digits_short ds all some fits = length-decimal-le (length ds) (digits_value 10 ds) some (digits_value-lt 10 ds all) fits

-- an integer in decimal is no longer than the text that it was read from
integer_short : (bs : List ℕ) → is_integer (scan bs) ≡ true → digits_of (scan bs) < 2 ^ 64 → length (decimal (digits_of (scan bs))) ≤ length bs
integer_short bs whole fits =
    let p = scan bs in
    let tests = and_parts (nat_lt 0 (length p.whole) && not p.point) (length p.exponent == 0) whole in
    let first = and_parts (nat_lt 0 (length p.whole)) (not p.point) tests.0 in
    let alone : p.whole ++ p.fraction ≡ p.whole = ap (λ (ds : List ℕ). p.whole ++ ds) (no_fraction bs (not-true p.point first.1)) ∙ append-nil p.whole in
    let value : digits_of p ≡ digits_value 10 p.whole = ap (digits_value 10) alone in
    omega (arith, whole_within bs, ap (λ n. length (decimal n)) value, digits_short p.whole (scan_numeral-AllDigits bs).0 (ltb-true 0 (length p.whole) first.0) (omega arith))

signed_short : (n l : ℕ) → length (decimal n) + 1 ≤ l → length (signed_decimal (neg_ℤ (pos n))) ≤ l
signed_short zero l h = omega arith
signed_short (suc n) l h = omega arith

from_short : (sign : Bool) (bs : List ℕ) (n : ℕ) → length bs ≤ n → (sign ≡ true → length bs + 1 ≤ n) → NumberIn n (number_from sign (scan bs))
from_short false bs n le less =
    number_if n (is_integer (scan bs) && nat_lt (digits_of (scan bs)) (2 ^ 64)) (Some (unsigned (digits_of (scan bs)))) (float_of false (scan bs))
    (λ e.
    let tests = and_parts (is_integer (scan bs)) (nat_lt (digits_of (scan bs)) (2 ^ 64)) e in
    omega (arith, integer_short bs tests.0 (ltb-true (digits_of (scan bs)) (2 ^ 64) tests.1)))
    (float_short n _ _ (omega arith))
from_short true bs n le less =
    let value = digits_of (scan bs) in
    number_if n (is_integer (scan bs) && nat_lt 0 value && nat_le value (2 ^ 63)) (Some (negative (neg_ℤ (pos value)))) (float_of true (scan bs))
    (λ e.
    let tests = and_parts (is_integer (scan bs) && nat_lt 0 value) (nat_le value (2 ^ 63)) e in
    let fits = leb-true value (2 ^ 63) tests.1 in
    signed_short value n (omega (arith, less refl, integer_short bs (and_parts (is_integer (scan bs)) (nat_lt 0 value) tests.0).0 (omega arith))))
    (float_short n _ _ (omega arith))

minus_first : (s : List ℕ) → (slice_index s 0 == 45) ≡ true → length (drop 1 s) + 1 ≤ length s
minus_first [] e = absurd (true≢false (sym e))
minus_first (x ∷ xs) e = omega arith

number_short : (s : List ℕ) → NumberIn (length s) (number_of s)
unfolding number_of
number_short s = go (slice_index s 0 == 45) refl
  where
    go : (b : Bool) → (slice_index s 0 == 45) ≡ b → NumberIn (length s) (cond b (number_from true (scan (drop 1 s))) (number_from false (scan s)))
    go true e = from_short true (drop 1 s) (length s) (omega (arith, minus_first s e)) (λ _. minus_first s e)
    go false e = from_short false s (length s) (omega arith) (λ f. absurd (true≢false (sym f)))

-- ---- values

abbrev ValueIn : {A : Type 0} → (A → ℕ) → ℕ → Option A → Type 0
ValueIn size n None = ⊤
ValueIn size n (Some x) = size x ≤ n

value_map : {A B : Type 0} (f : A → ℕ) (g : B → ℕ) (m n : ℕ) (h : A → B) (o : Option A) → ValueIn f m o → ((x : A) → f x ≤ m → g (h x) ≤ n) → ValueIn g n (option_map h o)
value_map f g m n h None within more = tt
value_map f g m n h (Some x) within more = more x within

value_then : {A B : Type 0} (f : A → ℕ) (g : B → ℕ) (m n : ℕ) (h : A → Option B) (o : Option A) → ValueIn f m o → ((x : A) → f x ≤ m → ValueIn g n (h x)) → ValueIn g n (option_and_then h o)
value_then f g m n h None within more = tt
value_then f g m n h (Some x) within more = more x within

value_weaken : {A : Type 0} (f : A → ℕ) (m n : ℕ) (o : Option A) → ValueIn f m o → m ≤ n → ValueIn f n o
value_weaken f m n None within le = tt
value_weaken f m n (Some x) within le = omega arith

number_value : (s : List ℕ) (o : Option Num) → NumberIn (length s) o → ValueIn (λ d. length (compact_text d) + 1) (length s + 1 + 0) (option_map number o)
number_value s None h = tt
number_value s (Some x) h = omega arith

-- a value's text, with a comma or a colon
abbrev value_size : Data → ℕ
value_size d = length (compact_text d) + 1

abbrev items_size : Items → ℕ
items_size ds = length (items_text true ds)

abbrev members_size : Members → ℕ
members_size ms = length (members_text true ms)

comma_more : (b : Bool) (xs : List ℕ) → length (comma_if b ++ xs) ≤ length xs + 1
comma_more true xs = omega arith
comma_more false xs = omega arith

items_first : (ds : Items) → length (items_text false ds) ≤ items_size ds
items_first no_items = omega arith
items_first (item d ds) = omega arith

members_first : (ms : Members) → length (members_text false ms) ≤ members_size ms
members_first no_members = omega arith
members_first (member k d ms) = omega arith

boolean_size : (b : Bool) → value_size (boolean b) ≤ 6
boolean_size true = omega arith
boolean_size false = omega arith

quoted_size : (s : List ℕ) → length (quoted s) ≡ length (escape s) + 2
quoted_size s = omega (arith, length-append (escape s) (34 ∷ []))

one_member : (k : List ℕ) (d : Data) (ms : Members) → members_size (member k d ms) ≡ length (quoted k) + length (compact_text d) + 2 + members_size ms
one_member k d ms = omega (arith, length-append (quoted k) (58 ∷ (compact_text d ++ members_text true ms)), length-append (compact_text d) (members_text true ms))

ordered : (o : Ordering) (a b c : Members) (n : ℕ) → members_size a ≤ n → members_size b ≤ n → members_size c ≤ n → members_size (match_ordering o a b c) ≤ n
ordered Less a b c n p q r = p
ordered Equal a b c n p q r = q
ordered Greater a b c n p q r = r

-- a member more adds its text, or takes the place of another's
put_size : (k : List ℕ) (d : Data) (ms : Members) → members_size (put k d ms) ≤ members_size ms + length (quoted k) + length (compact_text d) + 2
put_size k d no_members = omega (arith, one_member k d no_members)
put_size k d (member l e ms) =
    let n = members_size (member l e ms) + length (quoted k) + length (compact_text d) + 2 in
    ordered (slice_cmp nat_cmp k l) (member k d (member l e ms)) (member l d ms) (member l e (put k d ms)) n (omega (arith, one_member k d (member l e ms)))
    (omega (arith, one_member l d ms, one_member l e ms)) (omega (arith, one_member l e (put k d ms), one_member l e ms, put_size k d ms))

mutual
  value_short : (j : json.Json) → ValueIn value_size (tokens_size (json_tokens j)) (of_json j)
  value_short json.null = omega arith
  value_short (json.boolean b) = omega (arith, boolean_size b)
  value_short (json.number s) = number_value s (number_of s) (number_short s)
  value_short (json.string s) = omega (arith, quoted_size s)
  value_short (json.array js) =
      let n = tokens_size (items_tokens js) in value_map items_size value_size n (2 + n) array (of_items js) (items_short js) (λ ds h. omega (arith, items_first ds))
  value_short (json.object ms) =
      let n = tokens_size (members_tokens ms) in
      value_map (λ found. members_size found + 2) value_size (n + 1) (2 + n) object (of_members ms no_members) (members_short ms no_members) (λ found h. omega (arith, members_first found))

  items_short : (js : json.Items) → ValueIn items_size (tokens_size (items_tokens js)) (of_items js)
  items_short json.no_items = omega arith
  items_short (json.item j js) =
      let m = tokens_size (json_tokens j) in
      let n = tokens_size (items_tokens js) in
      let all = tokens_size (json_tokens j ++ items_tokens js) in
      value_then value_size items_size m all _ (of_json j) (value_short j)
      (λ d h. value_map items_size items_size n all (item d) (of_items js) (items_short js)
      (λ ds g. omega (arith, tokens_size-append (json_tokens j) (items_tokens js), length-append (compact_text d) (items_text true ds))))

  members_short : (ms : json.Members) (found : Members) → ValueIn (λ now. members_size now + 2) (tokens_size (members_tokens ms) + members_size found) (of_members ms found)
  members_short json.no_members found = omega arith
  members_short (json.member k j ms) found =
      let size = λ (now : Members). members_size now + 2 in
      let m = tokens_size (json_tokens j) in
      let n = tokens_size (members_tokens ms) in
      let all = tokens_size (members_tokens (json.member k j ms)) + members_size found in
      value_then value_size size m all _ (of_json j) (value_short j)
      (λ d h. value_weaken size (n + members_size (put k d found)) all (of_members ms (put k d found)) (members_short ms (put k d found))
      (omega (arith, put_size k d found, quoted_size k, tokens_size-append (json_tokens j) (members_tokens ms))))

-- ---- a text

last_short : (n : ℕ) (o : Option (json.Json × List Token)) → ((j : json.Json) (rest : List Token) → o ≡ Some (j, rest) → tokens_size (json_tokens j) ≤ n)
    → ValueIn value_size n (option_and_then of_json (option_and_then (λ p. json.if_last p.0 p.1) o))
last_short n None within = tt
last_short n (Some (j, [])) within = value_weaken value_size (tokens_size (json_tokens j)) n (of_json j) (value_short j) (within j [] refl)
last_short n (Some (j, t ∷ rest)) within = tt

pub read_short : (text : List ℕ) (d : Data) → read text ≡ Some d → length (compact_text d) + 1 ≤ 2 * length text
read_short text d e =
    subst (ValueIn value_size (2 * length text)) e
    (last_short (2 * length text) (json.value max_depth (tokens text))
    (λ j rest is.
    omega (arith, tokens_short text, ap tokens_size (value-json_tokens_back max_depth (tokens text) rest j is), tokens_size-append (json_tokens j) rest)))

-- ---- members

-- the members' names and texts
abbrev pub texts_size : Members → ℕ
texts_size no_members = 0
texts_size (member k d ms) = length k + length (text_of d) + texts_size ms

escape_longer : (s : List ℕ) → length s ≤ length (escape s)
escape_longer [] = omega arith
escape_longer (x ∷ s) = omega (arith, byte_escape x, escape_longer s, length-append (escape_byte x) (escape s))

text_short : (d : Data) → length (text_of d) ≤ length (compact_text d)
text_short null = omega arith
text_short (boolean b) = omega arith
text_short (number n) = omega arith
text_short (string s) = omega (arith, quoted_size s, escape_longer s)
text_short (array ds) = omega arith
text_short (object ms) = omega arith

texts_short : (ms : Members) → texts_size ms ≤ members_size ms
texts_short no_members = omega arith
texts_short (member k d ms) = omega (arith, texts_short ms, text_short d, one_member k d ms, quoted_size k, escape_longer k)

-- a member at the front has no comma before it
first_texts_short : (ms : Members) → texts_size ms ≤ length (compact_text (object ms))
first_texts_short no_members = omega arith
first_texts_short (member k d ms) =
    omega (arith, texts_short ms, text_short d, quoted_size k, escape_longer k, length-append (quoted k) (58 ∷ (compact_text d ++ members_text true ms)), length-append (compact_text d) (members_text true ms))

pub members_within : (text : List ℕ) (ms : Members) → read text ≡ Some (object ms) → texts_size ms ≤ 2 * length text
members_within text ms e = omega (arith, read_short text (object ms) e, first_texts_short ms)
