-- What a draw, a digit and a day make is an id, and an id is ASCII.
use Rattle.std.proofs.Common.{drop, eq-eqb, pos, ◌≡◌, ℕ, zero, suc, ◌+◌, ◌-◌, ◌/◌, ◌%◌, ◌<◌, List, [], ◌∷◌, ◌++◌, length, length-append, take, get_or, Bool, true, false, ◌==◌, ◌&&◌, ◌||◌, nat_lt, if◌then◌else◌, refl, sym, ◌∙◌, ap, subst, arith, inl, inr}
use Rattle.std.proofs.lemmas.Bool.{cases_lt, eqb-true}
use Rattle.std.proofs.lemmas.Bool.Decides.{nat_tests}
use Rattle.std.proofs.lemmas.List.{get_or_past, get_or-append_right, length-take-le, get_or-take, length-drop, append-nil}
use Rattle.std.proofs.lemmas.Str.{IsUtf8-from_ascii}
use Rattle.std.specs.Str.{IsAscii, IsUtf8}
use Rattle.std.specs.List.{list_all, enumerate_from}
use Rattle.std.specs.Char.{is_ascii_digit}
use Rattle.std.proofs.Math.ListN.{drop_of_length-le}
use borrow.Rule.Slice.PartMut.{put_mid}
use Rattle.uuid.specs.Text.{hyphenated_text, is_hyphen_place, hyphen, hex_digit, nibble, digit_place, lower}
use Rattle.uuid.proofs.TextLemmas.{by_index_length, by_index_at, nibble_small}
use Rattle.soc_text.specs.Digits.{is_lower_hex, two_digits, two_digits_value}
use Rattle.soc_raw.specs.declared.day.Date.{Date}
use Rattle.soc_raw.specs.declared.digit.Digit.{Digit}
use Rattle.soc_raw.specs.declared.digit.Digit.TheVariants.{Accepted, Deferred}
use Rattle.soc_raw.proofs.Calendar.{two_digits_do}
use Rattle.soc_raw.specs.Day.{is_civil, IsDay}
use Rattle.soc_raw.specs.Digit.{digit_code}
use Rattle.soc_raw.specs.CrashId.{as_version_4, day_text, id_text, may_stand, pair_at, is_id, has_form}

abbrev pub each_stands : ℕ → List ℕ → Bool
each_stands n xs = list_all (λ p. may_stand p.0 p.1) (enumerate_from n xs)

and_left : (a b : Bool) → a && b ≡ true → a ≡ true
and_left true b e = refl
and_left false b e = e

and_right : (a b : Bool) → a && b ≡ true → b ≡ true
and_right true b e = e
and_right false b e = cc

and_both : (a b : Bool) → a ≡ true → b ≡ true → a && b ≡ true
and_both true b p q = q
and_both false b p q = p

stands_at : (n : ℕ) (xs : List ℕ) → each_stands n xs ≡ true → (k : ℕ) → k < length xs → may_stand (n + k) (get_or xs k 0) ≡ true
stands_at n [] all k inside = absurd (omega arith)
stands_at n (x ∷ xs) all zero inside = (let e : n + 0 ≡ n = omega arith in rw e (and_left (may_stand n x) _ all))
stands_at n (x ∷ xs) all (suc k) inside = (let e : n + suc k ≡ (n + 1) + k = omega arith in rw e (stands_at (n + 1) xs (and_right (may_stand n x) _ all) k (omega arith)))

each_from_at : (n : ℕ) (xs : List ℕ) → ((k : ℕ) → k < length xs → may_stand (n + k) (get_or xs k 0) ≡ true) → each_stands n xs ≡ true
each_from_at n [] at = refl
each_from_at n (x ∷ xs) at =
    let here : may_stand n x ≡ true = (let e : n + 0 ≡ n = omega arith in rw e at (at 0 (omega arith))) in
    let there : each_stands (n + 1) xs ≡ true = each_from_at (n + 1) xs (λ k inside. let e : n + suc k ≡ (n + 1) + k = omega arith in rw e at (at (suc k) (omega arith))) in
    and_both (may_stand n x) (each_stands (n + 1) xs) here there

-- a byte that may not stand where it stands
pub one_may_not : (text : List ℕ) (i : ℕ) (r : Bool) → i < length text → r ≡ may_stand i (get_or text i 0) → r ≡ false → false ≡ each_stands 0 text
one_may_not text i r inside is refused =
    let same : 0 + i ≡ i = omega arith in
    elim (each_stands 0 text) as (λ e. each_stands 0 text ≡ e → false ≡ e) [
      | true ↦ λ all. sym refused ∙ is ∙ (rw same at (stands_at 0 text all i inside))
      | false ↦ λ _. refl
    ] refl

pub all_may : (text : List ℕ) → ((k : ℕ) → k < length text → may_stand k (get_or text k 0) ≡ true) → true ≡ each_stands 0 text
all_may text at = sym (each_from_at 0 text (λ k inside. let same : 0 + k ≡ k = omega arith in rw same (at k inside)))

each_append : (n m : ℕ) (xs ys : List ℕ) → m ≡ n + length xs → each_stands n xs ≡ true → each_stands m ys ≡ true → each_stands n (xs ++ ys) ≡ true
each_append n m [] ys e front back = (let same : n ≡ m = omega arith in rw same back)
each_append n m (x ∷ xs) ys e front back =
    and_both (may_stand n x) (each_stands (n + 1) (xs ++ ys)) (and_left (may_stand n x) _ front)
    (each_append (n + 1) m xs ys (omega arith) (and_right (may_stand n x) _ front) back)

-- a byte that may stand in an id is ASCII
small : (place byte : ℕ) → may_stand place byte ≡ true → byte < 128
small place byte h = grind (arith, nat_tests)

pub id_ascii : (text : List ℕ) → is_id text ≡ true → IsAscii text
unfolding is_id
id_ascii text h i =
    let form = and_left (has_form text) _ h in
    let all = and_right (length text == 36) (each_stands 0 text) form in
    elim (cases_lt i (length text)) [
      | inl inside ↦ small (0 + i) (get_or text i 0) (stands_at 0 text all i inside)
      | inr past ↦ rw (get_or_past text i 0 past) (omega arith)
    ]

pub id_len : (text : List ℕ) → is_id text ≡ true → length text ≡ 36
unfolding is_id
id_len text h =
    let len : (length text == 36) ≡ true = and_left (length text == 36) (each_stands 0 text) (and_left (has_form text) _ h) in
    eqb-true _ _ len

pub id_utf8 : (text : List ℕ) → is_id text ≡ true → IsUtf8 text
id_utf8 text h = IsUtf8-from_ascii text (id_ascii text h)

-- hyphens and hexadecimal digits stand in the front
hex_stands : (b : Bool) (k d : ℕ) → k < 29 → d < 16 → (if b then (if b then hyphen else hex_digit lower d) == hyphen else if nat_lt k 29 then is_lower_hex (if b then hyphen else hex_digit lower d) else if k == 29 then ((if b then hyphen else hex_digit lower d) == 48) || ((if b then hyphen else hex_digit lower d) == 49) else is_ascii_digit (if b then hyphen else hex_digit lower d)) ≡ true
hex_stands true k d front low = refl
hex_stands false k d front low = grind (arith, nat_tests)

front_byte : (bytes : List ℕ) (k : ℕ) → k < 29 → get_or (take 29 (hyphenated_text lower bytes)) k 0 ≡ (if is_hyphen_place k then hyphen else hex_digit lower (nibble bytes (digit_place k)))
front_byte bytes k front =
    get_or-take 29 (hyphenated_text lower bytes) k 0 front
    ∙ by_index_at 36 (λ j. if is_hyphen_place j then hyphen else hex_digit lower (nibble bytes (digit_place j))) k 0 (omega arith)

pub front_len : (bytes : List ℕ) → length (take 29 (hyphenated_text lower bytes)) ≡ 29
front_len bytes =
    let len = by_index_length 36 (λ k. if is_hyphen_place k then hyphen else hex_digit lower (nibble bytes (digit_place k))) in
    length-take-le 29 (hyphenated_text lower bytes) (omega arith)

stands_same : (k byte other : ℕ) → byte ≡ other → may_stand k other ≡ true → may_stand (0 + k) byte ≡ true
stands_same k byte other e h = (let z : 0 + k ≡ k = omega arith in rw (z, e) h)

pub front_stands : (bytes : List ℕ) → each_stands 0 (take 29 (hyphenated_text lower bytes)) ≡ true
front_stands bytes =
    each_from_at 0 (take 29 (hyphenated_text lower bytes)) (λ k inside.
    let len = front_len bytes in
    let front : k < 29 = omega arith in
    stands_same k _ _ (front_byte bytes k front) (hex_stands (is_hyphen_place k) k (nibble bytes (digit_place k)) front (nibble_small bytes (digit_place k))))

two_back : (n : ℕ) → n < 100 → two_digits_value (48 + n / 10) (48 + n % 10) ≡ n
two_back n few = omega arith

digit_stands : (d : ℕ) → d < 10 → is_ascii_digit (48 + d) ≡ true
digit_stands d ten = grind (arith, nat_tests)

pairs_stand : (y m d : ℕ) → y < 100 → m < 100 → d < 100 → each_stands 30 (two_digits y ++ (two_digits m ++ two_digits d)) ≡ true
pairs_stand y m d fy fm fd =
    and_both (is_ascii_digit (48 + y / 10)) _ (digit_stands (y / 10) (omega arith))
    (and_both (is_ascii_digit (48 + y % 10)) _ (digit_stands (y % 10) (omega arith))
    (and_both (is_ascii_digit (48 + m / 10)) _ (digit_stands (m / 10) (omega arith))
    (and_both (is_ascii_digit (48 + m % 10)) _ (digit_stands (m % 10) (omega arith))
    (and_both (is_ascii_digit (48 + d / 10)) _ (digit_stands (d / 10) (omega arith))
    (and_both (is_ascii_digit (48 + d % 10)) true (digit_stands (d % 10) (omega arith)) refl)))))

tail_stands : (digit : Digit) (y m d : ℕ) → y < 100 → m < 100 → d < 100 → each_stands 29 (digit_code digit ∷ (two_digits y ++ (two_digits m ++ two_digits d))) ≡ true
tail_stands Accepted y m d fy fm fd = pairs_stand y m d fy fm fd
tail_stands Deferred y m d fy fm fd = pairs_stand y m d fy fm fd

civil_same : (a b c x y z : ℕ) → a ≡ x → b ≡ y → c ≡ z → is_civil x y z ≡ true → is_civil a b c ≡ true
civil_same a b c x y z p q r h = rw (p, q, r) h

pair_in_tail : (front tail : List ℕ) (k n : ℕ) → length front ≡ 29 → get_or tail k 0 ≡ 48 + n / 10 → get_or tail (k + 1) 0 ≡ 48 + n % 10 → n < 100 → pair_at (front ++ tail) (29 + k) ≡ n
pair_in_tail front tail k n len tens ones few =
    let first : get_or (front ++ tail) (29 + k) 0 ≡ 48 + n / 10 = get_or-append_right front tail 29 (29 + k) 0 len (omega arith) ∙ ap (λ i. get_or tail i 0) (let e : 29 + k - 29 ≡ k = omega arith in e) ∙ tens in
    let second : get_or (front ++ tail) (29 + k + 1) 0 ≡ 48 + n % 10 = get_or-append_right front tail 29 (29 + k + 1) 0 len (omega arith) ∙ ap (λ i. get_or tail i 0) (let e : 29 + k + 1 - 29 ≡ k + 1 = omega arith in e) ∙ ones in
    rw (first, second) (two_back n few)

pub stamped_is_id : (front : List ℕ) (digit : Digit) (d : Date) → length front ≡ 29 → each_stands 0 front ≡ true → IsDay d → is_id (front ++ (digit_code digit ∷ day_text d)) ≡ true
unfolding is_id
stamped_is_id front digit d len stands day =
    let tail = digit_code digit ∷ day_text d in
    let few = two_digits_do d day in
    let low = day.year_low in
    let high = day.year_high in
    let y_few : d.year - 2000 < 100 = omega arith in
    let whole : length (front ++ (digit_code digit ∷ day_text d)) ≡ 36 = omega (arith, length-append front (digit_code digit ∷ day_text d)) in
    let year : pair_at (front ++ (digit_code digit ∷ day_text d)) 30 ≡ d.year - 2000 = pair_in_tail front (digit_code digit ∷ day_text d) 1 (d.year - 2000) len refl refl y_few in
    let month : pair_at (front ++ (digit_code digit ∷ day_text d)) 32 ≡ d.month = pair_in_tail front (digit_code digit ∷ day_text d) 3 d.month len refl refl few.0 in
    let number : pair_at (front ++ (digit_code digit ∷ day_text d)) 34 ≡ d.day = pair_in_tail front (digit_code digit ∷ day_text d) 5 d.day len refl refl few.1 in
    let is_year : 2000 + pair_at (front ++ (digit_code digit ∷ day_text d)) 30 ≡ d.year = omega arith in
    and_both _ _
    (and_both _ _ (eq-eqb _ 36 whole) (each_append 0 29 front (digit_code digit ∷ day_text d) (omega arith) stands (tail_stands digit (d.year - 2000) d.month d.day y_few few.0 few.1)))
    (civil_same _ _ _ _ _ _ is_year month number day.civil)

pub made_is_id : (text draw : List ℕ) (digit : Digit) (d : Date) → text ≡ id_text draw digit d → IsDay d → is_id text ≡ true
unfolding id_text
made_is_id text draw digit d e day =
    let P : List ℕ → Type 0 = λ t. is_id t ≡ true in
    subst P (sym e) (stamped_is_id (take 29 (hyphenated_text lower (as_version_4 draw))) digit d (front_len (as_version_4 draw)) (front_stands (as_version_4 draw)) day)

pub hyphenated_len : (bytes : List ℕ) → length (hyphenated_text lower bytes) ≡ 36
hyphenated_len bytes = by_index_length 36 (λ k. if is_hyphen_place k then hyphen else hex_digit lower (nibble bytes (digit_place k)))

-- the end of a list replaced
pub end_replaced : (a k : ℕ) (xs ys : List ℕ) → a + k ≡ length xs → put_mid a k xs ys ≡ take a xs ++ ys
end_replaced a k xs ys whole =
    let none : drop k (drop a xs) ≡ [] = drop_of_length-le (drop a xs) {i = k} (omega (arith, length-drop a xs)) in
    ap (λ t. take a xs ++ (ys ++ t)) none ∙ ap (λ t. take a xs ++ t) (append-nil ys)

pub stamped_text : (text tail now back : List ℕ) → length text ≡ 36 → now ≡ text → back ≡ tail → put_mid 29 7 now back ≡ take 29 text ++ tail
stamped_text text tail now back len same is_tail =
    end_replaced 29 7 now back (let e = ap length same in omega arith) ∙ ap (λ t. take 29 t ++ back) same ∙ ap (λ t. take 29 text ++ t) is_tail

pub id_made : (text stamped draw : List ℕ) (digit : Digit) (d day : Date) → text ≡ hyphenated_text lower (as_version_4 draw) → d ≡ day → stamped ≡ take 29 text ++ (digit_code digit ∷ day_text d) → stamped ≡ id_text draw digit day
unfolding id_text
id_made text stamped draw digit d day is_text is_day is =
    is ∙ ap (λ t. take 29 t ++ (digit_code digit ∷ day_text d)) is_text ∙ ap (λ e. take 29 (hyphenated_text lower (as_version_4 draw)) ++ (digit_code digit ∷ day_text e)) is_day

pub real_of : (d day : Date) → d ≡ day → IsDay d → IsDay day
real_of d day e h = subst IsDay e h
