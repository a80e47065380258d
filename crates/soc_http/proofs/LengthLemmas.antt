-- Lengths that digits state, and lines that are gathered one by one.
use Rattle.std.proofs.Common.{◌≡◌, ℕ, ◌<◌, ◌≤◌, ◌&&◌, ◌||◌, Bool, true, false, List, [], ◌∷◌, ◌++◌, length, map, filter, refl, sym, ap, subst, ◌∙◌, arith, nat_le, nat_lt, if◌then◌else◌, append-nil, codes}
use Rattle.std.proofs.lemmas.List.{map-append}
use Rattle.std.proofs.lemmas.List.Elements.{filter-append}
use Rattle.std.proofs.lemmas.List.Folds.{list_any-append}
use Rattle.std.proofs.lemmas.Bool.Decides.{Decides-and, Decides-ltb, nat_tests}
use Rattle.std.specs.List.{list_all, list_any}
use Rattle.std.specs.Char.{digit_value, is_ascii_digit}
use Rattle.std.specs.Str.Parse.{digits_value, AllDigits}
use Rattle.std.specs.Bool.{Decides}
use Rattle.soc_base.proofs.Folk.{not_true, or_false}
use Rattle.soc_text.specs.Digits.{IsNumber}
use Rattle.soc_http.specs.declared.framing.Framing.{Framing}
use Rattle.soc_http.specs.declared.framing.Stated.{Stated}
use Rattle.soc_http.specs.declared.framing.Stated.TheVariants.{Nothing, Length, Bad}
use Rattle.soc_http.specs.Request.{Line, is_named, values_of, stated, digit_limit, is_length, is_coding, is_close}
use Rattle.soc_http.specs.inner.Framing.{framing_of, stated_more, stated_by_line}

digit-is : (b : ℕ) → Decides (is_ascii_digit b) (digit_value b < 10)
digit-is b = grind (arith, nat_tests)

digits-are : (bytes : List ℕ) → Decides (list_all is_ascii_digit bytes) (AllDigits 10 bytes)
digits-are [] = (λ _. tt, λ _. refl)
digits-are (b ∷ bs) = Decides-and (is_ascii_digit b) (list_all is_ascii_digit bs) (digit-is b) (digits-are bs)

at-most : (a b : ℕ) → Decides (nat_le a b) (a ≤ b)
at-most a b = grind (arith, nat_tests)

-- 1 to 19 digits
length-is : (value : List ℕ) → Decides (is_length value) (IsNumber 19 value)
length-is value =
    let parts = Decides-and (nat_lt 0 (length value)) (nat_le (length value) digit_limit && list_all is_ascii_digit value) (Decides-ltb 0 (length value))
    (Decides-and (nat_le (length value) digit_limit) (list_all is_ascii_digit value) (at-most (length value) digit_limit) (digits-are value)) in
    (λ e. let p = parts.0 e in (p.1.0, (p.0, p.1.1)), λ p. parts.1 (p.1.0, (p.0, p.1.1)))

-- such a value states its number, another one states nothing that can be taken
pub stated-number : (so_far : Stated) (value : List ℕ) (n : ℕ) → so_far ≡ Nothing → IsNumber 19 value → n ≡ digits_value 10 value → Length n ≡ stated_more so_far value
stated-number so_far value n none is e = rw (none, (length-is value).1 is, e) refl

pub stated-other : (so_far : Stated) (value : List ℕ) → so_far ≡ Nothing → ¬ (IsNumber 19 value) → Bad ≡ stated_more so_far value
stated-other so_far value none not = rw (none, not_true (is_length value) (λ e. not ((length-is value).0 e))) refl

-- ---- lines

stated-snoc : (values : List (List ℕ)) (value : List ℕ) → stated (values ++ value ∷ []) ≡ stated_more (stated values) value
stated-snoc [] value = refl
stated-snoc (one ∷ []) value =
    elim (is_length one) as (λ b. Bad ≡ stated_more (if b then Length (digits_value 10 one) else Bad) value)
    [ true ↦ refl | false ↦ refl ]
stated-snoc (one ∷ two ∷ more) value = refl

values_of-snoc : (name : List ℕ) (lines : List Line) (line : Line)
    → values_of name (lines ++ line ∷ []) ≡ values_of name lines ++ (if is_named name line then line.1 ∷ [] else [])
values_of-snoc name lines line =
    ap (map (λ (l : Line). l.1)) (filter-append (is_named name) lines (line ∷ []))
    ∙ map-append (λ (l : Line). l.1) (filter (is_named name) lines) (filter (is_named name) (line ∷ []))
    ∙ ap (λ v. values_of name lines ++ v) (last (is_named name line))
  where
    last : (b : Bool) → map (λ (l : Line). l.1) (if b then line ∷ [] else []) ≡ (if b then line.1 ∷ [] else [])
    last true = refl
    last false = refl

stated_by_line-snoc : (lines : List Line) (line : Line)
    → stated (values_of (codes "content-length") (lines ++ line ∷ [])) ≡ stated_by_line (stated (values_of (codes "content-length") lines)) line
stated_by_line-snoc lines line =
    ap stated (values_of-snoc (codes "content-length") lines line) ∙ step (is_named (codes "content-length") line)
  where
    before : List (List ℕ)
    before = values_of (codes "content-length") lines

    step : (b : Bool) → stated (before ++ (if b then line.1 ∷ [] else [])) ≡ (if b then stated_more (stated before) line.1 else stated before)
    step true = stated-snoc before line.1
    step false = ap stated (append-nil before)

list_any-snoc : (p : Line → Bool) (lines : List Line) (line : Line) → list_any p (lines ++ line ∷ []) ≡ (list_any p lines || p line)
list_any-snoc p lines line = list_any-append p lines (line ∷ []) ∙ ap (λ b. list_any p lines || b) (or_false (p line))

abbrev pub framing : Stated → Bool → Bool → Framing
framing s c d = record { stated = s; coded = c; close = d }

same_framing : {s t : Stated} {b c d e : Bool} → s ≡ t → b ≡ c → d ≡ e → framing s b d ≡ framing t c e
same_framing p q r = λ i. framing (p i) (q i) (r i)

-- one line more
pub framing_of-snoc : (lines : List Line) (line : Line) (now : Framing) → now ≡ framing_of lines
    → framing (stated_by_line now.stated line) (now.coded || is_coding line) (now.close || is_close line) ≡ framing_of (lines ++ line ∷ [])
framing_of-snoc lines line now e = subst
    (λ (f : Framing). framing (stated_by_line f.stated line) (f.coded || is_coding line) (f.close || is_close line) ≡ framing_of (lines ++ line ∷ []))
    (sym e)
    (same_framing (sym (stated_by_line-snoc lines line)) (sym (list_any-snoc is_coding lines line)) (sym (list_any-snoc is_close lines line)))
