-- Spaces of a C++ name, a run at a time.
use Rattle.std.proofs.Common.{◌≡◌, ◌≢◌, ℕ, ◌+◌, ◌-◌, ◌<◌, ◌≤◌, zero, suc, Bool, true, false, cond, ◌&&◌, not, nat_eq, List, [], ◌∷◌, ◌++◌, length, take, drop, codes, get_or, refl, ap, sym, ◌∙◌, arith, append_assoc, length-drop}
use Rattle.std.proofs.lemmas.Bool.Decides.{nat_tests}
use Rattle.std.proofs.lemmas.List.{drop-drop, drop_more, get_or-drop}
use Rattle.std.proofs.lemmas.List.Sums.{prefix_len-le-length, prefix_len_passes, prefix_len_stops}
use Rattle.std.proofs.lemmas.Str.{IsCharBoundary-after_ascii}
use Rattle.std.specs.List.{prefix_len}
use Rattle.std.specs.Option.{option_map_or}
use Rattle.std.specs.Prelude.{Option, slice_get}
use Rattle.std.specs.Str.{IsUtf8, IsCharBoundary}
use Rattle.soc_text.specs.Blanks.{space}
use Rattle.soc_frames.specs.Cpp.{comma, is_mark, comes_to_mark, spaced_from}
use Rattle.soc_frames.specs.inner.Spaces.{is_space_byte, is_inner}

one_and : (n : ℕ) → 1 + n ≡ suc n
one_and n = omega arith

abbrev spaces : List ℕ → ℕ
spaces text = prefix_len is_space_byte text

-- ---- behind a comma

skip_cases : (is : Bool) (byte : ℕ) (rest : List ℕ) → spaced_from true rest ≡ spaced_from false (drop (spaces rest) rest)
    → cond is (spaced_from true rest) (cond (nat_eq byte comma) (codes ", " ++ spaced_from true rest) (byte ∷ spaced_from false rest))
    ≡ cond is (spaced_from false (drop (spaces rest) rest)) (cond (nat_eq byte comma) (codes ", " ++ spaced_from true rest) (byte ∷ spaced_from false rest))
skip_cases true byte rest e = e
skip_cases false byte rest e = refl

dropped : (is : Bool) (byte : ℕ) (rest : List ℕ) → nat_eq byte space ≡ is
    → cond is (spaced_from false (drop (spaces rest) rest)) (cond (nat_eq byte comma) (codes ", " ++ spaced_from true rest) (byte ∷ spaced_from false rest))
    ≡ spaced_from false (drop (cond is (1 + spaces rest) 0) (byte ∷ rest))
dropped true byte rest e = ap (λ n. spaced_from false (drop n (byte ∷ rest))) (sym (one_and (spaces rest)))
dropped false byte rest e =
    ap (λ is. cond is (cond (comes_to_mark rest) (spaced_from false rest) (byte ∷ spaced_from false rest)) (cond (nat_eq byte comma) (codes ", " ++ spaced_from true rest) (byte ∷ spaced_from false rest))) (sym e)

behind_comma : (text : List ℕ) → spaced_from true text ≡ spaced_from false (drop (spaces text) text)
behind_comma [] = refl
behind_comma (byte ∷ rest) = skip_cases (nat_eq byte space) byte rest (behind_comma rest) ∙ dropped (nat_eq byte space) byte rest refl

-- ---- spaces

run_cases : (is : Bool) (byte : ℕ) (rest : List ℕ) (comes mark : Bool) → nat_eq byte space ≡ is
    → spaced_from false rest ≡ cond comes (spaced_from false (drop (spaces rest) rest)) (take (spaces rest) rest ++ spaced_from false (drop (spaces rest) rest))
    → cond is (cond comes (spaced_from false rest) (byte ∷ spaced_from false rest)) (cond (nat_eq byte comma) (codes ", " ++ spaced_from true rest) (byte ∷ spaced_from false rest))
    ≡ cond (cond is comes mark) (spaced_from false (drop (cond is (1 + spaces rest) 0) (byte ∷ rest))) (take (cond is (1 + spaces rest) 0) (byte ∷ rest) ++ spaced_from false (drop (cond is (1 + spaces rest) 0) (byte ∷ rest)))
run_cases true byte rest true mark e more = more ∙ ap (λ n. spaced_from false (drop n (byte ∷ rest))) (sym (one_and (spaces rest)))
run_cases true byte rest false mark e more =
    ap (λ t. byte ∷ t) more ∙ ap (λ n. take n (byte ∷ rest) ++ spaced_from false (drop n (byte ∷ rest))) (sym (one_and (spaces rest)))
run_cases false byte rest comes true e more =
    ap (λ is. cond is (cond (comes_to_mark rest) (spaced_from false rest) (byte ∷ spaced_from false rest)) (cond (nat_eq byte comma) (codes ", " ++ spaced_from true rest) (byte ∷ spaced_from false rest))) (sym e)
run_cases false byte rest comes false e more =
    ap (λ is. cond is (cond (comes_to_mark rest) (spaced_from false rest) (byte ∷ spaced_from false rest)) (cond (nat_eq byte comma) (codes ", " ++ spaced_from true rest) (byte ∷ spaced_from false rest))) (sym e)

run : (text : List ℕ) → spaced_from false text ≡ cond (comes_to_mark text) (spaced_from false (drop (spaces text) text)) (take (spaces text) text ++ spaced_from false (drop (spaces text) text))
run [] = refl
run (byte ∷ rest) = run_cases (nat_eq byte space) byte rest (comes_to_mark rest) (is_mark byte) refl (run rest)

abbrev first_mark : List ℕ → Bool
first_mark text = option_map_or is_mark (slice_get text 0) false

mark_cases : (is : Bool) (byte : ℕ) (rest : List ℕ) → comes_to_mark rest ≡ first_mark (drop (spaces rest) rest) → cond is (comes_to_mark rest) (is_mark byte) ≡ first_mark (drop (cond is (1 + spaces rest) 0) (byte ∷ rest))
mark_cases true byte rest e = e ∙ ap (λ n. first_mark (drop n (byte ∷ rest))) (sym (one_and (spaces rest)))
mark_cases false byte rest e = refl

mark_is : (text : List ℕ) → comes_to_mark text ≡ first_mark (drop (spaces text) text)
mark_is [] = refl
mark_is (byte ∷ rest) = mark_cases (nat_eq byte space) byte rest (mark_is rest)

-- what stands behind the spaces
pub first_is_mark : (text behind : List ℕ) (n : ℕ) (first : Option ℕ) → n ≡ spaces text → behind ≡ drop n text → first ≡ slice_get behind 0 → option_map_or is_mark first false ≡ comes_to_mark text
first_is_mark text behind n first is rest here =
    ap (λ o. option_map_or is_mark o false) here ∙ ap first_mark (rest ∙ ap (λ k. drop k text) is) ∙ sym (mark_is text)

-- ---- other bytes

other_cases : (is_sp is_comma : Bool) (byte : ℕ) (rest : List ℕ) → nat_eq byte space ≡ is_sp → nat_eq byte comma ≡ is_comma
    → spaced_from false rest ≡ take (prefix_len is_inner rest) rest ++ spaced_from false (drop (prefix_len is_inner rest) rest)
    → spaced_from false (byte ∷ rest) ≡ take (cond (not is_sp && not is_comma) (1 + prefix_len is_inner rest) 0) (byte ∷ rest) ++ spaced_from false (drop (cond (not is_sp && not is_comma) (1 + prefix_len is_inner rest) 0) (byte ∷ rest))
other_cases true is_comma byte rest e f more = refl
other_cases false true byte rest e f more = refl
other_cases false false byte rest e f more =
    ap (λ is. cond is (cond (comes_to_mark rest) (spaced_from false rest) (byte ∷ spaced_from false rest)) (cond (nat_eq byte comma) (codes ", " ++ spaced_from true rest) (byte ∷ spaced_from false rest))) e
    ∙ ap (λ is. cond is (codes ", " ++ spaced_from true rest) (byte ∷ spaced_from false rest)) f
    ∙ ap (λ t. byte ∷ t) more
    ∙ ap (λ n. take n (byte ∷ rest) ++ spaced_from false (drop n (byte ∷ rest))) (sym (one_and (prefix_len is_inner rest)))

others : (text : List ℕ) → spaced_from false text ≡ take (prefix_len is_inner text) text ++ spaced_from false (drop (prefix_len is_inner text) text)
others [] = refl
others (byte ∷ rest) = other_cases (nat_eq byte space) (nat_eq byte comma) byte rest refl refl (others rest)

-- ---- from a place on

pub comma_piece : (name out out' : List ℕ) (from n : ℕ) → from < length name → get_or name from 0 ≡ comma → n ≡ spaces (drop (from + 1) name) → out' ≡ out ++ codes ", "
    → out' ++ spaced_from false (drop (from + 1 + n) name) ≡ out ++ spaced_from false (drop from name)
comma_piece name out out' from n inside here is said =
    let rest = drop (from + 1) name in
    let split : drop from name ≡ comma ∷ rest = drop_more name from 0 inside ∙ ap (λ b. b ∷ rest) here in
    let skipped : spaced_from false (drop (from + 1 + n) name) ≡ spaced_from true rest =
    ap (spaced_from false) (sym (drop-drop n (from + 1) name)) ∙ ap (λ m. spaced_from false (drop m rest)) is ∙ sym (behind_comma rest) in
    ap (λ t. t ++ spaced_from false (drop (from + 1 + n) name)) said
    ∙ ap (λ t. (out ++ codes ", ") ++ t) skipped
    ∙ append_assoc out (codes ", ") (spaced_from true rest)
    ∙ ap (λ t. out ++ spaced_from false t) (sym split)

pub space_dropped : (name out : List ℕ) (from n : ℕ) → n ≡ spaces (drop from name) → comes_to_mark (drop from name) ≡ true
    → out ++ spaced_from false (drop (from + n) name) ≡ out ++ spaced_from false (drop from name)
space_dropped name out from n is mark =
    let text = drop from name in
    ap (λ t. out ++ spaced_from false t) (sym (drop-drop n from name) ∙ ap (λ m. drop m text) is)
    ∙ ap (λ t. out ++ t) (sym (run text ∙ ap (λ t. cond t (spaced_from false (drop (spaces text) text)) (take (spaces text) text ++ spaced_from false (drop (spaces text) text))) mark))

taken : (name out out' front : List ℕ) (from n : ℕ) → front ≡ take n (drop from name) → out' ≡ out ++ front → spaced_from false (drop from name) ≡ take n (drop from name) ++ spaced_from false (drop n (drop from name))
    → out' ++ spaced_from false (drop (from + n) name) ≡ out ++ spaced_from false (drop from name)
taken name out out' front from n is said split =
    let text = drop from name in
    ap (λ t. out' ++ spaced_from false t) (sym (drop-drop n from name))
    ∙ ap (λ t. t ++ spaced_from false (drop n text)) (said ∙ ap (λ t. out ++ t) is)
    ∙ append_assoc out (take n text) (spaced_from false (drop n text))
    ∙ ap (λ t. out ++ t) (sym split)

pub space_kept : (name out out' front : List ℕ) (from n : ℕ) → n ≡ spaces (drop from name) → comes_to_mark (drop from name) ≡ false → front ≡ take n (drop from name) → out' ≡ out ++ front
    → out' ++ spaced_from false (drop (from + n) name) ≡ out ++ spaced_from false (drop from name)
space_kept name out out' front from n is mark front_is said =
    let text = drop from name in
    taken name out out' front from n front_is said
    (run text ∙ ap (λ t. cond t (spaced_from false (drop (spaces text) text)) (take (spaces text) text ++ spaced_from false (drop (spaces text) text))) mark
    ∙ ap (λ m. take m text ++ spaced_from false (drop m text)) (sym is))

pub others_kept : (name out out' front : List ℕ) (from n : ℕ) → n ≡ prefix_len is_inner (drop from name) → front ≡ take n (drop from name) → out' ≡ out ++ front
    → out' ++ spaced_from false (drop (from + n) name) ≡ out ++ spaced_from false (drop from name)
others_kept name out out' front from n is front_is said =
    let text = drop from name in
    taken name out out' front from n front_is said (others text ∙ ap (λ m. take m text ++ spaced_from false (drop m text)) (sym is))

-- ---- where pieces end

-- a run stays in the name
pub run_within : (p : ℕ → Bool) (name : List ℕ) (from n : ℕ) → from ≤ length name → n ≡ prefix_len p (drop from name) → from + n ≤ length name
run_within p name from n inside is =
    let len : length (drop from name) ≡ length name - from = length-drop from name in
    let most : prefix_len p (drop from name) ≤ length (drop from name) = prefix_len-le-length p (drop from name) in
    omega arith

first_cases : (p : ℕ → Bool) (byte : ℕ) (rest : List ℕ) (passes : Bool) → p byte ≡ passes → passes ≡ true → 0 < prefix_len p (byte ∷ rest)
first_cases p byte rest true e f = let one : prefix_len p (byte ∷ rest) ≡ 1 + prefix_len p rest = ap (λ t. cond t (1 + prefix_len p rest) 0) e in omega arith
first_cases p byte rest false e f = cc

-- a run that begins has a byte
pub run_begins : (p : ℕ → Bool) (name : List ℕ) (from n : ℕ) → from < length name → n ≡ prefix_len p (drop from name) → p (get_or name from 0) ≡ true → 0 < n
run_begins p name from n inside is passes =
    let split = drop_more name from 0 inside in
    let some : 0 < prefix_len p (get_or name from 0 ∷ drop (from + 1) name) = first_cases p (get_or name from 0) (drop (from + 1) name) (p (get_or name from 0)) refl passes in
    let same : prefix_len p (drop from name) ≡ prefix_len p (get_or name from 0 ∷ drop (from + 1) name) = ap (prefix_len p) split in
    omega arith

-- the last byte of a run, and the one behind it
pub run_last : (p : ℕ → Bool) (name : List ℕ) (from n : ℕ) → n ≡ prefix_len p (drop from name) → 0 < n → p (get_or name (from + n - 1) 0) ≡ true
run_last p name from n is some =
    let at : from + (n - 1) ≡ from + n - 1 = omega arith in
    ap p (ap (λ k. get_or name k 0) (sym at) ∙ sym (get_or-drop from name (n - 1) 0))
    ∙ prefix_len_passes p (drop from name) (n - 1) 0 (omega arith)

pub run_stops : (p : ℕ → Bool) (name : List ℕ) (from n : ℕ) → n ≡ prefix_len p (drop from name) → from + n < length name → p (get_or name (from + n) 0) ≡ false
run_stops p name from n is inside =
    let len : length (drop from name) ≡ length name - from = length-drop from name in
    ap p (sym (get_or-drop from name n 0) ∙ ap (λ k. get_or (drop from name) k 0) is)
    ∙ prefix_len_stops p (drop from name) 0 (omega arith)

pub space_is_ascii : (byte : ℕ) → is_space_byte byte ≡ true → byte < 128
space_is_ascii byte e = grind (arith, nat_tests)

pub outer_is_ascii : (byte : ℕ) → is_inner byte ≡ false → byte < 128
outer_is_ascii byte e = by_cases (nat_eq byte space) (nat_eq byte comma) refl refl e
  where
    by_cases : (a b : Bool) → nat_eq byte space ≡ a → nat_eq byte comma ≡ b → (not a && not b) ≡ false → byte < 128
    by_cases true b e f g = grind (arith, nat_tests)
    by_cases false true e f g = grind (arith, nat_tests)
    by_cases false false e f g = cc

-- behind spaces
pub spaces_boundary : (name : List ℕ) (from n : ℕ) → IsUtf8 name → n ≡ spaces (drop from name) → from + n ≤ length name → IsCharBoundary name from → IsCharBoundary name (from + n)
spaces_boundary name from zero utf8 is within before = let same : from + 0 ≡ from = omega arith in rw same before
spaces_boundary name from (suc n) utf8 is within before =
    let last : is_space_byte (get_or name (from + suc n - 1) 0) ≡ true = run_last is_space_byte name from (suc n) is (omega arith) in
    let low : get_or name (from + suc n - 1) 0 < 128 = space_is_ascii (get_or name (from + suc n - 1) 0) last in
    let next : from + suc n ≡ (from + suc n - 1) + 1 = omega arith in
    rw next (IsCharBoundary-after_ascii name (from + suc n - 1) utf8 (omega arith) low)

-- before a space or a comma, or at the end
pub others_boundary : (name : List ℕ) (from n : ℕ) → n ≡ prefix_len is_inner (drop from name) → from + n ≤ length name → IsCharBoundary name (from + n)
others_boundary name from n is within =
    (within, λ inside lead. let low = outer_is_ascii (get_or name (from + n) 0) (run_stops is_inner name from n is inside) in absurd (omega (arith, low, lead)))

pub comma_is_ascii : (byte : ℕ) → byte ≡ comma → byte < 128
comma_is_ascii byte e = omega arith

pub inner_by : (byte : ℕ) → byte ≢ space → byte ≢ comma → is_inner byte ≡ true
inner_by byte e f =
    let first : nat_eq byte space ≡ false = grind (arith, nat_tests) in
    let second : nat_eq byte comma ≡ false = grind (arith, nat_tests) in
    ap (λ t. not t && not (nat_eq byte comma)) first ∙ ap (λ t. not t) second
