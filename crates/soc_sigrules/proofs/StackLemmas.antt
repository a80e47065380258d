-- The texts that a signature is made of, one frame more.
use Rattle.std.proofs.Common.{◌≡◌, ℕ, suc, ◌+◌, ◌<◌, ◌≤◌, ◌==◌, Bool, true, false, cond, ◌&&◌, List, [], ◌∷◌, ◌++◌, length, map, take, drop, Option, Some, None, refl, sym, ap, ◌∙◌, arith, append-nil, true≢false}
use Rattle.std.specs.Prelude.{not, ◌||◌, filter, nat_lt, unwrap_or}
use Rattle.std.specs.List.{list_all, list_any, last_or, prefix_len, position, position_or_len}
use Rattle.std.proofs.lemmas.Bool.Decides.{nat_tests}
use Rattle.std.proofs.lemmas.List.{map-append, drop-append-le, drop_at}
use Rattle.std.proofs.lemmas.List.Folds.{list_any-append, position_or_len_push}
use Rattle.soc_base.proofs.Folk.{or_false}
use Rattle.soc_siglists.specs.Lists.{ListTexts, is_irrelevant, is_prefix, is_sentinel}
use Rattle.soc_sigrules.specs.Stacks.{Kept, kept_of, is_text, without_repeats, stack_texts}
use Rattle.soc_sigrules.specs.inner.Steps.{is_repeated, all_with}

-- ---- up to the first that is no prefix

abbrev through : (List ℕ → Bool) → List (List ℕ) → List (List ℕ)
through p texts = take (prefix_len p texts + 1) texts

through-cons : (b : Bool) (p : List ℕ → Bool) (x : List ℕ) (xs : List (List ℕ)) → p x ≡ b → through p (x ∷ xs) ≡ cond b (x ∷ through p xs) (x ∷ [])
through-cons true p x xs is =
    let more : prefix_len p (x ∷ xs) + 1 ≡ suc (prefix_len p xs + 1) = ap (λ t. cond t (1 + prefix_len p xs) 0 + 1) is ∙ omega arith in
    ap (λ n. take n (x ∷ xs)) more
through-cons false p x xs is = ap (λ t. take (cond t (1 + prefix_len p xs) 0 + 1) (x ∷ xs)) is

all-cons : (b : Bool) (p : List ℕ → Bool) (x : List ℕ) (xs : List (List ℕ)) → p x ≡ b → list_all p (x ∷ xs) ≡ (b && list_all p xs)
all-cons b p x xs is = ap (λ t. t && list_all p xs) is

-- all texts are there where each is a prefix
through_all : (p : List ℕ → Bool) (xs : List (List ℕ)) → list_all p xs ≡ true → through p xs ≡ xs
through_all p [] all = refl
through_all p (x ∷ xs) all = all_step (p x) p x xs refl (through_all p xs) all
  where
    all_step : (b : Bool) (p : List ℕ → Bool) (x : List ℕ) (xs : List (List ℕ)) → p x ≡ b → (list_all p xs ≡ true → through p xs ≡ xs) → list_all p (x ∷ xs) ≡ true → through p (x ∷ xs) ≡ x ∷ xs
    all_step true p x xs is more all = through-cons true p x xs is ∙ ap (λ (ys : List (List ℕ)). x ∷ ys) (more (sym (all-cons true p x xs is) ∙ all))
    all_step false p x xs is more all = absurd (true≢false (sym all ∙ all-cons false p x xs is))

-- what was cut has a text that is no prefix where the whole has one
through_same : (p : List ℕ → Bool) (xs : List (List ℕ)) → list_all p (through p xs) ≡ list_all p xs
through_same p [] = refl
through_same p (x ∷ xs) = same_step (p x) p x xs refl (through_same p xs)
  where
    same_step : (b : Bool) (p : List ℕ → Bool) (x : List ℕ) (xs : List (List ℕ)) → p x ≡ b → list_all p (through p xs) ≡ list_all p xs → list_all p (through p (x ∷ xs)) ≡ list_all p (x ∷ xs)
    same_step true p x xs is more =
        ap (list_all p) (through-cons true p x xs is) ∙ all-cons true p x (through p xs) is ∙ more ∙ sym (all-cons true p x xs is)
    same_step false p x xs is more = ap (list_all p) (through-cons false p x xs is) ∙ all-cons false p x [] is ∙ sym (all-cons false p x xs is)

-- nothing follows a text that is no prefix
through_ended : (p : List ℕ → Bool) (xs ys : List (List ℕ)) → list_all p xs ≡ false → through p (xs ++ ys) ≡ through p xs
through_ended p [] ys ended = absurd (true≢false ended)
through_ended p (x ∷ xs) ys ended = ended_step (p x) p x xs ys refl (through_ended p xs ys) ended
  where
    ended_step : (b : Bool) (p : List ℕ → Bool) (x : List ℕ) (xs ys : List (List ℕ)) → p x ≡ b → (list_all p xs ≡ false → through p (xs ++ ys) ≡ through p xs)
        → list_all p (x ∷ xs) ≡ false → through p ((x ∷ xs) ++ ys) ≡ through p (x ∷ xs)
    ended_step true p x xs ys is more ended =
        through-cons true p x (xs ++ ys) is
        ∙ ap (λ (zs : List (List ℕ)). x ∷ zs) (more (sym (all-cons true p x xs is) ∙ ended))
        ∙ sym (through-cons true p x xs is)
    ended_step false p x xs ys is more ended = through-cons false p x (xs ++ ys) is ∙ sym (through-cons false p x xs is)

-- one text follows prefixes
through_push : (p : List ℕ → Bool) (xs : List (List ℕ)) (y : List ℕ) → list_all p xs ≡ true → through p (xs ++ y ∷ []) ≡ xs ++ y ∷ []
through_push p [] y all = push_step (p y) p y refl
  where
    push_step : (b : Bool) (p : List ℕ → Bool) (y : List ℕ) → p y ≡ b → through p (y ∷ []) ≡ y ∷ []
    push_step true p y is = through-cons true p y [] is
    push_step false p y is = through-cons false p y [] is
through_push p (x ∷ xs) y all = all_step (p x) p x xs y refl (through_push p xs y) all
  where
    all_step : (b : Bool) (p : List ℕ → Bool) (x : List ℕ) (xs : List (List ℕ)) (y : List ℕ) → p x ≡ b → (list_all p xs ≡ true → through p (xs ++ y ∷ []) ≡ xs ++ y ∷ [])
        → list_all p (x ∷ xs) ≡ true → through p ((x ∷ xs) ++ y ∷ []) ≡ (x ∷ xs) ++ y ∷ []
    all_step true p x xs y is more all = through-cons true p x (xs ++ y ∷ []) is ∙ ap (λ (ys : List (List ℕ)). x ∷ ys) (more (sym (all-cons true p x xs is) ∙ all))
    all_step false p x xs y is more all = absurd (true≢false (sym all ∙ all-cons false p x xs is))

-- ---- without repeats

abbrev repeats : Option (List ℕ) → Kept → Bool
repeats before kept = kept.is_module && is_text before kept.text

abbrev added : Option (List ℕ) → Kept → List (List ℕ)
added before kept = cond (repeats before kept) [] (kept.text ∷ [])

repeats-cons : (b : Bool) (before : Option (List ℕ)) (kept : Kept) (more : List Kept) → repeats before kept ≡ b
    → without_repeats before (kept ∷ more) ≡ cond b (without_repeats before more) (kept.text ∷ without_repeats (Some kept.text) more)
repeats-cons b before kept more is = ap (λ t. cond t (without_repeats before more) (kept.text ∷ without_repeats (Some kept.text) more)) is

without_repeats-push : (before : Option (List ℕ)) (many : List Kept) (kept : Kept)
    → without_repeats before (many ++ kept ∷ []) ≡ without_repeats before many ++ added (last_or before (without_repeats before many)) kept
without_repeats-push before [] kept = one_step (repeats before kept) before kept refl
  where
    one_step : (b : Bool) (before : Option (List ℕ)) (kept : Kept) → repeats before kept ≡ b → without_repeats before (kept ∷ []) ≡ added before kept
    one_step b before kept is = repeats-cons b before kept [] is ∙ ap (λ t. cond t [] (kept.text ∷ [])) (sym is)
without_repeats-push before (first ∷ many) kept =
    first_step (repeats before first) before first many kept refl (without_repeats-push before many kept) (without_repeats-push (Some first.text) many kept)
  where
    first_step : (b : Bool) (before : Option (List ℕ)) (first : Kept) (many : List Kept) (kept : Kept) → repeats before first ≡ b
        → without_repeats before (many ++ kept ∷ []) ≡ without_repeats before many ++ added (last_or before (without_repeats before many)) kept
        → without_repeats (Some first.text) (many ++ kept ∷ [])
        ≡ without_repeats (Some first.text) many ++ added (last_or (Some first.text) (without_repeats (Some first.text) many)) kept
        → without_repeats before ((first ∷ many) ++ kept ∷ []) ≡ without_repeats before (first ∷ many) ++ added (last_or before (without_repeats before (first ∷ many))) kept
    first_step true before first many kept is same other =
        repeats-cons true before first (many ++ kept ∷ []) is ∙ same
        ∙ ap (λ (texts : List (List ℕ)). texts ++ added (last_or before texts) kept) (sym (repeats-cons true before first many is))
    first_step false before first many kept is same other =
        repeats-cons false before first (many ++ kept ∷ []) is ∙ ap (λ (texts : List (List ℕ)). first.text ∷ texts) other
        ∙ ap (λ (texts : List (List ℕ)). texts ++ added (last_or before texts) kept) (sym (repeats-cons false before first many is))

-- ---- one frame more

-- what is kept of the frames, before what follows a text that is no prefix goes
abbrev kept_texts : ListTexts → List (List ℕ) → List (List ℕ)
kept_texts lists frames = without_repeats None (map kept_of (filter (λ frame. not (is_irrelevant lists frame)) frames))

filter-push : {A : Type 0} (p : A → Bool) (xs : List A) (y : A) → filter p (xs ++ y ∷ []) ≡ filter p xs ++ cond (p y) (y ∷ []) []
filter-push p [] y = refl
filter-push p (x ∷ xs) y = filter-step (p x) p x xs y refl (filter-push p xs y)
  where
    filter-step : {A : Type 0} (b : Bool) (p : A → Bool) (x : A) (xs : List A) (y : A) → p x ≡ b → filter p (xs ++ y ∷ []) ≡ filter p xs ++ cond (p y) (y ∷ []) []
        → filter p ((x ∷ xs) ++ y ∷ []) ≡ filter p (x ∷ xs) ++ cond (p y) (y ∷ []) []
    filter-step true p x xs y is more =
        ap (λ t. cond t (x ∷ filter p (xs ++ y ∷ [])) (filter p (xs ++ y ∷ []))) is
        ∙ ap (λ ys. x ∷ ys) more
        ∙ ap (λ t. cond t (x ∷ filter p xs) (filter p xs) ++ cond (p y) (y ∷ []) []) (sym is)
    filter-step false p x xs y is more =
        ap (λ t. cond t (x ∷ filter p (xs ++ y ∷ [])) (filter p (xs ++ y ∷ []))) is
        ∙ more
        ∙ ap (λ t. cond t (x ∷ filter p xs) (filter p xs) ++ cond (p y) (y ∷ []) []) (sym is)

-- the text that a frame adds behind these
abbrev new_texts : ListTexts → List (List ℕ) → List ℕ → List (List ℕ)
new_texts lists texts frame = cond (is_irrelevant lists frame || is_repeated (last_or None texts) frame) [] ((kept_of frame).text ∷ [])

kept_map : (many : List (List ℕ)) (frame : List ℕ) → map kept_of (many ++ frame ∷ []) ≡ map kept_of many ++ kept_of frame ∷ []
kept_map many frame = map-append kept_of many (frame ∷ [])

kept-step : (b : Bool) (lists : ListTexts) (frames : List (List ℕ)) (frame : List ℕ) → is_irrelevant lists frame ≡ b
    → kept_texts lists (frames ++ frame ∷ []) ≡ kept_texts lists frames ++ new_texts lists (kept_texts lists frames) frame
kept-step true lists frames frame is =
    let relevant = λ (f : List ℕ). not (is_irrelevant lists f) in
    let texts = kept_texts lists frames in
    ap (λ (fs : List (List ℕ)). without_repeats None (map kept_of fs))
    (filter-push relevant frames frame ∙ ap (λ t. filter relevant frames ++ cond (not t) (frame ∷ []) []) is ∙ append-nil (filter relevant frames))
    ∙ sym (append-nil texts)
    ∙ ap (λ t. texts ++ cond (t || is_repeated (last_or None texts) frame) [] ((kept_of frame).text ∷ [])) (sym is)
kept-step false lists frames frame is =
    let relevant = λ (f : List ℕ). not (is_irrelevant lists f) in
    let texts = kept_texts lists frames in
    ap (λ (fs : List (List ℕ)). without_repeats None (map kept_of fs))
    (filter-push relevant frames frame ∙ ap (λ t. filter relevant frames ++ cond (not t) (frame ∷ []) []) is)
    ∙ ap (without_repeats None) (kept_map (filter relevant frames) frame)
    ∙ without_repeats-push None (map kept_of (filter relevant frames)) (kept_of frame)
    ∙ ap (λ t. texts ++ cond (t || is_repeated (last_or None texts) frame) [] ((kept_of frame).text ∷ [])) (sym is)

kept-push : (lists : ListTexts) (frames : List (List ℕ)) (frame : List ℕ)
    → kept_texts lists (frames ++ frame ∷ []) ≡ kept_texts lists frames ++ new_texts lists (kept_texts lists frames) frame
kept-push lists frames frame = kept-step (is_irrelevant lists frame) lists frames frame refl

-- the texts up to the first that is no prefix, with what a frame adds
step-new : (all none : Bool) (lists : ListTexts) (texts : List (List ℕ)) (frame : List ℕ) → list_all (is_prefix lists) texts ≡ all
    → (is_irrelevant lists frame || is_repeated (last_or None texts) frame) ≡ none
    → through (is_prefix lists) (texts ++ new_texts lists texts frame) ≡ all_with lists (through (is_prefix lists) texts) frame
step-new false none lists texts frame ended same =
    let p = is_prefix lists in
    let cut = through p texts in
    let ending : list_all p cut ≡ false = through_same p texts ∙ ended in
    through_ended p texts (new_texts lists texts frame) ended
    ∙ ap (λ t. cond (not t || (is_irrelevant lists frame || is_repeated (last_or None cut) frame)) cut (cut ++ (kept_of frame).text ∷ [])) (sym ending)
step-new true true lists texts frame all same =
    let p = is_prefix lists in
    let whole = through_all p texts all in
    ap (λ t. through p (texts ++ cond t [] ((kept_of frame).text ∷ []))) same
    ∙ ap (through p) (append-nil texts) ∙ whole
    ∙ ap (λ t. cond (not t || true) texts (texts ++ (kept_of frame).text ∷ [])) (sym all)
    ∙ ap (λ t. cond (not (list_all p texts) || t) texts (texts ++ (kept_of frame).text ∷ [])) (sym same)
    ∙ ap (λ (ts : List (List ℕ)). all_with lists ts frame) (sym whole)
step-new true false lists texts frame all same =
    let p = is_prefix lists in
    let whole = through_all p texts all in
    ap (λ t. through p (texts ++ cond t [] ((kept_of frame).text ∷ []))) same
    ∙ through_push p texts (kept_of frame).text all
    ∙ ap (λ t. cond (not t || false) texts (texts ++ (kept_of frame).text ∷ [])) (sym all)
    ∙ ap (λ t. cond (not (list_all p texts) || t) texts (texts ++ (kept_of frame).text ∷ [])) (sym same)
    ∙ ap (λ (ts : List (List ℕ)). all_with lists ts frame) (sym whole)

step : (lists : ListTexts) (texts : List (List ℕ)) (frame : List ℕ)
    → through (is_prefix lists) (texts ++ new_texts lists texts frame) ≡ all_with lists (through (is_prefix lists) texts) frame
step lists texts frame = step-new (list_all (is_prefix lists) texts) (is_irrelevant lists frame || is_repeated (last_or None texts) frame) lists texts frame refl refl

-- ---- from the first sentinel on

none-cons : (b : Bool) (p : List ℕ → Bool) (x : List ℕ) (xs : List (List ℕ)) → p x ≡ b → (list_any p xs ≡ false → position_or_len p xs ≡ length xs)
    → list_any p (x ∷ xs) ≡ false → position_or_len p (x ∷ xs) ≡ length (x ∷ xs)
none-cons true p x xs is more none = absurd (true≢false (sym (ap (λ t. t || list_any p xs) is) ∙ none))
none-cons false p x xs is more none =
    let later : position_or_len p (x ∷ xs) ≡ 1 + position_or_len p xs = ap (λ t. cond (not t) (1 + position_or_len p xs) 0) is in
    let rest = more (sym (ap (λ t. t || list_any p xs) is) ∙ none) in
    omega arith

none_place : (p : List ℕ → Bool) (xs : List (List ℕ)) → list_any p xs ≡ false → position_or_len p xs ≡ length xs
none_place p [] none = refl
none_place p (x ∷ xs) none = none-cons (p x) p x xs refl (none_place p xs) none

any-cons : (b : Bool) (p : List ℕ → Bool) (x : List ℕ) (xs : List (List ℕ)) → p x ≡ b → list_any p xs ≡ nat_lt (position_or_len p xs) (length xs)
    → list_any p (x ∷ xs) ≡ nat_lt (position_or_len p (x ∷ xs)) (length (x ∷ xs))
any-cons true p x xs is more =
    let first : position_or_len p (x ∷ xs) ≡ 0 = ap (λ t. cond (not t) (1 + position_or_len p xs) 0) is in
    let test : nat_lt (position_or_len p (x ∷ xs)) (length (x ∷ xs)) ≡ true = grind (arith, nat_tests) in
    ap (λ t. t || list_any p xs) is ∙ sym test
any-cons false p x xs is more =
    let later : position_or_len p (x ∷ xs) ≡ 1 + position_or_len p xs = ap (λ t. cond (not t) (1 + position_or_len p xs) 0) is in
    let test : nat_lt (position_or_len p (x ∷ xs)) (length (x ∷ xs)) ≡ nat_lt (position_or_len p xs) (length xs) = grind (arith, nat_tests) in
    ap (λ t. t || list_any p xs) is ∙ more ∙ sym test

any_is : (p : List ℕ → Bool) (xs : List (List ℕ)) → list_any p xs ≡ nat_lt (position_or_len p xs) (length xs)
any_is p [] = refl
any_is p (x ∷ xs) = any-cons (p x) p x xs refl (any_is p xs)

abbrev begun : (List ℕ → Bool) → List (List ℕ) → List (List ℕ)
begun p frames = drop (unwrap_or (position p frames) 0) frames

begun_at : (b : Bool) (p : List ℕ → Bool) (frames : List (List ℕ)) → list_any p frames ≡ b → begun p frames ≡ drop (cond b (position_or_len p frames) 0) frames
begun_at true p frames is = ap (λ t. drop (unwrap_or (cond t (Some (position_or_len p frames)) None) 0) frames) (sym (any_is p frames) ∙ is)
begun_at false p frames is = ap (λ t. drop (unwrap_or (cond t (Some (position_or_len p frames)) None) 0) frames) (sym (any_is p frames) ∙ is)

pub any-push : (p : List ℕ → Bool) (frames : List (List ℕ)) (frame : List ℕ) → list_any p (frames ++ frame ∷ []) ≡ (list_any p frames || p frame)
any-push p frames frame = list_any-append p frames (frame ∷ []) ∙ ap (λ t. list_any p frames || t) (or_false (p frame))

begun-push : (any here : Bool) (p : List ℕ → Bool) (frames : List (List ℕ)) (frame : List ℕ) → list_any p frames ≡ any → p frame ≡ here
    → begun p (frames ++ frame ∷ []) ≡ cond (not any && here) [] (begun p frames) ++ frame ∷ []
begun-push true here p frames frame is same =
    let place = position_or_len p frames in
    let test : nat_lt place (length frames) ≡ true = sym (any_is p frames) ∙ is in
    let inside : place < length frames = grind (arith, nat_tests) in
    let other : (place == length frames) ≡ false = grind (arith, nat_tests) in
    let within : place ≤ length frames = omega arith in
    begun_at true p (frames ++ frame ∷ []) (any-push p frames frame ∙ ap (λ t. t || p frame) is)
    ∙ ap (λ n. drop n (frames ++ frame ∷ [])) (position_or_len_push p frames frame ∙ ap (λ t. cond t (length frames + cond (p frame) 0 1) place) other)
    ∙ drop-append-le place frames (frame ∷ []) within
    ∙ ap (λ (fs : List (List ℕ)). fs ++ frame ∷ []) (sym (begun_at true p frames is))
begun-push false true p frames frame is same =
    let place = position_or_len p frames in
    let whole : place ≡ length frames = none_place p frames is in
    let here : (place == length frames) ≡ true = grind (arith, nat_tests) in
    let end : length frames + 0 ≡ length frames = omega arith in
    begun_at true p (frames ++ frame ∷ []) (any-push p frames frame ∙ ap (λ t. t || p frame) is ∙ same)
    ∙ ap (λ n. drop n (frames ++ frame ∷ []))
    (position_or_len_push p frames frame ∙ ap (λ t. cond t (length frames + cond (p frame) 0 1) place) here ∙ ap (λ t. length frames + cond t 0 1) same ∙ end)
    ∙ drop_at frames (frame ∷ []) (length frames) refl
begun-push false false p frames frame is same =
    begun_at false p (frames ++ frame ∷ []) (any-push p frames frame ∙ ap (λ t. t || p frame) is ∙ same)
    ∙ ap (λ (fs : List (List ℕ)). fs ++ frame ∷ []) (sym (begun_at false p frames is))

begun_texts : (b : Bool) (lists : ListTexts) (frames : List (List ℕ))
    → through (is_prefix lists) (kept_texts lists (cond b [] frames)) ≡ cond b [] (through (is_prefix lists) (kept_texts lists frames))
begun_texts true lists frames = refl
begun_texts false lists frames = refl

-- the texts of a signature, with one frame more
pub stack-push : (lists : ListTexts) (frames : List (List ℕ)) (frame : List ℕ)
    → stack_texts lists (frames ++ frame ∷ [])
    ≡ all_with lists (cond (not (list_any (is_sentinel lists) frames) && is_sentinel lists frame) [] (stack_texts lists frames)) frame
stack-push lists frames frame =
    let p = is_sentinel lists in
    let restarts = not (list_any p frames) && p frame in
    let before = cond restarts [] (begun p frames) in
    ap (λ (fs : List (List ℕ)). through (is_prefix lists) (kept_texts lists fs)) (begun-push (list_any p frames) (p frame) p frames frame refl refl)
    ∙ ap (through (is_prefix lists)) (kept-push lists before frame)
    ∙ step lists (kept_texts lists before) frame
    ∙ ap (λ (ts : List (List ℕ)). all_with lists ts frame) (begun_texts restarts lists (begun p frames))
