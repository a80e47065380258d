-- Groups of a C++ name: nothing inside of one is kept.
use Rattle.std.proofs.Common.{◌≡◌, ℕ, ◌+◌, ◌-◌, ◌<◌, ◌≤◌, Bool, true, false, cond, ◌&&◌, ◌||◌, not, nat_eq, List, [], ◌∷◌, ◌++◌, length, take, drop, map, get_or, refl, ap, sym, ◌∙◌, arith, append_assoc, length-append}
use Rattle.std.proofs.lemmas.List.{append-nil, reverse-append, drop-append-le, drop-drop, drop_all}
use Rattle.std.proofs.lemmas.List.Sums.{suffix_len-le-length}
use Rattle.std.proofs.lemmas.Bool.Decides.{nat_tests}
use Rattle.std.specs.List.{flat_map, after_last, suffix_len, prefix_len}
use Rattle.soc_text.specs.Blanks.{space}
use Rattle.soc_frames.specs.declared.walk.Place.{Place}
use Rattle.soc_frames.specs.Depth.{Bracket, angle, round, Nested, nested_from, nested_of, places_of, open_after, is_outer, open_angle, open_round, close_angle, close_round, without_angle, without_round}
use Rattle.soc_frames.specs.Collapse.{kept_text, outer_text, template, collapsed}
use Rattle.soc_frames.specs.Cpp.{is_outer_space, behind_spaces}
use Rattle.soc_frames.specs.Rust.{bytes_of}
use Rattle.soc_frames.specs.inner.Walks.{behind, behind_or, opens, is_space}
use Rattle.soc_frames.specs.declared.depth.Depth.{Depth}
use Rattle.soc_frames.specs.inner.Counts.{depth_of, is_none, after_place}
use Rattle.soc_frames.proofs.CountLemmas.{depth_of-open_after, is_none-depth_of}
use Rattle.soc_frames.proofs.WalkLemmas.{bytes_of-places_from}
use Rattle.soc_frames.proofs.RangeLemmas.{range_more, range_none, range_all}

-- ---- where a group ends

-- one place further in a group
pub behind_turn : (b : List Bracket) (place : Place) (places : List Place) → is_outer b ≡ false → behind b (place ∷ places) ≡ behind (open_after b place) places
behind_turn [] place places stands = cc
behind_turn (bracket ∷ b) place places stands = refl

pub behind_end : (b : List Bracket) → behind b [] ≡ []
behind_end [] = refl
behind_end (bracket ∷ b) = refl

pub behind_outer : (b : List Bracket) (places : List Place) → is_outer b ≡ true → behind b places ≡ places
behind_outer [] places outer = refl
behind_outer (bracket ∷ b) places outer = cc

clash : (b : List Bracket) → is_outer b ≡ false → is_outer b ≡ true → ⊥
clash [] inside outer = cc
clash (bracket ∷ b) inside outer = cc

-- what opens a group, and what doesn't
opened : (plain opens_angle opens_round closes_angle closes_round : Bool) → (not plain && (opens_angle || opens_round)) ≡ true
    → is_outer (cond plain [] (cond opens_angle (angle ∷ []) (cond opens_round (round ∷ []) (cond closes_angle [] (cond closes_round [] []))))) ≡ false
opened true opens_angle opens_round closes_angle closes_round e = cc
opened false true opens_round closes_angle closes_round e = refl
opened false false true closes_angle closes_round e = refl
opened false false false closes_angle closes_round e = cc

pub opens_group : (place : Place) → opens place ≡ true → is_outer (open_after [] place) ≡ false
opens_group place e =
    opened place.is_plain (nat_eq place.byte open_angle) (nat_eq place.byte open_round) (nat_eq place.byte close_angle) (nat_eq place.byte close_round) e

not_opened : (plain opens_angle opens_round closes_angle closes_round : Bool) → (not plain && (opens_angle || opens_round)) ≡ false
    → cond plain [] (cond opens_angle (angle ∷ []) (cond opens_round (round ∷ []) (cond closes_angle [] (cond closes_round [] [])))) ≡ []
not_opened true opens_angle opens_round closes_angle closes_round e = refl
not_opened false true opens_round closes_angle closes_round e = cc
not_opened false false true closes_angle closes_round e = cc
not_opened false false false true closes_round e = refl
not_opened false false false false true e = refl
not_opened false false false false false e = refl

pub opens_nothing : (place : Place) → opens place ≡ false → open_after [] place ≡ []
opens_nothing place e =
    not_opened place.is_plain (nat_eq place.byte open_angle) (nat_eq place.byte open_round) (nat_eq place.byte close_angle) (nat_eq place.byte close_round) e

-- ---- one place further in a group

pub counted : (b : List Bracket) (depth next : Depth) (place : Place) → depth ≡ depth_of b → next ≡ after_place depth place → next ≡ depth_of (open_after b place)
counted b depth next place counts is = is ∙ ap (λ d. after_place d place) counts ∙ sym (depth_of-open_after b place)

pub outer_by_count : (b : List Bracket) (depth : Depth) (answer outer : Bool) → depth ≡ depth_of b → answer ≡ is_none depth → answer ≡ outer → is_outer b ≡ outer
outer_by_count b depth answer outer counts is e = sym (is_none-depth_of b) ∙ ap is_none (sym counts) ∙ sym is ∙ e

pub group_turn : (b : List Bracket) (old new whole : List Place) (place : Place) → is_outer b ≡ false → old ≡ place ∷ new → behind b old ≡ whole → behind (open_after b place) new ≡ whole
group_turn b old new whole place inside here same = sym (ap (behind b) here ∙ behind_turn b place new inside) ∙ same

pub group_end : (b : List Bracket) (old whole : List Place) → old ≡ [] → behind b old ≡ whole → [] ≡ whole
group_end b old whole here same = sym (ap (behind b) here ∙ behind_end b) ∙ same

closes : (b : List Bracket) (byte : ℕ) (plain opens_angle opens_round closes_angle closes_round : Bool) → nat_eq byte close_angle ≡ closes_angle → nat_eq byte close_round ≡ closes_round → is_outer b ≡ false
    → is_outer (cond plain b (cond opens_angle (angle ∷ b) (cond opens_round (round ∷ b) (cond closes_angle (without_angle b) (cond closes_round (without_round b) b))))) ≡ true → byte < 128
closes b byte true opens_angle opens_round closes_angle closes_round e f inside outer = absurd (clash b inside outer)
closes b byte false true opens_round closes_angle closes_round e f inside outer = cc
closes b byte false false true closes_angle closes_round e f inside outer = cc
closes b byte false false false true closes_round e f inside outer = grind (arith, nat_tests)
closes b byte false false false false true e f inside outer = grind (arith, nat_tests)
closes b byte false false false false false e f inside outer = absurd (clash b inside outer)

-- what closes a group is a bracket
pub closes_ascii : (b : List Bracket) (place : Place) → is_outer b ≡ false → is_outer (open_after b place) ≡ true → place.byte < 128
closes_ascii b place inside outer =
    closes b place.byte place.is_plain (nat_eq place.byte open_angle) (nat_eq place.byte open_round) (nat_eq place.byte close_angle) (nat_eq place.byte close_round) refl refl inside outer

-- ---- what is kept

kept_next : (places : List Place) (b : List Bracket) → flat_map kept_text (nested_from b places) ≡ flat_map kept_text (nested_from [] (behind b places))
kept_next places [] = refl
kept_next [] (bracket ∷ b) = refl
kept_next (place ∷ places) (bracket ∷ b) = kept_next places (open_after (bracket ∷ b) place)

abbrev pub kept_of : List Place → List ℕ
kept_of places = flat_map kept_text (nested_from [] places)

-- a place outside of brackets, and the group that it opens
pub kept_turn : (old new tail : List Place) (place : Place) → old ≡ place ∷ tail → new ≡ behind (open_after [] place) tail → kept_of old ≡ outer_text place ++ kept_of new
kept_turn old new tail place here is =
    ap kept_of here ∙ ap (λ text. outer_text place ++ text) (kept_next tail (open_after [] place)) ∙ ap (λ places. outer_text place ++ kept_of places) (sym is)

single : (plain opens_angle opens_round : Bool) (byte : ℕ) → (not plain && (opens_angle || opens_round)) ≡ false
    → cond plain (byte ∷ []) (cond opens_angle template (cond opens_round [] (byte ∷ []))) ≡ byte ∷ []
single true opens_angle opens_round byte e = refl
single false true opens_round byte e = cc
single false false true byte e = cc
single false false false byte e = refl

stays_as_byte : (place : Place) → opens place ≡ false → outer_text place ≡ place.byte ∷ []
stays_as_byte place e = single place.is_plain (nat_eq place.byte open_angle) (nat_eq place.byte open_round) place.byte e

-- a byte outside of brackets is kept
pub kept_byte : (whole text out : List ℕ) (kept at next : ℕ) (old new tail : List Place) (place : Place) → kept ≤ at → at < length text → get_or text at 0 ≡ place.byte → next ≡ at + 1 → opens place ≡ false
    → old ≡ place ∷ tail → new ≡ behind (open_after [] place) tail
    → whole ≡ (out ++ take (at - kept) (drop kept text)) ++ kept_of old
    → whole ≡ (out ++ take (next - kept) (drop kept text)) ++ kept_of new
kept_byte whole text out kept at next old new tail place onward inside byte is plain here rest whole_is =
    let before = take (at - kept) (drop kept text) in
    let grown : take (next - kept) (drop kept text) ≡ before ++ place.byte ∷ [] = ap (λ n. take (n - kept) (drop kept text)) is ∙ range_more text kept at onward inside ∙ ap (λ b. before ++ b ∷ []) byte in
    let turned : kept_of old ≡ (place.byte ∷ []) ++ kept_of new = kept_turn old new tail place here rest ∙ ap (λ t. t ++ kept_of new) (stays_as_byte place plain) in
    whole_is ∙ ap (λ t. (out ++ before) ++ t) turned
    ∙ sym (append_assoc (out ++ before) (place.byte ∷ []) (kept_of new))
    ∙ ap (λ t. t ++ kept_of new) (append_assoc out before (place.byte ∷ []))
    ∙ ap (λ t. (out ++ t) ++ kept_of new) (sym grown)

-- a group is replaced
pub kept_group : (whole text out out1 out2 : List ℕ) (kept at next : ℕ) (old new tail : List Place) (place : Place)
    → old ≡ place ∷ tail → new ≡ behind (open_after [] place) tail
    → out1 ≡ out ++ take (at - kept) (drop kept text) → out2 ≡ out1 ++ outer_text place
    → whole ≡ (out ++ take (at - kept) (drop kept text)) ++ kept_of old
    → whole ≡ (out2 ++ take (next - next) (drop next text)) ++ kept_of new
kept_group whole text out out1 out2 kept at next old new tail place here rest first second whole_is =
    let before = take (at - kept) (drop kept text) in
    let said : out2 ≡ (out ++ before) ++ outer_text place = second ∙ ap (λ t. t ++ outer_text place) first in
    whole_is ∙ ap (λ t. (out ++ before) ++ t) (kept_turn old new tail place here rest)
    ∙ sym (append_assoc (out ++ before) (outer_text place) (kept_of new))
    ∙ ap (λ t. t ++ kept_of new) (sym said)
    ∙ ap (λ t. t ++ kept_of new) (sym (append-nil out2))
    ∙ ap (λ t. (out2 ++ t) ++ kept_of new) (sym (range_none text next))

-- before the first place
pub kept_start : (name out : List ℕ) (place : ℕ) (rest : List Place) → out ≡ [] → place ≡ 0 → rest ≡ places_of name → collapsed name ≡ (out ++ take (place - 0) (drop 0 name)) ++ kept_of rest
kept_start name out place rest none first is =
    ap kept_of (sym is)
    ∙ ap (λ n. take (n - 0) (drop 0 name) ++ kept_of rest) (sym first)
    ∙ ap (λ t. (t ++ take (place - 0) (drop 0 name)) ++ kept_of rest) (sym none)

-- behind the last one
pub kept_end : (whole text out final : List ℕ) (kept at : ℕ) (old : List Place) → old ≡ [] → length text ≤ at → final ≡ out ++ drop kept text → whole ≡ (out ++ take (at - kept) (drop kept text)) ++ kept_of old → final ≡ whole
kept_end whole text out final kept at old none end said whole_is =
    said
    ∙ sym (whole_is ∙ ap (λ places. (out ++ take (at - kept) (drop kept text)) ++ kept_of places) none ∙ append-nil (out ++ take (at - kept) (drop kept text))
    ∙ ap (λ t. out ++ t) (range_all text kept at end))

ascii_opens : (plain : Bool) (byte : ℕ) (opens_angle opens_round : Bool) → nat_eq byte open_angle ≡ opens_angle → nat_eq byte open_round ≡ opens_round → (not plain && (opens_angle || opens_round)) ≡ true → byte < 128
ascii_opens true byte opens_angle opens_round e f g = cc
ascii_opens false byte true opens_round e f g = grind (arith, nat_tests)
ascii_opens false byte false true e f g = grind (arith, nat_tests)
ascii_opens false byte false false e f g = cc

-- what opens a group is a bracket
pub opens_ascii : (place : Place) → opens place ≡ true → place.byte < 128
opens_ascii place e = ascii_opens place.is_plain place.byte (nat_eq place.byte open_angle) (nat_eq place.byte open_round) refl refl e

-- ---- the last space

space_cases : (plain : Bool) (byte : ℕ) → (not plain && nat_eq byte space) ≡ true → ((not plain && (nat_eq byte open_angle || nat_eq byte open_round)) ≡ false) × (byte < 128)
space_cases true byte e = cc
space_cases false byte e = let is : byte ≡ space = grind (arith, nat_tests) in (ap (λ b. nat_eq b open_angle || nat_eq b open_round) is, omega arith)

pub space_opens_nothing : (place : Place) → is_space place ≡ true → opens place ≡ false
space_opens_nothing place e = (space_cases place.is_plain place.byte e).0

pub space_ascii : (place : Place) → is_space place ≡ true → place.byte < 128
space_ascii place e = (space_cases place.is_plain place.byte e).1

spaces_next : (places : List Place) (b : List Bracket) (otherwise : List ℕ) → behind_or otherwise (nested_from b places) ≡ behind_or otherwise (nested_from [] (behind b places))
spaces_next places [] otherwise = refl
spaces_next [] (bracket ∷ b) otherwise = refl
spaces_next (place ∷ places) (bracket ∷ b) otherwise = spaces_next places (open_after (bracket ∷ b) place) otherwise

abbrev nested_bytes : List Nested → List ℕ
nested_bytes nested = map (λ (other : Nested). other.place.byte) nested

nested_bytes-nested_from : (b : List Bracket) (places : List Place) → nested_bytes (nested_from b places) ≡ bytes_of places
nested_bytes-nested_from b [] = refl
nested_bytes-nested_from b (place ∷ places) = ap (λ bytes. place.byte ∷ bytes) (nested_bytes-nested_from (open_after b place) places)

tail_bytes : (text : List ℕ) (at : ℕ) (place : Place) (tail : List Place) → drop at text ≡ place.byte ∷ bytes_of tail → bytes_of tail ≡ drop (at + 1) text
tail_bytes text at place tail e = sym (ap (drop 1) e) ∙ drop-drop 1 at text

-- a place outside of brackets, and the group that it opens
pub space_turn : (text otherwise : List ℕ) (at : ℕ) (old new tail : List Place) (place : Place) → old ≡ place ∷ tail → new ≡ behind (open_after [] place) tail → bytes_of old ≡ drop at text
    → behind_or otherwise (nested_from [] old) ≡ behind_or (cond (is_space place) (drop (at + 1) text) otherwise) (nested_from [] new)
space_turn text otherwise at old new tail place here rest bytes =
    let inside = open_after [] place in
    let left : nested_bytes (nested_from inside tail) ≡ drop (at + 1) text = nested_bytes-nested_from inside tail ∙ tail_bytes text at place tail (sym bytes ∙ ap bytes_of here) in
    ap (λ places. behind_or otherwise (nested_from [] places)) here
    ∙ ap (λ other. behind_or (cond (is_space place) other otherwise) (nested_from inside tail)) left
    ∙ spaces_next tail inside (cond (is_space place) (drop (at + 1) text) otherwise)
    ∙ ap (λ places. behind_or (cond (is_space place) (drop (at + 1) text) otherwise) (nested_from [] places)) (sym rest)

-- ---- `after_last`, one element further

suffix_push : {X : Type 0} (q : X → Bool) (xs : List X) (x : X) → suffix_len q (xs ++ x ∷ []) ≡ cond (q x) (1 + suffix_len q xs) 0
suffix_push q xs x = ap (prefix_len q) (reverse-append xs (x ∷ []))

push_cases : {X : Type 0} (p : X → Bool) (xs : List X) (x : X) (passes : Bool) → p x ≡ passes → after_last p (xs ++ x ∷ []) ≡ cond passes [] (after_last p xs ++ x ∷ [])
push_cases p xs x true e =
    let none : suffix_len (λ y. not (p y)) (xs ++ x ∷ []) ≡ 0 = suffix_push (λ y. not (p y)) xs x ∙ ap (λ t. cond (not t) (1 + suffix_len (λ y. not (p y)) xs) 0) e in
    drop_all (length (xs ++ x ∷ []) - suffix_len (λ y. not (p y)) (xs ++ x ∷ [])) (xs ++ x ∷ []) (omega (arith, none))
push_cases p xs x false e =
    let more : suffix_len (λ y. not (p y)) (xs ++ x ∷ []) ≡ 1 + suffix_len (λ y. not (p y)) xs = suffix_push (λ y. not (p y)) xs x ∙ ap (λ t. cond (not t) (1 + suffix_len (λ y. not (p y)) xs) 0) e in
    let len : length (xs ++ x ∷ []) ≡ length xs + 1 = length-append xs (x ∷ []) in
    let within : suffix_len (λ y. not (p y)) xs ≤ length xs = suffix_len-le-length (λ y. not (p y)) xs in
    let from : length (xs ++ x ∷ []) - suffix_len (λ y. not (p y)) (xs ++ x ∷ []) ≡ length xs - suffix_len (λ y. not (p y)) xs = omega (arith, more, len, within) in
    ap (λ n. drop n (xs ++ x ∷ [])) from ∙ drop-append-le (length xs - suffix_len (λ y. not (p y)) xs) xs (x ∷ []) (omega arith)

abbrev outer_end : List Nested → List Nested
outer_end nested = after_last is_outer_space nested

end_cases : (passes : Bool) (front rest : List Nested) (x : Nested) → cond passes (nested_bytes rest) (nested_bytes (front ++ x ∷ rest)) ≡ nested_bytes (cond passes [] (front ++ x ∷ []) ++ rest)
end_cases true front rest x = refl
end_cases false front rest x = ap nested_bytes (sym (append_assoc front (x ∷ []) rest))

behind_is : (rest front : List Nested) → behind_or (nested_bytes (outer_end front ++ rest)) rest ≡ nested_bytes (outer_end (front ++ rest))
behind_is [] front = ap nested_bytes (append-nil (outer_end front)) ∙ ap (λ l. nested_bytes (outer_end l)) (sym (append-nil front))
behind_is (x ∷ rest) front =
    ap (λ otherwise. behind_or otherwise rest)
    (end_cases (is_outer_space x) (outer_end front) rest x ∙ ap (λ l. nested_bytes (l ++ rest)) (sym (push_cases is_outer_space front x (is_outer_space x) refl)))
    ∙ behind_is rest (front ++ x ∷ [])
    ∙ ap (λ l. nested_bytes (outer_end l)) (append_assoc front (x ∷ []) rest)

-- before the first place
pub behind_spaces_start : (text : List ℕ) → behind_spaces text ≡ behind_or text (nested_of text)
behind_spaces_start text =
    sym (behind_is (nested_of text) [])
    ∙ ap (λ otherwise. behind_or otherwise (nested_of text)) (nested_bytes-nested_from [] (places_of text) ∙ bytes_of-places_from [] 0 text)
