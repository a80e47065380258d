-- Groups of a Rust name.
use Rattle.std.proofs.Common.{◌≡◌, ℕ, ◌+◌, ◌-◌, ◌<◌, ◌≤◌, suc, Bool, true, false, cond, ◌&&◌, not, nat_eq, nat_lt, List, [], ◌∷◌, ◌++◌, length, take, drop, codes, get_or, refl, ap, sym, ◌∙◌, subst, arith, append_assoc}
use Rattle.std.proofs.lemmas.Bool.Decides.{nat_tests}
use Rattle.std.proofs.lemmas.List.{append-nil, take-map, drop-drop}
use Rattle.soc_frames.specs.declared.walk.Place.{Place}
use Rattle.soc_frames.specs.Depth.{open_angle, close_angle, places_of}
use Rattle.soc_frames.specs.Collapse.{template}
use Rattle.soc_frames.specs.Cpp.{contains}
use Rattle.soc_frames.specs.Rust.{depth_after, group_length, bytes_of, stays, grouped_from, grouped}
use Rattle.soc_frames.specs.inner.Walks.{opens_angle}
use Rattle.soc_frames.proofs.RangeLemmas.{range_more, range_all, range_none, range_join, range_rest}

some_is_some : (n : ℕ) → 0 < n → nat_lt 0 n ≡ true
some_is_some n some = grind (arith, nat_tests)

above : (n : ℕ) → nat_eq n 0 ≡ false → 0 < n
above n e = grind (arith, nat_tests)

zero_from : (n : ℕ) → nat_eq n 0 ≡ true → n ≡ 0
zero_from n e = grind (arith, nat_tests)

one_more : (n : ℕ) → n + 1 ≡ suc n
one_more n = omega arith

-- ---- how long a group is

length_cases : (depth next : ℕ) (ended : Bool) (old new : List Place) (place : Place) → old ≡ place ∷ new → next ≡ depth_after depth place → nat_eq next 0 ≡ ended → group_length depth old ≡ cond ended 1 (group_length next new + 1)
length_cases depth next ended old new place here is e =
    ap (group_length depth) here
    ∙ ap (λ n. cond (nat_eq n 0) 1 (group_length n new + 1)) (sym is)
    ∙ ap (λ t. cond t 1 (group_length next new + 1)) e

-- the place that ends a group
pub group_ends : (depth next : ℕ) (old new : List Place) (place : Place) → old ≡ place ∷ new → next ≡ depth_after depth place → nat_eq next 0 ≡ true → group_length depth old ≡ 1
group_ends depth next old new place here is e = length_cases depth next true old new place here is e

-- one place further in a group
pub group_goes_on : (depth next : ℕ) (old new : List Place) (place : Place) → old ≡ place ∷ new → next ≡ depth_after depth place → nat_eq next 0 ≡ false → group_length depth old ≡ group_length next new + 1
group_goes_on depth next old new place here is e = length_cases depth next false old new place here is e

pub group_at_end : (depth : ℕ) (old : List Place) → old ≡ [] → group_length depth old ≡ 0
group_at_end depth old e = ap (group_length depth) e

-- one place further of what was left at the front
pub left_turn : (whole old new : List Place) (place : Place) (passed : ℕ) → old ≡ drop passed whole → old ≡ place ∷ new → new ≡ drop (passed + 1) whole
left_turn whole old new place passed from here = sym (ap (drop 1) here) ∙ ap (drop 1) from ∙ drop-drop 1 passed whole

pub stands : (n : ℕ) → 0 < n → nat_eq n 0 ≡ false
stands n some = grind (arith, nat_tests)

closing : (depth byte : ℕ) (plain opens closes : Bool) → nat_eq byte close_angle ≡ closes → 0 < depth → cond plain depth (cond opens (depth + 1) (cond closes (depth - 1) depth)) ≡ 0 → byte < 128
closing depth byte true opens closes e some none = absurd (omega arith)
closing depth byte false true closes e some none = absurd (omega arith)
closing depth byte false false true e some none = grind (arith, nat_tests)
closing depth byte false false false e some none = absurd (omega arith)

-- what closes a group is a bracket
pub closes_ascii : (depth next : ℕ) (place : Place) → 0 < depth → next ≡ depth_after depth place → next ≡ 0 → place.byte < 128
closes_ascii depth next place some is none =
    closing depth place.byte place.is_plain (nat_eq place.byte open_angle) (nat_eq place.byte close_angle) refl some (sym is ∙ none)

-- ---- a group as a whole

any_kept : (kept : Bool) (places : List Place) → grouped_from kept 0 places ≡ grouped_from false 0 places
any_kept kept [] = refl
any_kept kept (place ∷ places) = refl

abbrev kept_if : Bool → List ℕ → List ℕ
kept_if kept text = cond kept text []

kept_first : (kept : Bool) (byte : ℕ) (text rest : List ℕ) → kept_if kept (byte ∷ []) ++ (kept_if kept text ++ rest) ≡ kept_if kept (byte ∷ text) ++ rest
kept_first true byte text rest = refl
kept_first false byte text rest = refl

no_text : (kept : Bool) → [] ≡ kept_if kept [] ++ []
no_text true = refl
no_text false = refl

abbrev group_text : Bool → ℕ → List Place → List ℕ
group_text kept n places = kept_if kept (bytes_of (take n places)) ++ grouped_from false 0 (drop n places)

inside_cases : (kept : Bool) (next : ℕ) (place : Place) (places : List Place) (ended : Bool) → nat_eq next 0 ≡ ended
    → (0 < next → grouped_from kept next places ≡ group_text kept (group_length next places) places)
    → kept_if kept (place.byte ∷ []) ++ grouped_from kept next places ≡ group_text kept (cond ended 1 (group_length next places + 1)) (place ∷ places)
inside_cases kept next place places true e more =
    ap (λ n. kept_if kept (place.byte ∷ []) ++ grouped_from kept n places) (zero_from next e) ∙ ap (λ text. kept_if kept (place.byte ∷ []) ++ text) (any_kept kept places)
inside_cases kept next place places false e more =
    let n = group_length next places in
    ap (λ text. kept_if kept (place.byte ∷ []) ++ text) (more (above next e))
    ∙ kept_first kept place.byte (bytes_of (take n places)) (grouped_from false 0 (drop n places))
    ∙ ap (λ m. group_text kept m (place ∷ places)) (sym (one_more n))

inside : (kept : Bool) (depth : ℕ) (places : List Place) → 0 < depth → grouped_from kept depth places ≡ group_text kept (group_length depth places) places
inside kept depth [] some = no_text kept
inside kept depth (place ∷ places) some =
    ap (λ t. cond t (kept_if kept (place.byte ∷ []) ++ grouped_from kept (depth_after depth place) places) (cond (nat_eq (depth_after 0 place) 0) (place.byte ∷ grouped_from false 0 places) (cond (stays places) (place.byte ∷ []) template ++ grouped_from (stays places) 1 places))) (some_is_some depth some)
    ∙ inside_cases kept (depth_after depth place) place places (nat_eq (depth_after depth place) 0) refl (inside kept (depth_after depth place) places)

-- ---- places outside of groups

not_deeper : (plain opens closes : Bool) → (not plain && opens) ≡ false → ◌≡◌ {A = ℕ} (cond plain 0 (cond opens 1 (cond closes 0 0))) 0
not_deeper true opens closes e = refl
not_deeper false true closes e = cc
not_deeper false false true e = refl
not_deeper false false false e = refl

deeper : (plain opens closes : Bool) → (not plain && opens) ≡ true → ◌≡◌ {A = ℕ} (cond plain 0 (cond opens 1 (cond closes 0 0))) 1
deeper true opens closes e = cc
deeper false true closes e = refl
deeper false false closes e = cc

opened_byte : (plain : Bool) (byte : ℕ) → (not plain && nat_eq byte open_angle) ≡ true → byte ≡ open_angle
opened_byte true byte e = cc
opened_byte false byte e = grind (arith, nat_tests)

pub opens_byte : (place : Place) → opens_angle place ≡ true → place.byte ≡ open_angle
opens_byte place e = opened_byte place.is_plain place.byte e

outer_by : (depth : ℕ) (place : Place) (places : List Place) → List ℕ
outer_by depth place places =
    cond (nat_eq depth 0) (place.byte ∷ grouped_from false 0 places) (cond (stays places) (place.byte ∷ []) template ++ grouped_from (stays places) 1 places)

outer_text : (place : Place) (places : List Place) → opens_angle place ≡ false → grouped_from false 0 (place ∷ places) ≡ place.byte ∷ grouped_from false 0 places
unfolding outer_by
outer_text place places e = ap (λ depth. outer_by depth place places) (not_deeper place.is_plain (nat_eq place.byte open_angle) (nat_eq place.byte close_angle) e)

opened_text : (place : Place) (places : List Place) → opens_angle place ≡ true → grouped_from false 0 (place ∷ places) ≡ cond (stays places) (place.byte ∷ []) template ++ grouped_from (stays places) 1 places
unfolding outer_by
opened_text place places e = ap (λ depth. outer_by depth place places) (deeper place.is_plain (nat_eq place.byte open_angle) (nat_eq place.byte close_angle) e)

-- a byte outside of groups stays
pub grouped_byte : (whole text : List ℕ) (from at next : ℕ) (old new : List Place) (place : Place) → from ≤ at → at < length text → get_or text at 0 ≡ place.byte → next ≡ at + 1 → opens_angle place ≡ false → old ≡ place ∷ new
    → whole ≡ take (at - from) (drop from text) ++ grouped_from false 0 old
    → whole ≡ take (next - from) (drop from text) ++ grouped_from false 0 new
grouped_byte whole text from at next old new place onward within byte is plain here whole_is =
    let before = take (at - from) (drop from text) in
    let grown : take (next - from) (drop from text) ≡ before ++ place.byte ∷ [] = ap (λ n. take (n - from) (drop from text)) is ∙ range_more text from at onward within ∙ ap (λ b. before ++ b ∷ []) byte in
    whole_is ∙ ap (λ t. before ++ t) (ap (grouped_from false 0) here ∙ outer_text place new plain)
    ∙ sym (append_assoc before (place.byte ∷ []) (grouped_from false 0 new))
    ∙ ap (λ t. t ++ grouped_from false 0 new) (sym grown)

-- nothing is left
pub grouped_end : (whole text : List ℕ) (from at : ℕ) (old : List Place) → length text ≤ at → old ≡ []
    → whole ≡ take (at - from) (drop from text) ++ grouped_from false 0 old → whole ≡ drop from text
grouped_end whole text from at old end here whole_is =
    whole_is ∙ ap (λ places. take (at - from) (drop from text) ++ grouped_from false 0 places) here ∙ append-nil (take (at - from) (drop from text)) ∙ range_all text from at end

group_cases : (stay : Bool) (byte : ℕ) (inner rest : List ℕ) → cond stay (byte ∷ []) template ++ (kept_if stay inner ++ rest) ≡ cond stay (byte ∷ inner) template ++ rest
group_cases true byte inner rest = refl
group_cases false byte inner rest = refl

abbrev replaced : List ℕ → List ℕ
replaced group = cond (contains (codes " as ") group) group template

first_counts_not : (byte : ℕ) (inner rest : List ℕ) → byte ≡ open_angle → cond (contains (codes " as ") inner) (byte ∷ inner) template ++ rest ≡ replaced (byte ∷ inner) ++ rest
first_counts_not byte inner rest e = rw e refl

-- a group, from its bracket on
group_from : (place : Place) (tail : List Place) → opens_angle place ≡ true → grouped_from false 0 (place ∷ tail) ≡ replaced (place.byte ∷ bytes_of (take (group_length 1 tail) tail)) ++ grouped_from false 0 (drop (group_length 1 tail) tail)
group_from place tail e =
    let n = group_length 1 tail in
    let inner = bytes_of (take n tail) in
    let rest = grouped_from false 0 (drop n tail) in
    opened_text place tail e
    ∙ ap (λ t. cond (stays tail) (place.byte ∷ []) template ++ t) (inside (stays tail) 1 tail (omega arith))
    ∙ group_cases (stays tail) place.byte inner rest
    ∙ first_counts_not place.byte inner rest (opens_byte place e)

group_bytes : (text : List ℕ) (start n : ℕ) (old tail : List Place) (place : Place) → bytes_of old ≡ drop start text → old ≡ place ∷ tail → take (n + 1) (drop start text) ≡ place.byte ∷ bytes_of (take n tail)
group_bytes text start n old tail place bytes here =
    ap (take (n + 1)) (sym bytes ∙ ap bytes_of here) ∙ ap (λ m. take m (place.byte ∷ bytes_of tail)) (one_more n) ∙ ap (λ t. place.byte ∷ t) (take-map (λ (other : Place). other.byte) n tail)

-- a group outside of groups
pub grouped_group : (whole text : List ℕ) (from start next : ℕ) (old tail new : List Place) (place : Place) → opens_angle place ≡ true → old ≡ place ∷ tail → bytes_of old ≡ drop start text
    → next ≡ start + 1 + group_length 1 tail → new ≡ drop (group_length 1 tail) tail
    → whole ≡ take (start - from) (drop from text) ++ grouped_from false 0 old
    → whole ≡ take (start - from) (drop from text) ++ (replaced (take (next - start) (drop start text)) ++ grouped_from false 0 new)
grouped_group whole text from start next old tail new place opens here bytes is left whole_is =
    let n = group_length 1 tail in
    let before = take (start - from) (drop from text) in
    let size : next - start ≡ n + 1 = omega arith in
    let group : take (next - start) (drop start text) ≡ place.byte ∷ bytes_of (take n tail) = ap (λ m. take m (drop start text)) size ∙ group_bytes text start n old tail place bytes here in
    whole_is
    ∙ ap (λ t. before ++ t) (ap (grouped_from false 0) here ∙ group_from place tail opens)
    ∙ ap (λ t. before ++ (replaced t ++ grouped_from false 0 (drop n tail))) (sym group)
    ∙ ap (λ places. before ++ (replaced (take (next - start) (drop start text)) ++ grouped_from false 0 places)) (sym left)

-- ---- the whole name

-- before the first group
pub grouped_start : (name out : List ℕ) (place : ℕ) (rest : List Place) → out ≡ [] → place ≡ 0 → rest ≡ places_of name → grouped name ≡ (out ++ take (place - 0) (drop 0 name)) ++ grouped_from false 0 rest
grouped_start name out place rest none first is =
    ap (grouped_from false 0) (sym is)
    ∙ ap (λ n. take (n - 0) (drop 0 name) ++ grouped_from false 0 rest) (sym first)
    ∙ ap (λ t. (t ++ take (place - 0) (drop 0 name)) ++ grouped_from false 0 rest) (sym none)

abbrev found_text : List ℕ → ℕ → ℕ → ℕ → List ℕ → List ℕ
found_text text place start next rest = take (start - place) (drop place text) ++ (replaced (take (next - start) (drop start text)) ++ rest)

found_in : (name other old new : List ℕ) (place start next : ℕ) → other ≡ name → old ≡ found_text other place start next new → old ≡ found_text name place start next new
found_in name other old new place start next same found = subst (λ (text : List ℕ). old ≡ found_text text place start next new) same found

joined : (out a b c rest : List ℕ) → (out ++ a) ++ (b ++ (c ++ rest)) ≡ (out ++ (a ++ (b ++ c))) ++ rest
joined out a b c rest = simp append_assoc

-- a group that stays
pub group_stays : (whole name other out group old new : List ℕ) (r : Bool) (kept place start next : ℕ) → other ≡ name → kept ≤ place → place ≤ start → start ≤ next
    → group ≡ take (next - start) (drop start name) → r ≡ contains (codes " as ") group → r ≡ true
    → whole ≡ (out ++ take (place - kept) (drop kept name)) ++ old → old ≡ found_text other place start next new
    → whole ≡ (out ++ take (next - kept) (drop kept name)) ++ new
group_stays whole name other out group old new r kept place start next same low middle high is tested has_it whole_is found =
    let a = take (place - kept) (drop kept name) in
    let b = take (start - place) (drop place name) in
    let c = take (next - start) (drop start name) in
    let has : contains (codes " as ") c ≡ true = ap (contains (codes " as ")) (sym is) ∙ sym tested ∙ has_it in
    let here : old ≡ b ++ (c ++ new) = found_in name other old new place start next same found ∙ ap (λ t. b ++ (cond t c template ++ new)) has in
    let all : a ++ (b ++ c) ≡ take (next - kept) (drop kept name) = ap (λ t. a ++ t) (range_join name place start next middle high) ∙ range_join name kept place next low (omega arith) in
    whole_is ∙ ap (λ t. (out ++ a) ++ t) here ∙ joined out a b c new ∙ ap (λ t. (out ++ t) ++ new) all

joined_twice : (out a b c rest : List ℕ) → (out ++ a) ++ (b ++ (c ++ rest)) ≡ ((out ++ (a ++ b)) ++ c) ++ rest
joined_twice out a b c rest = simp append_assoc

-- a group that is replaced
pub group_goes : (whole name other out out1 out2 group old new : List ℕ) (r : Bool) (kept place start next : ℕ) → other ≡ name → kept ≤ place → place ≤ start
    → group ≡ take (next - start) (drop start name) → r ≡ contains (codes " as ") group → r ≡ false
    → out1 ≡ out ++ take (start - kept) (drop kept name) → out2 ≡ out1 ++ template
    → whole ≡ (out ++ take (place - kept) (drop kept name)) ++ old → old ≡ found_text other place start next new
    → whole ≡ (out2 ++ take (next - next) (drop next name)) ++ new
group_goes whole name other out out1 out2 group old new r kept place start next same low middle is tested has_none first second whole_is found =
    let a = take (place - kept) (drop kept name) in
    let b = take (start - place) (drop place name) in
    let c = take (next - start) (drop start name) in
    let lacks : contains (codes " as ") c ≡ false = ap (contains (codes " as ")) (sym is) ∙ sym tested ∙ has_none in
    let here : old ≡ b ++ (template ++ new) = found_in name other old new place start next same found ∙ ap (λ t. b ++ (cond t c template ++ new)) lacks in
    let said : (out ++ (a ++ b)) ++ template ≡ out2 = ap (λ t. (out ++ t) ++ template) (range_join name kept place start low middle) ∙ ap (λ t. t ++ template) (sym first) ∙ sym second in
    whole_is ∙ ap (λ t. (out ++ a) ++ t) here ∙ joined_twice out a b template new ∙ ap (λ t. t ++ new) said
    ∙ ap (λ t. t ++ new) (sym (append-nil out2)) ∙ ap (λ t. (out2 ++ t) ++ new) (sym (range_none name next))

-- no group comes any more
pub no_more_groups : (whole name other out final old : List ℕ) (kept place : ℕ) → other ≡ name → kept ≤ place → final ≡ out ++ drop kept name
    → whole ≡ (out ++ take (place - kept) (drop kept name)) ++ old → old ≡ drop place other → final ≡ whole
no_more_groups whole name other out final old kept place same low said whole_is rest =
    said
    ∙ sym (whole_is ∙ ap (λ t. (out ++ take (place - kept) (drop kept name)) ++ t) (rest ∙ ap (λ t. drop place t) same)
    ∙ append_assoc out (take (place - kept) (drop kept name)) (drop place name) ∙ ap (λ t. out ++ t) (range_rest name kept place low))
