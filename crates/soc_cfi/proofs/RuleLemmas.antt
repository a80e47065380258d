-- The text of a rule, part by part.
use Rattle.std.proofs.Common.{◌≡◌, ◌⊎◌, Bor, ℕ, suc, ◌-◌, ◌+◌, true, false, List, [], ◌∷◌, ◌++◌, length, take, get_or, cond, refl, ap, sym, subst, ◌∙◌, arith, append-nil, append_assoc, length-append, inl, inr}
use Rattle.std.proofs.lemmas.Bool.{cases_Bool}
use Rattle.std.proofs.lemmas.List.{take_at, get_or_at}
use Rattle.std.proofs.lemmas.Str.{IsCharBoundary-before_ascii, IsCharBoundary-start}
use Rattle.std.specs.List.{before_first, join_with_byte, position_or_len, slice_range}
use Rattle.std.specs.Prelude.{Option, None, Some, MatchOption, not}
use Rattle.std.specs.Str.{IsCharBoundary, IsUtf8}
use Rattle.soc_cfi.specs.Rules.{is_name, rule_text}
use Rattle.soc_cfi.specs.Words.{parts}

-- what belongs to the rule of these parts, behind another part of it
pub closing : List (List ℕ) → List ℕ
closing [] = []
closing (part ∷ later) = cond (is_name part) [] (32 ∷ rule_text (part ∷ later))

pub before_first-name : (part : List ℕ) (later : List (List ℕ)) → is_name part ≡ true → before_first is_name (part ∷ later) ≡ []
before_first-name part later named = ap (λ b. take (cond (not b) (1 + position_or_len is_name later) 0) (part ∷ later)) named

pub before_first-plain : (part : List ℕ) (later : List (List ℕ)) → is_name part ≡ false → before_first is_name (part ∷ later) ≡ part ∷ before_first is_name later
before_first-plain part later plain =
    let next : 1 + position_or_len is_name later ≡ suc (position_or_len is_name later) = omega arith in
    ap (λ b. take (cond (not b) (1 + position_or_len is_name later) 0) (part ∷ later)) plain ∙ ap (λ n. take n (part ∷ later)) next

-- the rule of parts that begin with a name is empty
text_none : (part : List ℕ) (later : List (List ℕ)) → is_name part ≡ true → rule_text (part ∷ later) ≡ []
text_none part later named = ap (join_with_byte 32) (before_first-name part later named)

closing-name : (part : List ℕ) (later : List (List ℕ)) → is_name part ≡ true → closing (part ∷ later) ≡ []
unfolding closing
closing-name part later named = ap (λ b. cond b [] (32 ∷ rule_text (part ∷ later))) named

closing-plain : (part : List ℕ) (later : List (List ℕ)) → is_name part ≡ false → closing (part ∷ later) ≡ 32 ∷ rule_text (part ∷ later)
unfolding closing
closing-plain part later plain = ap (λ b. cond b [] (32 ∷ rule_text (part ∷ later))) plain

join_more : (part : List ℕ) (later : List (List ℕ)) → join_with_byte 32 (part ∷ before_first is_name later) ≡ part ++ closing later
unfolding closing
join_more part [] = sym (append-nil part)
join_more part (next ∷ later) =
    elim (cases_Bool (is_name next)) [
      | inl named ↦ ap (λ ps. join_with_byte 32 (part ∷ ps)) (before_first-name next later named) ∙ sym (append-nil part) ∙ ap (λ t. part ++ t) (sym (closing-name next later named))
      | inr plain ↦ ap (λ ps. join_with_byte 32 (part ∷ ps)) (before_first-plain next later plain) ∙ ap (λ ps. part ++ (32 ∷ join_with_byte 32 ps)) (sym (before_first-plain next later plain)) ∙ ap (λ t. part ++ t) (sym (closing-plain next later plain))
    ]

-- the rule's text goes on behind a part that is no name
text_more : (part : List ℕ) (later : List (List ℕ)) → is_name part ≡ false → rule_text (part ∷ later) ≡ part ++ closing later
text_more part later plain = ap (join_with_byte 32) (before_first-plain part later plain) ∙ join_more part later

-- the text up to rest, without the space before it, belongs to the rule
abbrev pub Reached : List ℕ → List ℕ → Type 0
Reached text rest = (rest ≡ text) ⊎ ((front : List ℕ) × (text ≡ front ++ (32 ∷ rest)) × (rule_text (parts text) ≡ front ++ closing (parts rest)))

pub reached_start : (text : List ℕ) → Reached text text
reached_start text = inl refl

-- past a part that is no name
pub reached_more : (text rest part later : List ℕ) → Reached text rest → is_name part ≡ false → parts rest ≡ part ∷ parts later → rest ≡ part ++ (32 ∷ later) → Reached text later
reached_more text rest part later (inl same) plain parted whole =
    inr (part, sym same ∙ whole, ap (λ t. rule_text (parts t)) (sym same) ∙ ap rule_text parted ∙ text_more part (parts later) plain)
reached_more text rest part later (inr at) plain parted whole =
    let split : text ≡ (at.0 ++ (32 ∷ part)) ++ (32 ∷ later) = at.1 ∙ ap (λ t. at.0 ++ (32 ∷ t)) whole ∙ sym (append_assoc at.0 (32 ∷ part) (32 ∷ later)) in
    let goes : closing (parts rest) ≡ 32 ∷ (part ++ closing (parts later)) = ap closing parted ∙ closing-plain part (parts later) plain ∙ ap (λ t. 32 ∷ t) (text_more part (parts later) plain) in
    inr (at.0 ++ (32 ∷ part), split, at.2 ∙ ap (λ t. at.0 ++ t) goes ∙ sym (append_assoc at.0 (32 ∷ part) (closing (parts later))))

-- at a name the rule ends before the space
front_of : (text rest front : List ℕ) → text ≡ front ++ (32 ∷ rest) → (length text - length rest) - 1 ≡ length front
front_of text rest front whole =
    let longer : length text ≡ length front + length (32 ∷ rest) = ap length whole ∙ length-append front (32 ∷ rest) in
    omega arith

pub reached_name : (text rest part : List ℕ) (more : List (List ℕ)) → Reached text rest → is_name part ≡ true → parts rest ≡ part ∷ more → take ((length text - length rest) - 1) text ≡ rule_text (parts text)
reached_name text rest part more (inl same) named parted =
    let none : (length text - length rest) - 1 ≡ 0 = (let e : length rest ≡ length text = ap length same in omega arith) in
    ap (λ n. take n text) none ∙ sym (ap (λ t. rule_text (parts t)) (sym same) ∙ ap rule_text parted ∙ text_none part more named)
reached_name text rest part more (inr at) named parted =
    let ends : closing (parts rest) ≡ [] = ap closing parted ∙ closing-name part more named in
    ap (λ t. take ((length text - length rest) - 1) t) at.1 ∙ take_at at.0 (32 ∷ rest) ((length text - length rest) - 1) (sym (front_of text rest at.0 at.1)) ∙ sym (at.2 ∙ ap (λ t. at.0 ++ t) ends ∙ append-nil at.0)

-- that place is a character's
pub reached_boundary : (text rest : List ℕ) → Reached text rest → IsUtf8 text → IsCharBoundary text ((length text - length rest) - 1)
reached_boundary text rest (inl same) utf8 =
    let none : (length text - length rest) - 1 ≡ 0 = (let e : length rest ≡ length text = ap length same in omega arith) in
    subst (IsCharBoundary text) (sym none) (IsCharBoundary-start text utf8)
reached_boundary text rest (inr at) utf8 =
    let place = (length text - length rest) - 1 in
    let front : place ≡ length at.0 = front_of text rest at.0 at.1 in
    let byte : get_or text place 0 ≡ 32 = ap (λ t. get_or t place 0) at.1 ∙ get_or_at at.0 32 rest 0 place (sym front) in
    let longer : length text ≡ length at.0 + length (32 ∷ rest) = ap length at.1 ∙ length-append at.0 (32 ∷ rest) in
    IsCharBoundary-before_ascii text place (omega arith) (omega arith)

-- without a name behind it the rule goes on to the end
last_end : (text rest : List ℕ) → Reached text rest → is_name rest ≡ false → parts rest ≡ rest ∷ [] → text ≡ rule_text (parts text)
unfolding closing
last_end text rest (inl same) plain parted =
    sym (ap (λ t. rule_text (parts t)) (sym same) ∙ ap rule_text parted ∙ text_more rest [] plain ∙ append-nil rest ∙ same)
last_end text rest (inr at) plain parted =
    let goes : closing (parts rest) ≡ 32 ∷ rest = ap closing parted ∙ closing-plain rest [] plain ∙ ap (λ t. 32 ∷ t) (text_more rest [] plain ∙ append-nil rest) in
    at.1 ∙ sym (at.2 ∙ ap (λ t. at.0 ++ t) goes)

pub reached_end : (text rest part : List ℕ) → Reached text rest → part ≡ rest → is_name part ≡ false → parts rest ≡ part ∷ [] → text ≡ rule_text (parts text)
reached_end text rest part reached same plain parted =
    last_end text rest reached (sym (ap is_name same) ∙ plain) (parted ∙ ap (λ t. t ∷ []) same)

-- the parts begin with the part before the first space
pub parted : (rest part : List ℕ) (later : Option (Bor (List ℕ))) → MatchOption later (parts rest ≡ part ∷ []) (λ l. parts rest ≡ part ∷ parts l.now) → (more : List (List ℕ)) × (parts rest ≡ part ∷ more)
parted rest part None one = ([], one)
parted rest part (Some later) more = (parts later.now, more)

pub range_front : (text : List ℕ) (n : ℕ) → slice_range text 0 n ≡ take n text
range_front text n = grind arith
