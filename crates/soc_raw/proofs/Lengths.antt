-- How long a record is, and its parts as they are written.
use Rattle.std.proofs.Common.{◌≡◌, ℕ, ◌+◌, ◌^◌, ◌<◌, ◌≤◌, List, [], ◌∷◌, ◌++◌, length, length-append, drop, sym, ap, ◌∙◌, arith, append_assoc, refl, subst}
use Rattle.std.specs.Prelude.{flat_map, sum_by}
use Rattle.std.specs.Int.{w64, to_le_bytes}
use Rattle.std.proofs.lemmas.List.Sums.{sum_by-cons}
use Rattle.std.proofs.lemmas.List.{flat_map_more, drop_at}
use Rattle.std.proofs.lemmas.List.Concat.{flat_map-append}
use Rattle.soc_raw.specs.inner.Sizes.{pair_len}
use Rattle.soc_raw.specs.inner.Writing.{Extends}
use Rattle.soc_raw.specs.Record.{Crash, pair_text, pairs_text, head_text, content_text, record_of, MAX_RECORD}
use Rattle.soc_base.specs.Cursor.{counted}

pub head_length : (c : Crash) → length c.id + 8 + 8 + 4 + length c.rule ≡ length (head_text c)
unfolding head_text
head_length c = omega (arith, length-append c.id (to_le_bytes w64 c.moment ++ (to_le_bytes w64 c.draw ++ counted c.rule)))

pub content_length : (c : Crash) → length (content_text c) ≡ 8 + length (flat_map pair_text c.annotations) + length (flat_map pair_text c.dumps)
unfolding content_text
content_length c = omega (arith, length-append (pairs_text c.annotations) (pairs_text c.dumps))

pub record_length : (c : Crash) → length (record_of c) ≡ length (head_text c) + length (content_text c)
unfolding record_of
record_length c = length-append (head_text c) (content_text c)

pub head_fits : (c : Crash) → length (record_of c) ≤ MAX_RECORD → length c.id + 8 + 8 + 4 + length c.rule ≤ MAX_RECORD
head_fits c fits = omega (arith, record_length c, head_length c)

pub rule_fits : (c : Crash) → length (record_of c) ≤ MAX_RECORD → length c.rule < 2 ^ 32
rule_fits c fits = omega (arith, record_length c, head_length c)

pub pairs_fit : (c : Crash) → length (record_of c) ≤ MAX_RECORD → (length (flat_map pair_text c.annotations) < 2 ^ 32) × (length (flat_map pair_text c.dumps) < 2 ^ 32)
pairs_fit c fits = (omega (arith, record_length c, content_length c), omega (arith, record_length c, content_length c))

pub whole_length : (c : Crash) → length c.id + 8 + 8 + 4 + length c.rule + length (pairs_text c.annotations) + length (pairs_text c.dumps) ≡ length (record_of c)
whole_length c = omega (arith, record_length c, head_length c, content_length c)

pub pairs_length : (ps : List (List ℕ × List ℕ)) → length (flat_map pair_text ps) ≡ sum_by pair_len ps
pairs_length [] = refl
pairs_length (p ∷ ps) =
    omega (arith, sum_by-cons pair_len p ps, pairs_length ps, length-append (pair_text p) (flat_map pair_text ps), length-append (counted p.0) (counted p.1))

-- for whoever makes a raw crash: the length of its record, from its parts
pub length_by_parts : (c : Crash) → length (record_of c) ≡ length c.id + 28 + length c.rule + sum_by pair_len c.annotations + sum_by pair_len c.dumps
length_by_parts c = omega (arith, whole_length c, pairs_length c.annotations, pairs_length c.dumps)

pub content_at : (c : Crash) (n : ℕ) → n ≡ length (head_text c) → drop n (record_of c) ≡ content_text c
unfolding record_of
content_at c n e = drop_at (head_text c) (content_text c) n (sym e)

-- more is written, step by step
pub further : (start mid end : List ℕ) → Extends start mid → Extends mid end → Extends start end
further start mid end first second = (first.0 ++ second.0, second.1 ∙ ap (λ t. t ++ second.0) first.1 ∙ append_assoc start first.0 second.0)

-- one pair more is written
pub pairs_more : (done : List (List ℕ × List ℕ)) (n v name value base old new : List ℕ) → name ≡ n → value ≡ v → old ≡ base ++ flat_map pair_text done → new ≡ old ++ pair_text (name, value) → new ≡ base ++ flat_map pair_text (done ++ (n, v) ∷ [])
pairs_more done n v name value base old new is_name is_value so_far put =
    put ∙ ap (λ t. t ++ pair_text (name, value)) so_far
    ∙ ap (λ t. (base ++ flat_map pair_text done) ++ pair_text (t, value)) is_name
    ∙ ap (λ t. (base ++ flat_map pair_text done) ++ pair_text (n, t)) is_value
    ∙ flat_map_more pair_text base done (n, v)

-- a pair is no longer than all of them
pub pair_fits : (all done left rest : List (List ℕ × List ℕ)) (n v name value : List ℕ) → done ++ left ≡ all → left ≡ (n, v) ∷ rest → name ≡ n → value ≡ v → length (flat_map pair_text all) < 2 ^ 32 → length (pair_text (name, value)) < 2 ^ 32
pair_fits all done left rest n v name value whole next is_name is_value fits =
    let P : List ℕ → Type 0 = λ t. length t < 2 ^ 32 in
    let row : flat_map pair_text all ≡ flat_map pair_text done ++ (pair_text (n, v) ++ flat_map pair_text rest) =
    ap (flat_map pair_text) (sym whole ∙ ap (λ t. done ++ t) next) ∙ flat_map-append pair_text done ((n, v) ∷ rest) in
    let short : length (pair_text (n, v)) < 2 ^ 32 =
    omega (arith, ap length row, length-append (flat_map pair_text done) (pair_text (n, v) ++ flat_map pair_text rest), length-append (pair_text (n, v)) (flat_map pair_text rest)) in
    subst P {x = pair_text (n, v)} (ap (λ t. pair_text (t, v)) (sym is_name) ∙ ap (λ t. pair_text (name, t)) (sym is_value)) short

-- the pairs so far stand behind what stood there
pub pairs_front : (start count pairs end now : List ℕ) → now ≡ (start ++ count) ++ pairs → Extends now end → Extends start end
pairs_front start count pairs end now so_far more = further start now end (count ++ pairs, so_far ∙ append_assoc start count pairs) more

regrouped : (s a b c d e f : List ℕ) → (((((s ++ a) ++ b) ++ c) ++ d) ++ e) ++ f ≡ s ++ ((a ++ (b ++ (c ++ d))) ++ (e ++ f))
regrouped s a b c d e f = simp append_assoc

-- the parts one after the other are the record, behind what stood there
pub encoded : (c : Crash) (start a b d e f g mb db : List ℕ) (id rule : List ℕ) → id ≡ c.id → rule ≡ c.rule → a ≡ start ++ id → mb ≡ to_le_bytes w64 c.moment → b ≡ a ++ mb → db ≡ to_le_bytes w64 c.draw → d ≡ b ++ db → e ≡ d ++ counted rule → f ≡ e ++ pairs_text c.annotations → g ≡ f ++ pairs_text c.dumps → g ≡ start ++ record_of c
unfolding record_of head_text content_text
encoded c start a b d e f g mb db id rule is_id is_rule pa m pb w pd pe pf pg =
    let first : a ≡ start ++ c.id = pa ∙ ap (λ t. start ++ t) is_id in
    let second : b ≡ (start ++ c.id) ++ to_le_bytes w64 c.moment = pb ∙ ap (λ t. t ++ mb) first ∙ ap (λ t. (start ++ c.id) ++ t) m in
    let third : d ≡ ((start ++ c.id) ++ to_le_bytes w64 c.moment) ++ to_le_bytes w64 c.draw = pd ∙ ap (λ t. t ++ db) second ∙ ap (λ t. ((start ++ c.id) ++ to_le_bytes w64 c.moment) ++ t) w in
    let fourth : e ≡ (((start ++ c.id) ++ to_le_bytes w64 c.moment) ++ to_le_bytes w64 c.draw) ++ counted c.rule = pe ∙ ap (λ t. t ++ counted rule) third ∙ ap (λ t. (((start ++ c.id) ++ to_le_bytes w64 c.moment) ++ to_le_bytes w64 c.draw) ++ counted t) is_rule in
    pg ∙ ap (λ t. t ++ pairs_text c.dumps) (pf ∙ ap (λ t. t ++ pairs_text c.annotations) fourth)
    ∙ regrouped start c.id (to_le_bytes w64 c.moment) (to_le_bytes w64 c.draw) (counted c.rule) (pairs_text c.annotations) (pairs_text c.dumps)
