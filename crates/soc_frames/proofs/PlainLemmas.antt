-- The first of some fronts that a text begins with.
use Rattle.std.proofs.Common.{◌≡◌, ℕ, ◌+◌, ◌<◌, ◌≤◌, Bool, cond, List, length, get_or, drop, map, Bor, ap, sym, ◌∙◌}
use Rattle.std.proofs.lemmas.List.{at_drop_more, at_drop_all}
use Rattle.soc_frames.specs.Depth.{begins, front_length}

abbrev pub length_left : List ℕ → List (Bor (List ℕ)) → ℕ
length_left text fronts = front_length text (map (λ (front : Bor (List ℕ)). front.now) fronts)

-- one front further
pub length_left_turn : (text : List ℕ) (fronts : List (Bor (List ℕ))) (i : ℕ) (front : Bor (List ℕ)) (b : Bool) → i < length fronts → get_or fronts i front ≡ front → b ≡ begins text front.now
    → length_left text (drop i fronts) ≡ cond b (length front.now) (length_left text (drop (i + 1) fronts))
length_left_turn text fronts i front b inside is test =
    at_drop_more (length_left text) fronts i front inside
    ∙ ap (λ (other : Bor (List ℕ)). cond (begins text other.now) (length other.now) (length_left text (drop (i + 1) fronts))) is
    ∙ ap (λ t. cond t (length front.now) (length_left text (drop (i + 1) fronts))) (sym test)

pub length_left_end : (text : List ℕ) (fronts : List (Bor (List ℕ))) (i : ℕ) → length fronts ≤ i → length_left text (drop i fronts) ≡ 0
length_left_end text fronts i end = at_drop_all (length_left text) fronts i end
