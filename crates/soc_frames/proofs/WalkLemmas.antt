-- One place of a walk.
use Rattle.std.proofs.Common.{◌≡◌, ℕ, ◌+◌, ◌-◌, ◌<◌, ◌≤◌, cond, nat_lt, List, [], ◌∷◌, ◌++◌, length, get_or, take, drop, refl, ap, sym, ◌∙◌}
use Rattle.std.proofs.lemmas.List.{drop_more, drop_all, take_more}
use Rattle.soc_frames.specs.declared.walk.Place.{Place}
use Rattle.soc_frames.specs.Depth.{places_from, plain_length}
use Rattle.soc_frames.specs.Rust.{bytes_of}

abbrev pub place_with : ℕ → ℕ → Place
place_with byte plain = record { byte = byte; is_plain = nat_lt 0 plain }

turn : (before rest before' rest' : List ℕ) (byte left plain : ℕ) → rest ≡ byte ∷ rest' → before' ≡ before ++ byte ∷ [] → plain ≡ cond (nat_lt 0 left) left (plain_length before rest)
    → places_from before left rest ≡ place_with byte plain ∷ places_from before' (plain - 1) rest'
turn before rest before' rest' byte left plain here more is =
    ap (places_from before left) here
    ∙ ap (λ n. place_with byte n ∷ places_from (before ++ byte ∷ []) (n - 1) rest') (sym (is ∙ ap (λ bytes. cond (nat_lt 0 left) left (plain_length before bytes)) here))
    ∙ ap (λ front. place_with byte plain ∷ places_from front (plain - 1) rest') (sym more)

-- the next place, and what is left behind it
pub places_turn : (text : List ℕ) (place byte left plain : ℕ) → place < length text → byte ≡ get_or text place 0 → plain ≡ cond (nat_lt 0 left) left (plain_length (take place text) (drop place text))
    → places_from (take place text) left (drop place text) ≡ place_with byte plain ∷ places_from (take (place + 1) text) (plain - 1) (drop (place + 1) text)
places_turn text place byte left plain inside is plain_is =
    turn (take place text) (drop place text) (take (place + 1) text) (drop (place + 1) text) byte left plain
    (drop_more text place 0 inside ∙ ap (λ b. b ∷ drop (place + 1) text) (sym is))
    (take_more text place 0 inside ∙ ap (λ b. take place text ++ b ∷ []) (sym is))
    plain_is

pub places_end : (text : List ℕ) (place left : ℕ) → length text ≤ place → places_from (take place text) left (drop place text) ≡ []
places_end text place left end = ap (places_from (take place text) left) (drop_all place text end)

-- a name's places are its bytes
pub bytes_of-places_from : (before : List ℕ) (left : ℕ) (rest : List ℕ) → bytes_of (places_from before left rest) ≡ rest
bytes_of-places_from before left [] = refl
bytes_of-places_from before left (byte ∷ rest) =
    ap (λ bytes. byte ∷ bytes) (bytes_of-places_from (before ++ byte ∷ []) (cond (nat_lt 0 left) left (plain_length before (byte ∷ rest)) - 1) rest)
