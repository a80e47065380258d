-- What the seats of a closed hall know, told by the desk's own basis.
use Rattle.std.proofs.Common.{◌≡◌, ℕ, zero, suc, List, [], ◌∷◌, map, refl, sym, ap, ◌∙◌, ⊎_elim, inl, inr}
use Rattle.std.specs.Option.{option_map}
use mathlib.Core.Option.{some, some-injective, some-ne-none}
use lib.ListN.{get_elem?}
use Rattle.std.proofs.lemmas.List.Elements.{All-map, All-weaker}
use Rattle.soc_hall.specs.declared.view.Entry.{Entry}
use Rattle.soc_hall.specs.declared.view.Known.{Known}
use Rattle.soc_hall.specs.declared.view.Turn.{Turn}
use Rattle.soc_hall.specs.Asked.{Closes, HasPart, Stands}

-- a place of a list that was mapped
at_map : {X Y : Type 0} (f : X → Y) (xs : List X) (k : ℕ) (y : Y) → get_elem? (map f xs) k ≡ some y → (x : X) × (get_elem? xs k ≡ some x) × (f x ≡ y)
at_map f [] k y is = absurd (some-ne-none y (sym is))
at_map f (x ∷ xs) zero y is = (x, refl, some-injective (f x) y is)
at_map f (x ∷ xs) (suc k) y is = at_map f xs k y is

map_at : {X Y : Type 0} (f : X → Y) (xs : List X) (k : ℕ) (x : X) → get_elem? xs k ≡ some x → get_elem? (map f xs) k ≡ some (f x)
map_at f [] k x is = absurd (some-ne-none x (sym is))
map_at f (z ∷ xs) zero x is = ap (λ z. some (f z)) (some-injective z x is)
map_at f (z ∷ xs) (suc k) x is = map_at f xs k x is

module _ {B B' X C P : Type 0} (desk_of : B → B') where
  -- what a seat knows, by the desk's basis
  abbrev pub told_by : Known B X C P → Known B' X C P
  told_by v = record { number = v.number; basis = option_map desk_of v.basis; opening = v.opening; seen = v.seen; turns = v.turns }

  module _ (answers : B → List X → C → P → List X → Type 0) (answers' : B' → List X → C → P → List X → Type 0)
      (tells : (basis : B) (log : List X) (command : C) (reply : P) (log' : List X) → answers basis log command reply log' → answers' (desk_of basis) log command reply log') where
    stands : (v : Known B X C P) (turn : Turn X C P) → Stands answers v turn → Stands answers' (told_by v) turn
    stands v turn s = record {
      before = s.before;
      after = s.after;
      there = s.there;
      start_is = s.start_is;
      front_is = s.front_is;
      right = (desk_of s.right.0, ap (option_map desk_of) s.right.1, tells s.right.0 _ turn.command turn.reply _ s.right.2);
    }

    part : (basis : B) (opening : List X) (entries : List (Entry X)) (v : Known B X C P) → HasPart answers basis opening entries v → HasPart answers' (desk_of basis) opening entries (told_by v)
    part basis opening entries v p = record {
      basis_is = ap (option_map desk_of) p.basis_is;
      opening_is = p.opening_is;
      seen = p.seen;
      mine = p.mine;
      turns = λ k turn at. stands v turn (p.turns k turn at);
    }

    pub closes_by : (log : List X) (basis : B) (seats : List (Known B X C P)) → Closes answers log basis seats → Closes answers' log (desk_of basis) (map told_by seats)
    closes_by log basis seats c = record {
      opening = c.opening;
      entries = c.entries;
      log_is = c.log_is;
      parts = All-map (HasPart answers' (desk_of basis) c.opening c.entries) told_by seats
          (All-weaker (HasPart answers basis c.opening c.entries) (λ v. HasPart answers' (desk_of basis) c.opening c.entries (told_by v)) (part basis c.opening c.entries) seats c.parts);
      owners = λ number. ⊎_elim (λ none. inl none) (λ (k, v, at, is). inr (k, told_by v, map_at told_by seats k v at, is)) (c.owners number);
      distinct = λ j k v w at_j at_k same.
          let x = at_map told_by seats j v at_j in
          let y = at_map told_by seats k w at_k in
          c.distinct j k x.0 y.0 x.1 y.1
          (ap (λ (z : Known B' X C P). z.number) x.2 ∙ (same ∙ sym (ap (λ (z : Known B' X C P). z.number) y.2)));
    }

    -- and begins with the same log
    pub opening_by : (log : List X) (basis : B) (seats : List (Known B X C P)) (c : Closes answers log basis seats) (opening : List X)
        → c.opening ≡ opening → (closes_by log basis seats c).opening ≡ opening
    unfolding closes_by
    opening_by log basis seats c opening is = is
