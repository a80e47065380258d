-- Owners and their parts, as items come one by one.
use Rattle.std.proofs.Common.{◌≡◌, List, [], ◌∷◌, ◌++◌, cond, Option, Some, None, refl, ◌∙◌, ap}
use Rattle.std.specs.Prelude.{filter_map, take_while, is_none}
use Rattle.std.specs.List.{cons_option}
use Rattle.std.proofs.lemmas.List.Sums.{take_while-cons}
use Rattle.soc_symfile.specs.Records.{onto_owner, owners_in}
use Rattle.soc_symfile.specs.inner.Tables.{onto_last}

-- the parts of an item and of those behind it, up to the next owner
abbrev pub parts_from : {O P : Type 0} → Option O → Option P → List P → List P
parts_from None part parts = cons_option part parts
parts_from (Some owner) part parts = []

abbrev pub first_parts : {A O P : Type 0} → (A → Option O) → (A → Option P) → List A → List P
first_parts owner part [] = []
first_parts owner part (item ∷ items) = parts_from (owner item) (part item) (first_parts owner part items)

taken : {A O P : Type 0} (owner : A → Option O) (part : A → Option P) (item : A) (taken : List A) (o : Option O)
    → filter_map part (cond (is_none o) (item ∷ taken) []) ≡ parts_from o (part item) (filter_map part taken)
taken owner part item items None = refl
taken owner part item items (Some o) = refl

first_parts_are : {A O P : Type 0} (owner : A → Option O) (part : A → Option P) (items : List A)
    → filter_map part (take_while (λ other. is_none (owner other)) items) ≡ first_parts owner part items
first_parts_are owner part [] = refl
first_parts_are owner part (item ∷ items) =
    ap (filter_map part) (take_while-cons (λ other. is_none (owner other)) item items)
    ∙ taken owner part item (take_while (λ other. is_none (owner other)) items) (owner item)
    ∙ ap (parts_from (owner item) (part item)) (first_parts_are owner part items)

abbrev pub groups : {A O P : Type 0} → (A → Option O) → (A → Option P) → List A → List (O × List P)
groups owner part [] = []
groups owner part (item ∷ items) = onto_owner (owner item) (first_parts owner part items) (groups owner part items)

pub groups_are : {A O P : Type 0} (owner : A → Option O) (part : A → Option P) (items : List A) → owners_in owner part items ≡ groups owner part items
unfolding owners_in
groups_are owner part [] = refl
groups_are owner part (item ∷ items) =
    rw (first_parts_are owner part items, groups_are owner part items) refl

module _ {A O P : Type 0} (owner : A → Option O) (part : A → Option P) (line : A) where
  -- an owner comes
  parts-owner : (o : O) → owner line ≡ Some o → (items : List A) → first_parts owner part (items ++ line ∷ []) ≡ first_parts owner part items
  parts-owner o is [] = rw is refl
  parts-owner o is (item ∷ items) = ap (parts_from (owner item) (part item)) (parts-owner o is items)

  put_behind : (o : Option O) (parts : List P) (gs : List (O × List P)) (g : O × List P) → onto_owner o parts (gs ++ g ∷ []) ≡ onto_owner o parts gs ++ g ∷ []
  put_behind None parts gs g = refl
  put_behind (Some o) parts gs g = refl

  pub groups-owner : (o : O) → owner line ≡ Some o → (items : List A) → groups owner part (items ++ line ∷ []) ≡ groups owner part items ++ (o, []) ∷ []
  groups-owner o is [] = rw is refl
  groups-owner o is (item ∷ items) =
      rw (parts-owner o is items, groups-owner o is items) (put_behind (owner item) (first_parts owner part items) (groups owner part items) (o, []))

  -- an item that is neither comes
  parts-other : owner line ≡ None → part line ≡ None → (items : List A) → first_parts owner part (items ++ line ∷ []) ≡ first_parts owner part items
  parts-other no_owner no_part [] = rw (no_owner, no_part) refl
  parts-other no_owner no_part (item ∷ items) = ap (parts_from (owner item) (part item)) (parts-other no_owner no_part items)

  pub groups-other : owner line ≡ None → part line ≡ None → (items : List A) → groups owner part (items ++ line ∷ []) ≡ groups owner part items
  groups-other no_owner no_part [] = rw no_owner refl
  groups-other no_owner no_part (item ∷ items) = rw (parts-other no_owner no_part items, groups-other no_owner no_part items) refl

  -- a part comes: it is the last owner's, or one of the first parts
  abbrev or_first : P → List (O × List P) → List P → List P
  or_first x [] parts = parts ++ x ∷ []
  or_first x (g ∷ gs) parts = parts

  before_first_part : (o : Option O) (p : Option P) (x : P) (parts others : List P) (gs : List (O × List P))
      → parts_from o p (or_first x gs parts) ≡ or_first x (onto_owner o others gs) (parts_from o p parts)
  before_first_part (Some o) p x parts others gs = refl
  before_first_part None p x parts others (g ∷ gs) = refl
  before_first_part None None x parts others [] = refl
  before_first_part None (Some p) x parts others [] = refl

  parts-part : (x : P) → owner line ≡ None → part line ≡ Some x → (items : List A)
      → first_parts owner part (items ++ line ∷ []) ≡ or_first x (groups owner part items) (first_parts owner part items)
  parts-part x no_owner is [] = rw (no_owner, is) refl
  parts-part x no_owner is (item ∷ items) =
      ap (parts_from (owner item) (part item)) (parts-part x no_owner is items)
      ∙ before_first_part (owner item) (part item) x (first_parts owner part items) (first_parts owner part items) (groups owner part items)

  put_onto_last : (o : Option O) (x : P) (parts : List P) (gs : List (O × List P)) → onto_owner o (or_first x gs parts) (onto_last x gs) ≡ onto_last x (onto_owner o parts gs)
  put_onto_last None x parts gs = refl
  put_onto_last (Some o) x parts [] = refl
  put_onto_last (Some o) x parts (g ∷ gs) = refl

  pub groups-part : (x : P) → owner line ≡ None → part line ≡ Some x → (items : List A) → groups owner part (items ++ line ∷ []) ≡ onto_last x (groups owner part items)
  groups-part x no_owner is [] = rw no_owner refl
  groups-part x no_owner is (item ∷ items) =
      rw (parts-part x no_owner is items, groups-part x no_owner is items) (put_onto_last (owner item) x (first_parts owner part items) (groups owner part items))
