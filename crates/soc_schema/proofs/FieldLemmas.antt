-- What holds of a list at a place, and of the table of fields.
use Rattle.std.proofs.Common.{◌≡◌, ◌≢◌, ℕ, zero, suc, ◌<◌, ◌+◌, Bool, true, false, List, [], ◌∷◌, map, length, get_or, Option, None, Some, refl, sym, ap, ◌∙◌, arith, position, eqb}
use Rattle.std.proofs.lemmas.Bool.{false≢true, eqb-true, agree_below, agree_below_at}
use Rattle.std.specs.List.{position_from}
use Rattle.std.specs.Option.{option_map_or}
use Rattle.std.specs.Cmp.Lexicographic.{same_text, other_text}
use Rattle.std.proofs.lemmas.List.{get_or-map as get_or-map_within}
use Rattle.std.proofs.lemmas.Iterator.Adapters.{position_from-zero}
use Rattle.std.proofs.Math.ListN.{get_or-map}
use Rattle.soc_schema.specs.declared.permission.Permission.TheVariants.{Public}
use Rattle.soc_schema.specs.declared.field.FieldKind.TheVariants.{Text}
use Rattle.soc_schema.specs.Fields.{FieldEntry, IsField, field_table, field_entry, name_of, source_of, is_text, comes_from, field_named, field_of_annotation, made}

-- two lists that one column cannot tell apart have the same in that column at each place
pub column_at : {A B C : Type 0} (f : A → C) (g : B → C) (xs : List A) (ys : List B) (d : A) (e : B) (i j : ℕ) → map f xs ≡ map g ys → i < length xs → i ≡ j → f (get_or xs i d) ≡ g (get_or ys j e)
column_at f g xs ys d e i j same within h =
    sym (get_or-map_within f xs i d (g e) within) ∙ (ap (λ l. get_or l i (g e)) same ∙ (get_or-map g ys i e ∙ ap (λ k. g (get_or ys k e)) h))

true_from : (b : Bool) → (false ≡ b → ⊥) → b ≡ true
true_from true h = refl
true_from false h = absurd (h refl)

false_from : (b : Bool) → (true ≡ b → ⊥) → b ≡ false
false_from true h = absurd (h refl)
false_from false h = refl

pub is_text-same : (xs ys : List ℕ) → xs ≡ ys → is_text xs ys ≡ true
is_text-same xs ys e = true_from (is_text xs ys) (λ h. other_text xs ys h e)

pub is_text-other : (xs ys : List ℕ) → xs ≢ ys → is_text xs ys ≡ false
is_text-other xs ys d = false_from (is_text xs ys) (λ h. d (same_text xs ys h))

-- the first place that passes is what a search gives, and none where none passes
position_from-found : {A : Type 0} (p : A → Bool) (xs : List A) (start i : ℕ) (d : A) → i < length xs → p (get_or xs i d) ≡ true → ((k : ℕ) → k < i → p (get_or xs k d) ≡ false) → position_from p start xs ≡ Some (start + i)
position_from-found p [] start i d within here before = absurd (omega arith)
position_from-found p (x ∷ xs) start zero d within here before = rw here (ap Some (omega arith))
position_from-found p (x ∷ xs) start (suc i) d within here before =
    rw (before 0 (omega arith)) (position_from-found p xs (start + 1) i d (omega arith) here (λ k h. before (suc k) (omega arith)) ∙ ap Some (omega arith))

position_from-absent : {A : Type 0} (p : A → Bool) (xs : List A) (start : ℕ) (d : A) → ((k : ℕ) → k < length xs → p (get_or xs k d) ≡ false) → position_from p start xs ≡ None
position_from-absent p [] start d all = refl
position_from-absent p (x ∷ xs) start d all =
    rw (all 0 (omega arith)) (position_from-absent p xs (start + 1) d (λ k h. all (suc k) (omega arith)))

pub position-found : {A : Type 0} (p : A → Bool) (xs : List A) (i : ℕ) (d : A) → i < length xs → p (get_or xs i d) ≡ true → ((k : ℕ) → k < i → p (get_or xs k d) ≡ false) → position p xs ≡ Some i
position-found p xs i d within here before =
    position_from-zero p xs ∙ (position_from-found p xs 0 i d within here before ∙ ap Some (omega arith))

pub position-absent : {A : Type 0} (p : A → Bool) (xs : List A) (d : A) → ((k : ℕ) → k < length xs → p (get_or xs k d) ≡ false) → position p xs ≡ None
position-absent p xs d all = position_from-zero p xs ∙ position_from-absent p xs 0 d all

abbrev nowhere : FieldEntry
nowhere = made [] Text Public

-- the first field of a name is the one that it names
pub field_named-found : (text : List ℕ) (f : ℕ) → IsField f → name_of f ≡ text → ((k : ℕ) → k < f → name_of k ≢ text) → field_named text ≡ Some f
unfolding field_named name_of field_entry field_table
field_named-found text f within here before =
    position-found (λ e. is_text e.name text) field_table f nowhere within (is_text-same (name_of f) text here) (λ k h. is_text-other (name_of k) text (before k h))

pub field_named-absent : (text : List ℕ) → ((k : ℕ) → IsField k → name_of k ≢ text) → field_named text ≡ None
unfolding field_named name_of field_entry field_table
field_named-absent text all =
    position-absent (λ e. is_text e.name text) field_table nowhere (λ k h. is_text-other (name_of k) text (all k h))

source-other : (text : List ℕ) (o : Option (List ℕ)) → o ≢ Some text → option_map_or (λ s. is_text s text) o false ≡ false
source-other text None h = refl
source-other text (Some s) h = is_text-other s text (λ e. h (ap Some e))

pub field_of_annotation-absent : (text : List ℕ) → ((k : ℕ) → IsField k → source_of k ≢ Some text) → field_of_annotation text ≡ None
unfolding field_of_annotation source_of field_entry field_table
field_of_annotation-absent text all =
    position-absent (comes_from text) field_table nowhere (λ k h. source-other text (source_of k) (all k h))

-- each name is one field's, by a test over the whole table
abbrev pub is_at : ℕ → Option ℕ → Bool
is_at f None = false
is_at f (Some g) = eqb g f

pub is_at-true : (f : ℕ) (o : Option ℕ) → is_at f o ≡ true → o ≡ Some f
is_at-true f None h = absurd (false≢true h)
is_at-true f (Some g) h = ap Some (eqb-true g f h)

abbrev names_own : ℕ → Bool
names_own f = is_at f (field_named (name_of f))

all_own : agree_below names_own (λ _. true) 36 ≡ true
unfolding field_named name_of field_entry field_table
all_own = refl

pub field_named-name_of : (f : ℕ) → IsField f → field_named (name_of f) ≡ Some f
field_named-name_of f inside = is_at-true f (field_named (name_of f)) (agree_below_at names_own (λ _. true) 36 f all_own inside)
