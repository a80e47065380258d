-- The fields in the order of their annotations: they rise, each has an annotation, and no field that has one lacks.
use Rattle.std.proofs.Common.{◌≡◌, ℕ, ◌<◌, ◌+◌, Bool, true, false, ◌&&◌, List, [], length, get_or, Option, None, Some, Ok, Err, MatchOption, refl, sym, ap, subst, ◌∙◌, arith, position, eqb, ltb, unwrap_or, ⊎_elim}
use Rattle.std.proofs.lemmas.Bool.{false≢true, and_parts, eqb-true, ltb-true, agree_below, agree_below_at, cases_lt}
use Rattle.std.proofs.lemmas.List.{get_or_default}
use Rattle.std.proofs.lemmas.List.Sorted.{searchable_from_sorted}
use Rattle.std.proofs.lemmas.Map.Text.{is_eq-slice_cmp}
use Rattle.std.specs.Cmp.{Equal-is}
use Rattle.std.specs.Cmp.Lexicographic.{same_text, nat_list_cmp_total}
use Rattle.std.specs.List.Sorted.{IsBinarySearchResult, IsNonDecreasingBy, IsSortedBy}
use Rattle.std.specs.Option.{option_map_or}
use Rattle.std.specs.Ordering.{is_eq, is_lt, ordering_index}
use Rattle.std.specs.declared.cmp.Ordering.{Ordering}
use Rattle.std.specs.declared.cmp.Ordering.TheVariants.{Less, Equal, Greater}
use Rattle.soc_base.specs.Names.{byte_cmp}
use Rattle.soc_schema.specs.Fields.{IsField, field_table, field_entry, source_of, field_of_annotation}
use Rattle.soc_schema.specs.inner.Sources.{annotation_of, by_annotation}
use Rattle.soc_schema.proofs.FieldLemmas.{field_of_annotation-absent, is_at, is_at-true, is_text-same}

abbrev field_at : ℕ → ℕ
field_at i = get_or by_annotation i 0

-- ---- the annotations rise, by a test of each two neighbours

abbrev falls : ℕ → Bool
falls k = is_lt (byte_cmp (annotation_of (field_at (k + 1))) (annotation_of (field_at k)))

none_falls : agree_below falls (λ _. false) 17 ≡ true
unfolding source_of field_entry field_table
none_falls = refl

sorted : IsSortedBy (λ a b. is_lt (byte_cmp (annotation_of a) (annotation_of b))) by_annotation
sorted k d _ within =
    let pair : (get_or by_annotation (k + 1) d ≡ field_at (k + 1)) × (get_or by_annotation k d ≡ field_at k) =
    (get_or_default by_annotation (k + 1) d 0 (omega arith), get_or_default by_annotation k d 0 (omega arith)) in
    rw (pair.0, pair.1) (agree_below_at falls (λ _. false) 17 k none_falls (omega arith))

searchable : (text : List ℕ) → IsNonDecreasingBy (λ f. ordering_index (byte_cmp (annotation_of f) text)) by_annotation
searchable text = searchable_from_sorted nat_list_cmp_total annotation_of by_annotation text sorted

-- ---- equal texts are those that the order calls equal

equal_texts : (a b : List ℕ) → byte_cmp a b ≡ Equal → a ≡ b
equal_texts a b h = same_text a b (sym (sym (is_eq-slice_cmp a b) ∙ ap is_eq h))

own_order : (a : List ℕ) → byte_cmp a a ≡ Equal
own_order a = (Equal-is (byte_cmp a a)).0 (is_eq-slice_cmp a a ∙ is_text-same a a refl)

-- ---- each field of the list is one of the table, and has an annotation

has_annotation : Option (List ℕ) → Bool
has_annotation None = false
has_annotation (Some _) = true

abbrev is_sourced : ℕ → Bool
is_sourced i = ltb (field_at i) 36 && has_annotation (source_of (field_at i))

all_sourced : agree_below is_sourced (λ _. true) 18 ≡ true
unfolding source_of field_entry field_table has_annotation
all_sourced = refl

annotation-some : (o : Option (List ℕ)) → has_annotation o ≡ true → o ≡ Some (unwrap_or o [])
unfolding has_annotation
annotation-some None h = absurd (false≢true h)
annotation-some (Some s) h = refl

-- the field at a place whose annotation the order calls equal to the text
pub sourced : (text : List ℕ) (i : ℕ) → i < 18 → byte_cmp (annotation_of (field_at i)) text ≡ Equal → IsField (field_at i) × (source_of (field_at i) ≡ Some text)
sourced text i within equal =
    let facts = and_parts _ _ (agree_below_at is_sourced (λ _. true) 18 i all_sourced within) in
    (ltb-true (field_at i) 36 facts.0, annotation-some (source_of (field_at i)) facts.1 ∙ ap Some (equal_texts _ _ equal))

-- ---- each field that has an annotation stands in the list

abbrev is_there : ℕ → Option ℕ → Bool
is_there f o = option_map_or (λ i. ltb i 18 && eqb (field_at i) f) o false

abbrev is_listed : ℕ → Bool
is_listed f = option_map_or (λ _. is_there f (position (eqb f) by_annotation)) (source_of f) true

all_listed : agree_below is_listed (λ _. true) 36 ≡ true
unfolding source_of field_entry field_table
all_listed = refl

place_of-there : (f : ℕ) (o : Option ℕ) → is_there f o ≡ true → (i : ℕ) × (i < 18) × (field_at i ≡ f)
place_of-there f None h = absurd (false≢true h)
place_of-there f (Some i) h = let facts = and_parts _ _ h in (i, ltb-true i 18 facts.0, eqb-true (field_at i) f facts.1)

listed : (f : ℕ) (text : List ℕ) (o : Option (List ℕ)) → o ≡ Some text → option_map_or (λ _. is_there f (position (eqb f) by_annotation)) o true ≡ true
    → (i : ℕ) × (i < 18) × (field_at i ≡ f)
listed f text None e h = cc
listed f text (Some s) e h = place_of-there f (position (eqb f) by_annotation) h

-- a text that no annotation of the list equals is no field's
pub unsourced : (text : List ℕ) → ((i : ℕ) → i < 18 → byte_cmp (annotation_of (field_at i)) text ≡ Equal → ⊥) → (f : ℕ) → IsField f → source_of f ≡ Some text → ⊥
unsourced text none f inside e =
    let place = listed f text (source_of f) e (agree_below_at is_listed (λ _. true) 36 f all_listed inside) in
    let same : annotation_of (field_at place.0) ≡ text = ap annotation_of place.2 ∙ ap (λ o. unwrap_or o []) e in
    none place.0 place.1 (ap (λ a. byte_cmp a text) same ∙ own_order text)

-- ---- no two fields have one annotation

abbrev is_own : ℕ → Bool
is_own f = option_map_or (λ s. is_at f (field_of_annotation s)) (source_of f) true

all_own : agree_below is_own (λ _. true) 36 ≡ true
unfolding field_of_annotation source_of field_entry field_table
all_own = refl

own : (f : ℕ) (text : List ℕ) (o : Option (List ℕ)) → o ≡ Some text → option_map_or (λ s. is_at f (field_of_annotation s)) o true ≡ true → field_of_annotation text ≡ Some f
own f text None e h = cc
own f text (Some s) e h =
    let same : s ≡ text = cc in
    subst (λ t. field_of_annotation t ≡ Some f) same (is_at-true f (field_of_annotation s) h)

pub field_of_annotation-own : (f : ℕ) (text : List ℕ) → IsField f → source_of f ≡ Some text → field_of_annotation text ≡ Some f
field_of_annotation-own f text inside e = own f text (source_of f) e (agree_below_at is_own (λ _. true) 36 f all_own inside)

-- ---- what the search answers

less_equal : (o : Ordering) → o ≡ Less → o ≡ Equal → ⊥
less_equal o less equal = cc

greater_equal : (o : Ordering) → o ≡ Greater → o ≡ Equal → ⊥
greater_equal o greater equal = cc

abbrev pub Finds : List ℕ → Option ℕ → Type 0
Finds text result = MatchOption result ((f : ℕ) → IsField f → source_of f ≡ Some text → ⊥) (λ f. IsField f × (source_of f ≡ Some text))

pub found : (text : List ℕ) (i d : ℕ) → i < length by_annotation → IsBinarySearchResult (λ f. byte_cmp (annotation_of f) text) by_annotation (Ok i) → Finds text (Some (get_or by_annotation i d))
found text i d within equal =
    let here : get_or by_annotation i d ≡ field_at i = get_or_default by_annotation i d 0 within in
    let facts = sourced text i within (equal 0) in
    (subst IsField (sym here) facts.0, ap source_of here ∙ facts.1)

pub absent : (text : List ℕ) (i : ℕ) → IsBinarySearchResult (λ f. byte_cmp (annotation_of f) text) by_annotation (Err i) → Finds text None
absent text i parted = unsourced text none
  where
    none : (k : ℕ) → k < 18 → byte_cmp (annotation_of (field_at k)) text ≡ Equal → ⊥
    none k within equal =
        let parts = parted (searchable text) in
        ⊎_elim (λ before. less_equal _ (parts.0 k 0 (omega arith) before) equal) (λ after. greater_equal _ (parts.1 k 0 after within) equal) (cases_lt k i)

-- what is found is what the table says
pub told : (text : List ℕ) (result : Option ℕ) → Finds text result → result ≡ field_of_annotation text
told text None none = sym (field_of_annotation-absent text none)
told text (Some f) facts = sym (field_of_annotation-own f text facts.0 facts.1)
