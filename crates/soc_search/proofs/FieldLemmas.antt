-- Conditions field by field: a field's conditions ask of a row what they ask of its value of the field.
use Rattle.std.proofs.Common.{◌≡◌, ℕ, ◌+◌, ◌<◌, inl, inr, Bool, true, false, cond, List, [], ◌∷◌, Option, None, Some, length, map, take, get_or, set, refl, sym, ap, ◌∙◌, nat_eq, replicate, zero, suc}
use denote.Ref.{Bor}
use Rattle.std.specs.Prelude.{◌&&◌, ◌||◌, not, ◌≢◌, if◌then◌else◌}
use Rattle.std.specs.List.{list_all, list_any}
use Rattle.std.specs.Option.{option_map_or}
use Rattle.std.specs.Ordering.{is_eq}
use Rattle.std.proofs.lemmas.Bool.{true≢false, and_from, and_left, and_parts, and_right, eqb-true, or_cases, eq-eqb}
use Rattle.std.proofs.lemmas.List.{get_or-set_other, get_or-set_same}
use Rattle.std.proofs.lemmas.List.Folds.{list_all_more}
use Rattle.soc_base.proofs.Folk.{or_false, or_second}
use Rattle.soc_schema.specs.declared.value.Value.{Value}
use Rattle.soc_schema.specs.declared.value.Cell.{Cell}
use Rattle.soc_schema.specs.Rows.{value_of}
use Rattle.soc_schema.specs.Orders.{value_cmp}
use Rattle.soc_schema.specs.Values.{is_value}
use Rattle.soc_store.specs.Stored.{PlacesRise, places_of}
use Rattle.soc_query.specs.declared.condition.Comparison.TheVariants.{Equals, Below, AtMost, Above, AtLeast, Contains, Starts, Ends}
use Rattle.soc_query.specs.declared.condition.Test.{Test}
use Rattle.soc_query.specs.declared.condition.Test.TheVariants.{Absent, Compares}
use Rattle.soc_query.specs.declared.condition.Condition.{Condition}
use Rattle.soc_query.specs.Answers.{is_equality, is_exact, meets, meets_alone, meets_one, passes}
use Rattle.soc_search.specs.declared.selection.Selection.{Selection}
use Rattle.soc_search.specs.inner.Selections.{Finds, Selects, are_met, asked_of, exact_value, hit_places, is_met, is_turn, meets_where, one_is_met, operand_in, stands_out}
use Rattle.soc_search.proofs.SelectionLemmas.{Joins, any_agree, finds_same, in_chosen, inn, same_value_is, selects_at, selects_from, value_places}

-- whether a row is as one condition asks, among all
abbrev pub holds_of : List Condition → List Cell → Condition → Bool
holds_of conditions row c = if is_exact c then meets_one conditions c.field row else meets_alone row c

-- a field's conditions by its value
module _ (row : List Cell) (k : ℕ) where
  abbrev own : Option Value
  own = value_of row k

  alone_here : (c : Condition) → nat_eq c.field k ≡ true → meets_alone row c ≡ is_met c (value_of row k)
  alone_here c e = ap (λ f. if c.negated then not (passes c.test (value_of row f)) else passes c.test (value_of row f)) (eqb-true c.field k e)

  one_here : (cs : List Condition) → meets_one cs k row ≡ one_is_met (asked_of k cs) (value_of row k)
  one_here [] = refl
  one_here (c ∷ cs) =
      elim (nat_eq c.field k) as (λ b. nat_eq c.field k ≡ b → ((is_exact c && (b && meets_alone row c)) || meets_one cs k row) ≡ one_is_met (cond b (c ∷ asked_of k cs) (asked_of k cs)) own) [
        | true ↦ λ e. ap (λ b. (is_exact c && b) || meets_one cs k row) (alone_here c e) ∙ ap (λ b. (is_exact c && is_met c own) || b) (one_here cs)
        | false ↦ λ _. ap (λ b. b || meets_one cs k row) (and_right (is_exact c) false refl) ∙ one_here cs
      ] refl

  group_here : (whole cs : List Condition) → list_all (holds_of whole row) (asked_of k cs) ≡ list_all (λ c. if is_exact c then one_is_met (asked_of k whole) (value_of row k) else is_met c (value_of row k)) (asked_of k cs)
  group_here whole [] = refl
  group_here whole (c ∷ cs) =
      elim (nat_eq c.field k) as (λ b. nat_eq c.field k ≡ b
      → list_all (holds_of whole row) (cond b (c ∷ asked_of k cs) (asked_of k cs)) ≡ list_all (λ d. if is_exact d then one_is_met (asked_of k whole) own else is_met d own) (cond b (c ∷ asked_of k cs) (asked_of k cs))) [
        | true ↦ λ e.
            ap (λ f. (if is_exact c then meets_one whole f row else meets_alone row c) && list_all (holds_of whole row) (asked_of k cs)) (eqb-true c.field k e)
            ∙ ap (λ b. (if is_exact c then b else meets_alone row c) && list_all (holds_of whole row) (asked_of k cs)) (one_here whole)
            ∙ ap (λ b. (if is_exact c then one_is_met (asked_of k whole) own else b) && list_all (holds_of whole row) (asked_of k cs)) (alone_here c e)
            ∙ ap (λ b. (if is_exact c then one_is_met (asked_of k whole) own else is_met c own) && b) (group_here whole cs)
        | false ↦ λ _. group_here whole cs
      ] refl

  pub field_met : (cs : List Condition) → list_all (holds_of cs row) (asked_of k cs) ≡ are_met (asked_of k cs) (value_of row k)
  field_met cs = group_here cs cs

-- one field more: t tells whether it is picked, and p whether it was already
own_step : (t p x y z : Bool) → (p ≡ true → t ≡ true) → (cond t x true && (y && cond t z true)) ≡ ((cond p x true && y) && cond t (x && z) true)
own_step true true true y z h = refl
own_step true true false y z h = refl
own_step true false true y z h = refl
own_step true false false true z h = refl
own_step true false false false z h = refl
own_step false true x y z h = absurd (true≢false (sym (h refl)))
own_step false false x true z h = refl
own_step false false x false z h = refl

other_step : (a b c : Bool) → (a && (b && c)) ≡ ((a && b) && c)
other_step true b c = refl
other_step false b c = refl

pub and_all : (b : Bool) → (b && true) ≡ b
and_all true = refl
and_all false = refl

one_field : (h : Condition → Bool) (p q : ℕ → Bool) (k : ℕ) (t : Bool) → ((f : ℕ) → nat_eq f k ≡ true → q f ≡ t) → ((f : ℕ) → nat_eq f k ≡ true → p f ≡ true → t ≡ true) → ((f : ℕ) → nat_eq f k ≡ false → q f ≡ p f) → (cs : List Condition)
    → list_all (λ c. cond (q c.field) (h c) true) cs ≡ (list_all (λ c. cond (p c.field) (h c) true) cs && cond t (list_all h (asked_of k cs)) true)
one_field h p q k t at was other [] = elim t as (λ b. true ≡ cond b true true) [ true ↦ refl | false ↦ refl ]
one_field h p q k t at was other (c ∷ cs) =
    let L : List Condition → Bool = list_all (λ d. cond (p d.field) (h d) true) in
    ap (λ b. cond (q c.field) (h c) true && b) (one_field h p q k t at was other cs)
    ∙ elim (nat_eq c.field k) as (λ b. nat_eq c.field k ≡ b
    → (cond (q c.field) (h c) true && (L cs && cond t (list_all h (asked_of k cs)) true)) ≡ ((cond (p c.field) (h c) true && L cs) && cond t (list_all h (cond b (c ∷ asked_of k cs) (asked_of k cs))) true)) [
      | true ↦ λ e. ap (λ b. cond b (h c) true && (L cs && cond t (list_all h (asked_of k cs)) true)) (at c.field e) ∙ own_step t (p c.field) (h c) (L cs) (list_all h (asked_of k cs)) (was c.field e)
      | false ↦ λ e. ap (λ b. cond b (h c) true && (L cs && cond t (list_all h (asked_of k cs)) true)) (other c.field e) ∙ other_step (cond (p c.field) (h c) true) (L cs) (cond t (list_all h (asked_of k cs)) true)
    ] refl

-- the fields that were met, and one more of them
module _ (picks : ℕ → Bool) (met : List Bool) (k : ℕ) (within : k < length met) where
  abbrev pub now_met : List Bool
  now_met = set met k true

  at_it : (f : ℕ) → nat_eq f k ≡ true → (get_or (set met k true) f false && picks f) ≡ picks k
  at_it f e = let same : f ≡ k = eqb-true f k e in ap (λ g. get_or (set met k true) g false && picks g) same ∙ ap (λ b. b && picks k) (get_or-set_same met k true false within)

  was_it : (f : ℕ) → nat_eq f k ≡ true → (get_or met f false && picks f) ≡ true → picks k ≡ true
  was_it f e both = let parts : (get_or met f false ≡ true) × (picks f ≡ true) = and_parts _ _ both in ap picks (sym (eqb-true f k e)) ∙ parts.1

  apart : (f : ℕ) → nat_eq f k ≡ false → f ≢ k
  apart f e same = true≢false (sym (eq-eqb f k same) ∙ e)

  not_it : (f : ℕ) → nat_eq f k ≡ false → (get_or (set met k true) f false && picks f) ≡ (get_or met f false && picks f)
  not_it f e = ap (λ b. b && picks f) (get_or-set_other met k f true false (apart f e))

  pub where_more : (cs : List Condition) (row : List Cell)
      → meets_where (λ f. get_or (set met k true) f false && picks f) cs row ≡ (meets_where (λ f. get_or met f false && picks f) cs row && cond (picks k) (are_met (asked_of k cs) (value_of row k)) true)
  where_more cs row =
      one_field (holds_of cs row) (λ f. get_or met f false && picks f) (λ f. get_or (set met k true) f false && picks f) k (picks k) at_it was_it not_it cs
      ∙ ap (λ b. meets_where (λ f. get_or met f false && picks f) cs row && cond (picks k) b true) (field_met row k cs)

  pub turn_more : (cs : List Condition) (test : List Cell → Bool) (row : List Cell)
      → (test row && meets_where (λ f. get_or (set met k true) f false && picks f) cs row) ≡ ((test row && meets_where (λ f. get_or met f false && picks f) cs row) && cond (picks k) (are_met (asked_of k cs) (value_of row k)) true)
  turn_more cs test row =
      ap (λ b. test row && b) (where_more cs row)
      ∙ other_step (test row) (meets_where (λ f. get_or met f false && picks f) cs row) (cond (picks k) (are_met (asked_of k cs) (value_of row k)) true)

  -- a field that was met still is, and so is this one
  pub still_met : (f : ℕ) → get_or met f false ≡ true → get_or (set met k true) f false ≡ true
  still_met f was =
      elim (nat_eq f k) as (λ b. nat_eq f k ≡ b → get_or (set met k true) f false ≡ true) [
        | true ↦ λ e. ap (λ g. get_or (set met k true) g false) (eqb-true f k e) ∙ get_or-set_same met k true false within
        | false ↦ λ e. get_or-set_other met k f true false (apart f e) ∙ was
      ] refl

-- conditions whose fields were met
all_imply : {X : Type 0} (p q : X → Bool) (xs : List X) → ((x : X) → p x ≡ true → q x ≡ true) → list_all p xs ≡ true → list_all q xs ≡ true
all_imply p q [] step all = refl
all_imply p q (x ∷ xs) step all = let parts : (p x ≡ true) × (list_all p xs ≡ true) = and_parts _ _ all in and_from (q x) (list_all q xs) (step x parts.0) (all_imply p q xs step parts.1)

pub all_met_more : (cs : List Condition) (i : ℕ) (c : Condition) (met now : List Bool) → i < length cs → get_or cs i c ≡ c → ((f : ℕ) → get_or met f false ≡ true → get_or now f false ≡ true) → get_or now c.field false ≡ true
    → list_all (λ d. get_or met d.field false) (take i cs) ≡ true → list_all (λ d. get_or now d.field false) (take (i + 1) cs) ≡ true
all_met_more cs i c met now within here still it so_far =
    list_all_more (λ d. get_or now d.field false) cs i c within
    ∙ and_from _ _ (all_imply (λ d. get_or met d.field false) (λ d. get_or now d.field false) (take i cs) (λ d. still d.field) so_far) (ap (λ (d : Condition). get_or now d.field false) here ∙ it)

-- where all fields were met
pub where_all : (picks : ℕ → Bool) (met : List Bool) (row : List Cell) (whole cs : List Condition) → list_all (λ d. get_or met d.field false) cs ≡ true
    → list_all (λ c. cond (get_or met c.field false && picks c.field) (holds_of whole row c) true) cs ≡ list_all (λ c. cond (picks c.field) (holds_of whole row c) true) cs
where_all picks met row whole [] all = refl
where_all picks met row whole (c ∷ cs) all =
    let parts : (get_or met c.field false ≡ true) × (list_all (λ d. get_or met d.field false) cs ≡ true) = and_parts _ _ all in
    ap (λ b. cond (b && picks c.field) (holds_of whole row c) true && list_all (λ d. cond (get_or met d.field false && picks d.field) (holds_of whole row d) true) cs) parts.0
    ∙ ap (λ b. cond (picks c.field) (holds_of whole row c) true && b) (where_all picks met row whole cs parts.1)

-- where none was
pub where_none : (picks p : ℕ → Bool) → ((f : ℕ) → p f ≡ false) → (h : Condition → Bool) (cs : List Condition) → list_all (λ c. cond (p c.field && picks c.field) (h c) true) cs ≡ true
where_none picks p none h [] = refl
where_none picks p none h (c ∷ cs) = ap (λ b. cond (b && picks c.field) (h c) true && list_all (λ d. cond (p d.field && picks d.field) (h d) true) cs) (none c.field) ∙ where_none picks p none h cs

-- both turns
both_turns : (h : Condition → Bool) (p : ℕ → Bool) (cs : List Condition) → (list_all (λ c. cond (p c.field) (h c) true) cs && list_all (λ c. cond (not (p c.field)) (h c) true) cs) ≡ list_all h cs
both_turns h p [] = refl
both_turns h p (c ∷ cs) = mixed (p c.field) (h c) (list_all (λ d. cond (p d.field) (h d) true) cs) (list_all (λ d. cond (not (p d.field)) (h d) true) cs) ∙ ap (λ b. h c && b) (both_turns h p cs)
  where
    mixed : (a x y z : Bool) → ((cond a x true && y) && (cond (not a) x true && z)) ≡ (x && (y && z))
    mixed true true y z = refl
    mixed true false y z = refl
    mixed false x true z = refl
    mixed false true false z = refl
    mixed false false false z = refl

turns_meet : (cs : List Condition) (row : List Cell) → (meets_where (λ f. is_turn true f cs) cs row && meets_where (λ f. is_turn false f cs) cs row) ≡ meets cs row
turns_meet cs row = both_turns (holds_of cs row) (λ f. list_any is_exact (asked_of f cs)) cs

pub both_meet : (cs : List Condition) (row : List Cell) (b : Bool) → (b && meets cs row) ≡ ((b && meets_where (λ f. is_turn true f cs) cs row) && meets_where (λ f. is_turn false f cs) cs row)
both_meet cs row b = ap (λ t. b && t) (sym (turns_meet cs row)) ∙ other_step b (meets_where (λ f. is_turn true f cs) cs row) (meets_where (λ f. is_turn false f cs) cs row)

-- a value that is asked for
exact_absent : (n : Bool) (t : Test) → ((not n && is_equality t) && (if n then not (passes t None) else passes t None)) ≡ false
exact_absent true t = refl
exact_absent false Absent = refl
exact_absent false (Compares how v) = and_right (not false && is_equality (Compares how v)) false refl

no_absent : (cs : List Condition) → one_is_met cs None ≡ false
no_absent [] = refl
no_absent (c ∷ cs) = ap (λ b. b || one_is_met cs None) (exact_absent c.negated c.test) ∙ no_absent cs

group_met : (whole cs : List Condition) (o : Option Value) → list_any is_exact cs ≡ true → list_all (λ c. if is_exact c then one_is_met whole o else is_met c o) cs ≡ true → one_is_met whole o ≡ true
group_met whole [] o some all = absurd (true≢false (sym some))
group_met whole (c ∷ cs) o some all =
    let parts : ((if is_exact c then one_is_met whole o else is_met c o) ≡ true) × (list_all (λ d. if is_exact d then one_is_met whole o else is_met d o) cs ≡ true) = and_parts _ _ all in
    elim (or_cases _ _ some) [
      | inl exact ↦ sym (ap (λ b. if b then one_is_met whole o else is_met c o) exact) ∙ parts.0
      | inr later ↦ group_met whole cs o later parts.1
    ]

pub absent_unmet : (asked : List Condition) → list_any is_exact asked ≡ true → are_met asked None ≡ false
absent_unmet asked some =
    elim (are_met asked None) as (λ b. are_met asked None ≡ b → b ≡ false) [ true ↦ λ all. sym (group_met asked asked None some all) ∙ no_absent asked | false ↦ λ _. refl ] refl

-- it is asked for, and meets the conditions
module _ (asked : List Condition) where
  abbrev hit : Option Value → Condition → Bool
  hit o c = option_map_or (λ v. are_met asked (Some v) && is_value v o) (exact_value c) false

  none_hit : (cs : List Condition) → list_any (hit None) cs ≡ false
  none_hit [] = refl
  none_hit (c ∷ cs) =
      ap (λ b. b || list_any (hit None) cs)
      (elim (exact_value c) as (λ e. option_map_or (λ v. are_met asked (Some v) && is_value v None) e false ≡ false) [ Some v ↦ and_right (are_met asked (Some v)) false refl | None ↦ refl ])
      ∙ none_hit cs

  missed : (w : Value) → are_met asked (Some w) ≡ false → (cs : List Condition) → list_any (hit (Some w)) cs ≡ false
  missed w out [] = refl
  missed w out (c ∷ cs) =
      ap (λ b. b || list_any (hit (Some w)) cs)
      (elim (exact_value c) as (λ e. option_map_or (λ v. are_met asked (Some v) && is_value v (Some w)) e false ≡ false) [
        | Some v ↦ elim (is_value v (Some w)) as (λ b. is_value v (Some w) ≡ b → (are_met asked (Some v) && b) ≡ false) [
          | true ↦ λ same. and_left (are_met asked (Some v)) true (ap (λ u. are_met asked (Some u)) (same_value_is v w same) ∙ out)
          | false ↦ λ _. and_right (are_met asked (Some v)) false refl
        ] refl
        | None ↦ refl
      ])
      ∙ missed w out cs

  exact_hit : (w : Value) → are_met asked (Some w) ≡ true → (n : Bool) (t : Test) → ((not n && is_equality t) && (if n then not (passes t (Some w)) else passes t (Some w))) ≡ true
      → option_map_or (λ v. are_met asked (Some v) && is_value v (Some w)) (if not n && is_equality t then operand_in t else None) false ≡ true
  exact_hit w takes true t e = absurd (true≢false (sym e))
  exact_hit w takes false Absent e = absurd (true≢false (sym e))
  exact_hit w takes false (Compares Equals v) e = and_from (are_met asked (Some v)) (is_value v (Some w)) (ap (λ u. are_met asked (Some u)) (same_value_is v w e) ∙ takes) e
  exact_hit w takes false (Compares Below v) e = absurd (true≢false (sym e))
  exact_hit w takes false (Compares AtMost v) e = absurd (true≢false (sym e))
  exact_hit w takes false (Compares Above v) e = absurd (true≢false (sym e))
  exact_hit w takes false (Compares AtLeast v) e = absurd (true≢false (sym e))
  exact_hit w takes false (Compares Contains v) e = absurd (true≢false (sym e))
  exact_hit w takes false (Compares Starts v) e = absurd (true≢false (sym e))
  exact_hit w takes false (Compares Ends v) e = absurd (true≢false (sym e))

  one_hit : (w : Value) → are_met asked (Some w) ≡ true → (cs : List Condition) → one_is_met cs (Some w) ≡ true → list_any (hit (Some w)) cs ≡ true
  one_hit w takes [] e = absurd (true≢false (sym e))
  one_hit w takes (c ∷ cs) e =
      elim (or_cases _ _ e) [
        | inl here ↦ ap (λ b. b || list_any (hit (Some w)) cs) (exact_hit w takes c.negated c.test here)
        | inr later ↦ or_second (hit (Some w) c) (list_any (hit (Some w)) cs) (one_hit w takes cs later)
      ]

  hits_stand_out : (o : Option Value) → list_any is_exact asked ≡ true → list_any (hit o) asked ≡ option_map_or (stands_out asked) o false
  hits_stand_out None some = none_hit asked
  hits_stand_out (Some w) some =
      elim (are_met asked (Some w)) as (λ b. are_met asked (Some w) ≡ b → list_any (hit (Some w)) asked ≡ b) [
        | true ↦ λ takes. one_hit w takes asked (group_met asked asked (Some w) some takes)
        | false ↦ λ out. missed w out asked
      ] refl
      ∙ sym (ap (λ b. if b then not (are_met asked (Some w)) else are_met asked (Some w)) (absent_unmet asked some))

  pub joined_hits : (held : ℕ → Bool) (f : ℕ) (rows : List (ℕ × List Cell)) → PlacesRise rows → list_any is_exact asked ≡ true → Joins held (hit_places asked f rows) asked → Selects held (λ row. option_map_or (stands_out asked) (value_of row f) false) rows
  joined_hits held f rows rise some joins =
      selects_from held (λ row. option_map_or (stands_out asked) (value_of row f) false) rows (λ k d within.
      let s = get_or rows k d in
      joins s.0
      ∙ any_agree (λ c. inn s.0 (hit_places asked f rows c)) (hit (value_of s.1 f)) asked
      (λ c. elim (exact_value c) as (λ e. inn s.0 (option_map_or (λ v. cond (are_met asked (Some v)) (places_of f v rows) []) e []) ≡ option_map_or (λ v. are_met asked (Some v) && is_value v (value_of s.1 f)) e false) [
        | Some v ↦ in_chosen (are_met asked (Some v)) s.0 (places_of f v rows) ∙ ap (λ b. are_met asked (Some v) && b) (selects_at (λ p. inn p (places_of f v rows)) (λ row. is_value v (value_of row f)) rows k d within (value_places f v rows rise))
        | None ↦ refl
      ])
      ∙ hits_stand_out (value_of s.1 f) some)

-- the rows by what stands out
pub met_present : (asked : List Condition) (o : Option Value) → are_met asked None ≡ false → are_met asked o ≡ option_map_or (stands_out asked) o false
met_present asked None out = out
met_present asked (Some v) out = sym (ap (λ b. if b then not (are_met asked (Some v)) else are_met asked (Some v)) out)

pub met_absent : (asked : List Condition) (o : Option Value) → are_met asked None ≡ true → are_met asked o ≡ not (option_map_or (stands_out asked) o false)
met_absent asked None all = all
met_absent asked (Some v) all = twice (are_met asked (Some v)) ∙ sym (ap (λ b. not (if b then not (are_met asked (Some v)) else are_met asked (Some v))) all)
  where
    twice : (b : Bool) → b ≡ not (not b)
    twice true = refl
    twice false = refl

-- one condition that asks for a value
only_exact : (n : Bool) (t : Test) (v : Value) (o : Option Value) → (if not n && is_equality t then operand_in t else None) ≡ Some v
    → ((if not n && is_equality t then (((not n && is_equality t) && (if n then not (passes t o) else passes t o)) || false) else (if n then not (passes t o) else passes t o)) && true) ≡ true → is_value v o ≡ true
only_exact true t v o is e = cc
only_exact false Absent v o is e = cc
only_exact false (Compares Equals w) v None is e = absurd (true≢false (sym e))
only_exact false (Compares Equals w) v (Some u) is e =
    let same : w ≡ v = cc in
    let parts : ((is_eq (value_cmp w u) || false) ≡ true) × (true ≡ true) = and_parts _ _ e in
    ap (λ x. is_value x (Some u)) (sym same) ∙ sym (or_false (is_eq (value_cmp w u))) ∙ parts.0
only_exact false (Compares Below w) v o is e = cc
only_exact false (Compares AtMost w) v o is e = cc
only_exact false (Compares Above w) v o is e = cc
only_exact false (Compares AtLeast w) v o is e = cc
only_exact false (Compares Contains w) v o is e = cc
only_exact false (Compares Starts w) v o is e = cc
only_exact false (Compares Ends w) v o is e = cc

pub sole_met : (c : Condition) (v : Value) (o : Option Value) → exact_value c ≡ Some v → are_met (c ∷ []) o ≡ true → is_value v o ≡ true
sole_met c v o = only_exact c.negated c.test v o

-- conditions that are lent
pub any_behind : (g : Condition → Bool) (cs : List (Bor Condition)) → list_any (λ (c : Bor Condition). g c.now) cs ≡ list_any g (map (λ (c : Bor Condition). c.now) cs)
any_behind g [] = refl
any_behind g (c ∷ cs) = ap (λ b. g c.now || b) (any_behind g cs)

-- a turn over the fields of the conditions
none_met : (n f : ℕ) → get_or (replicate n false) f false ≡ false
none_met zero f = refl
none_met (suc n) zero = refl
none_met (suc n) (suc f) = none_met n f

module _ (exact : Bool) (cs : List Condition) (rows : List (ℕ × List Cell)) (test : List Cell → Bool) where
  abbrev pub so_far : List Bool → List Cell → Bool
  so_far met row = test row && meets_where (λ f. get_or met f false && is_turn exact f cs) cs row

  pub turn_begun : (found : Selection) (n : ℕ) → Finds found test rows → Finds found (so_far (replicate n false)) rows
  turn_begun found n finds =
      finds_same found test (so_far (replicate n false)) rows
      (λ row. ap (λ b. test row && b) (where_none (λ f. is_turn exact f cs) (λ f. get_or (replicate n false) f false) (none_met n) (holds_of cs row) cs) ∙ and_all (test row)) finds

  pub turn_found : (found : Selection) (met : List Bool) (k : ℕ) → k < length met → Finds found (λ row. so_far met row && cond (is_turn exact k cs) (are_met (asked_of k cs) (value_of row k)) true) rows → Finds found (so_far (set met k true)) rows
  turn_found found met k within finds =
      finds_same found (λ row. so_far met row && cond (is_turn exact k cs) (are_met (asked_of k cs) (value_of row k)) true) (so_far (set met k true)) rows (turn_more (λ f. is_turn exact f cs) met k within cs test) finds

  pub turn_ended : (found : Selection) (met : List Bool) → list_all (λ d. get_or met d.field false) cs ≡ true → Finds found (so_far met) rows → Finds found (λ row. test row && meets_where (λ f. is_turn exact f cs) cs row) rows
  turn_ended found met all finds =
      finds_same found (so_far met) (λ row. test row && meets_where (λ f. is_turn exact f cs) cs row) rows (λ row. ap (λ b. test row && b) (sym (where_all (λ f. is_turn exact f cs) met row cs cs all))) finds
