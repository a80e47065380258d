-- Texts that others begin with, and their order.
use Rattle.std.proofs.Common.{◌≡◌, ℕ, zero, suc, ◌+◌, ◌-◌, ◌<◌, ◌≤◌, Bool, true, false, ◌||◌, List, [], ◌∷◌, ◌++◌, length, take, drop, get_or, Option, None, Some, refl, sym, ap, ◌∙◌, subst, arith, true≢false, inl, inr, append-nil, append_assoc}
use Rattle.std.specs.Prelude.{slice_get}
use Rattle.std.specs.declared.cmp.Ordering.{Ordering}
use Rattle.std.specs.declared.cmp.Ordering.TheVariants.{Less, Equal, Greater}
use Rattle.std.specs.Ordering.{nat_cmp, ordering_then, ordering_reverse, is_gt}
use Rattle.std.specs.Cmp.{nat_cmp_is, IsTotalOrder}
use Rattle.std.proofs.lemmas.Cmp.{nat_list_cmp_total}
use Rattle.std.specs.Cmp.Lexicographic.{bytes_decides}
use Rattle.std.specs.List.{All, AllWithin, list_any}
use Rattle.std.specs.Option.{option_map_or}
use Rattle.std.proofs.lemmas.Bool.{cases_lt, cases_Bool, false_from_ne_true, true_from_ne_false}
use Rattle.std.proofs.lemmas.List.{take-append-drop, get_or_append_left}
use Rattle.std.proofs.lemmas.List.Folds.{list_any_none, list_any_at, list_any-append}
use Rattle.std.proofs.lemmas.Option.{slice_get-get_or, slice_get_past}
use Rattle.std.proofs.Math.Seq.{take-append_seam, get_or-append_seam}
use Rattle.std.proofs.lemmas.List.{get_or_default, length-take, get_or-take, length-append}
use Rattle.std.specs.List.{AllByRecursion}
use Rattle.std.specs.List.Sorted.{IsStrictlySortedBy}
use Rattle.std.specs.Map.{keys_of}
use Rattle.std.specs.Ordering.{match_ordering, is_eq}
use Rattle.std.proofs.lemmas.Map.Text.{is_eq-slice_cmp}
use Rattle.std.proofs.lemmas.Slice.Eq.{bytes_eq-Decides}
use Rattle.soc_base.proofs.Folk.{or_false, or_second, or_assoc}
use Rattle.soc_base.specs.Names.{byte_cmp, IsRising, with_value}
use Rattle.soc_siglists.specs.Lists.{matches_one}
use Rattle.soc_siglists.specs.Patterns.{matches_start}
use Rattle.soc_siglists.specs.inner.Leads.{IsLedBy}
use Rattle.soc_siglists.specs.declared.lead.Lead.{Lead}
use Rattle.soc_siglists.specs.inner.Literals.{AreApart, AreSplit, IsApart, IsUpTo, StandsFor, begins_with, begins_with_one}

-- ---- fronts

front : (frame text : List ℕ) → begins_with frame text ≡ true → frame ≡ text ++ drop (length text) frame
front frame text e =
    let same : text ≡ take (length text) frame = (bytes_decides text (take (length text) frame)).0 e in
    sym (take-append-drop (length text) frame) ∙ ap (λ t. t ++ drop (length text) frame) (sym same)

is_front : (text rest : List ℕ) → begins_with (text ++ rest) text ≡ true
is_front text rest = (bytes_decides text (take (length text) (text ++ rest))).1 (sym (take-append_seam text rest))

-- ---- order

same_first : (a : ℕ) (o : Ordering) → ordering_then (nat_cmp a a) o ≡ o
same_first a o = ap (λ p. ordering_then p o) (sym (nat_cmp_is a a Equal refl))

greater_first : (a c : ℕ) (o : Ordering) → c < a → is_gt (ordering_then (nat_cmp a c) o) ≡ true
greater_first a c o h = ap (λ p. is_gt (ordering_then p o)) (sym (nat_cmp_is a c Greater h))

-- neither first byte is greater than the other
heads : (a c : ℕ) (o p : Ordering) → is_gt (ordering_then (nat_cmp a c) o) ≡ false → is_gt (ordering_then (nat_cmp c a) p) ≡ false → a ≡ c
heads a c o p h k = elim (cases_lt a c) [
  | inl less ↦ absurd (true≢false (sym (greater_first c a p less) ∙ k))
  | inr ge ↦ elim (cases_lt c a) [
    | inl less ↦ absurd (true≢false (sym (greater_first a c o less) ∙ h))
    | inr le ↦ omega arith
  ]
]

up_to_longer : (text rest : List ℕ) → IsUpTo (text ++ rest) text
up_to_longer [] [] = refl
up_to_longer [] (x ∷ rest) = refl
up_to_longer (a ∷ text) rest = ap is_gt (same_first a (byte_cmp text (text ++ rest))) ∙ up_to_longer text rest

-- what stands between a text and one that begins with it begins with it too
between : (text other rest : List ℕ) → IsUpTo other text → IsUpTo (text ++ rest) other → (more : List ℕ) × (other ≡ text ++ more)
between [] other rest h k = (other, refl)
between (a ∷ text) [] rest h k = absurd (true≢false h)
between (a ∷ text) (c ∷ other) rest h k =
    let same : a ≡ c = heads a c _ _ h k in
    let lower : IsUpTo other text = sym (ap is_gt (same_first a (byte_cmp text other))) ∙ subst (λ b. is_gt (ordering_then (nat_cmp a b) (byte_cmp text other)) ≡ false) (sym same) h in
    let upper : IsUpTo (text ++ rest) other =
    sym (ap is_gt (same_first a (byte_cmp other (text ++ rest)))) ∙ subst (λ b. is_gt (ordering_then (nat_cmp b a) (byte_cmp other (text ++ rest))) ≡ false) (sym same) k in
    let found = between text other rest lower upper in
    (found.0, ap (λ b. b ∷ other) (sym same) ∙ ap (λ t. a ∷ t) found.1)

pub up_to_front : (frame text : List ℕ) → begins_with frame text ≡ true → IsUpTo frame text
up_to_front frame text e = subst (λ f. IsUpTo f text) (sym (front frame text e)) (up_to_longer text (drop (length text) frame))

pub begins_between : (frame other text : List ℕ) → begins_with frame text ≡ true → IsUpTo other text → IsUpTo frame other → begins_with other text ≡ true
begins_between frame other text e h k =
    let found = between text other (drop (length text) frame) h (subst (λ f. IsUpTo f other) (front frame text e) k) in
    subst (λ o. begins_with o text ≡ true) (sym found.1) (is_front text found.0)

pub begins_through : (frame other text : List ℕ) → begins_with frame other ≡ true → begins_with other text ≡ true → begins_with frame text ≡ true
begins_through frame other text e h =
    let first = drop (length other) frame in
    let second = drop (length text) other in
    let whole : frame ≡ text ++ (second ++ first) = front frame other e ∙ ap (λ o. o ++ first) (front other text h) ∙ append_assoc text second first in
    subst (λ f. begins_with f text ≡ true) (sym whole) (is_front text (second ++ first))

-- ---- through a third text

order : IsTotalOrder byte_cmp
order = nat_list_cmp_total

-- the ways in which three texts stand up to each other
chain : (o p : Ordering) (first second third : List ℕ) → byte_cmp first second ≡ o → byte_cmp second third ≡ p → is_gt o ≡ false → is_gt p ≡ false → IsUpTo third first
chain Less Less first second third e h k l = ap is_gt (order.trans first second third e h)
chain Less Equal first second third e h k l =
    let back : byte_cmp third second ≡ Equal = order.antisymm third second ∙ ap ordering_reverse h in
    let greater : byte_cmp third first ≡ Greater = order.congr third second first back ∙ order.antisymm second first ∙ ap ordering_reverse e in
    ap is_gt (order.antisymm first third ∙ ap ordering_reverse greater)
chain Equal p first second third e h k l = ap is_gt (order.congr first second third e ∙ h) ∙ l
chain Greater p first second third e h k l = absurd (true≢false k)
chain o Greater first second third e h k l = absurd (true≢false l)

pub up_to_through : (first second third : List ℕ) → IsUpTo second first → IsUpTo third second → IsUpTo third first
up_to_through first second third h k = chain (byte_cmp first second) (byte_cmp second third) first second third refl refl h k

pub behind_through : (frame first second : List ℕ) → is_gt (byte_cmp first frame) ≡ true → IsUpTo second first → is_gt (byte_cmp second frame) ≡ true
behind_through frame first second h k = true_from_ne_false _ (λ l. true≢false (sym h ∙ up_to_through first second frame k l))

-- ---- tables

-- the text begins with the last one
abbrev pub begins_with_last : List (List ℕ) → List ℕ → Bool
begins_with_last texts text = option_map_or (begins_with text) (slice_get texts (length texts - 1)) false

-- that of a list that isn't empty
last_is : (texts : List (List ℕ)) (text d : List ℕ) (n : ℕ) → length texts ≡ suc n → begins_with_last texts text ≡ begins_with text (get_or texts n d)
last_is texts text d n e =
    let at : length texts - 1 ≡ n = omega arith in
    ap (λ k. option_map_or (begins_with text) (slice_get texts k) false) at ∙ ap (λ o. option_map_or (begins_with text) o false) (slice_get-get_or texts n d (omega arith))

none_last : (texts : List (List ℕ)) (text : List ℕ) → length texts ≡ 0 → begins_with_last texts text ≡ false
none_last texts text e = ap (λ o. option_map_or (begins_with text) o false) (slice_get_past texts (length texts - 1) (omega arith))

-- a text that begins with the last one adds nothing
pub covered : (texts : List (List ℕ)) (text : List ℕ) → begins_with_last texts text ≡ true → (frame : List ℕ)
    → begins_with_one texts frame ≡ (begins_with_one texts frame || begins_with frame text)
covered texts text covers frame = by (length texts) refl
  where
    yes : (n : ℕ) → length texts ≡ suc n → begins_with frame text ≡ true → begins_with_one texts frame ≡ true
    yes n e h =
        list_any_at (begins_with frame) texts n [] (omega arith)
        (begins_through frame text (get_or texts n []) h (sym (last_is texts text [] n e) ∙ covers))

    by : (n : ℕ) → length texts ≡ n → begins_with_one texts frame ≡ (begins_with_one texts frame || begins_with frame text)
    by zero e = absurd (true≢false (sym covers ∙ none_last texts text e))
    by (suc n) e = elim (cases_Bool (begins_with frame text)) [
      | inl h ↦ yes n e h ∙ sym (or_second (begins_with_one texts frame) (begins_with frame text) h)
      | inr h ↦ sym (ap (λ b. begins_with_one texts frame || b) h ∙ or_false (begins_with_one texts frame))
    ]

pub added : (texts : List (List ℕ)) (text frame : List ℕ) → begins_with_one (texts ++ text ∷ []) frame ≡ (begins_with_one texts frame || begins_with frame text)
added texts text frame = list_any-append (begins_with frame) texts (text ∷ []) ∙ ap (λ b. begins_with_one texts frame || b) (or_false (begins_with frame text))

pub all_with : (P : List ℕ → Type 0) (texts : List (List ℕ)) (text : List ℕ) → All P texts → P text → All P (texts ++ text ∷ [])
all_with P texts text all one k d inside = elim (cases_lt k (length texts)) [
  | inl less ↦ subst P (sym (get_or_append_left texts (text ∷ []) d k less)) (all k d less)
  | inr past ↦
      let is : k ≡ length texts = omega (arith, length-append texts (text ∷ [])) in
      subst P (sym (ap (λ n. get_or (texts ++ text ∷ []) n d) is ∙ get_or-append_seam texts text [] d)) one
]

pub up_to_itself : (text : List ℕ) → IsUpTo text text
up_to_itself text = subst (λ t. IsUpTo t text) (append-nil text) (up_to_longer text [])

-- a text that doesn't begin with the last one begins with none
no_front : (texts : List (List ℕ)) (text : List ℕ) → AreApart texts → All (IsUpTo text) texts → begins_with_last texts text ≡ false
    → (i : ℕ) (d : List ℕ) → i < length texts → begins_with text (get_or texts i d) ≡ false
no_front texts text apart all last i d inside = by (length texts) refl
  where
    by : (n : ℕ) → length texts ≡ n → begins_with text (get_or texts i d) ≡ false
    by zero e = absurd (omega arith)
    by (suc n) e = elim (cases_lt i n) [
      | inl less ↦
          let pair = apart i n d less (omega arith) in
          false_from_ne_true _ (λ h. true≢false (sym (begins_between text (get_or texts n d) (get_or texts i d) h pair.in_order (all n d (omega arith))) ∙ pair.no_front))
      | inr past ↦
          let is : i ≡ n = omega arith in
          ap (λ k. begins_with text (get_or texts k d)) is ∙ sym (last_is texts text d n e) ∙ last
    ]

pub apart_with : (texts : List (List ℕ)) (text : List ℕ) → AreApart texts → All (IsUpTo text) texts → begins_with_last texts text ≡ false → AreApart (texts ++ text ∷ [])
apart_with texts text apart all last i j d less inside = elim (cases_lt j (length texts)) [
  | inl old ↦
      subst (λ t. IsApart t (get_or (texts ++ text ∷ []) j d)) (sym (get_or_append_left texts (text ∷ []) d i (omega arith)))
      (subst (IsApart (get_or texts i d)) (sym (get_or_append_left texts (text ∷ []) d j old)) (apart i j d less old))
  | inr past ↦
      let is : j ≡ length texts = omega (arith, length-append texts (text ∷ [])) in
      let within : i < length texts = omega arith in
      let one : IsApart (get_or texts i d) text = record { in_order = all i d within; no_front = no_front texts text apart all last i d within } in
      subst (λ t. IsApart t (get_or (texts ++ text ∷ []) j d)) (sym (get_or_append_left texts (text ∷ []) d i within))
      (subst (IsApart (get_or texts i d)) (sym (ap (λ n. get_or (texts ++ text ∷ []) n d) is ∙ get_or-append_seam texts text [] d)) one)
]

taken : (texts : List (List ℕ)) (count : ℕ) → count ≤ length texts → length (take count texts) ≡ count
taken texts count bound = length-take count texts ∙ omega (arith, bound)

-- of the texts up to a frame only the last one can be its front
pub look_up : (texts : List (List ℕ)) (frame : List ℕ) (count : ℕ) → AreApart texts → count ≤ length texts → AllWithin (IsUpTo frame) texts 0 count
    → AllWithin (λ text. is_gt (byte_cmp text frame) ≡ true) texts count (length texts) → begins_with_last (take count texts) frame ≡ begins_with_one texts frame
look_up texts frame count apart bound up_to behind = by count refl
  where
    past : (i : ℕ) (d : List ℕ) → count ≤ i → i < length texts → begins_with frame (get_or texts i d) ≡ false
    past i d le inside = false_from_ne_true _ (λ h. true≢false (sym (behind i d le inside) ∙ up_to_front frame (get_or texts i d) h))

    by : (n : ℕ) → count ≡ n → begins_with_last (take count texts) frame ≡ begins_with_one texts frame
    by zero e = none_last (take count texts) frame (taken texts count bound ∙ e) ∙ sym (list_any_none (begins_with frame) texts (λ k d inside. past k d (omega arith) inside))
    by (suc n) e =
        let long : length (take count texts) ≡ suc n = taken texts count bound ∙ e in
        let same : get_or (take count texts) n [] ≡ get_or texts n [] = get_or-take count texts n [] (omega arith) in
        last_is (take count texts) frame [] n long ∙ ap (begins_with frame) same ∙ elim (cases_Bool (begins_with frame (get_or texts n []))) [
          | inl h ↦ h ∙ sym (list_any_at (begins_with frame) texts n [] (omega arith) h)
          | inr h ↦ h ∙ sym (list_any_none (begins_with frame) texts (λ k d inside. elim (cases_lt k n) [
            | inl less ↦
                let pair = apart k n [] less (omega arith) in
                let here : get_or texts k d ≡ get_or texts k [] = get_or_default texts k d [] inside in
                false_from_ne_true _ (λ begun. true≢false (sym (begins_between frame (get_or texts n []) (get_or texts k []) (sym (ap (begins_with frame) here) ∙ begun) pair.in_order (up_to n [] (omega arith) (omega arith))) ∙ pair.no_front))
            | inr ge ↦ elim (cases_lt n k) [
              | inl more ↦ past k d (omega arith) inside
              | inr le ↦
                  let is : k ≡ n = omega arith in
                  ap (λ m. begins_with frame (get_or texts m d)) is ∙ ap (begins_with frame) (get_or_default texts n d [] (omega arith)) ∙ h
            ]
          ]))
        ]

-- ---- places

pub behind_from : (texts : List (List ℕ)) (frame : List ℕ) (middle : ℕ) (text : List ℕ) → AreApart texts → middle < length texts → text ≡ get_or texts middle text
    → is_gt (byte_cmp text frame) ≡ true → AllWithin (λ t. is_gt (byte_cmp t frame) ≡ true) texts middle (length texts)
behind_from texts frame middle text apart inside is behind k d from within =
    let here : is_gt (byte_cmp (get_or texts middle d) frame) ≡ true = ap (λ t. is_gt (byte_cmp t frame)) (get_or_default texts middle d text inside ∙ sym is) ∙ behind in
    elim (cases_lt middle k) [
      | inl less ↦ behind_through frame (get_or texts middle d) (get_or texts k d) here (apart middle k d less within).in_order
      | inr ge ↦ ap (λ n. is_gt (byte_cmp (get_or texts n d) frame)) (omega arith) ∙ here
    ]

pub up_to_here : (texts : List (List ℕ)) (frame : List ℕ) (middle : ℕ) (text : List ℕ) → AreApart texts → middle < length texts → text ≡ get_or texts middle text
    → IsUpTo frame text → AllWithin (IsUpTo frame) texts 0 (middle + 1)
up_to_here texts frame middle text apart inside is up_to k d from within =
    let here : IsUpTo frame (get_or texts middle d) = ap (λ t. is_gt (byte_cmp t frame)) (get_or_default texts middle d text inside ∙ sym is) ∙ up_to in
    elim (cases_lt k middle) [
      | inl less ↦ up_to_through (get_or texts k d) (get_or texts middle d) frame (apart k middle d less inside).in_order here
      | inr ge ↦ ap (λ n. is_gt (byte_cmp (get_or texts n d) frame)) (omega arith) ∙ here
    ]

-- ---- names in order

or_swap : (a b c : Bool) → (a || (b || c)) ≡ ((a || b) || c)
or_swap a b c = sym (or_assoc a b c)

or_last : (a b c : Bool) → (a || (b || c)) ≡ ((a || c) || b)
or_last true b c = refl
or_last false true true = refl
or_last false true false = refl
or_last false false true = refl
or_last false false false = refl

or_here : (a b : Bool) → (a || b) ≡ ((a || b) || a)
or_here true b = refl
or_here false true = refl
or_here false false = refl

front_or : (c a b : Bool) → (c || (a || b)) ≡ ((a || b) || c)
front_or true true b = refl
front_or true false true = refl
front_or true false false = refl
front_or false true b = refl
front_or false false true = refl
front_or false false false = refl

byte_cmp-same : (a b : List ℕ) → byte_cmp a b ≡ Equal → a ≡ b
byte_cmp-same a b e = (bytes_eq-Decides a b).0 (sym (is_eq-slice_cmp a b) ∙ ap is_eq e)

abbrev pub Names : Type 0
Names = List (List ℕ × List ℕ)

-- the first of the names may be the one that is set
by_order : (o : Ordering) (names : Names) (first : List ℕ × List ℕ) (name value frame : List ℕ) → byte_cmp name first.0 ≡ o
    → begins_with_one (keys_of (with_value names name value)) frame ≡ (begins_with_one (keys_of names) frame || begins_with frame name)
    → begins_with_one (keys_of (with_value (first ∷ names) name value)) frame ≡ (begins_with_one (keys_of (first ∷ names)) frame || begins_with frame name)
by_order o names first name value frame e later = ap (λ p. begins_with_one (keys_of (placed p)) frame) e ∙ by o e
  where
    placed : Ordering → Names
    placed p = match_ordering p ((name, value) ∷ first ∷ names) ((first.0, value) ∷ names) (first ∷ with_value names name value)

    here : Bool
    here = begins_with frame first.0

    rest : Bool
    rest = begins_with_one (keys_of names) frame

    by : (o : Ordering) → byte_cmp name first.0 ≡ o → begins_with_one (keys_of (placed o)) frame ≡ ((here || rest) || begins_with frame name)
    by Less e = front_or (begins_with frame name) here rest
    by Equal e = or_here here rest ∙ ap (λ n. (here || rest) || begins_with frame n) (sym (byte_cmp-same name first.0 e))
    by Greater e = ap (λ b. here || b) later ∙ or_swap here rest (begins_with frame name)

pub names_with : (names : Names) (name value frame : List ℕ)
    → begins_with_one (keys_of (with_value names name value)) frame ≡ (begins_with_one (keys_of names) frame || begins_with frame name)
names_with [] name value frame = or_false (begins_with frame name)
names_with (first ∷ names) name value frame = by_order (byte_cmp name first.0) names first name value frame refl (names_with names name value frame)

-- what stands up to a name stands up to the names behind it
pub up_to_later : (texts : List (List ℕ)) (name value : List ℕ) (later : Names) → IsRising ((name, value) ∷ later) → All (IsUpTo name) texts
    → AllByRecursion (λ other. All (IsUpTo other) texts) (keys_of later)
unfolding IsStrictlySortedBy
up_to_later texts name value later rising all = each (keys_of later) rising.0
  where
    each : (names : List (List ℕ)) → AllByRecursion (λ other. byte_cmp name other ≡ Less) names → AllByRecursion (λ other. All (IsUpTo other) texts) names
    each [] below = tt
    each (other ∷ names) below = (λ i d inside. up_to_through (get_or texts i d) name other (all i d inside) (ap is_gt below.0), each names below.1)

pub still_begun : (texts texts' all : List (List ℕ)) (name value : List ℕ) (later : Names)
    → ((frame : List ℕ) → (begins_with_one texts frame || begins_with_one (keys_of ((name, value) ∷ later)) frame) ≡ begins_with_one all frame)
    → ((frame : List ℕ) → begins_with_one texts' frame ≡ (begins_with_one texts frame || begins_with frame name))
    → (frame : List ℕ) → (begins_with_one texts' frame || begins_with_one (keys_of later) frame) ≡ begins_with_one all frame
still_begun texts texts' all name value later before pushed frame =
    ap (λ b. b || begins_with_one (keys_of later) frame) (pushed frame)
    ∙ or_assoc (begins_with_one texts frame) (begins_with frame name) (begins_with_one (keys_of later) frame) ∙ before frame

-- ---- lists that are split

or_between : (a b c : Bool) → ((a || b) || c) ≡ ((a || c) || b)
or_between true b c = refl
or_between false true true = refl
or_between false true false = refl
or_between false false true = refl
or_between false false false = refl

matches_more : (patterns : List (List ℕ)) (text frame : List ℕ) → matches_one (patterns ++ text ∷ []) frame ≡ (matches_one patterns frame || matches_start frame text)
matches_more patterns text frame = list_any-append (matches_start frame) patterns (text ∷ []) ∙ ap (λ b. matches_one patterns frame || b) (or_false (matches_start frame text))

pub split_literal : (patterns literals literals' others : List (List ℕ)) (pattern text : List ℕ) → AreSplit patterns literals others → StandsFor pattern text
    → ((frame : List ℕ) → begins_with_one literals' frame ≡ (begins_with_one literals frame || begins_with frame text)) → AreSplit (patterns ++ pattern ∷ []) literals' others
split_literal patterns literals literals' others pattern text split own added_to frame is =
    matches_more patterns pattern frame ∙ ap (λ b. b || matches_start frame pattern) (split frame is)
    ∙ ap (λ b. (begins_with_one literals frame || matches_one others frame) || b) (own frame is)
    ∙ or_between (begins_with_one literals frame) (matches_one others frame) (begins_with frame text)
    ∙ ap (λ b. b || matches_one others frame) (sym (added_to frame))

-- a pattern whose lead is all that it asks for stands for that
pub stands : (pattern : List ℕ) (lead : Lead) → IsLedBy pattern lead → lead.is_all ≡ true → StandsFor pattern lead.text
stands pattern lead led sure frame is = elim (cases_Bool (begins_with frame lead.text)) [
  | inl passes ↦ led.all sure frame is passes ∙ sym passes
  | inr fails ↦ false_from_ne_true _ (λ h. true≢false (sym (led.begins frame is h) ∙ fails)) ∙ sym fails
]

pub split_other : (patterns literals others : List (List ℕ)) (text : List ℕ) → AreSplit patterns literals others
    → AreSplit (patterns ++ text ∷ []) literals (others ++ text ∷ [])
split_other patterns literals others text split frame is =
    matches_more patterns text frame ∙ ap (λ b. b || matches_start frame text) (split frame is)
    ∙ or_assoc (begins_with_one literals frame) (matches_one others frame) (matches_start frame text)
    ∙ ap (λ b. begins_with_one literals frame || b) (sym (matches_more others text frame))

pub split_by : (patterns literals literals' others : List (List ℕ)) → AreSplit patterns literals others
    → ((frame : List ℕ) → begins_with_one literals' frame ≡ begins_with_one literals frame) → AreSplit patterns literals' others
split_by patterns literals literals' others split same frame is = split frame is ∙ ap (λ b. b || matches_one others frame) (sym (same frame))

pub later_rise : (first : List ℕ × List ℕ) (later : Names) → IsRising (first ∷ later) → IsRising later
unfolding IsStrictlySortedBy
later_rise first later rising = rising.1
