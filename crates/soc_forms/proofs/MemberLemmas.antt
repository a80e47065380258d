-- That each member of an object is a field of its own: the names of a map's entries rise.
use Rattle.std.proofs.Common.{◌≡◌, ℕ, ◌+◌, ◌<◌, ◌≤◌, Bool, true, false, cond, List, [], ◌∷◌, ◌++◌, length, codes, String, Global, Option, Some, None, is_some, Ordering, Less, Equal, Greater, string_bytes, string_cmp, refl, sym, ap, ◌∙◌, subst, arith}
use Rattle.std.specs.List.{AllByRecursion}
use Rattle.std.specs.List.Sorted.{IsStrictlySortedBy}
use Rattle.std.specs.Map.{keys_of}
use Rattle.std.specs.Cmp.Lexicographic.{slice_cmp, nat_list_cmp_total}
use Rattle.std.specs.Ordering.{nat_cmp, match_ordering, is_eq, ordering_reverse}
use Rattle.std.specs.BTreeMap.{insert_entry}
use Rattle.std.specs.Str.{bytes_eq}
use Rattle.std.proofs.lemmas.Bool.{cases_Bool}
use Rattle.std.proofs.lemmas.List.{length-append}
use Rattle.std.proofs.lemmas.Map.Text.{is_eq-slice_cmp}
use Rattle.std.proofs.lemmas.Slice.Eq.{bytes_eq-Decides}
use Rattle.serde_json.specs.View.{members_view, view}
use Rattle.serde_json.specs.declared.value.Value.{Value}
use Rattle.soc_base.proofs.Folk.{not_both}
use Rattle.soc_base.specs.Names.{with_value}
use Rattle.soc_forms.specs.Extras.{text_of, with_members}
use Rattle.soc_forms.specs.Fields.{FieldTexts, no_fields, put}
use Rattle.soc_forms.specs.Submissions.{count_of}

abbrev Entry : Type 0
Entry = String Global × Value

abbrev Texts : Type 0
Texts = List (List ℕ × List ℕ)

abbrev by_bytes : List ℕ → List ℕ → Ordering
by_bytes = slice_cmp nat_cmp

-- the name is above those of the pairs, and so stands last
abbrev IsAbove : List ℕ → Texts → Type 0
IsAbove name ps = AllByRecursion (λ p. by_bytes name p.0 ≡ Greater) ps

appended : (ps : Texts) (name value : List ℕ) → IsAbove name ps → with_value ps name value ≡ ps ++ (name, value) ∷ []
appended [] name value a = refl
appended (p ∷ ps) name value (g, a) =
    ap (λ (o : Ordering). match_ordering o ((name, value) ∷ p ∷ ps) ((p.0, value) ∷ ps) (p ∷ insert_entry by_bytes ps name value)) g
    ∙ ap (λ (xs : Texts). p ∷ xs) (appended ps name value a)

above_more : (ps : Texts) (p : List ℕ × List ℕ) (name : List ℕ) → IsAbove name ps → by_bytes name p.0 ≡ Greater → IsAbove name (ps ++ p ∷ [])
above_more [] p name a g = (g, tt)
above_more (q ∷ ps) p name (h, a) g = (h, above_more ps p name a g)

-- a name that no field has
record IsNew (f : FieldTexts) (name : List ℕ) : Type 0 where
  above : IsAbove name f.annotations
  unsent : bytes_eq name (codes "uuid") ≡ true → f.sent ≡ None

unsent_counts : (sent : Option (List ℕ)) (n : ℕ) → sent ≡ None → n + (cond (is_some sent) 1 0) ≡ n
unsent_counts sent n e = ap (λ (s : Option (List ℕ)). n + (cond (is_some s) 1 0)) e ∙ omega arith

put_counts_by : (b : Bool) (f : FieldTexts) (name value : List ℕ) → bytes_eq name (codes "uuid") ≡ b → IsNew f name
    → count_of (cond b (record { sent = Some value; annotations = f.annotations }) (record { sent = f.sent; annotations = with_value f.annotations name value })) ≡ count_of f + 1
put_counts_by true f name value e new = ap (λ (n : ℕ). n + 1) (sym (unsent_counts f.sent (length f.annotations) (new.unsent e)))
put_counts_by false f name value e new =
    let size : length (with_value f.annotations name value) ≡ length f.annotations + 1 =
    ap length (appended f.annotations name value new.above) ∙ length-append f.annotations ((name, value) ∷ []) in
    omega arith

put_counts : (f : FieldTexts) (name value : List ℕ) → IsNew f name → count_of (put f name value) ≡ count_of f + 1
put_counts f name value new = put_counts_by (bytes_eq name (codes "uuid")) f name value refl new

-- a name above another is another
apart : (later name : List ℕ) → by_bytes later name ≡ Greater → bytes_eq later name ≡ true → ⊥
apart later name g e = not_both (bytes_eq later name) e (sym (is_eq-slice_cmp later name) ∙ ap is_eq g)

uuid_once : (later name : List ℕ) → by_bytes later name ≡ Greater → bytes_eq name (codes "uuid") ≡ true → bytes_eq later (codes "uuid") ≡ true → ⊥
uuid_once later name g e f =
    let one : name ≡ codes "uuid" = (bytes_eq-Decides name (codes "uuid")).0 e in
    let two : later ≡ codes "uuid" = (bytes_eq-Decides later (codes "uuid")).0 f in
    apart later name g ((bytes_eq-Decides later name).1 (two ∙ sym one))

put_new_by : (b : Bool) (f : FieldTexts) (name value later : List ℕ) → bytes_eq name (codes "uuid") ≡ b → IsNew f name → IsNew f later → by_bytes later name ≡ Greater
    → IsNew (cond b (record { sent = Some value; annotations = f.annotations }) (record { sent = f.sent; annotations = with_value f.annotations name value })) later
put_new_by true f name value later e old new g = record { above = new.above; unsent = λ is. absurd (uuid_once later name g e is) }
put_new_by false f name value later e old new g = record {
  above = subst (IsAbove later) (sym (appended f.annotations name value old.above)) (above_more f.annotations (name, value) later new.above g);
  unsent = new.unsent;
}

put_new : (f : FieldTexts) (name value later : List ℕ) → IsNew f name → IsNew f later → by_bytes later name ≡ Greater → IsNew (put f name value) later
put_new f name value later old new g = put_new_by (bytes_eq name (codes "uuid")) f name value later refl old new g

-- names in order
abbrev Above : List ℕ → List Entry → Type 0
Above name es = AllByRecursion (λ e. by_bytes (string_bytes e.0) name ≡ Greater) es

abbrev Rising : List Entry → Type 0
Rising [] = Unit {0}
Rising (e ∷ es) = Above (string_bytes e.0) es × Rising es

abbrev AllNew : FieldTexts → List Entry → Type 0
AllNew f es = AllByRecursion (λ e. IsNew f (string_bytes e.0)) es

put_all_new : (f : FieldTexts) (name value : List ℕ) (es : List Entry) → IsNew f name → AllNew f es → Above name es → AllNew (put f name value) es
put_all_new f name value [] old news a = tt
put_all_new f name value (e ∷ es) old (new, news) (g, a) = (put_new f name value (string_bytes e.0) old new g, put_all_new f name value es old news a)

many : (es : List Entry) (f : FieldTexts) → Rising es → AllNew f es → count_of f + length es ≤ count_of (with_members f (members_view es))
many [] f r n = omega arith
many (e ∷ es) f (a, r) (new, news) =
    let name : List ℕ = string_bytes e.0 in
    let value : List ℕ = text_of (view e.1) in
    let step : count_of (put f name value) ≡ count_of f + 1 = put_counts f name value new in
    let rest : count_of (put f name value) + length es ≤ count_of (with_members (put f name value) (members_view es)) =
    many es (put f name value) r (put_all_new f name value es new news a) in
    omega arith

all_new_none : (es : List Entry) → AllNew no_fields es
all_new_none [] = tt
all_new_none (e ∷ es) = (record { above = tt; unsent = λ is. refl }, all_new_none es)

flip_all : (name : String Global) (es : List Entry) → AllByRecursion (λ y. string_cmp name y ≡ Less) (keys_of es) → Above (string_bytes name) es
flip_all name [] a = tt
flip_all name (d ∷ ds) (l, a) =
    (nat_list_cmp_total.antisymm (string_bytes d.0) (string_bytes name) ∙ ap ordering_reverse l, flip_all name ds a)

rising_from : (es : List Entry) → IsStrictlySortedBy string_cmp (keys_of es) → Rising es
unfolding IsStrictlySortedBy
rising_from [] s = tt
rising_from (e ∷ es) (a, s) = (flip_all e.0 es a, rising_from es s)

-- an object has as many fields as members
pub many_members : (es : List Entry) → IsStrictlySortedBy string_cmp (keys_of es) → length es ≤ count_of (with_members no_fields (members_view es))
many_members es s = omega (arith, many es no_fields (rising_from es s) (all_new_none es))
