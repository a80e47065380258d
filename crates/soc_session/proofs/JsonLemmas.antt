-- Objects, one member after another.
use Rattle.std.proofs.Common.{◌≡◌, ℕ, suc, ◌+◌, ◌<◌, List, [], ◌∷◌, ◌++◌, length, take, Bool, true, false, refl, sym, ap, ◌∙◌, arith, append-nil, append_assoc, length-append}
use Rattle.std.specs.Prelude.{codes, filter, if◌then◌else◌}
use Rattle.std.proofs.lemmas.Bool.{lt-ltb}
use Rattle.std.proofs.lemmas.List.{take_more}
use Rattle.std.proofs.lemmas.List.Elements.{filter-append}
use Rattle.soc_schema.specs.Fields.{FieldEntry, field_entry, field_table, kind_of, name_of, permission_of}
use Rattle.soc_schema.specs.Permits.{is_granted, permission_name, holds}
use Rattle.soc_schema.specs.declared.caller.Caller.{Caller}
use Rattle.soc_schema.specs.Commas.{after_commas, comma_after, joined}
use Rattle.soc_session.specs.Json.{field_json, kind_name}

-- one piece more
put_more : (out a b p q : List ℕ) → p ≡ out ++ a → q ≡ p ++ b → q ≡ out ++ (a ++ b)
put_more out a b p q first second = second ∙ ap (λ l. l ++ b) first ∙ append_assoc out a b

-- three pieces, put one after another
pub put-three : (out a b c p q r : List ℕ) → p ≡ out ++ a → q ≡ p ++ b → r ≡ q ++ c → r ≡ out ++ (a ++ b ++ c)
put-three out a b c p q r first second third = put_more out (a ++ b) c q r (put_more out a b p q first second) third

pub put_seven : (out a b c d e f g p q r s t u v : List ℕ) → p ≡ out ++ a → q ≡ p ++ b → r ≡ q ++ c → s ≡ r ++ d → t ≡ s ++ e → u ≡ t ++ f → v ≡ u ++ g
    → v ≡ out ++ (a ++ b ++ c ++ d ++ e ++ f ++ g)
put_seven out a b c d e f g p q r s t u v one two three four five six seven =
    put_more out (a ++ b ++ c ++ d ++ e ++ f) g u v
    (put_more out (a ++ b ++ c ++ d ++ e) f t u
    (put_more out (a ++ b ++ c ++ d) e s t
    (put_more out (a ++ b ++ c) d r s (put-three out a b c p q r one two three) four) five) six) seven

-- a field's member
pub put-field : (out : List ℕ) (field : ℕ) (name kind permission p q r s t u v : List ℕ) → name ≡ name_of field → kind ≡ kind_name (kind_of field)
    → permission ≡ permission_name (permission_of field) → p ≡ out ++ codes "\"" → q ≡ p ++ name → r ≡ q ++ codes "\":{\"kind\":\"" → s ≡ r ++ kind
    → t ≡ s ++ codes "\",\"permission\":\"" → u ≡ t ++ permission → v ≡ u ++ codes "\"}" → v ≡ out ++ field_json (field_entry field)
unfolding name_of kind_of permission_of
put-field out field name kind permission p q r s t u v n k m one two three four five six seven =
    put_seven out (codes "\"") (name_of field) (codes "\":{\"kind\":\"") (kind_name (kind_of field)) (codes "\",\"permission\":\"") (permission_name (permission_of field)) (codes "\"}")
    p q r s t u v one (two ∙ ap (λ l. p ++ l) n) three (four ∙ ap (λ l. r ++ l) k) five (six ∙ ap (λ l. t ++ l) m) seven

-- ---- members of which some are left out

after-push : {A : Type 0} (text : A → List ℕ) (xs : List A) (x : A) → after_commas text (xs ++ x ∷ []) ≡ after_commas text xs ++ (codes "," ++ text x)
after-push text [] x = append-nil (codes "," ++ text x)
after-push text (y ∷ ys) x =
    ap (λ l. (codes "," ++ text y) ++ l) (after-push text ys x) ∙ sym (append_assoc (codes "," ++ text y) (after_commas text ys) (codes "," ++ text x))

joined-push : {A : Type 0} (text : A → List ℕ) (xs : List A) (x : A) → joined text (xs ++ x ∷ []) ≡ (joined text xs ++ comma_after (length xs)) ++ text x
joined-push text [] x = append-nil (text x)
joined-push text (y ∷ ys) x =
    ap (λ l. text y ++ l) (after-push text ys x) ∙ sym (append_assoc (text y) (after_commas text ys) (codes "," ++ text x))
    ∙ sym (append_assoc (text y ++ after_commas text ys) (codes ",") (text x))
    ∙ ap (λ b. ((text y ++ after_commas text ys) ++ (if b then codes "," else [])) ++ text x) (sym (lt-ltb 0 (suc (length ys)) (omega arith)))

kept-one : {A : Type 0} (test : A → Bool) (x : A) → test x ≡ true → filter test (x ∷ []) ≡ x ∷ []
kept-one test x is = ap (λ b. if b then x ∷ [] else []) is

left-one : {A : Type 0} (test : A → Bool) (x : A) → test x ≡ false → filter test (x ∷ []) ≡ []
left-one test x is = ap (λ b. if b then x ∷ [] else []) is

-- the fields that pass among the first so many
abbrev pub passing : (FieldEntry → Bool) → ℕ → List FieldEntry
passing test count = filter test (take count field_table)

passing-more : (test : FieldEntry → Bool) (i : ℕ) → i < 36 → passing test (i + 1) ≡ passing test i ++ filter test (field_entry i ∷ [])
unfolding field_entry field_table
passing-more test i within = ap (filter test) (take_more field_table i _ within) ∙ filter-append test (take i field_table) (field_entry i ∷ [])

-- whether a caller may see a field
abbrev pub sees : Caller → FieldEntry → Bool
sees caller field = holds caller.permissions field.permission

sees-granted : (caller : Caller) (field : ℕ) (b : Bool) → b ≡ is_granted caller field → b ≡ sees caller (field_entry field)
unfolding permission_of
sees-granted caller field b is = is

passing-with : (caller : Caller) (i : ℕ) → i < 36 → true ≡ is_granted caller i → passing (sees caller) (i + 1) ≡ passing (sees caller) i ++ field_entry i ∷ []
passing-with caller i within is =
    passing-more (sees caller) i within ∙ ap (λ l. passing (sees caller) i ++ l) (kept-one (sees caller) (field_entry i) (sym (sees-granted caller i true is)))

passing-without : (caller : Caller) (i : ℕ) → i < 36 → false ≡ is_granted caller i → passing (sees caller) (i + 1) ≡ passing (sees caller) i
passing-without caller i within is =
    passing-more (sees caller) i within ∙ ap (λ l. passing (sees caller) i ++ l) (left-one (sees caller) (field_entry i) (sym (sees-granted caller i false is)))
    ∙ append-nil (passing (sees caller) i)

-- what was put of the first so many fields, and how many they were
pub record PutFields (caller : Caller) (front out : List ℕ) (count place : ℕ) : Type 0 where
  pub text : out ≡ front ++ joined field_json (passing (sees caller) place)
  pub counted : count ≡ length (passing (sees caller) place)
  pub few : count < suc place

pub fields-begin : (caller : Caller) (out : List ℕ) → PutFields caller out out 0 0
fields-begin caller out = record { text = sym (append-nil out); counted = refl; few = omega arith }

pub fields-with : (caller : Caller) (front out between now : List ℕ) (count place : ℕ) → place < 36 → true ≡ is_granted caller place → PutFields caller front out count place
    → between ≡ out ++ comma_after count → now ≡ between ++ field_json (field_entry place) → PutFields caller front now (count + 1) (place + 1)
fields-with caller front out between now count place within is so_far comma put = record {
  text =
      put ∙ ap (λ l. l ++ field_json (field_entry place)) (comma ∙ ap (λ l. l ++ comma_after count) so_far.text ∙ append_assoc front here (comma_after count))
      ∙ append_assoc front (here ++ comma_after count) (field_json (field_entry place))
      ∙ ap (λ n. front ++ ((here ++ comma_after n) ++ field_json (field_entry place))) so_far.counted
      ∙ ap (λ l. front ++ l) (sym (joined-push field_json (passing (sees caller) place) (field_entry place)))
      ∙ ap (λ l. front ++ joined field_json l) (sym more);
  counted = ap (λ n. n + 1) so_far.counted ∙ sym (ap length more ∙ length-append (passing (sees caller) place) (field_entry place ∷ []));
  few = let f : count < suc place = so_far.few in omega arith;
}
  where
    here : List ℕ
    here = joined field_json (passing (sees caller) place)

    more : passing (sees caller) (place + 1) ≡ passing (sees caller) place ++ field_entry place ∷ []
    more = passing-with caller place within is

pub fields-without : (caller : Caller) (front out : List ℕ) (count place : ℕ) → place < 36 → false ≡ is_granted caller place → PutFields caller front out count place
    → PutFields caller front out count (place + 1)
fields-without caller front out count place within is so_far = record {
  text = so_far.text ∙ ap (λ l. front ++ joined field_json l) (sym same);
  counted = so_far.counted ∙ ap length (sym same);
  few = let f : count < suc place = so_far.few in omega arith;
}
  where
    same : passing (sees caller) (place + 1) ≡ passing (sees caller) place
    same = passing-without caller place within is

pub fields-end : (caller : Caller) (front out : List ℕ) (count : ℕ) → PutFields caller front out count 36
    → out ≡ front ++ joined field_json (filter (λ field. holds caller.permissions field.permission) field_table)
unfolding field_table
fields-end caller front out count so_far = so_far.text
