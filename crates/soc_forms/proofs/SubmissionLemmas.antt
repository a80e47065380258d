-- What the parts of a form say, by the JSON part and the plain parts among them.
use Rattle.std.proofs.Common.{◌≡◌, ◌≢◌, ℕ, List, [], ◌∷◌, filter, length, drop, get_or, ◌+◌, ◌<◌, Bool, true, false, sym, refl, ap, ◌∙◌, subst, inr, Option, None, Some, is_some, MatchOption, String, Global, string_cmp, nat_lt, arith}
use Rattle.std.proofs.lemmas.Bool.Decides.{nat_tests}
use Rattle.std.specs.List.Sorted.{IsStrictlySortedBy}
use Rattle.std.specs.Map.{keys_of}
use Rattle.soc_forms.proofs.MemberLemmas.{many_members}
use Rattle.std.specs.Prelude.{slice_get}
use Rattle.std.proofs.lemmas.Option.{slice_get_read}
use Rattle.std.proofs.lemmas.List.{at_drop_more}
use Rattle.serde_json.specs.Data.{Members}
use Rattle.serde_json.specs.Find.{as_object}
use Rattle.serde_json.specs.View.{members_view, view}
use Rattle.serde_json.specs.declared.value.Value.{Value}
use Rattle.soc_forms.specs.declared.reasons.Reason.TheVariants.{ExtraAndPlain, TooManyAnnotations}
use Rattle.soc_forms.specs.Fields.{FieldTexts, is_extra, is_plain, no_fields}
use Rattle.soc_forms.specs.SubmissionViews.{HasNextExtra}
use Rattle.soc_forms.specs.Submissions.{HasBadExtra, SaysFault, SaysFields, count_of, fields_fault}
use Rattle.soc_forms.specs.inner.ExtraViews.{ShowsExtra}
use Rattle.soc_multipart.specs.declared.owned_parts.OwnedPart.{OwnedPart}
use Rattle.soc_forms.specs.Extras.{with_members}
use Rattle.soc_multipart.specs.Parts.{PartText}
use Rattle.soc_multipart.specs.OwnedViews.{owned_text, owned_texts}

step : (p : PartText → Bool) (ps : List OwnedPart) (i : ℕ) (x : OwnedPart) → i < length ps → x ≡ get_or ps i x
    → filter p (owned_texts (drop i ps)) ≡ filter p (owned_text x ∷ owned_texts (drop (i + 1) ps))
step p ps i x l e =
    at_drop_more (λ (xs : List OwnedPart). filter p (owned_texts xs)) ps i x l
    ∙ ap (λ (y : OwnedPart). filter p (owned_text y ∷ owned_texts (drop (i + 1) ps))) (sym e)

pub filter_hit : (p : PartText → Bool) (ps : List OwnedPart) (i : ℕ) (x : OwnedPart) (all : List PartText) → i < length ps → x ≡ get_or ps i x
    → filter p (owned_texts (drop i ps)) ≡ all → p (owned_text x) ≡ true → all ≡ owned_text x ∷ filter p (owned_texts (drop (i + 1) ps))
filter_hit p ps i x all l e h f = sym h ∙ (step p ps i x l e ∙ rw f refl)

pub filter_miss : (p : PartText → Bool) (ps : List OwnedPart) (i : ℕ) (x : OwnedPart) (all : List PartText) → i < length ps → x ≡ get_or ps i x
    → filter p (owned_texts (drop i ps)) ≡ all → p (owned_text x) ≡ false → filter p (owned_texts (drop (i + 1) ps)) ≡ all
filter_miss p ps i x all l e h f =
    let skipped : filter p (owned_text x ∷ owned_texts (drop (i + 1) ps)) ≡ filter p (owned_texts (drop (i + 1) ps)) = rw f refl in
    sym skipped ∙ (sym (step p ps i x l e) ∙ h)

pub some_not_nil : (x : PartText) (xs all : List PartText) → all ≡ x ∷ xs → all ≢ []
some_not_nil x xs all e f = let clash : ⊥ = cc in clash

-- one JSON part alone
pub one_extra : (all rest : List PartText) (x : PartText) → all ≡ x ∷ rest → rest ≡ [] → all ≡ x ∷ []
one_extra all rest x e f = e ∙ ap (λ (y : List PartText). x ∷ y) f

-- the JSON part that a search found, and no other
same_part : (x y : OwnedPart) → (let p : Option OwnedPart = Some x in p) ≡ Some y → x ≡ y
same_part x y e = cc

pub the_extra : (parts : List OwnedPart) (place : ℕ) (x : OwnedPart) (next : Option ℕ) (r : Bool) (Q : ℕ → Type 0) → (h : HasNextExtra parts 0 place) → x ≡ get_or parts place x
    → MatchOption next (filter is_extra (owned_texts (drop (place + 1) parts)) ≡ []) Q → r ≡ is_some next → r ≡ false → filter is_extra (owned_texts parts) ≡ owned_text x ∷ []
the_extra parts place x next r Q h e m is no_more =
    let read : slice_get parts place ≡ Some x = slice_get_read parts (length parts) place x refl h.inside e in
    let same : h.part ≡ x = same_part h.part x (sym h.stands ∙ read) in
    let rest : filter is_extra (owned_texts (drop (place + 1) parts)) ≡ [] = none_left next m (sym is ∙ no_more) in
    one_extra (filter is_extra (owned_texts parts)) (filter is_extra (owned_texts (drop (place + 1) parts))) (owned_text x)
    (h.first ∙ ap (λ (p : OwnedPart). owned_text p ∷ filter is_extra (owned_texts (drop (place + 1) parts))) same) rest
  where
    none_left : (next : Option ℕ) → MatchOption next (filter is_extra (owned_texts (drop (place + 1) parts)) ≡ []) Q → is_some next ≡ false → filter is_extra (owned_texts (drop (place + 1) parts)) ≡ []
    none_left None m e = m
    none_left (Some n) m e = absurd (let clash : ⊥ = cc in clash)

pub bad_json : (parts : List OwnedPart) (x : OwnedPart) (found : Option Value) → filter is_extra (owned_texts parts) ≡ owned_text x ∷ [] → ShowsExtra x.content found → found ≡ None → HasBadExtra (owned_texts parts)
bad_json parts x found one shows e =
    inr (owned_text x, one, subst (ShowsExtra x.content) e shows)

pub mixed_json : (parts : List OwnedPart) (x : OwnedPart) (found : Option Value) (value : Value) → filter is_extra (owned_texts parts) ≡ owned_text x ∷ [] → ShowsExtra x.content found → found ≡ Some value
    → filter is_plain (owned_texts parts) ≢ [] → SaysFault (owned_texts parts) ExtraAndPlain
mixed_json parts x found value one shows e some =
    let is : ShowsExtra x.content (Some value) = subst (ShowsExtra x.content) e shows in (owned_text x, is.0, one, is.2, some)

same_members : (ms ns : Members) → (let p : Option Members = Some ms in p) ≡ Some ns → ms ≡ ns
same_members ms ns e = cc

pub says_json : (parts : List OwnedPart) (x : OwnedPart) (found : Option Value) (value : Value) (ns : Members) (fields none : FieldTexts) → filter is_extra (owned_texts parts) ≡ owned_text x ∷ [] → ShowsExtra x.content found
    → found ≡ Some value → as_object (view value) ≡ Some ns → filter is_plain (owned_texts parts) ≡ [] → none ≡ no_fields → fields ≡ with_members none ns → SaysFields (owned_texts parts) fields
says_json parts x found value ns fields none one shows e object plain f g =
    let is : ShowsExtra x.content (Some value) = subst (ShowsExtra x.content) e shows in
    let same : ns ≡ is.0 = same_members ns is.0 (sym object ∙ is.1) in
    inr (owned_text x, is.0, one, is.2, plain, g ∙ (ap (λ (t : FieldTexts). with_members t ns) f ∙ ap (with_members no_fields) same))

too_many : (fields : FieldTexts) → 1024 < count_of fields → fields_fault fields ≡ Some TooManyAnnotations
too_many fields many = (let over : nat_lt 1024 (count_of fields) ≡ true = grind (arith, nat_tests) in rw over refl)

pub too_many_json : (parts : List OwnedPart) (x : OwnedPart) (found : Option Value) (value : Value) (es : List (String Global × Value)) (count : ℕ) → filter is_extra (owned_texts parts) ≡ owned_text x ∷ []
    → ShowsExtra x.content found → found ≡ Some value → as_object (view value) ≡ Some (members_view es) → filter is_plain (owned_texts parts) ≡ [] → IsStrictlySortedBy string_cmp (keys_of es)
    → count ≡ length es → 1024 < count → SaysFault (owned_texts parts) TooManyAnnotations
too_many_json parts x found value es count one shows e object plain sorted is more =
    let ns : Members = members_view es in (
      with_members no_fields ns,
      says_json parts x found value ns (with_members no_fields ns) no_fields one shows e object plain refl refl,
      too_many (with_members no_fields ns) (omega (arith, many_members es sorted, more, is)),
    )
