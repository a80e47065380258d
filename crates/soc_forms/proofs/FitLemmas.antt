-- What a submission says keeps within the limits of a raw crash where its body keeps within 16 MiB.
use Rattle.std.proofs.Common.{◌≡◌, ℕ, ◌+◌, ◌*◌, ◌≤◌, Bool, true, false, not, ◌&&◌, cond, List, [], ◌∷◌, length, filter, fold, codes, Option, Some, None, is_some, is_none, Ordering, Less, Equal, Greater, inl, inr, ap, subst, arith, refl, nat_lt, ◌==◌, if◌then◌else◌}
use Rattle.std.proofs.lemmas.Bool.Decides.{nat_tests}
use Rattle.std.specs.Prelude.{sum_by}
use Rattle.std.specs.Cmp.Lexicographic.{slice_cmp}
use Rattle.std.specs.Ordering.{nat_cmp, match_ordering}
use Rattle.std.specs.Str.{bytes_eq}
use Rattle.std.specs.Str.Lossy.{utf8_lossy}
use Rattle.std.proofs.lemmas.List.Sums.{sum_by-cons}
use Rattle.serde_json.specs.Data.{Members, no_members, member}
use Rattle.soc_base.specs.Names.{with_value}
use Rattle.soc_raw.specs.inner.Sizes.{pair_len}
use Rattle.soc_raw.proofs.Lengths.{length_by_parts}
use Rattle.soc_forms.specs.declared.reasons.Reason.TheVariants.{TooManyAnnotations, NoAnnotations, LongProduct}
use Rattle.soc_forms.specs.Extras.{text_of, with_members}
use Rattle.soc_forms.specs.Fields.{FieldTexts, no_fields, is_extra, is_dump, is_plain, put, plain_step, dump_step, dumps_of}
use Rattle.soc_forms.specs.Fits.{FitsCrash}
use Rattle.soc_forms.specs.FormLines.{AreFormLines}
use Rattle.soc_multipart.specs.Parts.{PartText, Cut}
use Rattle.soc_multipart.specs.OwnedViews.{owned_texts}
use Rattle.soc_forms.specs.Submissions.{SubmissionText, SaysFields, SaysSubmission, SubmissionOf, count_of, fields_fault, has_short_product}
use Rattle.soc_multipart.specs.declared.owned_parts.OwnedPart.{OwnedPart}
use Rattle.soc_forms.proofs.JsonSizes.{texts_size, members_within}
use Rattle.soc_forms.proofs.PartSizes.{lossy_short, part_size, body_short}

-- ---- pairs

abbrev Texts : Type 0
Texts = List (List ℕ × List ℕ)

-- a pair's name and value, without what their lengths take
abbrev texts_len : List ℕ × List ℕ → ℕ
texts_len p = length p.0 + length p.1

abbrev size_of : Texts → ℕ
size_of ps = sum_by texts_len ps

pairs_size : (ps : Texts) → sum_by pair_len ps ≡ 8 * length ps + size_of ps
pairs_size [] = omega arith
pairs_size (p ∷ ps) = omega (arith, pairs_size ps, sum_by-cons pair_len p ps, sum_by-cons texts_len p ps)

ordered : (measure : Texts → ℕ) (o : Ordering) (a b c : Texts) (n : ℕ) → measure a ≤ n → measure b ≤ n → measure c ≤ n → measure (match_ordering o a b c) ≤ n
ordered measure Less a b c n p q r = p
ordered measure Equal a b c n p q r = q
ordered measure Greater a b c n p q r = r

-- a name's value is one pair more at most
value_count : (ps : Texts) (name value : List ℕ) → length (with_value ps name value) ≤ length ps + 1
value_count [] name value = omega arith
value_count (p ∷ ps) name value =
    ordered length (slice_cmp nat_cmp name p.0) ((name, value) ∷ p ∷ ps) ((p.0, value) ∷ ps) (p ∷ with_value ps name value) (length (p ∷ ps) + 1) (omega arith) (omega arith)
    (omega (arith, value_count ps name value))

value_size : (ps : Texts) (name value : List ℕ) → size_of (with_value ps name value) ≤ size_of ps + (length name + length value)
value_size [] name value = omega (arith, sum_by-cons texts_len (name, value) [])
value_size (p ∷ ps) name value =
    let old = sum_by-cons texts_len p ps in
    ordered size_of (slice_cmp nat_cmp name p.0) ((name, value) ∷ p ∷ ps) ((p.0, value) ∷ ps) (p ∷ with_value ps name value) (size_of (p ∷ ps) + (length name + length value))
    (omega (arith, sum_by-cons texts_len (name, value) (p ∷ ps))) (omega (arith, old, sum_by-cons texts_len (p.0, value) ps))
    (omega (arith, old, value_size ps name value, sum_by-cons texts_len p (with_value ps name value)))

-- ---- what parts say

abbrev parts_size : List PartText → ℕ
parts_size parts = sum_by part_size parts

either_fields : (b : Bool) (f g : FieldTexts) (n : ℕ) → size_of f.annotations ≤ n → size_of g.annotations ≤ n → size_of (cond b f g).annotations ≤ n
either_fields true f g n p q = p
either_fields false f g n p q = q

put_size : (f : FieldTexts) (name value : List ℕ) → size_of (put f name value).annotations ≤ size_of f.annotations + (length name + length value)
put_size f name value =
    either_fields (bytes_eq name (codes "uuid")) (record { sent = Some value; annotations = f.annotations })
    (record { sent = f.sent; annotations = with_value f.annotations name value }) (size_of f.annotations + (length name + length value)) (omega arith)
    (value_size f.annotations name value)

plain_size : (b : Bool) (f : FieldTexts) (p : PartText) (rest : List PartText)
    → size_of (cond b (put f p.name (utf8_lossy p.content)) f).annotations + parts_size rest ≤ size_of f.annotations + parts_size (cond b (p ∷ rest) rest)
plain_size true f p rest = omega (arith, put_size f p.name (utf8_lossy p.content), lossy_short p.content, sum_by-cons part_size p rest)
plain_size false f p rest = omega arith

fields_size : (f : FieldTexts) (parts : List PartText) → size_of (fold plain_step f parts).annotations ≤ size_of f.annotations + parts_size (filter is_plain parts)
fields_size f [] = omega arith
fields_size f (p ∷ parts) = omega (arith, plain_size (is_plain p) f p (filter is_plain parts), fields_size (plain_step f p) parts)

dump_size : (b : Bool) (dumps : Texts) (p : PartText) (rest : List PartText)
    → size_of (cond b (with_value dumps p.name p.content) dumps) + parts_size rest ≤ size_of dumps + parts_size (cond b (p ∷ rest) rest)
dump_size true dumps p rest = omega (arith, value_size dumps p.name p.content, sum_by-cons part_size p rest)
dump_size false dumps p rest = omega arith

dumps_size : (dumps : Texts) (parts : List PartText) → size_of (fold dump_step dumps parts) ≤ size_of dumps + parts_size (filter is_dump parts)
dumps_size dumps [] = omega arith
dumps_size dumps (p ∷ parts) = omega (arith, dump_size (is_dump p) dumps p (filter is_dump parts), dumps_size (dump_step dumps p) parts)

dump_count : (b : Bool) (dumps : Texts) (p : PartText) → length (cond b (with_value dumps p.name p.content) dumps) ≤ length dumps + 1
dump_count true dumps p = value_count dumps p.name p.content
dump_count false dumps p = omega arith

dumps_count : (dumps : Texts) (parts : List PartText) → length (fold dump_step dumps parts) ≤ length dumps + length parts
dumps_count dumps [] = omega arith
dumps_count dumps (p ∷ parts) = omega (arith, dump_count (is_dump p) dumps p, dumps_count (dump_step dumps p) parts)

members_size : (f : FieldTexts) (ms : Members) → size_of (with_members f ms).annotations ≤ size_of f.annotations + texts_size ms
members_size f no_members = omega arith
members_size f (member k d ms) = omega (arith, put_size f k (text_of d), members_size (put f k (text_of d)) ms)

-- a part is of one of the three sorts
sorted : (extra : Bool) (file : Option (List ℕ)) (p : PartText) (xs ys zs : List PartText)
    → parts_size (cond extra (p ∷ xs) xs) + parts_size (cond (not extra && is_none file) (p ∷ ys) ys) + parts_size (cond (not extra && is_some file) (p ∷ zs) zs)
    ≤ part_size p + (parts_size xs + parts_size ys + parts_size zs)
sorted true file p xs ys zs = omega (arith, sum_by-cons part_size p xs)
sorted false None p xs ys zs = omega (arith, sum_by-cons part_size p ys)
sorted false (Some name) p xs ys zs = omega (arith, sum_by-cons part_size p zs)

shares : (parts : List PartText) → parts_size (filter is_extra parts) + parts_size (filter is_plain parts) + parts_size (filter is_dump parts) ≤ parts_size parts
shares [] = omega arith
shares (p ∷ parts) =
    omega (arith, sorted (is_extra p) p.file p (filter is_extra parts) (filter is_plain parts) (filter is_dump parts), shares parts, sum_by-cons part_size p parts)

said_size : (parts : List PartText) (fields : FieldTexts) → SaysFields parts fields → size_of fields.annotations + size_of (dumps_of parts) ≤ parts_size parts
said_size parts fields (inl (none, e)) =
    omega (arith, ap (λ (f : FieldTexts). size_of f.annotations) e, fields_size no_fields parts, dumps_size [] parts, shares parts)
said_size parts fields (inr (extra, members, one, is, none, e)) =
    omega (
      arith,
      ap (λ (f : FieldTexts). size_of f.annotations) e,
      members_size no_fields members,
      members_within extra.content members is.reads,
      ap parts_size one,
      sum_by-cons part_size extra [],
      dumps_size [] parts,
      shares parts,
    )

-- ---- the submission

few_of : (fields : FieldTexts) → fields_fault fields ≡ None → length fields.annotations ≤ 1024
few_of fields good = by (nat_lt 1024 (count_of fields)) refl good
  where
    by : (over : Bool) → nat_lt 1024 (count_of fields) ≡ over → (if over then Some TooManyAnnotations else (if length fields.annotations == 0 then Some NoAnnotations else (if has_short_product fields.annotations then None else Some LongProduct))) ≡ None → length fields.annotations ≤ 1024
    by true is clash = absurd (cc)
    by false is good = grind (arith, nat_tests)

pub body_fits : (boundary body : List ℕ) (parts : List PartText) (said : SubmissionText) → Cut boundary body parts → SaysSubmission parts said → length body ≤ 16777216 → FitsCrash said
body_fits boundary body parts said cut says short =
    let annotations : length said.annotations ≤ 1024 = omega (arith, ap length says.annotations_are, few_of says.fields says.good) in
    let dumps : length said.dumps ≤ 512 = omega (arith, ap length says.dumps_are, dumps_count [] parts, cut.few) in
    let total = body_short boundary body parts cut in
    let sizes = said_size parts says.fields says.says in
    record {
      few_annotations = annotations;
      few_dumps = dumps;
      fits = λ crash a d id rule.
          omega (
            arith,
            length_by_parts crash,
            ap (sum_by pair_len) a,
            ap (sum_by pair_len) d,
            pairs_size said.annotations,
            pairs_size said.dumps,
            ap size_of says.annotations_are,
            ap size_of says.dumps_are,
          );
    }
