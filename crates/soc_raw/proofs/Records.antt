-- What is read stands at the front as it is written, and what was written is read again.
use Rattle.std.proofs.Common.{◌≡◌, ℕ, zero, suc, ◌^◌, ◌<◌, ◌≤◌, Bool, true, false, cond, ltb, ◌==◌, List, [], ◌∷◌, ◌++◌, length, length-append, Option, Some, None, refl, sym, ap, subst, ◌∙◌, append_assoc, arith, lit<}
use Rattle.std.specs.Prelude.{flat_map}
use Rattle.std.specs.Int.{w32, w64, to_le_bytes}
use Rattle.std.specs.List.{AllByRecursion}
use Rattle.std.specs.List.Sorted.{IsStrictlySortedBy}
use Rattle.std.specs.Ordering.{nat_cmp, is_lt}
use Rattle.std.specs.Cmp.Lexicographic.{slice_cmp, nat_list_cmp_total}
use Rattle.std.specs.Map.{keys_of}
use Rattle.std.specs.Str.{IsUtf8}
use Rattle.std.specs.declared.cmp.Ordering.TheVariants.{Less, Equal, Greater}
use Rattle.std.proofs.lemmas.Bool.{ltb-false, le-ltb, eqb-true}
use Rattle.std.proofs.lemmas.Bool.Decides.{nat_tests}
use Rattle.std.proofs.lemmas.List.{append-nil, nil_from_length}
use Rattle.soc_base.proofs.Fronts.{IsBytes, bound, passed, unbarred, Splits, joined, four, eight, number_splits, number_again, bytes_split, bytes_again, blob_splits, blob_again, text_splits, text_again}
use Rattle.soc_raw.specs.CrashId.{is_id, IsId}
use Rattle.soc_raw.specs.Day.{IsMoment}
use Rattle.soc_base.specs.Names.{IsRising}
use Rattle.soc_raw.specs.Record.{Crash, pair_text, pairs_text, head_text, content_text, record_of, MAX_RECORD, MAX_ANNOTATIONS, MAX_DUMPS, IsCrash}
use Rattle.soc_base.specs.Cursor.{counted}
use Rattle.soc_base.specs.Names.{IsText, HasTextName}
use Rattle.soc_raw.specs.declared.record_error.RecordError.{RecordError}
use Rattle.soc_raw.specs.declared.record_error.RecordError.TheVariants.{BadRecord, NoMemory}
use Rattle.soc_raw.specs.RawCrash.{IsRefusal}
use Rattle.soc_base.specs.Options.{◌>>=◌}
use Rattle.soc_base.specs.Cursor.{number_at, bytes_at, blob_at, text_at}
use Rattle.soc_raw.specs.inner.Reading.{id_at, is_moment, moment_at, text_pair_at, blob_pair_at, is_above, pairs_at, counted_pairs_at, content_at, crash_at}
use Rattle.soc_raw.specs.Refusals.{Refuses}
use Rattle.soc_base.proofs.Folk.{some_same}
use Rattle.soc_raw.proofs.Readers.{Item, Pairs}
use Rattle.soc_raw.proofs.Ids.{id_len}
use Rattle.soc_raw.proofs.Lengths.{pairs_fit, rule_fits}

-- ---- ids and moments

id_splits : (bytes : List ℕ) (x : List ℕ × List ℕ) → IsBytes bytes → id_at bytes ≡ Some x → Splits bytes x.0 x.1 × IsId x.0
unfolding id_at
id_splits bytes x fits e =
    let b = bound (bytes_at 36 bytes) (λ id. cond (is_id id.0) (Some id) None) x e in
    let t = passed (is_id b.0.0) b.0 x b.2 in
    let P : List ℕ × List ℕ → Type 0 = λ y. Splits bytes y.0 y.1 × IsId y.0 in
    subst P {x = b.0} t.1 ((bytes_split 36 bytes b.0 fits b.1).0, t.0)

id_again : (x rest : List ℕ) → IsId x → id_at (x ++ rest) ≡ Some (x, rest)
unfolding id_at
id_again x rest id = rw (bytes_again 36 x rest (id_len x id), id) refl

moment_is : (n : ℕ) → is_moment n ≡ true → IsMoment n
moment_is n h = (grind (arith, nat_tests), grind (arith, nat_tests))

moment_test : (n : ℕ) → IsMoment n → is_moment n ≡ true
moment_test n h = (let low = h.0 in let high = h.1 in grind (arith, nat_tests))

moment_splits : (bytes : List ℕ) (x : ℕ × List ℕ) → IsBytes bytes → moment_at bytes ≡ Some x → Splits bytes (to_le_bytes w64 x.0) x.1 × IsMoment x.0
unfolding moment_at
moment_splits bytes x fits e =
    let b = bound (number_at w64 bytes) (λ n. cond (is_moment n.0) (Some n) None) x e in
    let t = passed (is_moment b.0.0) b.0 x b.2 in
    let P : ℕ × List ℕ → Type 0 = λ y. Splits bytes (to_le_bytes w64 y.0) y.1 × IsMoment y.0 in
    subst P {x = b.0} t.1 ((number_splits w64 (2 ^ 64) eight bytes b.0 fits b.1).0, moment_is b.0.0 t.0)

moment_again : (n : ℕ) (rest : List ℕ) → IsMoment n → moment_at (to_le_bytes w64 n ++ rest) ≡ Some (n, rest)
unfolding moment_at
moment_again n rest h = rw (number_again w64 (2 ^ 64) eight n rest (let high = h.1 in omega arith), moment_test n h) refl

-- ---- pairs

-- a reader of pairs of a kind
pub record ReadsPairs (item : Item) (Is : List ℕ × List ℕ → Type 0) : Type 0 where
  pub splits : (bytes : List ℕ) (x : (List ℕ × List ℕ) × List ℕ) → IsBytes bytes → item bytes ≡ Some x → Splits bytes (pair_text x.0) x.1 × Is x.0
  pub again : (p : List ℕ × List ℕ) (rest : List ℕ) → length p.0 < 2 ^ 32 → length p.1 < 2 ^ 32 → Is p → item (pair_text p ++ rest) ≡ Some (p, rest)

texts_read : ReadsPairs text_pair_at IsText
unfolding text_pair_at
texts_read = record {
  splits = λ bytes x fits e.
      let a = bound (text_at bytes) (λ name. text_at name.1 >>= λ value. Some ((name.0, value.0), value.1)) x e in
      let b = bound (text_at a.0.1) (λ value. Some ((a.0.0, value.0), value.1)) x a.2 in
      let first = text_splits bytes a.0 fits a.1 in
      let second = text_splits a.0.1 b.0 first.0.fits b.1 in
      let P : (List ℕ × List ℕ) × List ℕ → Type 0 = λ y. Splits bytes (pair_text y.0) y.1 × IsText y.0 in
      subst P {x = ((a.0.0, b.0.0), b.0.1)} (some_same ((a.0.0, b.0.0), b.0.1) x b.2)
      (joined bytes (counted a.0.0) a.0.1 (counted b.0.0) b.0.1 first.0 second.0, (first.1, second.1));
  again = λ p rest name value is.
      ap text_pair_at (append_assoc (counted p.0) (counted p.1) rest)
      ∙ rw (text_again p.0 (counted p.1 ++ rest) name is.0, text_again p.1 rest value is.1) refl;
}

blobs_read : ReadsPairs blob_pair_at HasTextName
unfolding blob_pair_at
blobs_read = record {
  splits = λ bytes x fits e.
      let a = bound (text_at bytes) (λ name. blob_at name.1 >>= λ value. Some ((name.0, value.0), value.1)) x e in
      let b = bound (blob_at a.0.1) (λ value. Some ((a.0.0, value.0), value.1)) x a.2 in
      let first = text_splits bytes a.0 fits a.1 in
      let second = blob_splits a.0.1 b.0 first.0.fits b.1 in
      let P : (List ℕ × List ℕ) × List ℕ → Type 0 = λ y. Splits bytes (pair_text y.0) y.1 × HasTextName y.0 in
      subst P {x = ((a.0.0, b.0.0), b.0.1)} (some_same ((a.0.0, b.0.0), b.0.1) x b.2)
      (joined bytes (counted a.0.0) a.0.1 (counted b.0.0) b.0.1 first.0 second, first.1);
  again = λ p rest name value is.
      ap blob_pair_at (append_assoc (counted p.0) (counted p.1) rest)
      ∙ rw (text_again p.0 (counted p.1 ++ rest) name is, blob_again p.1 rest value) refl;
}

-- the names rise from the last one on
behind : Option (List ℕ) → List (List ℕ) → List (List ℕ)
behind None names = names
behind (Some last) names = last ∷ names

abbrev RisesFrom : Option (List ℕ) → Pairs → Type 0
RisesFrom last ps = IsStrictlySortedBy (slice_cmp nat_cmp) (behind last (keys_of ps))

less_is : (last name : List ℕ) → is_lt (slice_cmp nat_cmp last name) ≡ true → slice_cmp nat_cmp last name ≡ Less
less_is last name e =
    elim (slice_cmp nat_cmp last name) as (λ o. is_lt o ≡ true → o ≡ Less) [
      | Less ↦ λ e. refl
      | Equal ↦ λ e. cc
      | Greater ↦ λ e. cc
    ] e

all_below : (last name : List ℕ) (names : List (List ℕ)) → slice_cmp nat_cmp last name ≡ Less → AllByRecursion (λ y. slice_cmp nat_cmp name y ≡ Less) names → AllByRecursion (λ y. slice_cmp nat_cmp last y ≡ Less) names
all_below last name [] less all = tt
all_below last name (y ∷ names) less all = (nat_list_cmp_total.trans last name y less all.0, all_below last name names less all.1)

rises_more : (last : Option (List ℕ)) (p : List ℕ × List ℕ) (ps : Pairs) → is_above last p.0 ≡ true → RisesFrom (Some p.0) ps → RisesFrom last (p ∷ ps)
unfolding IsStrictlySortedBy behind
rises_more None p ps above rising = rising
rises_more (Some last) p ps above rising =
    let less = less_is last p.0 above in
    ((less, all_below last p.0 (keys_of ps) less rising.0), rising)

rises_less : (last : Option (List ℕ)) (p : List ℕ × List ℕ) (ps : Pairs) → RisesFrom last (p ∷ ps) → (is_above last p.0 ≡ true) × RisesFrom (Some p.0) ps
unfolding IsStrictlySortedBy behind
rises_less None p ps rising = (refl, rising)
rises_less (Some last) p ps rising = (ap is_lt rising.0.0, rising.1)

allowed : {A : Type 0} (b : Bool) (x : Option A) (y : A) → cond b x None ≡ Some y → (b ≡ true) × (x ≡ Some y)
allowed true x y e = (refl, e)
allowed false x y e = absurd cc

rises_none : (last : Option (List ℕ)) → RisesFrom last []
unfolding IsStrictlySortedBy behind
rises_none None = tt
rises_none (Some last) = (tt, tt)

module _ (item : Item) (Is : List ℕ × List ℕ → Type 0) (reads : ReadsPairs item Is) where
  abbrev Read : ℕ → Option (List ℕ) → List ℕ → Pairs × List ℕ → Type 0
  Read n last bytes y = Splits bytes (flat_map pair_text y.0) y.1 × (length y.0 ≡ n) × AllByRecursion Is y.0 × RisesFrom last y.0

  pairs_splits : (n : ℕ) (last : Option (List ℕ)) (bytes : List ℕ) (x : Pairs × List ℕ) → IsBytes bytes → pairs_at item last n bytes ≡ Some x → Read n last bytes x
  unfolding pairs_at behind IsStrictlySortedBy
  pairs_splits zero last bytes x fits e =
      subst (Read zero last bytes) (some_same ([], bytes) x e) (record { whole = refl; fits = fits }, refl, tt, rises_none last)
  pairs_splits (suc n) last bytes x fits e =
      let a = bound (item bytes) (λ p. cond (is_above last p.0.0) (pairs_at item (Some p.0.0) n p.1 >>= λ others. Some (p.0 ∷ others.0, others.1)) None) x e in
      let g = allowed (is_above last a.0.0.0) (pairs_at item (Some a.0.0.0) n a.0.1 >>= λ others. Some (a.0.0 ∷ others.0, others.1)) x a.2 in
      let b = bound (pairs_at item (Some a.0.0.0) n a.0.1) (λ others. Some (a.0.0 ∷ others.0, others.1)) x g.1 in
      let first = reads.splits bytes a.0 fits a.1 in
      let others = pairs_splits n (Some a.0.0.0) a.0.1 b.0 first.0.fits b.1 in
      subst (Read (suc n) last bytes) {x = (a.0.0 ∷ b.0.0, b.0.1)} (some_same (a.0.0 ∷ b.0.0, b.0.1) x b.2)
      (joined bytes (pair_text a.0.0) a.0.1 (flat_map pair_text b.0.0) b.0.1 first.0 others.0, omega (arith, others.1), (first.1, others.2), rises_more last a.0.0 b.0.0 g.0 others.3)

  pairs_again : (ps : Pairs) (last : Option (List ℕ)) (rest : List ℕ) → length (flat_map pair_text ps) < 2 ^ 32 → AllByRecursion Is ps → RisesFrom last ps → pairs_at item last (length ps) (flat_map pair_text ps ++ rest) ≡ Some (ps, rest)
  unfolding pairs_at
  pairs_again [] last rest short all rising = refl
  pairs_again (p ∷ ps) last rest short all rising =
      let long = length-append (pair_text p) (flat_map pair_text ps) in
      let pair = length-append (counted p.0) (counted p.1) in
      let regroup : flat_map pair_text (p ∷ ps) ++ rest ≡ pair_text p ++ (flat_map pair_text ps ++ rest) = append_assoc (pair_text p) (flat_map pair_text ps) rest in
      let parts = rises_less last p ps rising in
      let above = parts.0 in
      ap (pairs_at item last (suc (length ps))) regroup
      ∙ rw (reads.again p (flat_map pair_text ps ++ rest) (omega arith) (omega arith) all.0, above, pairs_again ps (Some p.0) rest (omega arith) all.1 parts.1) refl

  counted_splits : (most : ℕ) (bytes : List ℕ) (x : Pairs × List ℕ) → IsBytes bytes → counted_pairs_at item most bytes ≡ Some x → Splits bytes (pairs_text x.0) x.1 × (length x.0 ≤ most) × AllByRecursion Is x.0 × IsRising x.0
  unfolding counted_pairs_at behind
  counted_splits most bytes x fits e =
      let a = bound (number_at w32 bytes) (λ n. cond (ltb most n.0) None (pairs_at item None n.0 n.1)) x e in
      let g = unbarred (ltb most a.0.0) (pairs_at item None a.0.0 a.0.1) x a.2 in
      let few : a.0.0 ≤ most = ltb-false _ _ g.0 in
      let count = number_splits w32 (2 ^ 32) four bytes a.0 fits a.1 in
      let pairs = pairs_splits a.0.0 None a.0.1 x count.0.fits g.1 in
      let both = joined bytes (to_le_bytes w32 a.0.0) a.0.1 (flat_map pair_text x.0) x.1 count.0 pairs.0 in
      let P : ℕ → Type 0 = λ k. Splits bytes (to_le_bytes w32 k ++ flat_map pair_text x.0) x.1 in
      (subst P {x = a.0.0} (sym pairs.1) both, omega (arith, pairs.1), pairs.2, pairs.3)

  counted_again : (most : ℕ) (ps : Pairs) (rest : List ℕ) → length ps ≤ most → most < 2 ^ 32 → length (flat_map pair_text ps) < 2 ^ 32 → AllByRecursion Is ps → IsRising ps → counted_pairs_at item most (pairs_text ps ++ rest) ≡ Some (ps, rest)
  unfolding counted_pairs_at behind
  counted_again most ps rest few most_few short all rising =
      let in_most : ltb most (length ps) ≡ false = le-ltb _ _ few in
      rw (number_again w32 (2 ^ 32) four (length ps) (flat_map pair_text ps ++ rest) (omega arith), in_most) (pairs_again ps None rest short all rising)

-- ---- records

in_one_row : (a b c d e : List ℕ) → (a ++ (b ++ (c ++ d))) ++ e ≡ a ++ (b ++ (c ++ (d ++ e)))
in_one_row a b c d e = simp append_assoc

-- annotations, or dumps, that were read
abbrev AreRead : ℕ → (List ℕ × List ℕ → Type 0) → Pairs → Type 0
AreRead most Is ps = (length ps ≤ most) × AllByRecursion Is ps × IsRising ps

content_splits : (bytes : List ℕ) (x : Pairs × Pairs) → IsBytes bytes → content_at bytes ≡ Some x → (bytes ≡ pairs_text x.0 ++ pairs_text x.1) × AreRead MAX_ANNOTATIONS IsText x.0 × AreRead MAX_DUMPS HasTextName x.1
unfolding content_at
content_splits bytes x fits e =
    let b1 = bound (counted_pairs_at text_pair_at MAX_ANNOTATIONS bytes) (λ annotations. counted_pairs_at blob_pair_at MAX_DUMPS annotations.1 >>= λ dumps. cond (length dumps.1 == 0) (Some (annotations.0, dumps.0)) None) x e in
    let annotations = b1.0 in
    let b2 = bound (counted_pairs_at blob_pair_at MAX_DUMPS annotations.1) (λ dumps. cond (length dumps.1 == 0) (Some (annotations.0, dumps.0)) None) x b1.2 in
    let dumps = b2.0 in
    let end = passed (length dumps.1 == 0) (annotations.0, dumps.0) x b2.2 in
    let s1 = counted_splits text_pair_at IsText texts_read MAX_ANNOTATIONS bytes annotations fits b1.1 in
    let s2 = counted_splits blob_pair_at HasTextName blobs_read MAX_DUMPS annotations.1 dumps s1.0.fits b2.1 in
    let nothing : dumps.1 ≡ [] = nil_from_length dumps.1 (eqb-true _ _ end.0) in
    let P : Pairs × Pairs → Type 0 = λ y. (bytes ≡ pairs_text y.0 ++ pairs_text y.1) × AreRead MAX_ANNOTATIONS IsText y.0 × AreRead MAX_DUMPS HasTextName y.1 in
    subst P {x = (annotations.0, dumps.0)} end.1 (
      s1.0.whole ∙ ap (λ t. pairs_text annotations.0 ++ t) (s2.0.whole ∙ ap (λ t. pairs_text dumps.0 ++ t) nothing ∙ append-nil (pairs_text dumps.0)),
      (s1.1, s1.2, s1.3),
      (s2.1, s2.2, s2.3),
    )

content_again : (c : Crash) → IsCrash c → content_at (pairs_text c.annotations ++ pairs_text c.dumps) ≡ Some (c.annotations, c.dumps)
unfolding content_at
content_again c is =
    let short = pairs_fit c is.fits in
    let annotations = counted_again text_pair_at IsText texts_read MAX_ANNOTATIONS c.annotations (pairs_text c.dumps ++ []) is.few_annotations (lit< tt) short.0 is.annotations is.annotations_rise in
    let dumps = counted_again blob_pair_at HasTextName blobs_read MAX_DUMPS c.dumps [] is.few_dumps (lit< tt) short.1 is.dumps is.dumps_rise in
    ap (λ t. content_at (pairs_text c.annotations ++ t)) (sym (append-nil (pairs_text c.dumps))) ∙ rw (annotations, dumps) refl

abbrev made : List ℕ → ℕ → ℕ → List ℕ → Pairs → Pairs → Crash
made id moment draw rule annotations dumps = record { id = id; moment = moment; draw = draw; rule = rule; annotations = annotations; dumps = dumps }

-- the parts of a record that was read
record Parts (bytes : List ℕ) (c : Crash) : Type 0 where
  whole : record_of c ≡ bytes
  id : IsId c.id
  moment : IsMoment c.moment
  draw : c.draw < 2 ^ 64
  rule : IsUtf8 c.rule
  annotations : AreRead MAX_ANNOTATIONS IsText c.annotations
  dumps : AreRead MAX_DUMPS HasTextName c.dumps

parts_made : (bytes : List ℕ) (id : List ℕ × List ℕ) (moment draw : ℕ × List ℕ) (rule : List ℕ × List ℕ) (content : Pairs × Pairs) → IsBytes bytes → id_at bytes ≡ Some id → moment_at id.1 ≡ Some moment → number_at w64 moment.1 ≡ Some draw → text_at draw.1 ≡ Some rule → content_at rule.1 ≡ Some content
    → Parts bytes (made id.0 moment.0 draw.0 rule.0 content.0 content.1)
unfolding record_of head_text content_text
parts_made bytes id moment draw rule content fits is_id is_moment_ is_draw is_rule is_content =
    let s1 = id_splits bytes id fits is_id in
    let s2 = moment_splits id.1 moment s1.0.fits is_moment_ in
    let s3 = number_splits w64 (2 ^ 64) eight moment.1 draw s2.0.fits is_draw in
    let s4 = text_splits draw.1 rule s3.0.fits is_rule in
    let s5 = content_splits rule.1 content s4.0.fits is_content in
    let row : bytes ≡ id.0 ++ (to_le_bytes w64 moment.0 ++ (to_le_bytes w64 draw.0 ++ (counted rule.0 ++ (pairs_text content.0 ++ pairs_text content.1)))) =
    s1.0.whole ∙ ap (λ t. id.0 ++ t) (s2.0.whole ∙ ap (λ t. to_le_bytes w64 moment.0 ++ t) (s3.0.whole ∙ ap (λ t. to_le_bytes w64 draw.0 ++ t) (s4.0.whole ∙ ap (λ t. counted rule.0 ++ t) s5.0))) in
    record {
      whole = in_one_row id.0 (to_le_bytes w64 moment.0) (to_le_bytes w64 draw.0) (counted rule.0) (pairs_text content.0 ++ pairs_text content.1) ∙ sym row;
      id = s1.1;
      moment = s2.1;
      draw = s3.1;
      rule = s4.1;
      annotations = s5.1;
      dumps = s5.2;
    }

parts_same : (bytes : List ℕ) (a c : Crash) → Parts bytes a → Some a ≡ Some c → Parts bytes c
parts_same bytes a c parts same = subst (Parts bytes) (some_same a c same) parts

parts_read : (bytes : List ℕ) (c : Crash) → IsBytes bytes → crash_at bytes ≡ Some c → Parts bytes c
unfolding crash_at
parts_read bytes c fits e =
    let id = bound (id_at bytes) (λ id. moment_at id.1 >>= λ moment. number_at w64 moment.1 >>= λ draw. text_at draw.1 >>= λ rule. content_at rule.1 >>= λ content. Some (made id.0 moment.0 draw.0 rule.0 content.0 content.1)) c e in
    let moment = bound (moment_at id.0.1) (λ moment. number_at w64 moment.1 >>= λ draw. text_at draw.1 >>= λ rule. content_at rule.1 >>= λ content. Some (made id.0.0 moment.0 draw.0 rule.0 content.0 content.1)) c id.2 in
    let draw = bound (number_at w64 moment.0.1) (λ draw. text_at draw.1 >>= λ rule. content_at rule.1 >>= λ content. Some (made id.0.0 moment.0.0 draw.0 rule.0 content.0 content.1)) c moment.2 in
    let rule = bound (text_at draw.0.1) (λ rule. content_at rule.1 >>= λ content. Some (made id.0.0 moment.0.0 draw.0.0 rule.0 content.0 content.1)) c draw.2 in
    let content = bound (content_at rule.0.1) (λ content. Some (made id.0.0 moment.0.0 draw.0.0 rule.0.0 content.0 content.1)) c rule.2 in
    parts_same bytes (made id.0.0 moment.0.0 draw.0.0 rule.0.0 content.0.0 content.0.1) c
    (parts_made bytes id.0 moment.0 draw.0 rule.0 content.0 fits id.1 moment.1 draw.1 rule.1 content.1) content.2

-- what is read is a raw crash, and the bytes are its record
pub read_is : (bytes : List ℕ) (c : Crash) → IsBytes bytes → length bytes ≤ MAX_RECORD → crash_at bytes ≡ Some c → (record_of c ≡ bytes) × IsCrash c
read_is bytes c fits short e =
    let p = parts_read bytes c fits e in (
      p.whole,
      record {
        id = p.id;
        moment = p.moment;
        draw = p.draw;
        rule = p.rule;
        annotations = p.annotations.1;
        annotations_rise = p.annotations.2;
        few_annotations = p.annotations.0;
        dumps = p.dumps.1;
        dumps_rise = p.dumps.2;
        few_dumps = p.dumps.0;
        fits = (let len = ap length p.whole in omega arith);
      },
    )

-- the record of a raw crash is read as that crash
pub read_again : (c : Crash) → IsCrash c → crash_at (record_of c) ≡ Some c
unfolding crash_at record_of head_text content_text
read_again c is =
    let content = pairs_text c.annotations ++ pairs_text c.dumps in
    let rule_row = counted c.rule ++ content in
    let draw_row = to_le_bytes w64 c.draw ++ rule_row in
    let moment_row = to_le_bytes w64 c.moment ++ draw_row in
    let one = id_again c.id moment_row is.id in
    let two = moment_again c.moment draw_row is.moment in
    let three = number_again w64 (2 ^ 64) eight c.draw rule_row is.draw in
    let four_ = text_again c.rule content (rule_fits c is.fits) is.rule in
    let five = content_again c is in
    ap crash_at (in_one_row c.id (to_le_bytes w64 c.moment) (to_le_bytes w64 c.draw) (counted c.rule) content)
    ∙ rw (one, two, three, four_, five) refl

pub refused : (e : RecordError) (bytes : List ℕ) → Refuses e (crash_at bytes ≡ None) → IsRefusal e bytes
refused BadRecord bytes none = λ c is whole.
    let read : crash_at bytes ≡ Some c = ap crash_at (sym whole) ∙ read_again c is in
    let clash : None ≡ Some c = sym none ∙ read in
    cc
refused NoMemory bytes none = tt

pub same_crash : (a b : Crash) → IsCrash a → IsCrash b → record_of a ≡ record_of b → a ≡ b
same_crash a b is_a is_b e = some_same a b (sym (read_again a is_a) ∙ ap crash_at e ∙ read_again b is_b)

-- a content is that of one crash's annotations and dumps alone, whatever stands behind it
pub same_content : (a b : Crash) (x y : List ℕ) → IsCrash a → IsCrash b → content_text a ++ x ≡ content_text b ++ y → (a.annotations ≡ b.annotations) × (a.dumps ≡ b.dumps) × (x ≡ y)
unfolding content_text
same_content a b x y is_a is_b e =
    let short_a = pairs_fit a is_a.fits in
    let short_b = pairs_fit b is_b.fits in
    let annotations_of_a = counted_again text_pair_at IsText texts_read MAX_ANNOTATIONS a.annotations (pairs_text a.dumps ++ x) is_a.few_annotations (lit< tt) short_a.0 is_a.annotations is_a.annotations_rise in
    let annotations_of_b = counted_again text_pair_at IsText texts_read MAX_ANNOTATIONS b.annotations (pairs_text b.dumps ++ y) is_b.few_annotations (lit< tt) short_b.0 is_b.annotations is_b.annotations_rise in
    let whole : pairs_text a.annotations ++ (pairs_text a.dumps ++ x) ≡ pairs_text b.annotations ++ (pairs_text b.dumps ++ y) = sym (append_assoc (pairs_text a.annotations) (pairs_text a.dumps) x) ∙ e ∙ append_assoc (pairs_text b.annotations) (pairs_text b.dumps) y in
    let fronts = some_same (a.annotations, pairs_text a.dumps ++ x) (b.annotations, pairs_text b.dumps ++ y) (sym annotations_of_a ∙ ap (counted_pairs_at text_pair_at MAX_ANNOTATIONS) whole ∙ annotations_of_b) in
    let dumps_of_a = counted_again blob_pair_at HasTextName blobs_read MAX_DUMPS a.dumps x is_a.few_dumps (lit< tt) short_a.1 is_a.dumps is_a.dumps_rise in
    let dumps_of_b = counted_again blob_pair_at HasTextName blobs_read MAX_DUMPS b.dumps y is_b.few_dumps (lit< tt) short_b.1 is_b.dumps is_b.dumps_rise in
    let backs = some_same (a.dumps, x) (b.dumps, y) (sym dumps_of_a ∙ ap (counted_pairs_at blob_pair_at MAX_DUMPS) (ap (λ p. p.1) fronts) ∙ dumps_of_b) in
    (ap (λ p. p.0) fronts, ap (λ p. p.0) backs, ap (λ p. p.1) backs)
