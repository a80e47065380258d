-- That a text has a first delimiter or none.
use Rattle.std.proofs.Common.{◌≡◌, ℕ, zero, suc, ◌+◌, ◌-◌, ◌<◌, ◌≤◌, List, [], ◌∷◌, ◌++◌, length, take, drop, codes, Bool, true, false, sym, refl, ap, ◌∙◌, subst, arith, append_assoc, ◌⊎◌, inl, inr, IsTrue, ◌↔◌, ◌==◌}
use Rattle.std.specs.List.{AllPass}
use Rattle.std.proofs.lemmas.Bool.{cases_lt, cases_Bool}
use Rattle.std.proofs.lemmas.Bool.Decides.{nat_tests}
use Rattle.std.proofs.lemmas.List.{append-nil, length-append, append_cancel_left, drop_at}
use Rattle.std.proofs.lemmas.List.Elements.{All-nil, All-cons}
use Rattle.soc_multipart.specs.declared.delimiters.Ending.TheVariants.{Opening, Closing}
use Rattle.soc_multipart.specs.Delimiters.{PartsRun, mark_of, EndsOpening, EndsClosing, EndsLine, EndsNowise, Opens, Closes, IsAtDelimiter, HasNoDelimiter, Reaches}
use Rattle.soc_text.specs.Lines.{crlf}
use Rattle.soc_text.specs.Blanks.{is_blank}
use Rattle.soc_multipart.specs.Parts.{PartText, IsPart, MayBePart, BeginsBadPart}
use Rattle.soc_multipart.specs.inner.Sections.{BeginsNoPart}
use Rattle.soc_multipart.specs.inner.Tails.{IsClear}
use Rattle.soc_multipart.proofs.Basics.{stops_nil, stops_cons}
use Rattle.soc_multipart.proofs.DelimiterLemmas.{opening_by_parts, no_opening, closing_by_parts, no_closing, not_at, at_has_mark}
use Rattle.soc_multipart.proofs.HeadLemmas.{parted}
use Rattle.soc_multipart.proofs.TailLemmas.{at_place, last_once}

heads : (x y : ℕ) (xs ys : List ℕ) → x ∷ xs ≡ y ∷ ys → (x ≡ y) × (xs ≡ ys)
heads x y xs ys e = (cc, cc)

-- a text begins with another or not
same_byte : (x y : ℕ) → (x ≡ y) ⊎ (¬ (x ≡ y))
same_byte x y = elim (cases_Bool (x == y)) [ inl e ↦ inl (grind (arith, nat_tests)) | inr e ↦ inr (λ f. grind (arith, nat_tests)) ]

begins_with : (p t : List ℕ) → ((r : List ℕ) × (t ≡ p ++ r)) ⊎ ((r : List ℕ) → ¬ (t ≡ p ++ r))
begins_with [] t = inl (t, refl)
begins_with (x ∷ p) [] = inr (λ r e. absurd (let clash : ⊥ = cc in clash))
begins_with (x ∷ p) (y ∷ t) =
    elim (same_byte y x) [
      | inr apart ↦ inr (λ r e. apart (heads y x t (p ++ r) e).0)
      | inl same ↦
          elim (begins_with p t) [
            | inl rest ↦ inl (rest.0, (let tails : t ≡ p ++ rest.0 = rest.1 in cc))
            | inr none ↦ inr (λ r e. none r (heads y x t (p ++ r) e).1)
          ]
    ]

-- the blanks at a text's front
blanks_at : (t : List ℕ) → (pad : List ℕ) × (rest : List ℕ) × PartsRun is_blank t pad rest
blanks_at [] = ([], [], record { whole = refl; passes = All-nil (λ x. is_blank x ≡ true); stops = stops_nil is_blank })
blanks_at (c ∷ t) =
    elim (cases_Bool (is_blank c)) [
      | inr other ↦ ([], c ∷ t, record { whole = refl; passes = All-nil (λ x. is_blank x ≡ true); stops = stops_cons is_blank c t other })
      | inl blank ↦
          let inner : (pad : List ℕ) × (rest : List ℕ) × PartsRun is_blank t pad rest = blanks_at t in (
            c ∷ inner.0,
            inner.1,
            record {
              whole = ap (λ (x : List ℕ). c ∷ x) inner.2.whole;
              passes = All-cons (λ x. is_blank x ≡ true) c inner.0 blank inner.2.passes;
              stops = inner.2.stops;
            },
          )
    ]

-- what ends a delimiter
ends_line_or_not : (t : List ℕ) → (r : Bool) × (IsTrue r ↔ EndsLine t)
ends_line_or_not [] = (true, (λ _. inl refl, λ _. refl))
ends_line_or_not (c ∷ t) =
    elim (begins_with crlf (c ∷ t)) [
      | inl more ↦ (true, (λ _. inr more, λ _. refl))
      | inr none ↦ (false, (λ is. absurd (let clash : ⊥ = cc in clash), λ h. absurd (never h none)))
    ]
  where
    never : EndsLine (c ∷ t) → ((r : List ℕ) → ¬ (c ∷ t ≡ crlf ++ r)) → ⊥
    never (inl e) none = cc
    never (inr (m, e)) none = none m e

opening_or_not : (after : List ℕ) → ((rest : List ℕ) × EndsOpening after rest) ⊎ ((rest : List ℕ) → ¬ (EndsOpening after rest))
opening_or_not after =
    let b : (pad : List ℕ) × (rest : List ℕ) × PartsRun is_blank after pad rest = blanks_at after in
    elim (begins_with crlf b.1) [
      | inl rest ↦ inl (rest.0, opening_by_parts after b.0 b.1 rest.0 b.2 rest.1)
      | inr none ↦ inr (no_opening after b.0 b.1 b.2 none)
    ]

closing_or_not : (after : List ℕ) → EndsClosing after ⊎ (¬ (EndsClosing after))
closing_or_not after =
    elim (begins_with (codes "--") after) [
      | inr none ↦ inr (no_closing after none)
      | inl rest ↦
          let b : (pad : List ℕ) × (tail : List ℕ) × PartsRun is_blank rest.0 pad tail = blanks_at rest.0 in
          let e : (r : Bool) × (IsTrue r ↔ EndsLine b.1) = ends_line_or_not b.1 in
          let both : IsTrue e.0 ↔ EndsClosing after = closing_by_parts after rest.0 b.0 b.1 e.0 rest.1 b.2 e.1 in
          elim (cases_Bool e.0) [ inl holds ↦ inl (both.0 holds) | inr fails ↦ inr (λ c. let is : e.0 ≡ true = both.1 c in not_both e.0 is fails) ]
    ]
  where
    not_both : (b : Bool) → b ≡ true → b ≡ false → ⊥
    not_both b e f = cc

pub at_or_not : (mark t : List ℕ) → IsAtDelimiter mark t ⊎ (¬ (IsAtDelimiter mark t))
at_or_not mark t =
    elim (begins_with mark t) [
      | inr none ↦ inr (λ at. let m : (after : List ℕ) × (t ≡ mark ++ after) = at_has_mark mark t at in none m.0 m.1)
      | inl after ↦
          elim (opening_or_not after.0) [
            | inl o ↦ inl (inl (o.0, record { after = after.0; whole = after.1; ends = o.1 }))
            | inr no_opening_ ↦
                elim (closing_or_not after.0) [
                  | inl c ↦ inl (inr (record { after = after.0; whole = after.1; ends = c }))
                  | inr no_closing_ ↦ inr (not_at mark t after.0 after.1 (no_opening_, no_closing_))
                ]
          ]
    ]

-- the first delimiter
abbrev First : List ℕ → List ℕ → Type 0
First mark t = HasNoDelimiter mark t ⊎ ((piece : List ℕ) × (next : List ℕ) × Reaches mark t piece next × IsAtDelimiter mark next)

first_here : (mark t : List ℕ) → IsAtDelimiter mark t → First mark t
first_here mark t here = inr ([], t, record { whole = refl; clear = λ i l. absurd (omega arith) }, here)

none_in_nothing : (mark : List ℕ) → ¬ (IsAtDelimiter mark []) → HasNoDelimiter mark []
none_in_nothing mark none zero at = none at
none_in_nothing mark none (suc i) at = none at

none_more : (mark : List ℕ) (c : ℕ) (t : List ℕ) → ¬ (IsAtDelimiter mark (c ∷ t)) → HasNoDelimiter mark t → HasNoDelimiter mark (c ∷ t)
none_more mark c t none h zero at = none at
none_more mark c t none h (suc i) at = h i at

clear_more : (mark : List ℕ) (c : ℕ) (t piece : List ℕ) → ¬ (IsAtDelimiter mark (c ∷ t)) → ((i : ℕ) → i < length piece → ¬ (IsAtDelimiter mark (drop i t)))
    → (i : ℕ) → i < length (c ∷ piece) → ¬ (IsAtDelimiter mark (drop i (c ∷ t)))
clear_more mark c t piece none h zero l at = none at
clear_more mark c t piece none h (suc i) l at = h i (omega arith) at

first_later : (mark : List ℕ) (c : ℕ) (t : List ℕ) → ¬ (IsAtDelimiter mark (c ∷ t)) → First mark t → First mark (c ∷ t)
first_later mark c t none (inl nowhere) = inl (none_more mark c t none nowhere)
first_later mark c t none (inr (piece, next, r, at)) =
    inr (c ∷ piece, next, record { whole = ap (λ (x : List ℕ). c ∷ x) r.whole; clear = clear_more mark c t piece none r.clear }, at)

first_by : (mark : List ℕ) (c : ℕ) (t : List ℕ) → IsAtDelimiter mark (c ∷ t) ⊎ (¬ (IsAtDelimiter mark (c ∷ t))) → First mark t → First mark (c ∷ t)
first_by mark c t (inl here) later = first_here mark (c ∷ t) here
first_by mark c t (inr none) later = first_later mark c t none later

first_of_nothing : (mark : List ℕ) → IsAtDelimiter mark [] ⊎ (¬ (IsAtDelimiter mark [])) → First mark []
first_of_nothing mark (inl here) = first_here mark [] here
first_of_nothing mark (inr none) = inl (none_in_nothing mark none)

pub first_or_none : (mark t : List ℕ) → HasNoDelimiter mark t ⊎ ((piece : List ℕ) × (next : List ℕ) × Reaches mark t piece next × IsAtDelimiter mark next)
first_or_none mark [] = first_of_nothing mark (at_or_not mark [])
first_or_none mark (c ∷ t) = first_by mark c t (at_or_not mark (c ∷ t)) (first_or_none mark t)

-- a bad part, whatever follows: up to the first delimiter, or up to the body's end
pub bad_decided : (mark text front : List ℕ) (n : ℕ) (back : List ℕ) → text ≡ front ++ back → n ≡ length front → IsClear mark text n → BeginsNoPart front → (more : List ℕ) → BeginsBadPart mark (text ++ more)
bad_decided mark text front n back e l clear bad more =
    elim (first_or_none mark (text ++ more)) [
      | inl none ↦ inr (none, subst (λ (x : List ℕ). ¬ (MayBePart x)) (sym whole) (bad.never_cut (back ++ more)))
      | inr some ↦ inl (some.0, some.1, some.2, some.3, at_first some.0 some.1 some.2 some.3)
    ]
  where
    whole : text ++ more ≡ front ++ (back ++ more)
    whole = ap (λ (x : List ℕ). x ++ more) e ∙ append_assoc front back more

    at_first : (piece next : List ℕ) → Reaches mark (text ++ more) piece next → IsAtDelimiter mark next → (part : PartText) → ¬ (IsPart piece part)
    at_first piece next r at part p =
        elim (cases_lt (length piece) n) [
          | inl early ↦
              clear more (length piece) early (subst (IsAtDelimiter mark) (sym (ap (drop (length piece)) r.whole ∙ drop_at piece next (length piece) refl)) at)
          | inr late ↦
              let q : (m : List ℕ) × (piece ≡ front ++ m) × (back ++ more ≡ m ++ next) = parted piece next front (back ++ more) (sym r.whole ∙ whole) (omega arith) in
              bad.never q.0 part (subst (λ (x : List ℕ). IsPart x part) q.1 p)
        ]

-- the same where a delimiter may stand behind front, before the line end of the text
pub bad_lines : (b text front : List ℕ) → text ≡ front ++ crlf → IsClear (mark_of b) text (length front) → ((part : PartText) → ¬ (IsPart front part)) → BeginsNoPart text
    → (more : List ℕ) → BeginsBadPart (mark_of b) (text ++ more)
bad_lines b text front e clear alone bad more =
    elim (first_or_none (mark_of b) (text ++ more)) [
      | inl none ↦ inr (none, bad.never_cut more)
      | inr some ↦ inl (some.0, some.1, some.2, some.3, at_first some.0 some.1 some.2 some.3)
    ]
  where
    at_first : (piece next : List ℕ) → Reaches (mark_of b) (text ++ more) piece next → IsAtDelimiter (mark_of b) next → (part : PartText) → ¬ (IsPart piece part)
    at_first piece next r at part p =
        let here : drop (length piece) (text ++ more) ≡ next = ap (drop (length piece)) r.whole ∙ drop_at piece next (length piece) refl in
        elim (cases_lt (length piece) (length front)) [
          | inl early ↦ clear more (length piece) early (subst (IsAtDelimiter (mark_of b)) (sym here) at)
          | inr late ↦
              let whole : front ++ (crlf ++ more) ≡ piece ++ next = sym (append_assoc front crlf more) ∙ (ap (λ (x : List ℕ). x ++ more) (sym e) ∙ r.whole) in
              let q : (m : List ℕ) × (piece ≡ front ++ m) × (crlf ++ more ≡ m ++ next) = parted piece next front (crlf ++ more) (sym whole) (omega arith) in
              by_rest q.0 q.1 q.2
        ]
      where
        marked : (after : List ℕ) × (next ≡ mark_of b ++ after)
        marked = at_has_mark (mark_of b) next at

        ten_not_13 : (n : ℕ) → n ≡ 10 → ¬ (n ≡ 13)
        ten_not_13 n e f = absurd (omega arith)

        by_rest : (m : List ℕ) → piece ≡ front ++ m → crlf ++ more ≡ m ++ next → ⊥
        by_rest [] g h = alone part (subst (λ (x : List ℕ). IsPart x part) (g ∙ append-nil front) p)
        by_rest (x ∷ []) g h =
            ten_not_13 10 refl (heads 10 13 more (10 ∷ (45 ∷ (45 ∷ (b ++ marked.0)))) ((heads 13 x (10 ∷ more) next h).1 ∙ marked.1)).0
        by_rest (x ∷ y ∷ m) g h =
            let first : (13 ≡ x) × (10 ∷ more ≡ y ∷ (m ++ next)) = heads 13 x (10 ∷ more) (y ∷ (m ++ next)) h in
            let second : (10 ≡ y) × (more ≡ m ++ next) = heads 10 y more (m ++ next) first.1 in
            let same : front ++ (x ∷ (y ∷ m)) ≡ text ++ m =
            (let u : 13 ≡ x = first.0 in let v : 10 ≡ y = second.0 in ap (λ (z : List ℕ). front ++ z) (let w : x ∷ (y ∷ m) ≡ 13 ∷ (10 ∷ m) = cc in w))
            ∙ (sym (append_assoc front crlf m) ∙ ap (λ (z : List ℕ). z ++ m) (sym e)) in
            bad.never m part (subst (λ (z : List ℕ). IsPart z part) (g ∙ same) p)
