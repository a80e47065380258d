-- Where delimiters may stand in a text whose last line is known: only a line feed ends one, or the body's end.
use Rattle.std.proofs.Common.{◌≡◌, ℕ, zero, suc, ◌+◌, ◌-◌, ◌<◌, ◌≤◌, List, [], ◌∷◌, ◌++◌, length, take, drop, get_or, codes, Bool, true, false, sym, refl, ap, ◌∙◌, subst, arith, append_assoc, ◌⊎◌, inl, inr, Option, None, Some, MatchOption, MatchBool, ◌==◌}
use Rattle.std.proofs.Common.{Bor, is_some}
use Rattle.std.specs.Prelude.{⊤}
use Rattle.std.specs.List.{AllPass}
use Rattle.std.proofs.lemmas.Bool.{cases_lt, cases_Bool}
use Rattle.std.proofs.lemmas.Bool.Decides.{nat_tests}
use Rattle.std.proofs.lemmas.List.{append_cancel_left, append_cancel_right, append-nil, length-append, length-take, length-drop, take-append-drop, take-append-le, drop-append-le, drop_at, take_at, drop-drop, drop_all, take_all, take_more, get_or-take, get_or_default}
use Rattle.memchr.specs.Find.{NoneBefore, Nowhere, Passes, is_byte}
use Rattle.std.proofs.lemmas.List.Elements.{All-nil, All-cons, All-head, All-tail, All-append, All-drop}
use Rattle.soc_base.proofs.Folk.{not_both}
use Rattle.soc_multipart.specs.declared.delimiters.Ending.{Ending}
use Rattle.soc_multipart.specs.declared.delimiters.Ending.TheVariants as ending
use Rattle.soc_multipart.specs.declared.tails.Kind.{Kind}
use Rattle.soc_multipart.specs.declared.tails.Kind.TheVariants.{Opening, Closing}
use Rattle.soc_multipart.specs.Delimiters.{IsBoundary, is_boundary_byte, mark_of, EndsOpening, EndsClosing, EndsLine, Opens, Closes, IsAt, IsAtDelimiter, HasNoDelimiter, Reaches}
use Rattle.soc_text.specs.Lines.{crlf}
use Rattle.soc_text.specs.Blanks.{is_blank}
use Rattle.soc_multipart.specs.inner.Tails.{is_inline, IsOfLine, IsClear, EndsInLine, HoldsLine, MayHoldLine, Watches, EndsLineIn, PassesLineIn, IsAtKind, IsKindOf, CutsAt, MeetsIn, ClosesIn}
use Rattle.soc_multipart.proofs.Basics.{Stops, stops_cons, run_once}
use Rattle.soc_multipart.proofs.DelimiterLemmas.{at_has_mark}
use Rattle.soc_multipart.proofs.HeadLemmas.{parted}

heads : (x y : ℕ) (xs ys : List ℕ) → x ∷ xs ≡ y ∷ ys → (x ≡ y) × (xs ≡ ys)
heads x y xs ys e = (cc, cc)

feed_stops : (rest : List ℕ) → Stops is_inline (10 ∷ rest)
feed_stops rest = stops_cons is_inline 10 rest refl

-- a line feed behind bytes that hold none
pub feed_behind : (l r m y : List ℕ) → AllPass is_inline l → l ++ r ≡ m ++ (10 ∷ y) → length l ≤ length m
feed_behind [] r m y h e = omega arith
feed_behind (c ∷ l) r [] y h e =
    absurd (not_both (is_inline c) (All-head (λ x. is_inline x ≡ true) c l h) (ap is_inline (heads c 10 (l ++ r) y e).0))
feed_behind (c ∷ l) r (d ∷ m) y h e =
    let more : length l ≤ length m = feed_behind l r m y (All-tail (λ x. is_inline x ≡ true) c l h) (heads c d (l ++ r) (m ++ (10 ∷ y)) e).1 in omega arith

-- two texts up to their first line feeds
pub to_feed_once : (l m r s : List ℕ) → AllPass is_inline l → AllPass is_inline m → l ++ (10 ∷ r) ≡ m ++ (10 ∷ s) → (l ≡ m) × (r ≡ s)
to_feed_once l m r s h k e =
    let both : (l ≡ m) × (10 ∷ r ≡ 10 ∷ s) = run_once is_inline l m (10 ∷ r) (10 ∷ s) e h k (feed_stops r) (feed_stops s) in
    (both.0, (heads 10 10 r s both.1).1)

-- the last byte
pub last_once : (a b : List ℕ) (x y : ℕ) → a ++ x ∷ [] ≡ b ++ y ∷ [] → (a ≡ b) × (x ≡ y)
last_once [] [] x y e = (refl, (heads x y [] [] e).0)
last_once [] (c ∷ b) x y e = absurd (omega (arith, ap length e, length-append b (y ∷ [])))
last_once (c ∷ a) [] x y e = absurd (omega (arith, ap length e, length-append a (x ∷ [])))
last_once (c ∷ a) (d ∷ b) x y e =
    let both : (c ≡ d) × (a ++ x ∷ [] ≡ b ++ y ∷ []) = heads c d (a ++ x ∷ []) (b ++ y ∷ []) e in
    let inner : (a ≡ b) × (x ≡ y) = last_once a b x y both.1 in
    ((let first : c ≡ d = both.0 in let rest : a ≡ b = inner.0 in cc), inner.1)

-- a delimiter stands behind a line end
pub at_place : (b t : List ℕ) (i : ℕ) → IsAtDelimiter (mark_of b) (drop i t) → (x : List ℕ) × (y : List ℕ) × (t ≡ x ++ (crlf ++ y)) × (length x ≡ i) × (drop i t ≡ crlf ++ y)
at_place b t i at =
    let marked : (after : List ℕ) × (drop i t ≡ mark_of b ++ after) = at_has_mark (mark_of b) (drop i t) at in
    let y : List ℕ = 45 ∷ (45 ∷ (b ++ marked.0)) in
    let here : drop i t ≡ crlf ++ y = marked.1 in
    let inside : i ≤ length t = omega (arith, length-drop i t, ap length here) in (
      take i t,
      y,
      sym (take-append-drop i t) ∙ ap (λ z. take i t ++ z) here,
      omega (arith, length-take i t),
      here,
    )

-- no delimiter begins inside a line, or with the byte before it
pub none_inside : (b t g l r : List ℕ) (i : ℕ) → t ≡ g ++ (l ++ r) → AllPass is_inline l → IsAtDelimiter (mark_of b) (drop i t) → length g ≤ i + 1 → length g + length l ≤ i + 1
none_inside b t g l r i e h at low =
    let p : (x : List ℕ) × (y : List ℕ) × (t ≡ x ++ (crlf ++ y)) × (length x ≡ i) × (drop i t ≡ crlf ++ y) = at_place b t i at in
    let x2 : List ℕ = p.0 ++ 13 ∷ [] in
    let spelled : g ++ (l ++ r) ≡ x2 ++ (10 ∷ p.1) = sym e ∙ (p.2 ∙ sym (append_assoc p.0 (13 ∷ []) (10 ∷ p.1))) in
    let size : length x2 ≡ i + 1 = omega (arith, p.3, length-append p.0 (13 ∷ [])) in
    let q : (m : List ℕ) × (x2 ≡ g ++ m) × (l ++ r ≡ m ++ (10 ∷ p.1)) = parted x2 (10 ∷ p.1) g (l ++ r) (sym spelled) (omega arith) in
    let less : length l ≤ length q.0 = feed_behind l r q.0 p.1 h q.2 in
    omega (arith, ap length q.1, length-append g q.0)

-- delimiters in longer texts
ends_longer : (after r more : List ℕ) → EndsOpening after r → EndsOpening (after ++ more) (r ++ more)
ends_longer after r more o = record {
  pad = o.pad;
  blanks = o.blanks;
  whole = ap (λ (x : List ℕ). x ++ more) o.whole ∙ append_assoc o.pad (crlf ++ r) more;
}

pub opens_longer : (mark t r more : List ℕ) → Opens mark t r → Opens mark (t ++ more) (r ++ more)
opens_longer mark t r more o = record {
  after = o.after ++ more;
  whole = ap (λ (x : List ℕ). x ++ more) o.whole ∙ append_assoc mark o.after more;
  ends = ends_longer o.after r more o.ends;
}

line_longer : (tail m more : List ℕ) → tail ≡ crlf ++ m → EndsLine (tail ++ more)
line_longer tail m more e = inr (m ++ more, ap (λ (x : List ℕ). x ++ more) e)

-- a closing delimiter that a line end ends
closes_longer : (mark t more : List ℕ) → (c : Closes mark t) → (m : List ℕ) → c.ends.tail ≡ crlf ++ m → Closes mark (t ++ more)
closes_longer mark t more c m e = record {
  after = c.after ++ more;
  whole = ap (λ (x : List ℕ). x ++ more) c.whole ∙ append_assoc mark c.after more;
  ends = record {
    pad = c.ends.pad;
    tail = c.ends.tail ++ more;
    blanks = c.ends.blanks;
    ended = line_longer c.ends.tail m more e;
    whole = ap (λ (x : List ℕ). x ++ more) c.ends.whole ∙ ap (λ (x : List ℕ). codes "--" ++ x) (append_assoc c.ends.pad c.ends.tail more);
  };
}

-- no line feed stands in a delimiter but those of its line ends
dash_inline : is_inline 45 ≡ true
dash_inline = refl

not_inline : (c : ℕ) → is_inline c ≡ false → c ≡ 10
not_inline c h = grind (arith, nat_tests)

blank_inline : (c : ℕ) → is_blank c ≡ true → is_inline c ≡ true
blank_inline c h =
    elim (cases_Bool (is_inline c)) [ inl e ↦ e | inr e ↦ absurd (not_both (is_blank c) h (ap is_blank (not_inline c e))) ]

blanks_inline : (pad : List ℕ) → AllPass is_blank pad → AllPass is_inline pad
blanks_inline pad h k d l = blank_inline (get_or pad k d) (h k d l)

byte_inline : (c : ℕ) → is_boundary_byte c ≡ true → is_inline c ≡ true
byte_inline c h =
    elim (cases_Bool (is_inline c)) [ inl e ↦ e | inr e ↦ absurd (not_both (is_boundary_byte c) h (ap is_boundary_byte (not_inline c e))) ]

pub boundary_inline : (b : List ℕ) → IsBoundary b → AllPass is_inline b
boundary_inline b g k d l = byte_inline (get_or b k d) (g.passes k d l)

dashed : (l : List ℕ) → AllPass is_inline l → AllPass is_inline (codes "--" ++ l)
dashed l h = All-cons (λ x. is_inline x ≡ true) 45 (45 ∷ l) dash_inline (All-cons (λ x. is_inline x ≡ true) 45 l dash_inline h)

returned : (l : List ℕ) → AllPass is_inline l → AllPass is_inline (l ++ 13 ∷ [])
returned l h = All-append (λ x. is_inline x ≡ true) l (13 ∷ []) h (All-cons (λ x. is_inline x ≡ true) 13 [] refl (All-nil (λ x. is_inline x ≡ true)))

joined : (l m : List ℕ) → AllPass is_inline l → AllPass is_inline m → AllPass is_inline (l ++ m)
joined l m h k = All-append (λ x. is_inline x ≡ true) l m h k

-- the line of an opening delimiter
abbrev opening_line : List ℕ → List ℕ → List ℕ
opening_line b pad = codes "--" ++ (b ++ (pad ++ 13 ∷ []))

opening_spelled : (b l r : List ℕ) → (o : Opens (mark_of b) (crlf ++ l) r) → l ≡ opening_line b o.ends.pad ++ (10 ∷ r)
opening_spelled b l r o =
    let body : l ≡ codes "--" ++ (b ++ o.after) = append_cancel_left crlf l (codes "--" ++ (b ++ o.after)) o.whole in
    body
    ∙ (ap (λ (x : List ℕ). codes "--" ++ (b ++ x)) (o.ends.whole ∙ sym (append_assoc o.ends.pad (13 ∷ []) (10 ∷ r)))
    ∙ ap (λ (x : List ℕ). codes "--" ++ x) (sym (append_assoc b (o.ends.pad ++ 13 ∷ []) (10 ∷ r))))

opening_of : (b pad r : List ℕ) → AllPass is_blank pad → Opens (mark_of b) (crlf ++ (opening_line b pad ++ (10 ∷ r))) r
opening_of b pad r h = record {
  after = pad ++ (crlf ++ r);
  whole =
      ap (λ (x : List ℕ). crlf ++ (codes "--" ++ x)) (append_assoc b (pad ++ 13 ∷ []) (10 ∷ r))
      ∙ ap (λ (x : List ℕ). crlf ++ (codes "--" ++ (b ++ x))) (append_assoc pad (13 ∷ []) (10 ∷ r));
  ends = record { pad = pad; blanks = h; whole = refl };
}

-- the line of a closing delimiter
abbrev closing_line : List ℕ → List ℕ → List ℕ
closing_line b pad = codes "--" ++ (b ++ (codes "--" ++ pad))

closing_spelled : (b l : List ℕ) → (c : Closes (mark_of b) (crlf ++ l)) → l ≡ closing_line b c.ends.pad ++ c.ends.tail
closing_spelled b l c =
    let body : l ≡ codes "--" ++ (b ++ c.after) = append_cancel_left crlf l (codes "--" ++ (b ++ c.after)) c.whole in
    body
    ∙ (ap (λ (x : List ℕ). codes "--" ++ (b ++ x)) c.ends.whole
    ∙ ap (λ (x : List ℕ). codes "--" ++ x) (sym (append_assoc b (codes "--" ++ c.ends.pad) c.ends.tail)))

closing_of : (b pad tail : List ℕ) → AllPass is_blank pad → EndsLine tail → Closes (mark_of b) (crlf ++ (closing_line b pad ++ tail))
closing_of b pad tail h e = record {
  after = codes "--" ++ (pad ++ tail);
  whole = ap (λ (x : List ℕ). crlf ++ (codes "--" ++ x)) (append_assoc b (codes "--" ++ pad) tail);
  ends = record { pad = pad; tail = tail; blanks = h; ended = e; whole = refl };
}

opening_inline : (b pad : List ℕ) → AllPass is_inline b → AllPass is_blank pad → AllPass is_inline (opening_line b pad)
opening_inline b pad g h = dashed (b ++ (pad ++ 13 ∷ [])) (joined b (pad ++ 13 ∷ []) g (returned pad (blanks_inline pad h)))

closing_inline : (b pad : List ℕ) → AllPass is_inline b → AllPass is_blank pad → AllPass is_inline (closing_line b pad)
closing_inline b pad g h = dashed (b ++ (codes "--" ++ pad)) (joined b (codes "--" ++ pad) g (dashed pad (blanks_inline pad h)))

-- bytes that hold no line feed do not go on with one
pub no_feed_in : (l m r : List ℕ) → AllPass is_inline l → l ≡ m ++ (10 ∷ r) → ⊥
no_feed_in l m r h e =
    let less : length l ≤ length m = feed_behind l [] m r h (append-nil l ∙ e) in
    absurd (omega (arith, ap length e, length-append m (10 ∷ r)))

-- what a delimiter is at a line that a line feed has just ended
pub opening_ended : (b l r more : List ℕ) → AllPass is_inline l → Opens (mark_of b) (crlf ++ (l ++ 10 ∷ [])) r → Opens (mark_of b) ((crlf ++ (l ++ 10 ∷ [])) ++ more) more
opening_ended b l r more h o =
    let e : l ++ 10 ∷ [] ≡ opening_line b o.ends.pad ++ (10 ∷ r) = opening_spelled b (l ++ 10 ∷ []) r o in
    let less : length l ≤ length (opening_line b o.ends.pad) = feed_behind l (10 ∷ []) (opening_line b o.ends.pad) r h e in
    let none : r ≡ [] =
    empty_from r (omega (arith, ap length e, length-append l (10 ∷ []), length-append (opening_line b o.ends.pad) (10 ∷ r))) in
    subst (λ (x : List ℕ). Opens (mark_of b) ((crlf ++ (l ++ 10 ∷ [])) ++ more) (x ++ more)) none (opens_longer (mark_of b) (crlf ++ (l ++ 10 ∷ [])) r more o)
  where
    empty_from : (r : List ℕ) → length r ≡ 0 → r ≡ []
    empty_from [] e = refl
    empty_from (c ∷ r) e = absurd (omega arith)

pub closing_ended : (b l more : List ℕ) → Closes (mark_of b) (crlf ++ (l ++ 10 ∷ [])) → Closes (mark_of b) ((crlf ++ (l ++ 10 ∷ [])) ++ more)
closing_ended b l more c = go c.ends.ended
  where
    go : EndsLine c.ends.tail → Closes (mark_of b) ((crlf ++ (l ++ 10 ∷ [])) ++ more)
    go (inr (m, e)) = closes_longer (mark_of b) (crlf ++ (l ++ 10 ∷ [])) more c m e
    go (inl e) =
        let spelled : l ++ 10 ∷ [] ≡ closing_line b c.ends.pad =
        closing_spelled b (l ++ 10 ∷ []) c ∙ (ap (λ (x : List ℕ). closing_line b c.ends.pad ++ x) e ∙ append-nil (closing_line b c.ends.pad)) in
        let front : List ℕ = codes "--" ++ b in
        let behind : List ℕ = codes "--" ++ c.ends.pad in
        let p : (m : List ℕ) × (l ≡ front ++ m) × (behind ≡ m ++ 10 ∷ []) =
        parted l (10 ∷ []) front behind spelled (omega (arith, ap length spelled, length-append l (10 ∷ []), length-append b behind)) in
        absurd (no_feed_in behind p.0 [] (dashed c.ends.pad (blanks_inline c.ends.pad c.ends.blanks)) p.2)

pub not_ended : (b l more : List ℕ) → AllPass is_inline b → AllPass is_inline l → ¬ (IsAtDelimiter (mark_of b) (crlf ++ (l ++ 10 ∷ [])))
    → ¬ (IsAtDelimiter (mark_of b) ((crlf ++ (l ++ 10 ∷ [])) ++ more))
not_ended b l more g h none at = go (subst (λ (x : List ℕ). IsAtDelimiter (mark_of b) (crlf ++ x)) (append_assoc l (10 ∷ []) more) at)
  where
    line_is : (p : List ℕ) (r : List ℕ) → AllPass is_inline p → l ++ (10 ∷ more) ≡ p ++ (10 ∷ r) → l ++ 10 ∷ [] ≡ p ++ 10 ∷ []
    line_is p r k e = ap (λ (x : List ℕ). x ++ 10 ∷ []) (to_feed_once l p more r h k e).0

    go : IsAtDelimiter (mark_of b) (crlf ++ (l ++ (10 ∷ more))) → ⊥
    go (inl (r, o)) =
        let pad : List ℕ = o.ends.pad in
        none
        (inl (
          [],
          subst (λ (x : List ℕ). Opens (mark_of b) (crlf ++ x) []) (sym (line_is (opening_line b o.ends.pad) r (opening_inline b o.ends.pad g o.ends.blanks) (opening_spelled b (l ++ (10 ∷ more)) r o)))
              (opening_of b o.ends.pad [] o.ends.blanks),
        ))
    go (inr c) = closed c.ends.ended
      where
        closed : EndsLine c.ends.tail → ⊥
        closed (inl e) =
            let spelled : l ++ (10 ∷ more) ≡ closing_line b c.ends.pad =
            closing_spelled b (l ++ (10 ∷ more)) c ∙ (ap (λ (x : List ℕ). closing_line b c.ends.pad ++ x) e ∙ append-nil (closing_line b c.ends.pad)) in
            no_feed_in (closing_line b c.ends.pad) l more (closing_inline b c.ends.pad g c.ends.blanks) (sym spelled)
        closed (inr (m, e)) =
            let p : List ℕ = closing_line b c.ends.pad ++ 13 ∷ [] in
            let spelled : l ++ (10 ∷ more) ≡ p ++ (10 ∷ m) =
            closing_spelled b (l ++ (10 ∷ more)) c
            ∙ (ap (λ (x : List ℕ). closing_line b c.ends.pad ++ x) e ∙ sym (append_assoc (closing_line b c.ends.pad) (13 ∷ []) (10 ∷ m))) in
            let same : l ++ 10 ∷ [] ≡ p ++ 10 ∷ [] = line_is p m (returned (closing_line b c.ends.pad) (closing_inline b c.ends.pad g c.ends.blanks)) spelled in
            none
            (inr
            (subst (λ (x : List ℕ). Closes (mark_of b) (crlf ++ x))
            (sym (same ∙ append_assoc (closing_line b c.ends.pad) (13 ∷ []) (10 ∷ [])))
            (closing_of b c.ends.pad crlf c.ends.blanks (inr ([], refl)))))

-- a line that no line feed ends is no opening delimiter
pub not_opening : (b l r : List ℕ) → AllPass is_inline l → ¬ (Opens (mark_of b) (crlf ++ l) r)
not_opening b l r h o = no_feed_in l (opening_line b o.ends.pad) r h (opening_spelled b l r o)

-- places of a text that goes on
pub clear_longer : (mark t more : List ℕ) (n : ℕ) → IsClear mark t n → IsClear mark (t ++ more) n
clear_longer mark t more n h more' i l at = h (more ++ more') i l (subst (λ (x : List ℕ). IsAtDelimiter mark (drop i x)) (append_assoc t more more') at)

pub clear_less : (mark t : List ℕ) (n m : ℕ) → m ≤ n → IsClear mark t n → IsClear mark t m
clear_less mark t n m le h more i l at = h more i (omega arith) at

pub clear_now : (mark t : List ℕ) (n : ℕ) → IsClear mark t n → (i : ℕ) → i < n → ¬ (IsAtDelimiter mark (drop i t))
clear_now mark t n h i l at = h [] i l (subst (λ (x : List ℕ). IsAtDelimiter mark (drop i x)) (sym (append-nil t)) at)

pub clear_same : (mark t u : List ℕ) (n : ℕ) → t ≡ u → IsClear mark t n → IsClear mark u n
clear_same mark t u n e h = subst (λ (x : List ℕ). IsClear mark x n) e h

-- bytes more, with no line feed in them
drop_longer : (bytes more : List ℕ) (place : ℕ) → place ≤ length bytes → drop place (bytes ++ more) ≡ drop place bytes ++ more
drop_longer bytes more place l = drop-append-le place bytes more l

grow_line : (mark before bytes more : List ℕ) (place : ℕ) → HoldsLine mark before bytes place → AllPass is_inline more → HoldsLine mark before (bytes ++ more) place
grow_line mark before bytes more place h k = record {
  front = h.front;
  inside = omega (arith, h.inside, length-append bytes more);
  ends = record {
    whole =
        sym (append_assoc before bytes more)
        ∙ (ap (λ (x : List ℕ). x ++ more) h.ends.whole
        ∙ (append_assoc h.front (crlf ++ drop place bytes) more
        ∙ ap (λ (x : List ℕ). h.front ++ (crlf ++ x)) (sym (drop_longer bytes more place h.inside))));
    inline =
        subst (AllPass is_inline) (sym (drop_longer bytes more place h.inside)) (joined (drop place bytes) more h.ends.inline k);
    clear = clear_same mark ((before ++ bytes) ++ more) (before ++ (bytes ++ more)) (length h.front) (append_assoc before bytes more)
        (clear_longer mark (before ++ bytes) more (length h.front) h.ends.clear);
  };
}

grow_none : (b t more : List ℕ) → IsClear (mark_of b) t (length t - 1) → AllPass is_inline more → IsClear (mark_of b) (t ++ more) (length (t ++ more) - 1)
grow_none b t more h k rest i l at =
    elim (cases_lt i (length t - 1)) [
      | inl early ↦ clear_longer (mark_of b) t more (length t - 1) h rest i early at
      | inr late ↦
          let reach : length t + length more ≤ i + 1 =
          none_inside b ((t ++ more) ++ rest) t more rest i (append_assoc t more rest) k at (omega arith) in
          absurd (omega (arith, length-append t more))
    ]

pub watches_grow : (b before bytes more : List ℕ) (line : Option ℕ) → Watches (mark_of b) before bytes line → AllPass is_inline more → Watches (mark_of b) before (bytes ++ more) line
watches_grow b before bytes more None h k = record {
  no_return = h.no_return;
  holds =
      subst (λ (x : List ℕ). IsClear (mark_of b) x (length x - 1)) (append_assoc before bytes more) (grow_none b (before ++ bytes) more h.holds k);
}
watches_grow b before bytes more (Some place) h k = record { no_return = h.no_return; holds = grow_line (mark_of b) before bytes more place h.holds k }

pub ends_line : (b before bytes more : List ℕ) (line : Option ℕ) → Watches (mark_of b) before bytes line → IsOfLine more true → EndsLineIn (mark_of b) before (bytes ++ more) line
ends_line b before bytes more line h (body, e, k) = record {
  body = bytes ++ body;
  whole = ap (λ (x : List ℕ). bytes ++ x) e ∙ sym (append_assoc bytes body (10 ∷ []));
  watches = watches_grow b before bytes body line h k;
}

-- the line that a line feed has ended
line_front : (before body front : List ℕ) (place : ℕ) → place ≤ length body → before ++ body ≡ front ++ (crlf ++ drop place body) → front ++ crlf ≡ before ++ take place body
line_front before body front place l e =
    append_cancel_right (front ++ crlf) (before ++ take place body) (drop place body)
    (append_assoc front crlf (drop place body)
    ∙ (sym e ∙ (ap (λ (x : List ℕ). before ++ x) (sym (take-append-drop place body)) ∙ sym (append_assoc before (take place body) (drop place body)))))

ended_whole : (before bytes body front : List ℕ) (place : ℕ) → bytes ≡ body ++ 10 ∷ [] → place ≤ length body → before ++ body ≡ front ++ (crlf ++ drop place body)
    → before ++ bytes ≡ front ++ (crlf ++ (drop place body ++ 10 ∷ []))
ended_whole before bytes body front place e l f =
    ap (λ (x : List ℕ). before ++ x) e
    ∙ (sym (append_assoc before body (10 ∷ []))
    ∙ (ap (λ (x : List ℕ). x ++ 10 ∷ []) f ∙ append_assoc front (crlf ++ drop place body) (10 ∷ [])))

ended_line : (bytes body : List ℕ) (place : ℕ) → bytes ≡ body ++ 10 ∷ [] → place ≤ length body → drop place bytes ≡ drop place body ++ 10 ∷ []
ended_line bytes body place e l = ap (drop place) e ∙ drop-append-le place body (10 ∷ []) l

ended_clear : (mark before bytes body : List ℕ) (n : ℕ) → bytes ≡ body ++ 10 ∷ [] → IsClear mark (before ++ body) n → IsClear mark (before ++ bytes) n
ended_clear mark before bytes body n e h =
    clear_same mark ((before ++ body) ++ 10 ∷ []) (before ++ bytes) n (append_assoc before body (10 ∷ []) ∙ ap (λ (x : List ℕ). before ++ x) (sym e))
    (clear_longer mark (before ++ body) (10 ∷ []) n h)

pub meets_in : (b before bytes after : List ℕ) (place : ℕ) (end : Ending) (kind : Kind) → (h : EndsLineIn (mark_of b) before bytes (Some place)) → after ≡ drop place bytes
    → IsAt (mark_of b) (crlf ++ after) end → IsKindOf end kind → MeetsIn (mark_of b) before bytes place kind
meets_in b before bytes after place end kind h e at k =
    let held : HoldsLine (mark_of b) before h.body place = h.watches.holds in
    let line : List ℕ = drop place h.body in
    let here : IsAt (mark_of b) (crlf ++ (line ++ 10 ∷ [])) end =
    subst (λ (x : List ℕ). IsAt (mark_of b) (crlf ++ x) end) (e ∙ ended_line bytes h.body place h.whole held.inside) at in
    let prefix : take place h.body ≡ take place bytes = sym (ap (take place) h.whole ∙ take-append-le place h.body (10 ∷ []) held.inside) in
    record {
      front = held.front;
      next = crlf ++ (line ++ 10 ∷ []);
      whole = ended_whole before bytes h.body held.front place h.whole held.inside held.ends.whole;
      clear = ended_clear (mark_of b) before bytes h.body (length held.front) h.whole held.ends.clear;
      stands = λ more. stands_on b line end kind more held.ends.inline here k;
      cuts = record {
        inside = omega (arith, held.inside, ap length h.whole, length-append h.body (10 ∷ []));
        cut = line_front before h.body held.front place held.inside held.ends.whole ∙ ap (λ (x : List ℕ). before ++ x) prefix;
      };
    }
  where
    stands_on : (b line : List ℕ) (end : Ending) (kind : Kind) (more : List ℕ) → AllPass is_inline line → IsAt (mark_of b) (crlf ++ (line ++ 10 ∷ [])) end → IsKindOf end kind
        → IsAtKind (mark_of b) ((crlf ++ (line ++ 10 ∷ [])) ++ more) more kind
    stands_on b line (ending.Opening rest) kind more h at k =
        subst (IsAtKind (mark_of b) ((crlf ++ (line ++ 10 ∷ [])) ++ more) more) (sym k) (opening_ended b line rest.now more h at)
    stands_on b line ending.Closing kind more h at k =
        subst (IsAtKind (mark_of b) ((crlf ++ (line ++ 10 ∷ [])) ++ more) more) (sym k) (closing_ended b line more at)

-- no delimiter stands there, nor further on, but at the last line end
pub passes_line : (b before bytes after : List ℕ) (place : ℕ) → IsBoundary b → EndsLineIn (mark_of b) before bytes (Some place) → after ≡ drop place bytes
    → ¬ (IsAtDelimiter (mark_of b) (crlf ++ after)) → IsClear (mark_of b) (before ++ bytes) (length (before ++ bytes) - 2)
passes_line b before bytes after place good h e none more i l at =
    let held : HoldsLine (mark_of b) before h.body place = h.watches.holds in
    let line : List ℕ = drop place h.body in
    let front : List ℕ = held.front in
    let whole : before ++ bytes ≡ front ++ (crlf ++ (line ++ 10 ∷ [])) = ended_whole before bytes h.body front place h.whole held.inside held.ends.whole in
    let no_here : ¬ (IsAtDelimiter (mark_of b) (crlf ++ (line ++ 10 ∷ []))) =
    subst (λ (x : List ℕ). ¬ (IsAtDelimiter (mark_of b) (crlf ++ x))) (e ∙ ended_line bytes h.body place h.whole held.inside) none in
    let longer : (before ++ bytes) ++ more ≡ front ++ ((crlf ++ (line ++ 10 ∷ [])) ++ more) =
    ap (λ (x : List ℕ). x ++ more) whole ∙ append_assoc front (crlf ++ (line ++ 10 ∷ [])) more in
    elim (cases_lt i (length front)) [
      | inl early ↦ ended_clear (mark_of b) before bytes h.body (length front) h.whole held.ends.clear more i early at
      | inr late ↦
          elim (cases_lt (length front) i) [
            | inl behind ↦
                let spelled : (before ++ bytes) ++ more ≡ (front ++ crlf) ++ (line ++ (10 ∷ more)) =
                longer ∙ (ap (λ (x : List ℕ). front ++ (crlf ++ x)) (append_assoc line (10 ∷ []) more) ∙ sym (append_assoc front crlf (line ++ (10 ∷ more)))) in
                let reach : length (front ++ crlf) + length line ≤ i + 1 =
                none_inside b ((before ++ bytes) ++ more) (front ++ crlf) line (10 ∷ more) i spelled held.ends.inline at (omega (arith, length-append front crlf)) in
                absurd (omega (arith, ap length whole, length-append front (crlf ++ (line ++ 10 ∷ [])), length-append line (10 ∷ []), length-append front crlf))
            | inr same ↦
                let place_is : length front ≡ i = omega arith in
                let here : drop i ((before ++ bytes) ++ more) ≡ (crlf ++ (line ++ 10 ∷ [])) ++ more =
                ap (drop i) longer ∙ drop_at front ((crlf ++ (line ++ 10 ∷ [])) ++ more) i place_is in
                not_ended b line more (boundary_inline b good) held.ends.inline no_here (subst (IsAtDelimiter (mark_of b)) here at)
          ]
    ]

pub passes_unbegun : (mark before bytes : List ℕ) → EndsLineIn mark before bytes None → IsClear mark (before ++ bytes) (length (before ++ bytes) - 2)
passes_unbegun mark before bytes h =
    let size : length (before ++ bytes) - 2 ≤ length (before ++ h.body) - 1 =
    omega (arith, length-append before bytes, length-append before h.body, ap length h.whole, length-append h.body (10 ∷ [])) in
    clear_less mark (before ++ bytes) (length (before ++ h.body) - 1) (length (before ++ bytes) - 2) size
    (ended_clear mark before bytes h.body (length (before ++ h.body) - 1) h.whole h.watches.holds)

-- behind a line that is no delimiter
no_return_behind : (before bytes body : List ℕ) → bytes ≡ body ++ 10 ∷ [] → (front : List ℕ) → ¬ (before ++ bytes ≡ front ++ 13 ∷ [])
no_return_behind before bytes body e front f =
    let last : (before ++ body) ++ 10 ∷ [] ≡ front ++ 13 ∷ [] =
    append_assoc before body (10 ∷ []) ∙ (ap (λ (x : List ℕ). before ++ x) (sym e) ∙ f) in
    ten_not_13 10 refl (last_once (before ++ body) front 10 13 last).1
  where
    ten_not_13 : (n : ℕ) → n ≡ 10 → ¬ (n ≡ 13)
    ten_not_13 n e f = absurd (omega arith)

line_at_end : (mark before bytes g : List ℕ) → bytes ≡ g ++ crlf → IsClear mark (before ++ bytes) (length (before ++ bytes) - 2) → EndsInLine mark (before ++ bytes) (before ++ g) []
line_at_end mark before bytes g e clear = record {
  whole = ap (λ (x : List ℕ). before ++ x) e ∙ sym (append_assoc before g crlf);
  inline = All-nil (λ x. is_inline x ≡ true);
  clear = clear_less mark (before ++ bytes) (length (before ++ bytes) - 2) (length (before ++ g))
      (omega (arith, length-append before bytes, length-append before g, ap length e, length-append g crlf)) clear;
}

pub begins_line : (mark before bytes g : List ℕ) (line : Option ℕ) (n : ℕ) → bytes ≡ g ++ crlf → n ≡ length bytes → PassesLineIn mark before bytes line → Watches mark before bytes (Some n)
begins_line mark before bytes g line n e l h = record {
  no_return = h.ended.watches.no_return;
  holds = record {
    front = before ++ g;
    inside = omega arith;
    ends =
        subst (EndsInLine mark (before ++ bytes) (before ++ g)) (sym (drop_at_end bytes n l)) (line_at_end mark before bytes g e h.clear);
  };
}
  where
    drop_at_end : (bytes : List ℕ) (n : ℕ) → n ≡ length bytes → drop n bytes ≡ []
    drop_at_end bytes n l = drop_all n bytes (omega arith)

pub begins_line_anew : (mark before bytes g : List ℕ) (line : Option ℕ) → bytes ≡ g ++ crlf → PassesLineIn mark before bytes line → Watches mark (before ++ bytes) [] (Some 0)
begins_line_anew mark before bytes g line e h = record {
  no_return = no_return_behind before bytes h.ended.body h.ended.whole;
  holds = record {
    front = before ++ g;
    inside = omega arith;
    ends = subst (λ (x : List ℕ). EndsInLine mark x (before ++ g) []) (sym (append-nil (before ++ bytes))) (line_at_end mark before bytes g e h.clear);
  };
}

-- no delimiter begins with the last two bytes, where they are no line end
unbegun : (b before bytes : List ℕ) (line : Option ℕ) → ((g : List ℕ) → ¬ (bytes ≡ g ++ crlf)) → PassesLineIn (mark_of b) before bytes line → IsClear (mark_of b) (before ++ bytes) (length (before ++ bytes) - 1)
unbegun b before bytes line none h more i l at =
    elim (cases_lt i (length (before ++ bytes) - 2)) [
      | inl early ↦ h.clear more i early at
      | inr late ↦
          let p : (x : List ℕ) × (y : List ℕ) × ((before ++ bytes) ++ more ≡ x ++ (crlf ++ y)) × (length x ≡ i) × (drop i ((before ++ bytes) ++ more) ≡ crlf ++ y) =
          at_place b ((before ++ bytes) ++ more) i at in
          let spelled : (p.0 ++ crlf) ++ p.1 ≡ (before ++ bytes) ++ more = append_assoc p.0 crlf p.1 ∙ sym p.2 in
          let size : length (p.0 ++ crlf) ≡ length (before ++ bytes) = omega (arith, p.3, length-append p.0 crlf) in
          let same : before ++ bytes ≡ p.0 ++ crlf =
          sym (take_at (before ++ bytes) more (length (before ++ bytes)) refl)
          ∙ (ap (take (length (before ++ bytes))) (sym spelled) ∙ take_at (p.0 ++ crlf) p.1 (length (before ++ bytes)) size) in
          at_end p.0 same
    ]
  where
    nothing : (r : List ℕ) → length r ≡ 0 → r ≡ []
    nothing [] e = refl
    nothing (c ∷ r) e = absurd (omega arith)

    at_end : (x : List ℕ) → before ++ bytes ≡ x ++ crlf → ⊥
    at_end x e =
        elim (cases_lt (length x) (length before)) [
          | inr long ↦
              let q : (g : List ℕ) × (x ≡ before ++ g) × (bytes ≡ g ++ crlf) = parted x crlf before bytes (sym e) (omega arith) in
              none q.0 q.2
          | inl short ↦
              let one : bytes ≡ h.ended.body ++ 10 ∷ [] = h.ended.whole in
              let inner : (before ++ h.ended.body) ++ 10 ∷ [] ≡ (x ++ 13 ∷ []) ++ 10 ∷ [] =
              append_assoc before h.ended.body (10 ∷ [])
              ∙ (ap (λ (z : List ℕ). before ++ z) (sym one) ∙ (e ∙ sym (append_assoc x (13 ∷ []) (10 ∷ [])))) in
              let fronts : before ++ h.ended.body ≡ x ++ 13 ∷ [] = (last_once (before ++ h.ended.body) (x ++ 13 ∷ []) 10 10 inner).0 in
              let none_left : length h.ended.body ≡ 0 =
              omega (arith, ap length fronts, length-append before h.ended.body, length-append x (13 ∷ [])) in
              h.ended.watches.no_return x
              (sym (append-nil before) ∙ (ap (λ (z : List ℕ). before ++ z) (sym (nothing h.ended.body none_left)) ∙ fronts))
        ]

pub begins_none : (b before bytes : List ℕ) (line : Option ℕ) → ((g : List ℕ) → ¬ (bytes ≡ g ++ crlf)) → PassesLineIn (mark_of b) before bytes line → Watches (mark_of b) before bytes None
begins_none b before bytes line none h = record { no_return = h.ended.watches.no_return; holds = unbegun b before bytes line none h }

pub begins_none_anew : (b before bytes : List ℕ) (line : Option ℕ) → ((g : List ℕ) → ¬ (bytes ≡ g ++ crlf)) → PassesLineIn (mark_of b) before bytes line → Watches (mark_of b) (before ++ bytes) [] None
begins_none_anew b before bytes line none h = record {
  no_return = no_return_behind before bytes h.ended.body h.ended.whole;
  holds =
      subst (λ (x : List ℕ). IsClear (mark_of b) x (length x - 1)) (sym (append-nil (before ++ bytes))) (unbegun b before bytes line none h);
}

-- the body's end
pub none_unbegun : (b before bytes : List ℕ) → Watches (mark_of b) before bytes None → HasNoDelimiter (mark_of b) (before ++ bytes)
none_unbegun b before bytes h i at =
    let p : (x : List ℕ) × (y : List ℕ) × (before ++ bytes ≡ x ++ (crlf ++ y)) × (length x ≡ i) × (drop i (before ++ bytes) ≡ crlf ++ y) =
    at_place b (before ++ bytes) i at in
    clear_now (mark_of b) (before ++ bytes) (length (before ++ bytes) - 1) h.holds i
    (omega (arith, ap length p.2, p.3, length-append p.0 (crlf ++ p.1))) at

pub none_at_line : (b before bytes after : List ℕ) (place : ℕ) → (h : Watches (mark_of b) before bytes (Some place)) → after ≡ drop place bytes
    → ¬ (IsAtDelimiter (mark_of b) (crlf ++ after)) → HasNoDelimiter (mark_of b) (before ++ bytes)
none_at_line b before bytes after place h e none i at =
    let front : List ℕ = h.holds.front in
    let line : List ℕ = drop place bytes in
    elim (cases_lt i (length front)) [
      | inl early ↦ clear_now (mark_of b) (before ++ bytes) (length front) h.holds.ends.clear i early at
      | inr late ↦
          elim (cases_lt (length front) i) [
            | inl behind ↦
                let spelled : before ++ bytes ≡ (front ++ crlf) ++ (line ++ []) =
                h.holds.ends.whole ∙ (sym (append_assoc front crlf line) ∙ ap (λ (x : List ℕ). (front ++ crlf) ++ x) (sym (append-nil line))) in
                let reach : length (front ++ crlf) + length line ≤ i + 1 =
                none_inside b (before ++ bytes) (front ++ crlf) line [] i spelled h.holds.ends.inline at (omega (arith, length-append front crlf)) in
                let p : (x : List ℕ) × (y : List ℕ) × (before ++ bytes ≡ x ++ (crlf ++ y)) × (length x ≡ i) × (drop i (before ++ bytes) ≡ crlf ++ y) =
                at_place b (before ++ bytes) i at in
                absurd
                (omega (
                  arith,
                  ap length p.2,
                  p.3,
                  length-append p.0 (crlf ++ p.1),
                  ap length h.holds.ends.whole,
                  length-append front (crlf ++ line),
                  length-append front crlf,
                ))
            | inr same ↦
                let here : drop i (before ++ bytes) ≡ crlf ++ line =
                ap (drop i) h.holds.ends.whole ∙ drop_at front (crlf ++ line) i (omega arith) in
                none (subst (IsAtDelimiter (mark_of b)) (here ∙ ap (λ (x : List ℕ). crlf ++ x) (sym e)) at)
          ]
    ]

pub none_opening : (b before bytes after rest : List ℕ) (place : ℕ) → Watches (mark_of b) before bytes (Some place) → after ≡ drop place bytes
    → Opens (mark_of b) (crlf ++ after) rest → ⊥
none_opening b before bytes after rest place h e o =
    not_opening b (drop place bytes) rest h.holds.ends.inline (subst (λ (x : List ℕ). Opens (mark_of b) (crlf ++ x) rest) e o)

pub closes_in : (b before bytes after : List ℕ) (place : ℕ) → Watches (mark_of b) before bytes (Some place) → after ≡ drop place bytes
    → Closes (mark_of b) (crlf ++ after) → ClosesIn (mark_of b) before bytes place
closes_in b before bytes after place h e c = record {
  front = h.holds.front;
  next = crlf ++ drop place bytes;
  reaches = record {
    whole = h.holds.ends.whole;
    clear = clear_now (mark_of b) (before ++ bytes) (length h.holds.front) h.holds.ends.clear;
  };
  stands = subst (λ (x : List ℕ). Closes (mark_of b) (crlf ++ x)) e c;
  cuts = record {
    inside = h.holds.inside;
    cut = line_front before bytes h.holds.front place h.holds.inside h.holds.ends.whole;
  };
}

-- the front of a piece up to its first line feed
not_feed : (c : ℕ) → ((c == 10) ≡ true → ⊥) → is_inline c ≡ true
not_feed c h = elim (cases_Bool (c == 10)) [ inl e ↦ absurd (h e) | inr e ↦ rw e refl ]

feed_is : (c : ℕ) → (c == 10) ≡ true → c ≡ 10
feed_is c h = grind (arith, nat_tests)

inline_to : (piece : List ℕ) (n : ℕ) → ((k : ℕ) → 0 ≤ k → k < n → ¬ (Passes (is_byte 10) piece k)) → n ≤ length piece → AllPass is_inline (take n piece)
inline_to piece n none l k d h =
    let below : k < n = omega (arith, length-take n piece) in
    let same : get_or (take n piece) k d ≡ get_or piece k 0 = get_or-take n piece k d below ∙ get_or_default piece k d 0 (omega arith) in
    rw same (not_feed (get_or piece k 0) (none k (omega arith) below))

pub piece_to_feed : (piece front : List ℕ) (at : ℕ) → front ≡ take (at + 1) piece
    → NoneBefore (Passes (is_byte 10) piece) 0 (length piece) at × Passes (is_byte 10) piece at → IsOfLine front true
piece_to_feed piece front at e h = (
  take at piece,
  e ∙ (take_more piece at 0 h.0.high ∙ ap (λ (c : ℕ). take at piece ++ c ∷ []) (feed_is (get_or piece at 0) h.1)),
  inline_to piece at h.0.before (omega (arith, h.0.high)),
)

pub piece_inline : (piece : List ℕ) → Nowhere (Passes (is_byte 10) piece) 0 (length piece) → AllPass is_inline piece
piece_inline piece none =
    subst (AllPass is_inline) (take_all (length piece) piece (omega arith)) (inline_to piece (length piece) none (omega arith))

-- the same, by what a line is
pub after_in : (after slice bytes : List ℕ) (place : ℕ) → after ≡ drop place slice → slice ≡ bytes → after ≡ drop place bytes
after_in after slice bytes place e f = e ∙ ap (drop place) f

watched : (mark before bytes : List ℕ) (line now : Option ℕ) → line ≡ now → Watches mark before bytes line → Watches mark before bytes now
watched mark before bytes line now e h = subst (λ (l : Option ℕ). Watches mark before bytes l) e h

ended : (mark before bytes : List ℕ) (line now : Option ℕ) → line ≡ now → EndsLineIn mark before bytes line → EndsLineIn mark before bytes now
ended mark before bytes line now e h = subst (λ (l : Option ℕ). EndsLineIn mark before bytes l) e h

pub closing_unbegun : (b bytes : List ℕ) (line : Option ℕ) → line ≡ None → (before : List ℕ) → Watches (mark_of b) before bytes line → HasNoDelimiter (mark_of b) (before ++ bytes)
closing_unbegun b bytes line e before h = none_unbegun b before bytes (watched (mark_of b) before bytes line None e h)

pub closing_absent : (b bytes after : List ℕ) (line : Option ℕ) (place : ℕ) → line ≡ Some place → after ≡ drop place bytes → ¬ (IsAtDelimiter (mark_of b) (crlf ++ after))
    → (before : List ℕ) → Watches (mark_of b) before bytes line → HasNoDelimiter (mark_of b) (before ++ bytes)
closing_absent b bytes after line place e f none before h = none_at_line b before bytes after place (watched (mark_of b) before bytes line (Some place) e h) f none

pub closing_opening : (b bytes after : List ℕ) (rest : Bor (List ℕ)) (line : Option ℕ) (place : ℕ) (end : Ending) → line ≡ Some place → after ≡ drop place bytes → IsAt (mark_of b) (crlf ++ after) end → end ≡ ending.Opening rest
    → (before : List ℕ) → Watches (mark_of b) before bytes line → HasNoDelimiter (mark_of b) (before ++ bytes)
closing_opening b bytes after rest line place end e f at g before h =
    absurd
    (none_opening b before bytes after rest.now place (watched (mark_of b) before bytes line (Some place) e h) f
    (subst (IsAt (mark_of b) (crlf ++ after)) g at))

pub closing_met : (b bytes after : List ℕ) (line : Option ℕ) (place : ℕ) (end : Ending) → line ≡ Some place → after ≡ drop place bytes → IsAt (mark_of b) (crlf ++ after) end → end ≡ ending.Closing
    → (before : List ℕ) → Watches (mark_of b) before bytes line → ClosesIn (mark_of b) before bytes place
closing_met b bytes after line place end e f at g before h =
    closes_in b before bytes after place (watched (mark_of b) before bytes line (Some place) e h) f
    (subst (IsAt (mark_of b) (crlf ++ after)) g at)

pub delimiter_unbegun : (b bytes : List ℕ) (line : Option ℕ) → line ≡ None → (before : List ℕ) → IsBoundary b → EndsLineIn (mark_of b) before bytes line
    → IsClear (mark_of b) (before ++ bytes) (length (before ++ bytes) - 2)
delimiter_unbegun b bytes line e before good h = passes_unbegun (mark_of b) before bytes (ended (mark_of b) before bytes line None e h)

pub delimiter_absent : (b bytes after : List ℕ) (line : Option ℕ) (place : ℕ) → line ≡ Some place → after ≡ drop place bytes → ¬ (IsAtDelimiter (mark_of b) (crlf ++ after))
    → (before : List ℕ) → IsBoundary b → EndsLineIn (mark_of b) before bytes line → IsClear (mark_of b) (before ++ bytes) (length (before ++ bytes) - 2)
delimiter_absent b bytes after line place e f none before good h =
    passes_line b before bytes after place good (ended (mark_of b) before bytes line (Some place) e h) f none

pub delimiter_met : (b bytes after : List ℕ) (line : Option ℕ) (place : ℕ) (end : Ending) (kind : Kind) → line ≡ Some place → after ≡ drop place bytes → IsAt (mark_of b) (crlf ++ after) end → IsKindOf end kind
    → (before : List ℕ) → IsBoundary b → EndsLineIn (mark_of b) before bytes line → MeetsIn (mark_of b) before bytes place kind
delimiter_met b bytes after line place end kind e f at k before good h =
    meets_in b before bytes after place end kind (ended (mark_of b) before bytes line (Some place) e h) f at k

pub line_end_begins : (bytes : List ℕ) (n : ℕ) (line : Option ℕ) → ((g : List ℕ) × (bytes ≡ g ++ crlf)) → n ≡ length bytes
    → (b before : List ℕ) → PassesLineIn (mark_of b) before bytes line → Watches (mark_of b) before bytes (Some n)
line_end_begins bytes n line (g, e) l b before h = begins_line (mark_of b) before bytes g line n e l h

pub line_end_renews : (bytes : List ℕ) (line : Option ℕ) → ((g : List ℕ) × (bytes ≡ g ++ crlf)) → (b before : List ℕ) → PassesLineIn (mark_of b) before bytes line → Watches (mark_of b) (before ++ bytes) [] (Some 0)
line_end_renews bytes line (g, e) b before h = begins_line_anew (mark_of b) before bytes g line e h

pub ends_so : (bytes slice : List ℕ) → slice ≡ bytes → ((g : List ℕ) × (slice ≡ g ++ crlf)) → (g : List ℕ) × (bytes ≡ g ++ crlf)
ends_so bytes slice e (g, f) = (g, sym e ∙ f)

pub ends_otherwise : (bytes slice : List ℕ) → slice ≡ bytes → ((g : List ℕ) → ¬ (slice ≡ g ++ crlf)) → (g : List ℕ) → ¬ (bytes ≡ g ++ crlf)
ends_otherwise bytes slice e h g f = h g (e ∙ f)

-- a line that no delimiter begins with, whatever follows it
pub narrows : (b bytes after : List ℕ) (line : Option ℕ) (place : ℕ) → line ≡ Some place → after ≡ drop place bytes → ((x y : List ℕ) → ¬ (after ++ x ≡ codes "--" ++ (b ++ y)))
    → (before : List ℕ) → Watches (mark_of b) before bytes line → Watches (mark_of b) before bytes None
narrows b bytes after line place e f none before h = record { no_return = h.no_return; holds = clear_all }
  where
    held : HoldsLine (mark_of b) before bytes place
    held = (watched (mark_of b) before bytes line (Some place) e h).holds

    clear_all : IsClear (mark_of b) (before ++ bytes) (length (before ++ bytes) - 1)
    clear_all more i l at =
        let front : List ℕ = held.front in
        let rest : List ℕ = drop place bytes in
        let longer : (before ++ bytes) ++ more ≡ front ++ (crlf ++ (rest ++ more)) =
        ap (λ (x : List ℕ). x ++ more) held.ends.whole ∙ append_assoc front (crlf ++ rest) more in
        elim (cases_lt i (length front)) [
          | inl early ↦ held.ends.clear more i early at
          | inr late ↦
              elim (cases_lt (length front) i) [
                | inl behind ↦
                    let spelled : (before ++ bytes) ++ more ≡ (front ++ crlf) ++ (rest ++ more) = longer ∙ sym (append_assoc front crlf (rest ++ more)) in
                    let reach : length (front ++ crlf) + length rest ≤ i + 1 =
                    none_inside b ((before ++ bytes) ++ more) (front ++ crlf) rest more i spelled held.ends.inline at (omega (arith, length-append front crlf)) in
                    absurd (omega (arith, ap length held.ends.whole, length-append front (crlf ++ rest), length-append front crlf))
                | inr same ↦
                    let here : drop i ((before ++ bytes) ++ more) ≡ crlf ++ (rest ++ more) =
                    ap (drop i) longer ∙ drop_at front (crlf ++ (rest ++ more)) i (omega arith) in
                    let marked : (after : List ℕ) × (drop i ((before ++ bytes) ++ more) ≡ mark_of b ++ after) = at_has_mark (mark_of b) (drop i ((before ++ bytes) ++ more)) at in
                    none more marked.0
                    (ap (λ (x : List ℕ). x ++ more) f
                    ∙ append_cancel_left crlf (rest ++ more) (codes "--" ++ (b ++ marked.0)) (sym here ∙ marked.1))
              ]
        ]

-- two texts, neither of which begins with the other
pub apart : (a b : List ℕ) → ((r : List ℕ) → ¬ (a ≡ b ++ r)) → ((r : List ℕ) → ¬ (b ≡ a ++ r)) → (x y : List ℕ) → ¬ (a ++ x ≡ b ++ y)
apart a b h k x y e =
    elim (cases_lt (length a) (length b)) [
      | inl less ↦ let p : (c : List ℕ) × (b ≡ a ++ c) × (x ≡ c ++ y) = parted b y a x (sym e) (omega arith) in k p.0 p.1
      | inr more ↦ let p : (c : List ℕ) × (a ≡ b ++ c) × (y ≡ c ++ x) = parted a x b y e (omega arith) in h p.0 p.1
    ]

pub apart_behind : (line rest b : List ℕ) → line ≡ codes "--" ++ rest → ((x y : List ℕ) → ¬ (rest ++ x ≡ b ++ y)) → (x y : List ℕ) → ¬ (line ++ x ≡ codes "--" ++ (b ++ y))
apart_behind line rest b e h x y f =
    h x y (append_cancel_left (codes "--") (rest ++ x) (b ++ y) (ap (λ (z : List ℕ). z ++ x) (sym e) ∙ f))

-- tests that rule something out where they fail
pub rules_out : (r : Bool) (Q Q' : Type 0) → MatchBool r ⊤ Q → (Q → Q') → MatchBool r ⊤ Q'
rules_out true Q Q' h f = h
rules_out false Q Q' h f = f h

pub rules_out_none : (found : Option (Bor (List ℕ))) (r : Bool) (P : Type 0) (Q : Bor (List ℕ) → Type 0) (Q' : Type 0) → MatchOption found P Q → r ≡ is_some found → (P → Q') → MatchBool r ⊤ Q'
rules_out_none None r P Q Q' h e f = subst (λ (x : Bool). MatchBool x ⊤ Q') (sym e) (f h)
rules_out_none (Some x) r P Q Q' h e f = subst (λ (y : Bool). MatchBool y ⊤ Q') (sym e) tt
