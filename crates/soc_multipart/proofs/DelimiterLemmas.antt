-- What a delimiter is, by its parts, and that a text has one first delimiter at most.
use Rattle.std.proofs.Common.{◌≡◌, ℕ, zero, suc, ◌+◌, ◌-◌, ◌<◌, ◌≤◌, List, [], ◌∷◌, ◌++◌, length, take, drop, codes, Bool, sym, refl, ap, ◌∙◌, subst, arith, IsTrue, ◌↔◌, None, inl, inr}
use Rattle.std.proofs.lemmas.List.{append_cancel_left, take-append-drop, drop-drop, length-drop, length-take, length-append}
use Rattle.std.proofs.lemmas.List.Prefix.{at_reads, at_from_reads}
use Rattle.std.proofs.lemmas.Bool.{cases_lt}
use Rattle.memchr.specs.Find.{OccursAt, IsFirst, NoneBefore}
use Rattle.soc_multipart.specs.declared.delimiters.Ending.{Ending}
use Rattle.soc_multipart.specs.declared.delimiters.Ending.TheVariants.{Opening, Closing}
use Rattle.soc_multipart.specs.Delimiters.{PartsRun, EndsOpening, EndsClosing, EndsLine, EndsNowise, EndsAs, IsAt, BeginsAt, mark_of, IsAtDelimiter, MeetsFirst, HasNoDelimiter}
use Rattle.soc_text.specs.Lines.{crlf}
use Rattle.soc_text.specs.Blanks.{is_blank}
use Rattle.soc_multipart.proofs.Basics.{Stops, stops_nil, stops_cons, parts_once}

line_stops : (rest : List ℕ) → Stops is_blank (crlf ++ rest)
line_stops rest = stops_cons is_blank 13 (10 ∷ rest) refl

ends_line_stops : (text : List ℕ) → EndsLine text → Stops is_blank text
ends_line_stops text (inl e) = subst (Stops is_blank) (sym e) (stops_nil is_blank)
ends_line_stops text (inr (more, e)) = subst (Stops is_blank) (sym e) (line_stops more)

-- the end of an opening delimiter, by where its blanks end
pub opening_by_parts : (t pad tail rest : List ℕ) → PartsRun is_blank t pad tail → tail ≡ crlf ++ rest → EndsOpening t rest
opening_by_parts t pad tail rest p e = record { pad = pad; blanks = p.passes; whole = p.whole ∙ ap (λ x. pad ++ x) e }

pub no_opening : (t pad tail : List ℕ) → PartsRun is_blank t pad tail → ((rest : List ℕ) → ¬ (tail ≡ crlf ++ rest)) → (rest : List ℕ) → ¬ (EndsOpening t rest)
no_opening t pad tail p h rest o =
    h rest (parts_once is_blank t pad tail o.pad (crlf ++ rest) p o.whole o.blanks (line_stops rest)).1

-- the end of a closing delimiter, by where its blanks end
pub closing_by_parts : (t rest pad tail : List ℕ) (r : Bool) → t ≡ codes "--" ++ rest → PartsRun is_blank rest pad tail → (IsTrue r ↔ EndsLine tail) → IsTrue r ↔ EndsClosing t
closing_by_parts t rest pad tail r e p h = (
  λ yes. record { pad = pad; tail = tail; blanks = p.passes; ended = h.0 yes; whole = e ∙ ap (λ x. codes "--" ++ x) p.whole },
  λ c.
      let same : rest ≡ c.pad ++ c.tail = append_cancel_left (codes "--") rest (c.pad ++ c.tail) (sym e ∙ c.whole) in
      h.1 (subst EndsLine (sym (parts_once is_blank rest pad tail c.pad c.tail p same c.blanks (ends_line_stops c.tail c.ended)).1) c.ended),
)

pub no_closing : (t : List ℕ) → ((rest : List ℕ) → ¬ (t ≡ codes "--" ++ rest)) → ¬ (EndsClosing t)
no_closing t h c = h (c.pad ++ c.tail) c.whole

-- a mark and what stands behind it
pub at_by_end : (mark text after : List ℕ) (end : Ending) → text ≡ mark ++ after → EndsAs after end → IsAt mark text end
at_by_end mark text after (Opening rest) e h = record { after = after; whole = e; ends = h }
at_by_end mark text after Closing e h = record { after = after; whole = e; ends = h }

pub not_at : (mark text after : List ℕ) → text ≡ mark ++ after → EndsNowise after → ¬ (IsAtDelimiter mark text)
not_at mark text after e h (inl (rest, o)) =
    h.0 rest (subst (λ x. EndsOpening x rest) (append_cancel_left mark o.after after (sym o.whole ∙ e)) o.ends)
not_at mark text after e h (inr c) = h.1 (subst EndsClosing (append_cancel_left mark c.after after (sym c.whole ∙ e)) c.ends)

-- a delimiter begins with its mark
pub at_has_mark : (mark text : List ℕ) → IsAtDelimiter mark text → (after : List ℕ) × (text ≡ mark ++ after)
at_has_mark mark text (inl (rest, o)) = (o.after, o.whole)
at_has_mark mark text (inr c) = (c.after, c.whole)

pub at_from_is : (mark text : List ℕ) (end : Ending) → IsAt mark text end → IsAtDelimiter mark text
at_from_is mark text (Opening rest) h = inl (rest.now, h)
at_from_is mark text Closing h = inr h

-- where a mark stands in a text, and where it occurs in what is left of the text
pub occurs_from_at : (mark text : List ℕ) (from k : ℕ) (after : List ℕ) → 0 < length mark → drop (from + k) text ≡ mark ++ after → OccursAt (drop from text) mark k
occurs_from_at mark text from k after some e =
    let here : drop k (drop from text) ≡ mark ++ after = drop-drop k from text ∙ e in
    record {
      fits = omega (arith, some, length-drop k (drop from text), ap length here, length-append mark after);
      reads = at_reads 0 (drop from text) mark k after here;
    }

pub at_from_occurs : (mark text : List ℕ) (from k : ℕ) → OccursAt (drop from text) mark k → drop (from + k) text ≡ mark ++ drop (from + k + length mark) text
at_from_occurs mark text from k o =
    sym (drop-drop k from text)
    ∙ (at_from_reads 0 (drop from text) mark k o.fits o.reads
    ∙ ap (λ x. mark ++ x) (drop-drop (k + length mark) from text ∙ ap (λ n. drop n text) (omega arith)))

pub none_from : (mark text : List ℕ) (from : ℕ) → 0 < length mark → ((i : ℕ) → i < from → ¬ (IsAtDelimiter mark (drop i text)))
    → IsFirst (OccursAt (drop from text) mark) 0 (length (drop from text) + 1) None → HasNoDelimiter mark text
none_from mark text from some clear none i at =
    elim (cases_lt i from) [
      | inl before ↦ clear i before at
      | inr behind ↦
          let marked : (after : List ℕ) × (drop i text ≡ mark ++ after) = at_has_mark mark (drop i text) at in
          let place : from + (i - from) ≡ i = omega arith in
          let o : OccursAt (drop from text) mark (i - from) =
          occurs_from_at mark text from (i - from) marked.0 some (ap (λ n. drop n text) place ∙ marked.1) in
          none (i - from) (omega arith) (omega (arith, o.fits)) o
    ]

pub clear_to : (mark text : List ℕ) (from k : ℕ) → 0 < length mark → ((i : ℕ) → i < from → ¬ (IsAtDelimiter mark (drop i text)))
    → NoneBefore (OccursAt (drop from text) mark) 0 (length (drop from text) + 1) k
    → (i : ℕ) → i < from + k → ¬ (IsAtDelimiter mark (drop i text))
clear_to mark text from k some clear none i l at =
    elim (cases_lt i from) [
      | inl before ↦ clear i before at
      | inr behind ↦
          let marked : (after : List ℕ) × (drop i text ≡ mark ++ after) = at_has_mark mark (drop i text) at in
          let place : from + (i - from) ≡ i = omega arith in
          let o : OccursAt (drop from text) mark (i - from) =
          occurs_from_at mark text from (i - from) marked.0 some (ap (λ n. drop n text) place ∙ marked.1) in
          none.before (i - from) (omega arith) (omega arith) o
    ]

-- the mark at place `from + k` begins no delimiter
pub clear_more : (mark text : List ℕ) (from k : ℕ) → 0 < length mark → ((i : ℕ) → i < from → ¬ (IsAtDelimiter mark (drop i text)))
    → NoneBefore (OccursAt (drop from text) mark) 0 (length (drop from text) + 1) k × OccursAt (drop from text) mark k
    → EndsNowise (drop (from + k + length mark) text)
    → (i : ℕ) → i < from + k + 1 → ¬ (IsAtDelimiter mark (drop i text))
clear_more mark text from k some clear found ends i l at =
    elim (cases_lt i (from + k)) [
      | inl before ↦ clear_to mark text from k some clear found.0 i before at
      | inr behind ↦
          let here : drop i text ≡ mark ++ drop (from + k + length mark) text =
          ap (λ n. drop n text) (omega arith) ∙ at_from_occurs mark text from k found.1 in
          not_at mark (drop i text) (drop (from + k + length mark) text) here ends at
    ]

-- the first delimiter stands at place `from + k`
pub meets_at : (mark text : List ℕ) (from k : ℕ) (end : Ending) → from ≤ length text → 0 < length mark
    → ((i : ℕ) → i < from → ¬ (IsAtDelimiter mark (drop i text)))
    → NoneBefore (OccursAt (drop from text) mark) 0 (length (drop from text) + 1) k × OccursAt (drop from text) mark k
    → EndsAs (drop (from + k + length mark) text) end → MeetsFirst mark text (take (from + k) text) end
meets_at mark text from k end in' some clear found ends =
    record {
      next = drop (from + k) text;
      reached = record {
        whole = sym (take-append-drop (from + k) text);
        clear = λ i l. clear_to mark text from k some clear found.0 i (omega (arith, length-take (from + k) text));
      };
      stands = at_by_end mark (drop (from + k) text) (drop (from + k + length mark) text) end (at_from_occurs mark text from k found.1) ends;
    }

-- what a search in the rest of a text found there
pub found_in_rest : (hay rest mark : List ℕ) (k : ℕ) → hay ≡ rest
    → NoneBefore (OccursAt hay mark) 0 (length hay + 1) k × OccursAt hay mark k
    → NoneBefore (OccursAt rest mark) 0 (length rest + 1) k × OccursAt rest mark k
found_in_rest hay rest mark k e h =
    subst (λ (x : List ℕ). NoneBefore (OccursAt x mark) 0 (length x + 1) k × OccursAt x mark k) e h

pub none_in_rest : (hay rest mark : List ℕ) → hay ≡ rest
    → IsFirst (OccursAt hay mark) 0 (length hay + 1) None → IsFirst (OccursAt rest mark) 0 (length rest + 1) None
none_in_rest hay rest mark e h = subst (λ (x : List ℕ). IsFirst (OccursAt x mark) 0 (length x + 1) None) e h

-- what stands behind a mark whose length was asked for
pub behind : (after text mark needle : List ℕ) (place : ℕ) → needle ≡ mark → after ≡ drop (place + length needle) text → after ≡ drop (place + length mark) text
behind after text mark needle place e f = f ∙ ap (λ (x : List ℕ). drop (place + length x) text) e

pub found_inside : (mark text : List ℕ) (from k : ℕ) → from ≤ length text → 0 < length mark
    → NoneBefore (OccursAt (drop from text) mark) 0 (length (drop from text) + 1) k × OccursAt (drop from text) mark k
    → from + k + 1 ≤ length text
found_inside mark text from k in' some found = omega (arith, found.1.fits, length-drop from text)

-- the body with a line end before it, and the delimiter that may stand at its start
pub start_no_dashes : (b body : List ℕ) → ((r : List ℕ) → ¬ (body ≡ codes "--" ++ r)) → ¬ (IsAtDelimiter (mark_of b) (crlf ++ body))
start_no_dashes b body h at =
    let marked : (after : List ℕ) × (crlf ++ body ≡ mark_of b ++ after) = at_has_mark (mark_of b) (crlf ++ body) at in
    h (b ++ marked.0) (append_cancel_left crlf body (codes "--" ++ (b ++ marked.0)) marked.1)

pub start_no_boundary : (b body r : List ℕ) → body ≡ codes "--" ++ r → ((s : List ℕ) → ¬ (r ≡ b ++ s)) → ¬ (IsAtDelimiter (mark_of b) (crlf ++ body))
start_no_boundary b body r e h at =
    let marked : (after : List ℕ) × (crlf ++ body ≡ mark_of b ++ after) = at_has_mark (mark_of b) (crlf ++ body) at in
    let tail : body ≡ codes "--" ++ (b ++ marked.0) = append_cancel_left crlf body (codes "--" ++ (b ++ marked.0)) marked.1 in
    h marked.0 (append_cancel_left (codes "--") r (b ++ marked.0) (sym e ∙ tail))

pub start_marked : (b body r s : List ℕ) → body ≡ codes "--" ++ r → r ≡ b ++ s → crlf ++ body ≡ mark_of b ++ s
start_marked b body r s e f = ap (λ (x : List ℕ). crlf ++ x) (e ∙ ap (λ (x : List ℕ). codes "--" ++ x) f)

-- behind the line end a delimiter stands only where it does in the body
heads_same : (x y : ℕ) (xs ys : List ℕ) → x ∷ xs ≡ y ∷ ys → x ≡ y
heads_same x y xs ys e = cc

ten_not_13 : (n : ℕ) → n ≡ 10 → ¬ (n ≡ 13)
ten_not_13 n e f = absurd (omega arith)

second_not_at : (b body : List ℕ) → ¬ (IsAtDelimiter (mark_of b) (10 ∷ body))
second_not_at b body at =
    let marked : (after : List ℕ) × (10 ∷ body ≡ mark_of b ++ after) = at_has_mark (mark_of b) (10 ∷ body) at in
    ten_not_13 10 refl (heads_same 10 13 body (10 ∷ 45 ∷ 45 ∷ (b ++ marked.0)) marked.1)

pub none_behind : (b body : List ℕ) → ¬ (IsAtDelimiter (mark_of b) (crlf ++ body)) → HasNoDelimiter (mark_of b) body → HasNoDelimiter (mark_of b) (crlf ++ body)
none_behind b body h none zero at = h at
none_behind b body h none (suc zero) at = second_not_at b body at
none_behind b body h none (suc (suc i)) at = none i at

clear_behind : (b body front : List ℕ) → ¬ (IsAtDelimiter (mark_of b) (crlf ++ body)) → ((i : ℕ) → i < length front → ¬ (IsAtDelimiter (mark_of b) (drop i body)))
    → (i : ℕ) → i < length (crlf ++ front) → ¬ (IsAtDelimiter (mark_of b) (drop i (crlf ++ body)))
clear_behind b body front h clear zero l at = h at
clear_behind b body front h clear (suc zero) l at = second_not_at b body at
clear_behind b body front h clear (suc (suc i)) l at = clear i (omega arith) at

pub begins_behind : (b body front : List ℕ) (end : Ending) → ¬ (IsAtDelimiter (mark_of b) (crlf ++ body)) → MeetsFirst (mark_of b) body front end → BeginsAt (mark_of b) (crlf ++ body) end
begins_behind b body front end h m = (
  crlf ++ front,
  record {
    next = m.next;
    reached = record {
      whole = ap (λ (x : List ℕ). crlf ++ x) m.reached.whole;
      clear = clear_behind b body front h m.reached.clear;
    };
    stands = m.stands;
  },
)

pub begins_here : (mark text : List ℕ) (end : Ending) → IsAt mark text end → BeginsAt mark text end
begins_here mark text end h = (
  [],
  record {
    next = text;
    reached = record { whole = refl; clear = λ i l. absurd (omega arith) };
    stands = h;
  },
)

pub start_not_at : (b body r s : List ℕ) → body ≡ codes "--" ++ r → r ≡ b ++ s → EndsNowise s → ¬ (IsAtDelimiter (mark_of b) (crlf ++ body))
start_not_at b body r s e f h = not_at (mark_of b) (crlf ++ body) s (start_marked b body r s e f) h

pub start_is_at : (b body r s : List ℕ) (end : Ending) → body ≡ codes "--" ++ r → r ≡ b ++ s → EndsAs s end → IsAt (mark_of b) (crlf ++ body) end
start_is_at b body r s end e f h = at_by_end (mark_of b) (crlf ++ body) s end (start_marked b body r s e f) h

pub meets_mark : (mark mark' text front : List ℕ) (end : Ending) → mark ≡ mark' → MeetsFirst mark text front end → MeetsFirst mark' text front end
meets_mark mark mark' text front end e h = subst (λ (m : List ℕ). MeetsFirst m text front end) e h

pub none_mark : (mark mark' text : List ℕ) → mark ≡ mark' → HasNoDelimiter mark text → HasNoDelimiter mark' text
none_mark mark mark' text e h = subst (λ (m : List ℕ). HasNoDelimiter m text) e h
