-- How a reader goes from section to section, whatever may follow what was fed.
use Rattle.std.proofs.Common.{◌≡◌, ℕ, zero, suc, ◌+◌, ◌-◌, ◌<◌, ◌≤◌, List, [], ◌∷◌, ◌++◌, length, take, drop, Bool, true, false, sym, refl, ap, ◌∙◌, subst, arith, append_assoc, ◌⊎◌, inl, inr, Option, None, Some, IsTrue, ◌↔◌, Result, Ok, Err}
use Rattle.std.specs.Prelude.{IfOk}
use Rattle.std.specs.List.{AllPass}
use Rattle.std.proofs.lemmas.List.{append-nil, length-append, length-map, length-take, append_cancel_left, append_cancel_right, take-append-drop, take_at, drop_all, map_push}
use Rattle.std.proofs.lemmas.List.Elements.{All-nil}
use Rattle.soc_multipart.specs.declared.dispositions.Head.{Head}
use Rattle.soc_multipart.specs.declared.owned_parts.OwnedPart.{OwnedPart}
use Rattle.soc_multipart.specs.declared.parts.PartsError.{PartsError}
use Rattle.soc_multipart.specs.declared.parts.PartsError.TheVariants.{BadBoundary, NoFirst, BadPartHead, NoClose, TooManyParts, NoMemory}
use Rattle.soc_multipart.specs.declared.sections.GoodHead.{GoodHead}
use Rattle.soc_multipart.specs.declared.sections.Section.{Section}
use Rattle.soc_multipart.specs.declared.sections.Section.TheVariants.{Preamble, InHead, InContent, Closed}
use Rattle.soc_multipart.specs.declared.sections.State.{State}
use Rattle.soc_multipart.specs.declared.sections.Verdict.{Verdict}
use Rattle.soc_multipart.specs.declared.sections.Verdict.TheVariants.{Undecided, Bad, Good}
use Rattle.soc_multipart.specs.declared.tails.Kind.{Kind}
use Rattle.soc_multipart.specs.declared.tails.Kind.TheVariants.{Opening, Closing}
use Rattle.soc_multipart.specs.Chains.{Chain}
use Rattle.soc_multipart.specs.Delimiters.{IsBoundary, mark_of, Opens, Closes, HasNoDelimiter, IsAtDelimiter, Reaches}
use Rattle.soc_multipart.specs.OwnedViews.{owned_text, owned_texts}
use Rattle.soc_multipart.specs.Parts.{PartText, BeginsBadPart, IsPart, MayBePart, ReadsPart, HoldsParts, Cut, CutFault, OpensAfter, parts_limit}
use Rattle.soc_multipart.specs.Readers.{RefusesBody, RefusesFor}
use Rattle.soc_multipart.specs.inner.Sections.{Knows, part_with, IsGoodHead, OpensFor, ClosesFor, MeetsFor, StandsIn, Stands, EndsPart, EndsSection, CutsPartOff, IsCutOff, BeginsNoPart, GoesOnBehind, Judges, JudgesLines}
use Rattle.soc_multipart.specs.inner.Tails.{is_inline, IsOfLine, IsClear, EndsInLine, HoldsLine, Watches, EndsLineIn, PassesLineIn, IsAtKind, CutsAt, MeetsIn, ClosesIn}
use Rattle.soc_text.specs.Lines.{crlf}
use Rattle.soc_multipart.proofs.ChainLemmas.{chain_grow}
use Rattle.soc_multipart.proofs.DecideLemmas.{bad_decided, bad_lines}
use Rattle.soc_multipart.proofs.HeadLemmas.{parted}
use Rattle.soc_multipart.proofs.TailLemmas.{clear_less, clear_longer, last_once, no_feed_in, watches_grow, ends_line}

-- refusals
fault_of : (P : Type 0) (error : PartsError) → (error ≡ NoMemory → ⊥) → (error ≡ NoMemory) ⊎ P → P
fault_of P error apart (inl e) = absurd (apart e)
fault_of P error apart (inr p) = p

pub refuses_all : (b fed : List ℕ) (error : PartsError) → ((more : List ℕ) → (error ≡ NoMemory) ⊎ CutFault b (fed ++ more) error) → RefusesFor b fed error
refuses_all b fed NoMemory h = inl refl
refuses_all b fed BadBoundary h = inr (λ more. fault_of (CutFault b (fed ++ more) BadBoundary) BadBoundary (λ e. cc) (h more))
refuses_all b fed NoFirst h = inr (λ more. fault_of (CutFault b (fed ++ more) NoFirst) NoFirst (λ e. cc) (h more))
refuses_all b fed (BadPartHead n) h = inr (λ more. fault_of (CutFault b (fed ++ more) (BadPartHead n)) (BadPartHead n) (λ e. cc) (h more))
refuses_all b fed NoClose h = inr (λ more. fault_of (CutFault b (fed ++ more) NoClose) NoClose (λ e. cc) (h more))
refuses_all b fed TooManyParts h = inr (λ more. fault_of (CutFault b (fed ++ more) TooManyParts) TooManyParts (λ e. cc) (h more))

pub refuses_longer : (b fed more : List ℕ) (error : PartsError) → RefusesFor b fed error → RefusesFor b (fed ++ more) error
refuses_longer b fed more error (inl e) = inl e
refuses_longer b fed more error (inr h) =
    inr (λ rest. subst (λ (x : List ℕ). CutFault b x error) (sym (append_assoc fed more rest)) (h (more ++ rest)))

-- bytes more
pub opens_grow : (b fed more : List ℕ) (parts : List PartText) (rest : List ℕ) → OpensFor b fed parts rest → OpensFor b (fed ++ more) parts (rest ++ more)
opens_grow b fed more parts rest h later =
    let at : (last : List ℕ) × HoldsParts b (fed ++ (more ++ later)) parts last × Opens (mark_of b) last (rest ++ (more ++ later)) = h (more ++ later) in (
      at.0,
      subst (λ (x : List ℕ). HoldsParts b x parts at.0) (sym (append_assoc fed more later)) at.1,
      subst (λ (x : List ℕ). Opens (mark_of b) at.0 x) (sym (append_assoc rest more later)) at.2,
    )

pub closes_grow : (b fed more : List ℕ) (parts : List PartText) → ClosesFor b fed parts → ClosesFor b (fed ++ more) parts
closes_grow b fed more parts h later =
    let at : (last : List ℕ) × HoldsParts b (fed ++ (more ++ later)) parts last × Closes (mark_of b) last = h (more ++ later) in
    (at.0, subst (λ (x : List ℕ). HoldsParts b x parts at.0) (sym (append_assoc fed more later)) at.1, at.2)

grow_in : (knows : Knows) (b fed more : List ℕ) (parts : List PartText) (section : Section) (bytes : List ℕ) (line : Option ℕ)
    → ((before : List ℕ) → Watches (mark_of b) before bytes line → knows (mark_of b) before (bytes ++ more) line)
    → StandsIn Watches b fed parts section bytes line → StandsIn knows b (fed ++ more) parts section (bytes ++ more) line
grow_in knows b fed more parts Preamble bytes line step (none, (before, e, w)) = (
  none,
  (before, sym (append_assoc crlf fed more) ∙ (ap (λ (x : List ℕ). x ++ more) e ∙ append_assoc before bytes more), step before w),
)
grow_in knows b fed more parts InHead bytes line step (o, few, w) = (opens_grow b fed more parts bytes o, few, step [] w)
grow_in knows b fed more parts (InContent head) bytes line step (text, good, o, few, w) = (
  text,
  good,
  subst (OpensFor b (fed ++ more) parts) (append_assoc (text ++ crlf) bytes more) (opens_grow b fed more parts ((text ++ crlf) ++ bytes) o),
  few,
  step (text ++ crlf) w,
)
grow_in knows b fed more parts Closed bytes line step (c, few) = (closes_grow b fed more parts c, few)

in_same : (knows : Knows) (b fed : List ℕ) (parts : List PartText) (section : Section) (bytes now : List ℕ) (line line' : Option ℕ) → now ≡ bytes → line' ≡ line
    → StandsIn knows b fed parts section bytes line → StandsIn knows b fed parts section now line'
in_same knows b fed parts section bytes now line line' e f h =
    subst (λ (l : Option ℕ). StandsIn knows b fed parts section now l) (sym f) (subst (λ (x : List ℕ). StandsIn knows b fed parts section x line) (sym e) h)

pub stands_grow : (b fed more : List ℕ) (parts : List PartText) (section : Section) (bytes now : List ℕ) (line line' : Option ℕ) → StandsIn Watches b fed parts section bytes line → IsOfLine more false
    → now ≡ bytes ++ more → line' ≡ line → StandsIn Watches b (fed ++ more) parts section now line'
stands_grow b fed more parts section bytes now line line' h k e f =
    in_same Watches b (fed ++ more) parts section (bytes ++ more) now line line' e f
    (grow_in Watches b fed more parts section bytes line (λ before w. watches_grow b before bytes more line w k) h)

pub stands_ended : (b fed more : List ℕ) (parts : List PartText) (section : Section) (bytes now : List ℕ) (line line' : Option ℕ) → StandsIn Watches b fed parts section bytes line → IsOfLine more true
    → now ≡ bytes ++ more → line' ≡ line → StandsIn EndsLineIn b (fed ++ more) parts section now line'
stands_ended b fed more parts section bytes now line line' h k e f =
    in_same EndsLineIn b (fed ++ more) parts section (bytes ++ more) now line line' e f
    (grow_in EndsLineIn b fed more parts section bytes line (λ before w. ends_line b before bytes more line w k) h)

pub stands_closed : (b fed more : List ℕ) (parts : List PartText) (section : Section) (bytes : List ℕ) (line : Option ℕ) → section ≡ Closed → StandsIn Watches b fed parts section bytes line
    → StandsIn Watches b (fed ++ more) parts section bytes line
stands_closed b fed more parts section bytes line e h =
    let closed : StandsIn Watches b fed parts Closed bytes line = subst (λ (x : Section). StandsIn Watches b fed parts x bytes line) e h in
    subst (λ (x : Section). StandsIn Watches b (fed ++ more) parts x bytes line) (sym e) (closes_grow b fed more parts closed.0, closed.1)

-- a line that is no delimiter
pub stands_passed : (b fed : List ℕ) (parts : List PartText) (section : Section) (bytes : List ℕ) (line : Option ℕ)
    → ((before : List ℕ) → EndsLineIn (mark_of b) before bytes line → IsClear (mark_of b) (before ++ bytes) (length (before ++ bytes) - 2))
    → StandsIn EndsLineIn b fed parts section bytes line → StandsIn PassesLineIn b fed parts section bytes line
stands_passed b fed parts Preamble bytes line clear (none, (before, e, w)) = (none, (before, e, record { ended = w; clear = clear before w }))
stands_passed b fed parts InHead bytes line clear (o, few, w) = (o, few, record { ended = w; clear = clear [] w })
stands_passed b fed parts (InContent head) bytes line clear (text, good, o, few, w) =
    (text, good, o, few, record { ended = w; clear = clear (text ++ crlf) w })
stands_passed b fed parts Closed bytes line clear h = h

pub preamble_passed : (b fed : List ℕ) (parts : List PartText) (bytes now : List ℕ) (line line' : Option ℕ) → now ≡ []
    → ((before : List ℕ) → PassesLineIn (mark_of b) before bytes line → Watches (mark_of b) (before ++ bytes) [] line')
    → StandsIn PassesLineIn b fed parts Preamble bytes line → StandsIn Watches b fed parts Preamble now line'
preamble_passed b fed parts bytes now line line' e step (none, (before, f, w)) =
    subst (λ (x : List ℕ). StandsIn Watches b fed parts Preamble x line') (sym e)
    (none, (before ++ bytes, f ∙ sym (append-nil (before ++ bytes)), step before w))

pub head_passed : (b fed : List ℕ) (parts : List PartText) (bytes now : List ℕ) (line line' : Option ℕ) → now ≡ bytes
    → ((before : List ℕ) → PassesLineIn (mark_of b) before bytes line → Watches (mark_of b) before now line')
    → StandsIn PassesLineIn b fed parts InHead bytes line → StandsIn Watches b fed parts InHead now line'
head_passed b fed parts bytes now line line' e step (o, few, w) = (subst (OpensFor b fed parts) (sym e) o, few, step [] w)

pub content_passed : (b fed : List ℕ) (parts : List PartText) (head : Head) (bytes now : List ℕ) (line line' : Option ℕ) → now ≡ bytes
    → ((before : List ℕ) → PassesLineIn (mark_of b) before bytes line → Watches (mark_of b) before now line')
    → StandsIn PassesLineIn b fed parts (InContent head) bytes line → StandsIn Watches b fed parts (InContent head) now line'
content_passed b fed parts head bytes now line line' e step (text, good, o, few, w) =
    (text, good, subst (λ (x : List ℕ). OpensFor b fed parts ((text ++ crlf) ++ x)) (sym e) o, few, step (text ++ crlf) w)

-- a delimiter of one kind or the other
kind_at : (mark text rest : List ℕ) (kind : Kind) → IsAtKind mark text rest kind → IsAtDelimiter mark text
kind_at mark text rest Opening h = inl (rest, h)
kind_at mark text rest Closing h = inr h

reaches_for : (mark text front next more : List ℕ) → text ≡ front ++ next → IsClear mark text (length front) → Reaches mark (text ++ more) front (next ++ more)
reaches_for mark text front next more e clear = record {
  whole = ap (λ (x : List ℕ). x ++ more) e ∙ append_assoc front next more;
  clear = λ i l. clear more i l;
}

-- the piece before a delimiter, by where its line begins
crlf_not_feeds : (x : ℕ) (front text : List ℕ) → ¬ (front ++ crlf ≡ (text ++ crlf) ++ x ∷ [])
crlf_not_feeds x front text e =
    let spelled : (front ++ 13 ∷ []) ++ 10 ∷ [] ≡ (text ++ crlf) ++ x ∷ [] = append_assoc front (13 ∷ []) (10 ∷ []) ∙ e in
    let fronts : front ++ 13 ∷ [] ≡ text ++ crlf = (last_once (front ++ 13 ∷ []) (text ++ crlf) 10 x spelled).0 in
    let again : front ++ 13 ∷ [] ≡ (text ++ 13 ∷ []) ++ 10 ∷ [] = fronts ∙ sym (append_assoc text (13 ∷ []) (10 ∷ [])) in
    ten_not_13 13 (last_once front (text ++ 13 ∷ []) 13 10 again).1 refl
  where
    ten_not_13 : (n : ℕ) → n ≡ 10 → n ≡ 13 → ⊥
    ten_not_13 n e f = absurd (omega arith)

-- the last two of a list, or that it has fewer
two_last : (t : List ℕ) → (t ≡ []) ⊎ (((x : ℕ) × (t ≡ x ∷ [])) ⊎ ((w : List ℕ) × (x : ℕ) × (y : ℕ) × (t ≡ w ++ (x ∷ (y ∷ [])))))
two_last [] = inl refl
two_last (x ∷ []) = inr (inl (x, refl))
two_last (x ∷ y ∷ t) = inr (inr (go x y t))
  where
    go : (x y : ℕ) (t : List ℕ) → (w : List ℕ) × (u : ℕ) × (v : ℕ) × (x ∷ (y ∷ t) ≡ w ++ (u ∷ (v ∷ [])))
    go x y [] = ([], x, y, refl)
    go x y (z ∷ t) = let inner : (w : List ℕ) × (u : ℕ) × (v : ℕ) × (y ∷ (z ∷ t) ≡ w ++ (u ∷ (v ∷ []))) = go y z t in
        (x ∷ inner.0, inner.1, inner.2, ap (λ (l : List ℕ). x ∷ l) inner.3)

head_front : (bytes front : List ℕ) (place : ℕ) → CutsAt [] bytes front place → front ≡ take (place - 2) bytes
head_front bytes front place c =
    let size : length front + 2 ≡ place = omega (arith, ap length c.cut, length-append front crlf, length-take place bytes, c.inside) in
    let whole : bytes ≡ front ++ (crlf ++ drop place bytes) =
    sym (take-append-drop place bytes) ∙ (ap (λ (x : List ℕ). x ++ drop place bytes) (sym c.cut) ∙ append_assoc front crlf (drop place bytes)) in
    sym (ap (take (place - 2)) whole ∙ take_at front (crlf ++ drop place bytes) (place - 2) (omega arith))

content_piece : (text bytes front : List ℕ) (head : Head) (place : ℕ) → IsGoodHead text head → CutsAt (text ++ crlf) bytes front place → IsPart front (part_with head (take (place - 2) bytes))
content_piece text bytes front head place good c = go (two_last (take place bytes))
  where
    whole : bytes ≡ take place bytes ++ drop place bytes
    whole = sym (take-append-drop place bytes)

    go : ((take place bytes ≡ []) ⊎ (((x : ℕ) × (take place bytes ≡ x ∷ [])) ⊎ ((w : List ℕ) × (x : ℕ) × (y : ℕ) × (take place bytes ≡ w ++ (x ∷ (y ∷ []))))))
        → IsPart front (part_with head (take (place - 2) bytes))
    go (inl e) =
        let same : front ≡ text = append_cancel_right front text crlf (c.cut ∙ (ap (λ (x : List ℕ). (text ++ crlf) ++ x) e ∙ append-nil (text ++ crlf))) in
        let size : length (take place bytes) ≡ 0 = ap length e in
        let none : take (place - 2) bytes ≡ [] = nothing (take (place - 2) bytes) (omega (arith, length-take (place - 2) bytes, length-take place bytes, c.inside)) in
        subst (λ (x : List ℕ). IsPart front (part_with head x)) (sym none) (subst (λ (x : List ℕ). IsPart x (part_with head [])) (sym same) good.alone)
      where
        nothing : (r : List ℕ) → length r ≡ 0 → r ≡ []
        nothing [] e = refl
        nothing (d ∷ r) e = absurd (omega arith)
    go (inr (inl (x, e))) = absurd (crlf_not_feeds x front text (c.cut ∙ ap (λ (z : List ℕ). (text ++ crlf) ++ z) e))
    go (inr (inr (w, x, y, e))) =
        let cut : front ++ crlf ≡ ((text ++ crlf) ++ w) ++ (x ∷ (y ∷ [])) =
        c.cut ∙ (ap (λ (z : List ℕ). (text ++ crlf) ++ z) e ∙ sym (append_assoc (text ++ crlf) w (x ∷ (y ∷ [])))) in
        let ones : (front ++ 13 ∷ []) ++ 10 ∷ [] ≡ (((text ++ crlf) ++ w) ++ x ∷ []) ++ y ∷ [] =
        append_assoc front (13 ∷ []) (10 ∷ []) ∙ (cut ∙ sym (append_assoc ((text ++ crlf) ++ w) (x ∷ []) (y ∷ []))) in
        let twos : front ++ 13 ∷ [] ≡ ((text ++ crlf) ++ w) ++ x ∷ [] = (last_once (front ++ 13 ∷ []) (((text ++ crlf) ++ w) ++ x ∷ []) 10 y ones).0 in
        let same : front ≡ text ++ (crlf ++ w) = (last_once front ((text ++ crlf) ++ w) 13 x twos).0 ∙ append_assoc text crlf w in
        let size : length w + 2 ≡ place = omega (arith, ap length e, length-append w (x ∷ (y ∷ [])), length-take place bytes, c.inside) in
        let cut_is : take (place - 2) bytes ≡ w =
        ap (take (place - 2)) (whole ∙ (ap (λ (z : List ℕ). z ++ drop place bytes) e ∙ append_assoc w (x ∷ (y ∷ [])) (drop place bytes)))
        ∙ take_at w ((x ∷ (y ∷ [])) ++ drop place bytes) (place - 2) (omega arith) in
        subst (λ (z : List ℕ). IsPart front (part_with head z)) (sym cut_is) (subst (λ (z : List ℕ). IsPart z (part_with head w)) (sym same) (good.before_content w))

-- a delimiter ends a section, whatever follows
pub section_ends : (b fed : List ℕ) (parts : List PartText) (section : Section) (bytes : List ℕ) (line : Option ℕ) (place : ℕ) (kind : Kind) → ¬ (section ≡ Closed)
    → ((before : List ℕ) → EndsLineIn (mark_of b) before bytes line → MeetsIn (mark_of b) before bytes place kind)
    → StandsIn EndsLineIn b fed parts section bytes line
    → (next : List ℕ) × ((more : List ℕ) → EndsSection b (fed ++ more) parts section bytes place (next ++ more)) × ((more : List ℕ) → IsAtKind (mark_of b) (next ++ more) more kind)
section_ends b fed parts Preamble bytes line place kind going meets (none, (before, e, w)) =
    let m : MeetsIn (mark_of b) before bytes place kind = meets before w in (
      m.next,
      λ more. (
        none,
        (
          m.front,
          subst (λ (x : List ℕ). Reaches (mark_of b) x m.front (m.next ++ more)) (ap (λ (x : List ℕ). x ++ more) (sym e) ∙ append_assoc crlf fed more)
              (reaches_for (mark_of b) (before ++ bytes) m.front m.next more m.whole m.clear),
          kind_at (mark_of b) (m.next ++ more) more kind (m.stands more),
        ),
      ),
      m.stands,
    )
section_ends b fed parts InHead bytes line place kind going meets (o, few, w) =
    let m : MeetsIn (mark_of b) [] bytes place kind = meets [] w in (
      m.next,
      λ more.
          let at : (last : List ℕ) × HoldsParts b (fed ++ more) parts last × Opens (mark_of b) last (bytes ++ more) = o more in
          record {
            last = at.0;
            rest = bytes ++ more;
            few = few;
            holds = at.1;
            opens = at.2;
            reaches =
                subst (λ (x : List ℕ). Reaches (mark_of b) (bytes ++ more) x (m.next ++ more)) (head_front bytes m.front place m.cuts)
                (reaches_for (mark_of b) bytes m.front m.next more m.whole m.clear);
            stands = kind_at (mark_of b) (m.next ++ more) more kind (m.stands more);
          },
      m.stands,
    )
section_ends b fed parts (InContent head) bytes line place kind going meets (text, good, o, few, w) =
    let m : MeetsIn (mark_of b) (text ++ crlf) bytes place kind = meets (text ++ crlf) w in (
      m.next,
      λ more.
          let at : (last : List ℕ) × HoldsParts b (fed ++ more) parts last × Opens (mark_of b) last (((text ++ crlf) ++ bytes) ++ more) = o more in (
            m.front,
            content_piece text bytes m.front head place good m.cuts,
            record {
              last = at.0;
              rest = ((text ++ crlf) ++ bytes) ++ more;
              few = few;
              holds = at.1;
              opens = at.2;
              reaches = reaches_for (mark_of b) ((text ++ crlf) ++ bytes) m.front m.next more m.whole m.clear;
              stands = kind_at (mark_of b) (m.next ++ more) more kind (m.stands more);
            },
          ),
      m.stands,
    )
section_ends b fed parts Closed bytes line place kind going meets h = absurd (going refl)

pub meets_for : (b fed next : List ℕ) (parts : List PartText) (kind : Kind) → ((more : List ℕ) → HoldsParts b (fed ++ more) parts (next ++ more))
    → ((more : List ℕ) → IsAtKind (mark_of b) (next ++ more) more kind) → MeetsFor b fed parts kind
meets_for b fed next parts kind h k more = (next ++ more, h more, k more)

-- a part more
one_more : (b body next piece : List ℕ) (parts now : List PartText) (part : PartText) → EndsPart b body parts piece next → IsPart piece part → now ≡ parts ++ part ∷ [] → HoldsParts b body now next
one_more b body next piece parts now part e is f =
    let read : ReadsPart (mark_of b) e.last part next =
    record { rest = e.rest; piece = piece; opens = e.opens; reaches = e.reaches; stands = e.stands; is_part = is } in
    record {
      preamble = e.holds.preamble;
      first = e.holds.first;
      reaches = e.holds.reaches;
      stands = e.holds.stands;
      in_order = chain_grow (ReadsPart (mark_of b)) e.holds.first parts e.last part next now e.holds.in_order read f;
    }

texts_push : (now old : List OwnedPart) (p : OwnedPart) → now ≡ old ++ p ∷ [] → owned_texts now ≡ owned_texts old ++ owned_text p ∷ []
texts_push now old p e = ap owned_texts e ∙ map_push owned_text old p

count_is : (parts : List OwnedPart) → length (owned_texts parts) ≡ length parts
count_is parts = length-map parts owned_text

pub ends_preamble : (b body next : List ℕ) (parts : List OwnedPart) (bytes : List ℕ) (place : ℕ) → EndsSection b body (owned_texts parts) Preamble bytes place next
    → HoldsParts b body (owned_texts parts) next × (length parts ≤ parts_limit)
ends_preamble b body next parts bytes place (none, (front, r, at)) = (
  record {
    preamble = front;
    first = next;
    reaches = r;
    stands = at;
    in_order = subst (λ (x : List PartText). Chain (ReadsPart (mark_of b)) next x next) (sym none) refl;
  },
  omega (arith, count_is parts, ap length none),
)

pub ends_head : (b body next : List ℕ) (parts now : List OwnedPart) (bytes : List ℕ) (place : ℕ) (part : PartText) (new : OwnedPart) → EndsSection b body (owned_texts parts) InHead bytes place next
    → IsPart (take (place - 2) bytes) part → owned_text new ≡ part → now ≡ parts ++ new ∷ [] → HoldsParts b body (owned_texts now) next × (length now ≤ parts_limit)
ends_head b body next parts now bytes place part new e is f g = (
  one_more b body next (take (place - 2) bytes) (owned_texts parts) (owned_texts now) part e is
      (texts_push now parts new g ∙ ap (λ (p : PartText). owned_texts parts ++ p ∷ []) f),
  omega (arith, e.few, count_is parts, ap length g, length-append parts (new ∷ [])),
)

pub ends_bad_head : (b body next : List ℕ) (parts : List OwnedPart) (bytes : List ℕ) (place : ℕ) → IsBoundary b → EndsSection b body (owned_texts parts) InHead bytes place next
    → ((part : PartText) → ¬ (IsPart (take (place - 2) bytes) part)) → CutFault b body (BadPartHead (length parts))
ends_bad_head b body next parts bytes place good e bad = (
  e.rest,
  record { parts = owned_texts parts; last = e.last; good = good; counted = count_is parts; holds = e.holds; opens = e.opens },
  omega (arith, e.few, count_is parts),
  inl (take (place - 2) bytes, next, e.reaches, e.stands, bad),
)

pub ends_content : (b body next : List ℕ) (parts now : List OwnedPart) (head : Head) (bytes : List ℕ) (place : ℕ) (new : OwnedPart) → EndsSection b body (owned_texts parts) (InContent head) bytes place next
    → owned_text new ≡ part_with head (take (place - 2) bytes) → now ≡ parts ++ new ∷ [] → HoldsParts b body (owned_texts now) next × (length now ≤ parts_limit)
ends_content b body next parts now head bytes place new (piece, is, e) f g = (
  one_more b body next piece (owned_texts parts) (owned_texts now) (part_with head (take (place - 2) bytes)) e is
      (texts_push now parts new g ∙ ap (λ (p : PartText). owned_texts parts ++ p ∷ []) f),
  omega (arith, e.few, count_is parts, ap length g, length-append parts (new ∷ [])),
)

-- the count that a refusal names
pub ends_few : (b body next : List ℕ) (parts : List OwnedPart) (bytes : List ℕ) (place : ℕ) → EndsSection b body (owned_texts parts) InHead bytes place next → length parts < parts_limit
ends_few b body next parts bytes place e = omega (arith, e.few, count_is parts)

-- behind a delimiter
pub too_many : (b fed : List ℕ) (parts : List OwnedPart) → IsBoundary b → length parts ≤ parts_limit → parts_limit ≤ length parts → MeetsFor b fed (owned_texts parts) Opening
    → (more : List ℕ) → CutFault b (fed ++ more) TooManyParts
too_many b fed parts good most least m more =
    let at : (last : List ℕ) × HoldsParts b (fed ++ more) (owned_texts parts) last × Opens (mark_of b) last more = m more in
    (more, record { parts = owned_texts parts; last = at.0; good = good; counted = count_is parts ∙ omega arith; holds = at.1; opens = at.2 })

pub opens_part : (b fed : List ℕ) (parts : List OwnedPart) → length parts < parts_limit → MeetsFor b fed (owned_texts parts) Opening → StandsIn Watches b fed (owned_texts parts) InHead [] None
opens_part b fed parts few m = (
  m,
  omega (arith, count_is parts),
  record { no_return = λ front e. absurd (omega (arith, ap length e, length-append front (13 ∷ []))); holds = λ more i l. absurd (omega arith) },
)

pub closes_body : (b fed : List ℕ) (parts : List OwnedPart) (bytes : List ℕ) (line : Option ℕ) → length parts ≤ parts_limit → MeetsFor b fed (owned_texts parts) Closing → StandsIn Watches b fed (owned_texts parts) Closed bytes line
closes_body b fed parts bytes line most m = (m, omega (arith, count_is parts))

-- at the start
pub starts : (b : List ℕ) → StandsIn Watches b [] [] Preamble [] (Some 0)
starts b = (
  refl,
  (
    crlf,
    refl,
    record {
      no_return = λ front e. not_return front e;
      holds = record {
        front = [];
        inside = omega arith;
        ends = record { whole = refl; inline = All-nil (λ x. is_inline x ≡ true); clear = λ more i l. absurd (omega arith) };
      };
    },
  ),
)
  where
    ten_not_13 : (n : ℕ) → n ≡ 10 → n ≡ 13 → ⊥
    ten_not_13 n e f = absurd (omega arith)

    not_return : (front : List ℕ) → ¬ (crlf ≡ front ++ 13 ∷ [])
    not_return front e = ten_not_13 10 refl (last_once (13 ∷ []) front 10 13 e).1

-- a good head
settled : (b bytes g : List ℕ) (line : Option ℕ) → Watches (mark_of b) [] bytes line → bytes ≡ g ++ crlf → IsClear (mark_of b) bytes (length g)
settled b bytes g None w e =
    clear_less (mark_of b) bytes (length bytes - 1) (length g) (omega (arith, ap length e, length-append g crlf)) w.holds
settled b bytes g (Some place) w e = clear_less (mark_of b) bytes (length w.holds.front) (length g) (at_end (drop place bytes) w.holds.ends) w.holds.ends.clear
  where
    at_end : (line : List ℕ) → EndsInLine (mark_of b) bytes w.holds.front line → length g ≤ length w.holds.front
    at_end [] h = omega (arith, ap length e, length-append g crlf, ap length h.whole, length-append w.holds.front crlf)
    at_end (c ∷ line) h =
        let spelled : (g ++ 13 ∷ []) ++ 10 ∷ [] ≡ w.holds.front ++ (crlf ++ (c ∷ line)) = append_assoc g (13 ∷ []) (10 ∷ []) ∙ (sym e ∙ h.whole) in
        absurd (ends_in_feed (w.holds.front ++ crlf) (c ∷ line) (g ++ 13 ∷ []) (omega arith) h.inline (spelled ∙ sym (append_assoc w.holds.front crlf (c ∷ line))))
      where
        -- a line that holds no line feed does not end in one
        ends_in_feed : (x y z : List ℕ) → 0 < length y → AllPass is_inline y → ¬ (z ++ 10 ∷ [] ≡ x ++ y)
        ends_in_feed x y z some h f =
            let less : length x ≤ length z = omega (arith, ap length f, length-append z (10 ∷ []), length-append x y) in
            let p : (m : List ℕ) × (z ≡ x ++ m) × (y ≡ m ++ 10 ∷ []) = parted z (10 ∷ []) x y f less in
            no_feed_in y p.0 [] h p.2

pub settled_at : (b bytes g : List ℕ) (line : Option ℕ) → Watches (mark_of b) [] bytes line → bytes ≡ g ++ crlf → IsClear (mark_of b) bytes (length g)
settled_at b bytes g line w e = settled b bytes g line w e

pub goes_on_behind : (b fed : List ℕ) (parts : List PartText) (bytes front g content : List ℕ) (line : Option ℕ) (head : Head) → StandsIn Watches b fed parts InHead bytes line
    → bytes ≡ front ++ (crlf ++ content) → IsGoodHead front head → bytes ≡ g ++ crlf → StandsIn Watches b fed parts (InContent head) content (Some (length content))
goes_on_behind b fed parts bytes front g content line head (o, few, w) e good f =
    let whole : (front ++ crlf) ++ content ≡ bytes = append_assoc front crlf content ∙ sym e in (
      front,
      good,
      subst (OpensFor b fed parts) (sym whole) o,
      few,
      record {
        no_return = λ x h. not_return x h;
        holds = record {
          front = g;
          inside = omega arith;
          ends = record {
            whole = whole ∙ (f ∙ ap (λ (x : List ℕ). g ++ (crlf ++ x)) (sym (drop_all (length content) content (omega arith))));
            inline = subst (AllPass is_inline) (sym (drop_all (length content) content (omega arith))) (All-nil (λ x. is_inline x ≡ true));
            clear = subst (λ (x : List ℕ). IsClear (mark_of b) x (length g)) (sym whole) (settled b bytes g line w f);
          };
        };
      },
    )
  where
    ten_not_13 : (n : ℕ) → n ≡ 10 → n ≡ 13 → ⊥
    ten_not_13 n e f = absurd (omega arith)

    not_return : (x : List ℕ) → ¬ (front ++ crlf ≡ x ++ 13 ∷ [])
    not_return x h = ten_not_13 10 refl (last_once (front ++ 13 ∷ []) x 10 13 (append_assoc front (13 ∷ []) (10 ∷ []) ∙ h)).1

-- a bad head, whatever follows
pub bad_for : (b fed : List ℕ) (parts : List OwnedPart) (bytes : List ℕ) (line : Option ℕ) → IsBoundary b → StandsIn Watches b fed (owned_texts parts) InHead bytes line
    → ((more : List ℕ) → BeginsBadPart (mark_of b) (bytes ++ more)) → (more : List ℕ) → CutFault b (fed ++ more) (BadPartHead (length parts))
bad_for b fed parts bytes line good (o, few, w) bad more =
    let at : (last : List ℕ) × HoldsParts b (fed ++ more) (owned_texts parts) last × Opens (mark_of b) last (bytes ++ more) = o more in (
      bytes ++ more,
      record { parts = owned_texts parts; last = at.0; good = good; counted = count_is parts; holds = at.1; opens = at.2 },
      omega (arith, few, count_is parts),
      bad more,
    )

pub head_few : (b fed : List ℕ) (parts : List OwnedPart) (bytes : List ℕ) (line : Option ℕ) → StandsIn Watches b fed (owned_texts parts) InHead bytes line → length parts < parts_limit
head_few b fed parts bytes line (o, few, w) = omega (arith, few, count_is parts)

-- the body's end
now_is : (b fed : List ℕ) (parts : List PartText) (rest : List ℕ) → OpensFor b fed parts rest → (last : List ℕ) × HoldsParts b fed parts last × Opens (mark_of b) last rest
now_is b fed parts rest o =
    let at : (last : List ℕ) × HoldsParts b (fed ++ []) parts last × Opens (mark_of b) last (rest ++ []) = o [] in
    (at.0, subst (λ (x : List ℕ). HoldsParts b x parts at.0) (append-nil fed) at.1, subst (Opens (mark_of b) at.0) (append-nil rest) at.2)

pub finish_ends : (b fed : List ℕ) (parts : List PartText) (section : Section) (bytes : List ℕ) (line : Option ℕ) (place : ℕ) → ¬ (section ≡ Closed)
    → ((before : List ℕ) → Watches (mark_of b) before bytes line → ClosesIn (mark_of b) before bytes place)
    → StandsIn Watches b fed parts section bytes line → (next : List ℕ) × EndsSection b fed parts section bytes place next × Closes (mark_of b) next
finish_ends b fed parts Preamble bytes line place going closes (none, (before, e, w)) =
    let m : ClosesIn (mark_of b) before bytes place = closes before w in
    (m.next, (none, (m.front, subst (λ (x : List ℕ). Reaches (mark_of b) x m.front m.next) (sym e) m.reaches, inr m.stands)), m.stands)
finish_ends b fed parts InHead bytes line place going closes (o, few, w) =
    let m : ClosesIn (mark_of b) [] bytes place = closes [] w in
    let at : (last : List ℕ) × HoldsParts b fed parts last × Opens (mark_of b) last bytes = now_is b fed parts bytes o in (
      m.next,
      record {
        last = at.0;
        rest = bytes;
        few = few;
        holds = at.1;
        opens = at.2;
        reaches = subst (λ (x : List ℕ). Reaches (mark_of b) bytes x m.next) (head_front bytes m.front place m.cuts) m.reaches;
        stands = inr m.stands;
      },
      m.stands,
    )
finish_ends b fed parts (InContent head) bytes line place going closes (text, good, o, few, w) =
    let m : ClosesIn (mark_of b) (text ++ crlf) bytes place = closes (text ++ crlf) w in
    let at : (last : List ℕ) × HoldsParts b fed parts last × Opens (mark_of b) last ((text ++ crlf) ++ bytes) = now_is b fed parts ((text ++ crlf) ++ bytes) o in (
      m.next,
      (
        m.front,
        content_piece text bytes m.front head place good m.cuts,
        record { last = at.0; rest = (text ++ crlf) ++ bytes; few = few; holds = at.1; opens = at.2; reaches = m.reaches; stands = inr m.stands },
      ),
      m.stands,
    )
finish_ends b fed parts Closed bytes line place going closes h = absurd (going refl)

pub finish_cut : (b fed next : List ℕ) (parts : List OwnedPart) → IsBoundary b → HoldsParts b fed (owned_texts parts) next × (length parts ≤ parts_limit) → Closes (mark_of b) next → Cut b fed (owned_texts parts)
finish_cut b fed next parts good (h, few) c = record { last = next; good = good; few = omega (arith, count_is parts); holds = h; closes = c }

pub finish_closed : (b fed : List ℕ) (parts : List OwnedPart) (section : Section) (bytes : List ℕ) (line : Option ℕ) → IsBoundary b → section ≡ Closed
    → StandsIn Watches b fed (owned_texts parts) section bytes line → Cut b fed (owned_texts parts)
finish_closed b fed parts section bytes line good e h = go (subst (λ (x : Section). StandsIn Watches b fed (owned_texts parts) x bytes line) e h)
  where
    go : StandsIn Watches b fed (owned_texts parts) Closed bytes line → Cut b fed (owned_texts parts)
    go (c, few) =
        let at : (last : List ℕ) × HoldsParts b (fed ++ []) (owned_texts parts) last × Closes (mark_of b) last = c [] in
        record { last = at.0; good = good; few = few; holds = subst (λ (x : List ℕ). HoldsParts b x (owned_texts parts) at.0) (append-nil fed) at.1; closes = at.2 }

content_may_be : (text bytes : List ℕ) (head : Head) → IsGoodHead text head → MayBePart ((text ++ crlf) ++ bytes)
content_may_be text bytes head good = subst MayBePart (sym (append_assoc text crlf bytes)) (good.cut_off bytes)

pub finish_none : (b fed : List ℕ) (parts : List PartText) (section : Section) (bytes : List ℕ) (line : Option ℕ) → ¬ (section ≡ Closed)
    → ((before : List ℕ) → Watches (mark_of b) before bytes line → HasNoDelimiter (mark_of b) (before ++ bytes))
    → StandsIn Watches b fed parts section bytes line → IsCutOff b fed parts section bytes
finish_none b fed parts Preamble bytes line going none (e, (before, f, w)) = subst (HasNoDelimiter (mark_of b)) (sym f) (none before w)
finish_none b fed parts InHead bytes line going none (o, few, w) =
    let at : (last : List ℕ) × HoldsParts b fed parts last × Opens (mark_of b) last bytes = now_is b fed parts bytes o in
    record { last = at.0; few = few; holds = at.1; opens = at.2; none = none [] w }
finish_none b fed parts (InContent head) bytes line going none (text, good, o, few, w) =
    let at : (last : List ℕ) × HoldsParts b fed parts last × Opens (mark_of b) last ((text ++ crlf) ++ bytes) = now_is b fed parts ((text ++ crlf) ++ bytes) o in (
      (text ++ crlf) ++ bytes,
      content_may_be text bytes head good,
      record { last = at.0; few = few; holds = at.1; opens = at.2; none = none (text ++ crlf) w },
    )
finish_none b fed parts Closed bytes line going none h = absurd (going refl)

pub cut_off_none : (b body rest : List ℕ) (parts : List OwnedPart) → IsBoundary b → MayBePart rest → CutsPartOff b body (owned_texts parts) rest → CutFault b body NoClose
cut_off_none b body rest parts good may c = (
  length parts,
  rest,
  record { parts = owned_texts parts; last = c.last; good = good; counted = count_is parts; holds = c.holds; opens = c.opens },
  omega (arith, c.few, count_is parts),
  c.none,
  may,
)

pub cut_off_bad : (b body rest : List ℕ) (parts : List OwnedPart) → IsBoundary b → ¬ (MayBePart rest) → CutsPartOff b body (owned_texts parts) rest → CutFault b body (BadPartHead (length parts))
cut_off_bad b body rest parts good bad c = (
  rest,
  record { parts = owned_texts parts; last = c.last; good = good; counted = count_is parts; holds = c.holds; opens = c.opens },
  omega (arith, c.few, count_is parts),
  inr (c.none, bad),
)

pub cut_off_few : (b body rest : List ℕ) (parts : List OwnedPart) → CutsPartOff b body (owned_texts parts) rest → length parts < parts_limit
cut_off_few b body rest parts c = omega (arith, c.few, count_is parts)

-- the same, by what values are
pub starts_so : (b bytes : List ℕ) (line : Option ℕ) (parts : List OwnedPart) → IsBoundary b → parts ≡ [] → bytes ≡ [] → line ≡ Some 0 → StandsIn Watches b [] (owned_texts parts) Preamble bytes line
starts_so b bytes line parts good e f g =
    subst (λ (x : List OwnedPart). StandsIn Watches b [] (owned_texts x) Preamble bytes line) (sym e)
    (in_same Watches b [] [] Preamble [] bytes (Some 0) line f g (starts b))

pub too_many_so : (b fed : List ℕ) (parts : List OwnedPart) (kind : Kind) (count : ℕ) → kind ≡ Opening → count ≡ length parts → parts_limit ≤ count → IsBoundary b → length parts ≤ parts_limit → MeetsFor b fed (owned_texts parts) kind
    → RefusesFor b fed TooManyParts
too_many_so b fed parts kind count e f least good most m =
    inr (too_many b fed parts good most (omega arith) (subst (MeetsFor b fed (owned_texts parts)) e m))

pub opens_part_so : (b fed bytes : List ℕ) (line : Option ℕ) (parts : List OwnedPart) (kind : Kind) (count : ℕ) → kind ≡ Opening → count ≡ length parts → count < parts_limit → bytes ≡ [] → line ≡ None
    → MeetsFor b fed (owned_texts parts) kind → StandsIn Watches b fed (owned_texts parts) InHead bytes line
opens_part_so b fed bytes line parts kind count e f few g h m =
    in_same Watches b fed (owned_texts parts) InHead [] bytes None line g h
    (opens_part b fed parts (omega arith) (subst (MeetsFor b fed (owned_texts parts)) e m))

pub closes_body_so : (b fed bytes : List ℕ) (line : Option ℕ) (parts : List OwnedPart) (kind : Kind) → kind ≡ Closing → length parts ≤ parts_limit → MeetsFor b fed (owned_texts parts) kind
    → StandsIn Watches b fed (owned_texts parts) Closed bytes line
closes_body_so b fed bytes line parts kind e most m = closes_body b fed parts bytes line most (subst (MeetsFor b fed (owned_texts parts)) e m)

pub ended_so : (b fed more bytes now : List ℕ) (line line' : Option ℕ) (parts : List PartText) (section : Section) (ended : Bool) → IsOfLine more ended → ended ≡ true → now ≡ bytes ++ more → line' ≡ line
    → StandsIn Watches b fed parts section bytes line → StandsIn EndsLineIn b (fed ++ more) parts section now line'
ended_so b fed more bytes now line line' parts section ended k t e f h =
    stands_ended b fed more parts section bytes now line line' h (subst (IsOfLine more) t k) e f

pub grown_so : (b fed more bytes now : List ℕ) (line line' : Option ℕ) (parts : List PartText) (section : Section) (ended : Bool) → IsOfLine more ended → ended ≡ false → now ≡ bytes ++ more → line' ≡ line
    → StandsIn Watches b fed parts section bytes line → StandsIn Watches b (fed ++ more) parts section now line'
grown_so b fed more bytes now line line' parts section ended k t e f h =
    stands_grow b fed more parts section bytes now line line' h (subst (IsOfLine more) t k) e f

-- a delimiter at the end of what was fed
pub met_parts : (b fed : List ℕ) (parts now : List OwnedPart) (section : Section) (bytes : List ℕ) (line : Option ℕ) (place : ℕ) (kind : Kind) → IsBoundary b → ¬ (section ≡ Closed)
    → ((before : List ℕ) → IsBoundary b → EndsLineIn (mark_of b) before bytes line → MeetsIn (mark_of b) before bytes place kind)
    → ((b' body next : List ℕ) → EndsSection b' body (owned_texts parts) section bytes place next → HoldsParts b' body (owned_texts now) next × (length now ≤ parts_limit))
    → StandsIn EndsLineIn b fed (owned_texts parts) section bytes line → (length now ≤ parts_limit) × MeetsFor b fed (owned_texts now) kind
met_parts b fed parts now section bytes line place kind good going meets ends h =
    let s : (next : List ℕ) × ((more : List ℕ) → EndsSection b (fed ++ more) (owned_texts parts) section bytes place (next ++ more)) × ((more : List ℕ) → IsAtKind (mark_of b) (next ++ more) more kind) =
    section_ends b fed (owned_texts parts) section bytes line place kind going (λ before w. meets before good w) h in (
      (ends b (fed ++ []) (s.0 ++ []) (s.1 [])).1,
      meets_for b fed s.0 (owned_texts now) kind (λ more. (ends b (fed ++ more) (s.0 ++ more) (s.1 more)).0) s.2,
    )

pub met_refusal : (b fed : List ℕ) (parts : List OwnedPart) (section : Section) (bytes : List ℕ) (line : Option ℕ) (place : ℕ) (kind : Kind) (error : PartsError) → IsBoundary b → ¬ (section ≡ Closed)
    → ((before : List ℕ) → IsBoundary b → EndsLineIn (mark_of b) before bytes line → MeetsIn (mark_of b) before bytes place kind)
    → ((b' body next : List ℕ) → IsBoundary b' → EndsSection b' body (owned_texts parts) section bytes place next → RefusesBody b' body error)
    → StandsIn EndsLineIn b fed (owned_texts parts) section bytes line → RefusesFor b fed error
met_refusal b fed parts section bytes line place kind error good going meets refused h =
    let s : (next : List ℕ) × ((more : List ℕ) → EndsSection b (fed ++ more) (owned_texts parts) section bytes place (next ++ more)) × ((more : List ℕ) → IsAtKind (mark_of b) (next ++ more) more kind) =
    section_ends b fed (owned_texts parts) section bytes line place kind going (λ before w. meets before good w) h in
    refuses_all b fed error (λ more. refused b (fed ++ more) (s.0 ++ more) good (s.1 more))

-- the body's end
pub finish_parts : (b fed : List ℕ) (parts now : List OwnedPart) (section : Section) (bytes : List ℕ) (line : Option ℕ) (place : ℕ) → IsBoundary b → ¬ (section ≡ Closed)
    → ((before : List ℕ) → Watches (mark_of b) before bytes line → ClosesIn (mark_of b) before bytes place)
    → ((b' body next : List ℕ) → EndsSection b' body (owned_texts parts) section bytes place next → HoldsParts b' body (owned_texts now) next × (length now ≤ parts_limit))
    → StandsIn Watches b fed (owned_texts parts) section bytes line → Cut b fed (owned_texts now)
finish_parts b fed parts now section bytes line place good going closes ends h =
    let s : (next : List ℕ) × EndsSection b fed (owned_texts parts) section bytes place next × Closes (mark_of b) next =
    finish_ends b fed (owned_texts parts) section bytes line place going closes h in
    finish_cut b fed s.0 now good (ends b fed s.0 s.1) s.2

pub finish_refusal : (b fed : List ℕ) (parts : List OwnedPart) (section : Section) (bytes : List ℕ) (line : Option ℕ) (place : ℕ) (error : PartsError) → IsBoundary b → ¬ (section ≡ Closed)
    → ((before : List ℕ) → Watches (mark_of b) before bytes line → ClosesIn (mark_of b) before bytes place)
    → ((b' body next : List ℕ) → IsBoundary b' → EndsSection b' body (owned_texts parts) section bytes place next → RefusesBody b' body error)
    → StandsIn Watches b fed (owned_texts parts) section bytes line → RefusesBody b fed error
finish_refusal b fed parts section bytes line place error good going closes refused h =
    let s : (next : List ℕ) × EndsSection b fed (owned_texts parts) section bytes place next × Closes (mark_of b) next =
    finish_ends b fed (owned_texts parts) section bytes line place going closes h in
    refused b fed s.0 good s.1

-- pieces in order
pub fed_more : (b piece done left front rest : List ℕ) → piece ≡ done ++ left → left ≡ front ++ rest → piece ≡ (done ++ front) ++ rest
fed_more b piece done left front rest e f = e ∙ (ap (λ (x : List ℕ). done ++ x) f ∙ sym (append_assoc done front rest))

pub fed_refusal : (b fed piece done left front rest : List ℕ) (error : PartsError) → piece ≡ done ++ left → left ≡ front ++ rest → RefusesFor b ((fed ++ done) ++ front) error → RefusesFor b (fed ++ piece) error
fed_refusal b fed piece done left front rest error e f r =
    let whole : ((fed ++ done) ++ front) ++ rest ≡ fed ++ piece =
    ap (λ (x : List ℕ). x ++ rest) (append_assoc fed done front)
    ∙ (append_assoc fed (done ++ front) rest ∙ ap (λ (x : List ℕ). fed ++ x) (sym (fed_more b piece done left front rest e f))) in
    subst (λ (x : List ℕ). RefusesFor b x error) whole (refuses_longer b ((fed ++ done) ++ front) rest error r)

pub fed_state : (b fed done front : List ℕ) (state : State) → Stands Watches b ((fed ++ done) ++ front) state → Stands Watches b (fed ++ (done ++ front)) state
fed_state b fed done front state h = subst (λ (x : List ℕ). Stands Watches b x state) (append_assoc fed done front) h

pub fed_all : (b fed piece done left : List ℕ) (state : State) → piece ≡ done ++ left → length left ≡ 0 → Stands Watches b (fed ++ done) state → Stands Watches b (fed ++ piece) state
fed_all b fed piece done left state e none h =
    subst (λ (x : List ℕ). Stands Watches b (fed ++ x) state) (sym (e ∙ (ap (λ (x : List ℕ). done ++ x) (nothing left none) ∙ append-nil done))) h
  where
    nothing : (r : List ℕ) → length r ≡ 0 → r ≡ []
    nothing [] e = refl
    nothing (d ∷ r) e = absurd (omega arith)

pub fed_none : (b fed : List ℕ) (state : State) → Stands Watches b fed state → Stands Watches b (fed ++ []) state
fed_none b fed state h = subst (λ (x : List ℕ). Stands Watches b x state) (sym (append-nil fed)) h

-- what holds of a value holds of a weaker fact
pub if_ok_weaker : {T E : Type 0} (r : Result T E) (P Q : T → Type 0) → ((x : T) → P x → Q x) → IfOk r P → IfOk r Q
if_ok_weaker (Ok x) P Q f h = f x h
if_ok_weaker (Err e) P Q f h = h

-- the same, by what a section is
pub at_section : (knows : Knows) (b fed : List ℕ) (parts : List PartText) (section now : Section) (bytes : List ℕ) (line : Option ℕ) → section ≡ now → StandsIn knows b fed parts section bytes line → StandsIn knows b fed parts now bytes line
at_section knows b fed parts section now bytes line e h = subst (λ (x : Section). StandsIn knows b fed parts x bytes line) e h

pub at_end_of : (b body : List ℕ) (parts : List PartText) (section now : Section) (bytes : List ℕ) (place : ℕ) (next : List ℕ) → section ≡ now → EndsSection b body parts section bytes place next → EndsSection b body parts now bytes place next
at_end_of b body parts section now bytes place next e h = subst (λ (x : Section). EndsSection b body parts x bytes place next) e h

pub at_cut : (b body : List ℕ) (parts : List PartText) (section now : Section) (bytes : List ℕ) → section ≡ now → IsCutOff b body parts section bytes → IsCutOff b body parts now bytes
at_cut b body parts section now bytes e h = subst (λ (x : Section). IsCutOff b body parts x bytes) e h

-- verdicts
pub too_long_so : (b bytes slice front : List ℕ) (n : ℕ) → slice ≡ bytes → front ≡ take n slice → n ≤ length bytes → IsClear (mark_of b) bytes n → BeginsNoPart front
    → (more : List ℕ) → BeginsBadPart (mark_of b) (bytes ++ more)
too_long_so b bytes slice front n e f l clear bad =
    let front_is : front ≡ take n bytes = f ∙ ap (take n) e in
    bad_decided (mark_of b) bytes front n (drop n bytes) (sym (take-append-drop n bytes) ∙ ap (λ (x : List ℕ). x ++ drop n bytes) (sym front_is))
    (sym (ap length front_is ∙ length_take_of n bytes l)) clear bad
  where
    length_take_of : (n : ℕ) (xs : List ℕ) → n ≤ length xs → length (take n xs) ≡ n
    length_take_of n xs l = omega (arith, length-take n xs)

pub judged_lines : (b bytes slice front : List ℕ) (line : Option ℕ) → slice ≡ bytes → slice ≡ front ++ crlf → Watches (mark_of b) [] bytes line → (v : Verdict) → JudgesLines slice front v → Judges (mark_of b) bytes v
judged_lines b bytes slice front line e f w Undecided h = h
judged_lines b bytes slice front line e f w Bad h =
    bad_lines b bytes front (sym e ∙ f) (settled b bytes front line w (sym e ∙ f)) h.0 (subst BeginsNoPart e h.1)
judged_lines b bytes slice front line e f w (Good good) h = (h.0, sym e ∙ h.1, h.2, (front, sym e ∙ f))

pub bad_head_so : (b fed : List ℕ) (state : State) (v : Verdict) (count : ℕ) (error : PartsError) → state.section ≡ InHead
    → ((b' : List ℕ) → Watches (mark_of b') [] state.tail.bytes.items state.tail.line → Judges (mark_of b') state.tail.bytes.items v) → v ≡ Bad
    → count ≡ length state.parts.items → (count < parts_limit → error ≡ BadPartHead count) → Stands Watches b fed state → RefusesFor b fed error
bad_head_so b fed state v count error e judged f c names h =
    let at : StandsIn Watches b fed (owned_texts state.parts.items) InHead state.tail.bytes.items state.tail.line =
    at_section Watches b fed (owned_texts state.parts.items) state.section InHead state.tail.bytes.items state.tail.line e h.stands in
    let bad : Judges (mark_of b) state.tail.bytes.items Bad =
    subst (Judges (mark_of b) state.tail.bytes.items) f (judged b at.2) in
    let few : length state.parts.items < parts_limit = head_few b fed state.parts.items state.tail.bytes.items state.tail.line at in
    let is : error ≡ BadPartHead (length state.parts.items) = names (omega arith) ∙ ap BadPartHead c in
    subst (RefusesFor b fed) (sym is) (inr (bad_for b fed state.parts.items state.tail.bytes.items state.tail.line h.good at bad))

pub good_head_so : (b fed : List ℕ) (state new : State) (v : Verdict) (good : GoodHead) → state.section ≡ InHead
    → ((b' : List ℕ) → Watches (mark_of b') [] state.tail.bytes.items state.tail.line → Judges (mark_of b') state.tail.bytes.items v) → v ≡ Good good
    → GoesOnBehind state.parts.items good new → Stands Watches b fed state → Stands Watches b fed new
good_head_so b fed state new v good e judged f goes h =
    let at : StandsIn Watches b fed (owned_texts state.parts.items) InHead state.tail.bytes.items state.tail.line =
    at_section Watches b fed (owned_texts state.parts.items) state.section InHead state.tail.bytes.items state.tail.line e h.stands in
    let is : Judges (mark_of b) state.tail.bytes.items (Good good) =
    subst (Judges (mark_of b) state.tail.bytes.items) f (judged b at.2) in
    let on : StandsIn Watches b fed (owned_texts state.parts.items) (InContent good.head) good.content.items (Some (length good.content.items)) =
    goes_on_behind b fed (owned_texts state.parts.items) state.tail.bytes.items is.0 is.3.0 good.content.items state.tail.line good.head at is.1 is.2 is.3.1 in
    record {
      good = h.good;
      stands =
          subst (λ (x : List OwnedPart). StandsIn Watches b fed (owned_texts x) new.section new.tail.bytes.items new.tail.line) (sym goes.0)
          (in_same Watches b fed (owned_texts state.parts.items) new.section good.content.items new.tail.bytes.items (Some (length good.content.items)) new.tail.line goes.2 goes.3
          (at_section Watches b fed (owned_texts state.parts.items) (InContent good.head) new.section good.content.items (Some (length good.content.items)) (sym goes.1) on));
    }

-- refusals that name a part
pub ends_bad_so : (b body next : List ℕ) (parts : List OwnedPart) (section : Section) (bytes slice piece : List ℕ) (place less count : ℕ) (error : PartsError) → section ≡ InHead → slice ≡ bytes → less ≡ place - 2
    → piece ≡ take less slice → ((part : PartText) → ¬ (IsPart piece part)) → count ≡ length parts → (count < parts_limit → error ≡ BadPartHead count) → IsBoundary b
    → EndsSection b body (owned_texts parts) section bytes place next → RefusesBody b body error
ends_bad_so b body next parts section bytes slice piece place less count error e f l g bad c names good h =
    let at : EndsSection b body (owned_texts parts) InHead bytes place next = at_end_of b body (owned_texts parts) section InHead bytes place next e h in
    let piece_is : piece ≡ take (place - 2) bytes = g ∙ (ap (λ (n : ℕ). take n slice) l ∙ ap (take (place - 2)) f) in
    let few : length parts < parts_limit = ends_few b body next parts bytes place at in
    let is : error ≡ BadPartHead (length parts) = names (omega arith) ∙ ap BadPartHead c in
    subst (RefusesBody b body) (sym is)
    (inr (ends_bad_head b body next parts bytes place good at (subst (λ (x : List ℕ). (part : PartText) → ¬ (IsPart x part)) piece_is bad)))

pub ends_head_so : (b body next : List ℕ) (parts now : List OwnedPart) (section : Section) (bytes slice piece : List ℕ) (place less : ℕ) (part : PartText) (new : OwnedPart) → section ≡ InHead → slice ≡ bytes → less ≡ place - 2
    → piece ≡ take less slice → IsPart piece part → owned_text new ≡ part → now ≡ parts ++ new ∷ []
    → EndsSection b body (owned_texts parts) section bytes place next → HoldsParts b body (owned_texts now) next × (length now ≤ parts_limit)
ends_head_so b body next parts now section bytes slice piece place less part new e f l g is own pushed h =
    let at : EndsSection b body (owned_texts parts) InHead bytes place next = at_end_of b body (owned_texts parts) section InHead bytes place next e h in
    let piece_is : piece ≡ take (place - 2) bytes = g ∙ (ap (λ (n : ℕ). take n slice) l ∙ ap (take (place - 2)) f) in
    ends_head b body next parts now bytes place part new at (subst (λ (x : List ℕ). IsPart x part) piece_is is) own pushed

pub ends_content_so : (b body next : List ℕ) (parts now : List OwnedPart) (section : Section) (head : Head) (bytes cut content : List ℕ) (place less : ℕ) (new : OwnedPart) → section ≡ InContent head → less ≡ place - 2
    → cut ≡ take less bytes → content ≡ cut → owned_text new ≡ part_with head content → now ≡ parts ++ new ∷ []
    → EndsSection b body (owned_texts parts) section bytes place next → HoldsParts b body (owned_texts now) next × (length now ≤ parts_limit)
ends_content_so b body next parts now section head bytes cut content place less new e l g k own pushed h =
    let content_is : content ≡ take (place - 2) bytes = k ∙ (g ∙ ap (λ (n : ℕ). take n bytes) l) in
    ends_content b body next parts now head bytes place new (at_end_of b body (owned_texts parts) section (InContent head) bytes place next e h)
    (own ∙ ap (part_with head) content_is) pushed

pub cut_bad_so : (b body : List ℕ) (parts : List OwnedPart) (section : Section) (bytes slice : List ℕ) (count : ℕ) (error : PartsError) (may : Bool) → section ≡ InHead → slice ≡ bytes → (IsTrue may ↔ MayBePart slice) → may ≡ false
    → count ≡ length parts → (count < parts_limit → error ≡ BadPartHead count) → IsBoundary b → IsCutOff b body (owned_texts parts) section bytes → RefusesBody b body error
cut_bad_so b body parts section bytes slice count error may e f both no_more c names good h =
    let at : IsCutOff b body (owned_texts parts) InHead bytes = at_cut b body (owned_texts parts) section InHead bytes e h in
    let few : length parts < parts_limit = cut_off_few b body bytes parts at in
    let is : error ≡ BadPartHead (length parts) = names (omega arith) ∙ ap BadPartHead c in
    let bad : ¬ (MayBePart bytes) = λ m. not_both may (both.1 (subst MayBePart (sym f) m)) no_more in
    subst (RefusesBody b body) (sym is) (inr (cut_off_bad b body bytes parts good bad at))
  where
    not_both : (b : Bool) → b ≡ true → b ≡ false → ⊥
    not_both b e f = cc

pub cut_none_so : (b body : List ℕ) (parts : List OwnedPart) (section : Section) (bytes slice : List ℕ) (may : Bool) → section ≡ InHead → slice ≡ bytes → (IsTrue may ↔ MayBePart slice) → may ≡ true
    → IsBoundary b → IsCutOff b body (owned_texts parts) section bytes → RefusesBody b body NoClose
cut_none_so b body parts section bytes slice may e f both more good h =
    inr (cut_off_none b body bytes parts good (subst MayBePart f (both.0 more)) (at_cut b body (owned_texts parts) section InHead bytes e h))

pub cut_content_so : (b body : List ℕ) (parts : List OwnedPart) (section : Section) (head : Head) (bytes : List ℕ) → section ≡ InContent head → IsBoundary b → IsCutOff b body (owned_texts parts) section bytes → RefusesBody b body NoClose
cut_content_so b body parts section head bytes e good h =
    let at : IsCutOff b body (owned_texts parts) (InContent head) bytes = at_cut b body (owned_texts parts) section (InContent head) bytes e h in
    inr (cut_off_none b body at.0 parts good at.1 at.2)

pub cut_preamble_so : (b body : List ℕ) (parts : List PartText) (section : Section) (bytes : List ℕ) → section ≡ Preamble → IsBoundary b → IsCutOff b body parts section bytes → RefusesBody b body NoFirst
cut_preamble_so b body parts section bytes e good h = inr (good, at_cut b body parts section Preamble bytes e h)

-- what is known of the last line changes
pub line_changes : (b fed : List ℕ) (parts : List PartText) (section : Section) (bytes now : List ℕ) (line line' : Option ℕ) → now ≡ bytes
    → ((before : List ℕ) → Watches (mark_of b) before bytes line → Watches (mark_of b) before bytes line') → StandsIn Watches b fed parts section bytes line → StandsIn Watches b fed parts section now line'
line_changes b fed parts section bytes now line line' e step h =
    subst (λ (x : List ℕ). StandsIn Watches b fed parts section x line') (sym e) (go section h)
  where
    go : (section : Section) → StandsIn Watches b fed parts section bytes line → StandsIn Watches b fed parts section bytes line'
    go Preamble (none, (before, f, w)) = (none, (before, f, step before w))
    go InHead (o, few, w) = (o, few, step [] w)
    go (InContent head) (text, good, o, few, w) = (text, good, o, few, step (text ++ crlf) w)
    go Closed h = h
