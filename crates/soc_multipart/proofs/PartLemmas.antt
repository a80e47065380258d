-- What a piece between two delimiters is, and what one is that the body's end cuts off.
use Rattle.std.proofs.Common.{◌≡◌, ℕ, ◌+◌, ◌<◌, ◌≤◌, List, [], ◌∷◌, ◌++◌, length, take, drop, Bool, false, sym, refl, ap, ◌∙◌, subst, arith, Option, Some, None, MatchOption, MatchBool, is_some, IsTrue, ◌↔◌, inl, inr, append_assoc}
use Rattle.std.proofs.lemmas.List.{append_cancel_left, take-append-drop, drop_at}
use Rattle.memchr.specs.Find.{OccursAt, FindsNeedle, IsFirst}
use Rattle.std.proofs.Common.{Bor}
use Rattle.soc_multipart.specs.declared.heads.Line.{Line}
use Rattle.soc_multipart.specs.inner.Views.{line_texts}
use Rattle.soc_multipart.specs.declared.heads.HeadEnd.{HeadEnd}
use Rattle.soc_multipart.specs.declared.heads.HeadEnd.TheVariants.{Content, Open}
use Rattle.soc_multipart.specs.Chains.{Chain, HasNoStep}
use Rattle.soc_text.specs.Lines.{crlf}
use Rattle.soc_multipart.specs.Heads.{head_limit, LineText, ReadsLine, IsHead, MayBeHead, EndsInContent, HasNoContent, IsHeadEnd}
use Rattle.soc_multipart.specs.Parts.{PartText, EndsHead, HoldsHead, IsPart, HasNoLineEnd, CutsHead, MayBePart}
use Rattle.soc_multipart.proofs.ChainLemmas.{chain_once}
use Rattle.soc_multipart.proofs.DispositionLemmas.{head_once}
use Rattle.soc_multipart.proofs.DelimiterLemmas.{occurs_from_at, at_from_occurs}
use Rattle.soc_multipart.proofs.HeadLemmas.{line_once, line_end_stuck, nothing_stuck}

-- a head's end is no line
pub ends_stuck : (tail content : List ℕ) → EndsHead tail content → HasNoStep ReadsLine tail
ends_stuck tail content (inl (e, f)) = subst (HasNoStep ReadsLine) (sym e) nothing_stuck
ends_stuck tail content (inr e) = subst (HasNoStep ReadsLine) (sym e) (line_end_stuck content)

nil_not_line_end : (rest : List ℕ) → ¬ ([] ≡ crlf ++ rest)
nil_not_line_end rest e = cc

ends_once : (tail c d : List ℕ) → EndsHead tail c → EndsHead tail d → c ≡ d
ends_once tail c d (inl (e, f)) (inl (g, h)) = f ∙ sym h
ends_once tail c d (inl (e, f)) (inr g) = absurd (nil_not_line_end d (sym e ∙ g))
ends_once tail c d (inr e) (inl (g, h)) = absurd (nil_not_line_end c (sym g ∙ e))
ends_once tail c d (inr e) (inr g) = append_cancel_left crlf c d (sym e ∙ g)

pub holds_once : (piece : List ℕ) (ls ms : List LineText) (c d : List ℕ) → HoldsHead piece ls c → HoldsHead piece ms d → (ls ≡ ms) × (c ≡ d)
holds_once piece ls ms c d a b =
    let both : (ls ≡ ms) × (a.tail ≡ b.tail) =
    chain_once ReadsLine line_once piece ls ms a.tail b.tail a.in_order (ends_stuck a.tail c a.ends) b.in_order (ends_stuck b.tail d b.ends) in
    (both.0, ends_once b.tail c d (subst (λ (x : List ℕ). EndsHead x c) both.1 a.ends) b.ends)

-- a head that is open holds no content, unless its lines are the whole piece
open_apart : (piece tail : List ℕ) (ls ms : List LineText) (c : List ℕ) → Chain ReadsLine piece ls tail → HasNoContent piece → (length piece ≤ head_limit → HasNoStep ReadsLine tail)
    → HoldsHead piece ms c → (tail ≡ []) × (length piece ≤ head_limit)
open_apart piece tail ls ms c a none stuck b = go b.ends
  where
    go : EndsHead b.tail c → (tail ≡ []) × (length piece ≤ head_limit)
    go (inr e) = absurd (none ms c (record { in_order = subst (λ (x : List ℕ). Chain ReadsLine piece ms x) e b.in_order; short = b.short }))
    go (inl (e, f)) =
        let few : length piece ≤ head_limit = omega (arith, b.short, ap length f) in
        ((chain_once ReadsLine line_once piece ls ms tail b.tail a (stuck few) b.in_order (ends_stuck b.tail c b.ends)).1 ∙ e, few)

pub open_not_empty : (piece tail : List ℕ) (ls : List LineText) → Chain ReadsLine piece ls tail × HasNoContent piece × (length piece ≤ head_limit → HasNoStep ReadsLine tail)
    → (length tail ≡ 0 → ⊥) → (ms : List LineText) (c : List ℕ) → ¬ (HoldsHead piece ms c)
open_not_empty piece tail ls a some ms c b = some (ap length (open_apart piece tail ls ms c a.0 a.1 a.2 b).0)

pub open_too_long : (piece tail : List ℕ) (ls : List LineText) → Chain ReadsLine piece ls tail × HasNoContent piece × (length piece ≤ head_limit → HasNoStep ReadsLine tail)
    → head_limit < length piece → (ms : List LineText) (c : List ℕ) → ¬ (HoldsHead piece ms c)
open_too_long piece tail ls a long ms c b =
    let few : length piece ≤ head_limit = (open_apart piece tail ls ms c a.0 a.1 a.2 b).1 in absurd (omega arith)

-- parts
pub no_content_no_part : (piece : List ℕ) → ((ls : List LineText) (c : List ℕ) → ¬ (HoldsHead piece ls c)) → (part : PartText) → ¬ (IsPart piece part)
no_content_no_part piece h part p = h p.lines part.content p.holds

pub no_head_no_part : (piece : List ℕ) (ls : List LineText) (c : List ℕ) → HoldsHead piece ls c
    → ((name kind : List ℕ) (file : Option (List ℕ)) → ¬ (IsHead ls name file kind)) → (part : PartText) → ¬ (IsPart piece part)
no_head_no_part piece ls c a h part p =
    h part.name part.kind part.file
    (subst (λ (x : List LineText). IsHead x part.name part.file part.kind) (sym (holds_once piece ls p.lines c part.content a p.holds).0) p.says)

part_same : (p q : PartText) → p.name ≡ q.name → p.file ≡ q.file → p.kind ≡ q.kind → p.content ≡ q.content → p ≡ q
part_same p q e f g h =
    ap (λ (n : List ℕ). let x : PartText = record { name = n; file = p.file; kind = p.kind; content = p.content } in x) e
    ∙ (ap (λ (n : Option (List ℕ)). let x : PartText = record { name = q.name; file = n; kind = p.kind; content = p.content } in x) f
    ∙ (ap (λ (n : List ℕ). let x : PartText = record { name = q.name; file = q.file; kind = n; content = p.content } in x) g
    ∙ ap (λ (n : List ℕ). let x : PartText = record { name = q.name; file = q.file; kind = q.kind; content = n } in x) h))

pub part_once : (piece : List ℕ) (p q : PartText) → IsPart piece p → IsPart piece q → p ≡ q
part_once piece p q a b =
    let both : (a.lines ≡ b.lines) × (p.content ≡ q.content) = holds_once piece a.lines b.lines p.content q.content a.holds b.holds in
    let heads : (p.name ≡ q.name) × (p.file ≡ q.file) × (p.kind ≡ q.kind) =
    head_once b.lines p.name q.name p.kind q.kind p.file q.file
    (subst (λ (x : List LineText). IsHead x p.name p.file p.kind) both.0 a.says) b.says in
    part_same p q heads.0 heads.1 heads.2 both.1

-- a line end in a text
pub no_line_end_found : (text : List ℕ) → IsFirst (OccursAt text crlf) 0 (length text + 1) None → HasNoLineEnd text
no_line_end_found text none front back e =
    let at : drop (0 + length front) text ≡ crlf ++ back =
    ap (λ (n : ℕ). drop n text) (omega arith) ∙ (ap (drop (length front)) e ∙ drop_at front (crlf ++ back) (length front) refl) in
    let o : OccursAt text crlf (length front) = occurs_from_at crlf text 0 (length front) back (omega arith) at in
    none (length front) (omega arith) (omega (arith, o.fits)) o

pub line_end_found : (text : List ℕ) (k : ℕ) → OccursAt text crlf k → ¬ (HasNoLineEnd text)
line_end_found text k o h =
    let at : drop (0 + k) text ≡ crlf ++ drop (0 + k + length crlf) text = at_from_occurs crlf text 0 k o in
    h (take (0 + k) text) (drop (0 + k + length crlf) text)
    (sym (take-append-drop (0 + k) text) ∙ ap (λ (x : List ℕ). take (0 + k) text ++ x) at)

-- pieces that the body's end cuts off
pub open_line_stuck : (tail : List ℕ) → HasNoLineEnd tail → HasNoStep ReadsLine tail
open_line_stuck tail h l r a =
    h (l.name ++ (58 ∷ l.raw)) r (a.whole ∙ sym (append_assoc l.name (58 ∷ l.raw) (crlf ++ r)))

pub may_content : {X : Type 0} (piece c : List ℕ) (ls : List LineText) (head : Option X) (r : Bool) (name : X → List ℕ) (file : X → Option (List ℕ)) (kind : X → List ℕ)
    → EndsInContent piece ls c
    → MatchOption head ((name kind : List ℕ) (file : Option (List ℕ)) → ¬ (IsHead ls name file kind)) (λ x. IsHead ls (name x) (file x) (kind x))
    → r ≡ is_some head → IsTrue r ↔ MayBePart piece
may_content piece c ls head r name file kind a h e = (forth head r h e, back head r h e)
  where
    forth : (head : Option _) (r : Bool) → MatchOption head ((name kind : List ℕ) (file : Option (List ℕ)) → ¬ (IsHead ls name file kind)) (λ x. IsHead ls (name x) (file x) (kind x)) → r ≡ is_some head → IsTrue r → MayBePart piece
    forth None r h e is = absurd (let clash : ⊥ = cc in clash)
    forth (Some x) r h e is = inl (record { lines = ls; content = c; name = name x; file = file x; kind = kind x; ends = a; says = h })

    back : (head : Option _) (r : Bool) → MatchOption head ((name kind : List ℕ) (file : Option (List ℕ)) → ¬ (IsHead ls name file kind)) (λ x. IsHead ls (name x) (file x) (kind x)) → r ≡ is_some head → MayBePart piece → IsTrue r
    back (Some x) r h e m = e
    back None r h e (inl k) =
        let same : ls ≡ k.lines =
        (chain_once ReadsLine line_once piece ls k.lines (crlf ++ c) (crlf ++ k.content) a.in_order (line_end_stuck c) k.ends.in_order (line_end_stuck k.content)).0 in
        absurd (h k.name k.kind k.file (subst (λ (x : List LineText). IsHead x k.name k.file k.kind) (sym same) k.says))
    back None r h e (inr k) =
        let tails : crlf ++ c ≡ k.tail =
        (chain_once ReadsLine line_once piece ls k.lines (crlf ++ c) k.tail a.in_order (line_end_stuck c) k.in_order (open_line_stuck k.tail k.open_line)).1 in
        absurd (k.open_line [] c (sym tails))

pub long_open : (piece tail : List ℕ) (ls : List LineText) → Chain ReadsLine piece ls tail × HasNoContent piece × (length piece ≤ head_limit → HasNoStep ReadsLine tail)
    → head_limit ≤ length piece → ¬ (MayBePart piece)
long_open piece tail ls a long (inl k) = a.1 k.lines k.content k.ends
long_open piece tail ls a long (inr k) = let few : length piece < head_limit = k.short in absurd (omega arith)

tails_same : (piece tail : List ℕ) (ls : List LineText) → Chain ReadsLine piece ls tail → (length piece ≤ head_limit → HasNoStep ReadsLine tail) → (k : CutsHead piece)
    → (ls ≡ k.lines) × (tail ≡ k.tail)
tails_same piece tail ls a stuck k =
    let few : length piece < head_limit = k.short in
    chain_once ReadsLine line_once piece ls k.lines tail k.tail a (stuck (omega arith)) k.in_order (open_line_stuck k.tail k.open_line)

pub ended_open : (piece tail : List ℕ) (ls : List LineText) → Chain ReadsLine piece ls tail × HasNoContent piece × (length piece ≤ head_limit → HasNoStep ReadsLine tail)
    → ¬ (HasNoLineEnd tail) → ¬ (MayBePart piece)
ended_open piece tail ls a h (inl k) = a.1 k.lines k.content k.ends
ended_open piece tail ls a h (inr k) = h (subst HasNoLineEnd (sym (tails_same piece tail ls a.0 a.2 k).1) k.open_line)

pub may_open : (piece tail : List ℕ) (ls : List LineText) (r : Bool) → Chain ReadsLine piece ls tail × HasNoContent piece × (length piece ≤ head_limit → HasNoStep ReadsLine tail)
    → HasNoLineEnd tail → length piece < head_limit → (IsTrue r ↔ MayBeHead ls) → IsTrue r ↔ MayBePart piece
may_open piece tail ls r a h short e = (
  λ is. inr (record { lines = ls; tail = tail; in_order = a.0; open_line = h; short = short; may_be = e.0 is }),
  λ m. back m,
)
  where
    back : MayBePart piece → IsTrue r
    back (inl k) = absurd (a.1 k.lines k.content k.ends)
    back (inr k) = e.1 (subst MayBeHead (sym (tails_same piece tail ls a.0 a.2 k).0) k.may_be)

-- a test that is false, for a fact that does not hold
pub never : {P : Type 0} → ¬ P → IsTrue false ↔ P
never h = (λ is. absurd (let clash : ⊥ = cc in clash), λ p. absurd (h p))

-- how a head ends, in a slice of the vector of its lines
pub end_in_slice : (piece : List ℕ) (slice items : List Line) (end : HeadEnd) → slice ≡ items → IsHeadEnd piece (line_texts items) end → IsHeadEnd piece (line_texts slice) end
end_in_slice piece slice items end e h = subst (λ (x : List Line). IsHeadEnd piece (line_texts x) end) (sym e) h

pub ends_content : (piece : List ℕ) (ls : List LineText) (end : HeadEnd) (c : Bor (List ℕ)) → end ≡ Content c → IsHeadEnd piece ls end → EndsInContent piece ls c.now
ends_content piece ls end c e h = subst (λ (x : HeadEnd). IsHeadEnd piece ls x) e h

pub ends_open : (piece : List ℕ) (ls : List LineText) (end : HeadEnd) (tail : Bor (List ℕ)) → end ≡ Open tail → IsHeadEnd piece ls end
    → Chain ReadsLine piece ls tail.now × HasNoContent piece × (length piece ≤ head_limit → HasNoStep ReadsLine tail.now)
ends_open piece ls end tail e h = subst (λ (x : HeadEnd). IsHeadEnd piece ls x) e h

pub line_end_test : (text : List ℕ) (found : Option ℕ) (r : Bool) → FindsNeedle text crlf 0 found → r ≡ is_some found → MatchBool r (¬ (HasNoLineEnd text)) (HasNoLineEnd text)
line_end_test text None r h e = subst (λ (x : Bool). MatchBool x (¬ (HasNoLineEnd text)) (HasNoLineEnd text)) (sym e) (no_line_end_found text h)
line_end_test text (Some k) r h e = subst (λ (x : Bool). MatchBool x (¬ (HasNoLineEnd text)) (HasNoLineEnd text)) (sym e) (line_end_found text k h.1)

pub holds_in_slice : (piece : List ℕ) (slice items : List Line) (c : List ℕ) → slice ≡ items → HoldsHead piece (line_texts items) c → HoldsHead piece (line_texts slice) c
holds_in_slice piece slice items c e h = subst (λ (x : List Line). HoldsHead piece (line_texts x) c) (sym e) h

pub may_in_slice : (slice items : List Line) (r : Bool) → slice ≡ items → (IsTrue r ↔ MayBeHead (line_texts slice)) → IsTrue r ↔ MayBeHead (line_texts items)
may_in_slice slice items r e h = subst (λ (x : List Line). IsTrue r ↔ MayBeHead (line_texts x)) e h
