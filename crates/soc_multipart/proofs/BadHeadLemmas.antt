-- What the first bytes of a part say of every part that begins with them.
use Rattle.std.proofs.Common.{◌≡◌, ℕ, zero, suc, ◌+◌, ◌-◌, ◌<◌, ◌≤◌, List, [], ◌∷◌, ◌++◌, length, take, drop, Bool, true, false, sym, refl, ap, ◌∙◌, subst, arith, append_assoc, ◌⊎◌, inl, inr, Option, None, Some, MatchOption}
use Rattle.std.specs.List.{AllPass}
use Rattle.std.proofs.lemmas.List.{append-nil, length-append}
use Rattle.std.proofs.lemmas.List.Elements.{All-nil, All-cons, All-append}
use Rattle.std.proofs.lemmas.Bool.{cases_Bool}
use Rattle.std.proofs.lemmas.Bool.Decides.{nat_tests}
use Rattle.soc_base.proofs.Folk.{not_both}
use Rattle.soc_multipart.specs.declared.dispositions.Head.{Head}
use Rattle.soc_multipart.specs.Chains.{Chain, HasNoStep}
use Rattle.soc_text.specs.Lines.{crlf}
use Rattle.soc_text.specs.Tokens.{is_token_byte}
use Rattle.soc_multipart.specs.Heads.{head_limit, LineText, is_line_byte, ReadsLine, IsHead, EndsInContent, HasNoContent}
use Rattle.soc_multipart.specs.Parts.{PartText, EndsHead, HoldsHead, IsPart, HasNoLineEnd, CutsContent, CutsHead, MayBePart}
use Rattle.soc_multipart.specs.inner.Sections.{part_with, IsGoodHead, BeginsNoPart}
use Rattle.soc_multipart.specs.inner.Tails.{is_inline}
use Rattle.soc_multipart.proofs.ChainLemmas.{chain_once, chain_end}
use Rattle.soc_multipart.proofs.HeadLemmas.{line_once, line_end_stuck, lines_longer, lines_shorter, lines_front, parted}
use Rattle.soc_multipart.proofs.PartLemmas.{ends_stuck, open_line_stuck}
use Rattle.soc_multipart.proofs.TailLemmas.{feed_behind}

heads : (x y : ℕ) (xs ys : List ℕ) → x ∷ xs ≡ y ∷ ys → (x ≡ y) × (xs ≡ ys)
heads x y xs ys e = (cc, cc)

-- the lines of two texts, one of which begins with the other, where both chains end
same_lines : (text : List ℕ) (ls ms : List LineText) (r s : List ℕ) → Chain ReadsLine text ls r → HasNoStep ReadsLine r → Chain ReadsLine text ms s → HasNoStep ReadsLine s → (ls ≡ ms) × (r ≡ s)
same_lines text ls ms r s a h b k = chain_once ReadsLine line_once text ls ms r s a h b k

-- a good head
pub good_head : (text content : List ℕ) (ls : List LineText) (head : Head) → EndsInContent text ls content → IsHead ls head.name head.file head.kind
    → (front : List ℕ) × (text ≡ front ++ (crlf ++ content)) × IsGoodHead front head
good_head text content ls head a says =
    let f : (front : List ℕ) × (text ≡ front ++ (crlf ++ content)) = lines_front text ls (crlf ++ content) a.in_order in
    let front : List ℕ = f.0 in
    let alone : Chain ReadsLine front ls [] =
    lines_shorter front ls [] (crlf ++ content) (subst (λ (x : List ℕ). Chain ReadsLine x ls (crlf ++ content)) f.1 a.in_order) in
    let short : length front + 2 ≤ head_limit = omega (arith, a.short, ap length f.1, length-append front (crlf ++ content)) in (
      front,
      f.1,
      record {
        alone = record {
          lines = ls;
          holds = record { tail = []; in_order = alone; ends = inl (refl, refl); short = omega arith };
          says = says;
        };
        before_content = λ c. record {
          lines = ls;
          holds = record {
            tail = crlf ++ c;
            in_order = lines_longer front ls [] (crlf ++ c) alone;
            ends = inr refl;
            short = omega (arith, length-append front (crlf ++ c));
          };
          says = says;
        };
        cut_off = λ c.
            inl
            (record {
              lines = ls;
              content = c;
              name = head.name;
              file = head.file;
              kind = head.kind;
              ends = record { in_order = lines_longer front ls [] (crlf ++ c) alone; short = omega (arith, length-append front (crlf ++ c)) };
              says = says;
            });
      },
    )

-- a head that ends in a content and is bad
no_line_end_front : (content : List ℕ) → ¬ (HasNoLineEnd (crlf ++ content))
no_line_end_front content h = h [] content refl

pub bad_head_alone : (front content : List ℕ) (ls : List LineText) → EndsInContent (front ++ crlf) ls content
    → ((name kind : List ℕ) (file : Option (List ℕ)) → ¬ (IsHead ls name file kind)) → (part : PartText) → ¬ (IsPart front part)
bad_head_alone front content ls a bad part p =
    let longer : Chain ReadsLine (front ++ crlf) p.lines (p.holds.tail ++ crlf) = lines_longer front p.lines p.holds.tail crlf p.holds.in_order in
    let same : ls ≡ p.lines =
    (same_lines (front ++ crlf) ls p.lines (crlf ++ content) (p.holds.tail ++ crlf) a.in_order (line_end_stuck content) longer (stuck p.holds.tail part.content p.holds.ends)).0 in
    bad part.name part.kind part.file (subst (λ (x : List LineText). IsHead x part.name part.file part.kind) (sym same) p.says)
  where
    stuck : (tail c : List ℕ) → EndsHead tail c → HasNoStep ReadsLine (tail ++ crlf)
    stuck tail c (inl (e, f)) = subst (λ (x : List ℕ). HasNoStep ReadsLine (x ++ crlf)) (sym e) (line_end_stuck [])
    stuck tail c (inr e) = subst (λ (x : List ℕ). HasNoStep ReadsLine (x ++ crlf)) (sym e) (line_end_stuck (c ++ crlf))

pub bad_head_before : (text content : List ℕ) (ls : List LineText) → EndsInContent text ls content
    → ((name kind : List ℕ) (file : Option (List ℕ)) → ¬ (IsHead ls name file kind)) → BeginsNoPart text
bad_head_before text content ls a bad = record {
  never = λ more part p.
      let same : ls ≡ p.lines =
      (same_lines (text ++ more) ls p.lines (crlf ++ (content ++ more)) p.holds.tail (longer more) (line_end_stuck (content ++ more)) p.holds.in_order
      (ends_stuck p.holds.tail part.content p.holds.ends)).0 in
      bad part.name part.kind part.file (subst (λ (x : List LineText). IsHead x part.name part.file part.kind) (sym same) p.says);
  never_cut = λ more m. cut more m;
}
  where
    longer : (more : List ℕ) → Chain ReadsLine (text ++ more) ls (crlf ++ (content ++ more))
    longer more = lines_longer text ls (crlf ++ content) more a.in_order

    cut : (more : List ℕ) → ¬ (MayBePart (text ++ more))
    cut more (inl k) =
        let same : ls ≡ k.lines =
        (same_lines (text ++ more) ls k.lines (crlf ++ (content ++ more)) (crlf ++ k.content) (longer more) (line_end_stuck (content ++ more)) k.ends.in_order (line_end_stuck k.content)).0 in
        bad k.name k.kind k.file (subst (λ (x : List LineText). IsHead x k.name k.file k.kind) (sym same) k.says)
    cut more (inr k) =
        let same : crlf ++ (content ++ more) ≡ k.tail =
        (same_lines (text ++ more) ls k.lines (crlf ++ (content ++ more)) k.tail (longer more) (line_end_stuck (content ++ more)) k.in_order (open_line_stuck k.tail k.open_line)).1 in
        no_line_end_front (content ++ more) (subst HasNoLineEnd (sym same) k.open_line)

-- a line that is none stays none, once it has ended
no_feed : (c : ℕ) → is_inline c ≡ false → c ≡ 10
no_feed c h = grind (arith, nat_tests)

token_inline : (c : ℕ) → is_token_byte c ≡ true → is_inline c ≡ true
unfolding is_token_byte
token_inline c h =
    elim (cases_Bool (is_inline c)) [ inl e ↦ e | inr e ↦ absurd (not_both (is_token_byte c) h (ap is_token_byte (no_feed c e))) ]

line_inline : (c : ℕ) → is_line_byte c ≡ true → is_inline c ≡ true
line_inline c h =
    elim (cases_Bool (is_inline c)) [ inl e ↦ e | inr e ↦ absurd (not_both (is_line_byte c) h (ap is_line_byte (no_feed c e))) ]

abbrev spelled_line : LineText → List ℕ
spelled_line l = l.name ++ (58 ∷ (l.raw ++ 13 ∷ []))

spelled_inline : (t : List ℕ) (l : LineText) (r : List ℕ) → ReadsLine t l r → AllPass is_inline (spelled_line l)
spelled_inline t l r a =
    let raw : AllPass is_inline l.raw = λ k d h. line_inline _ (a.passes k d h) in
    let name : AllPass is_inline l.name = λ k d h. token_inline _ (a.token.passes k d h) in
    All-append (λ x. is_inline x ≡ true) l.name (58 ∷ (l.raw ++ 13 ∷ [])) name
    (All-cons (λ x. is_inline x ≡ true) 58 (l.raw ++ 13 ∷ []) refl
    (All-append (λ x. is_inline x ≡ true) l.raw (13 ∷ []) raw (All-cons (λ x. is_inline x ≡ true) 13 [] refl (All-nil (λ x. is_inline x ≡ true)))))

line_whole : (t : List ℕ) (l : LineText) (r : List ℕ) → t ≡ l.name ++ (58 ∷ (l.raw ++ (crlf ++ r))) → t ≡ spelled_line l ++ (10 ∷ r)
line_whole t l r e =
    e
    ∙ (ap (λ (x : List ℕ). l.name ++ (58 ∷ x)) (sym (append_assoc l.raw (13 ∷ []) (10 ∷ r)))
    ∙ sym (append_assoc l.name (58 ∷ (l.raw ++ 13 ∷ [])) (10 ∷ r)))

line_from : (t : List ℕ) (l : LineText) (r s : List ℕ) (u : List ℕ) → ReadsLine u l s → t ≡ spelled_line l ++ (10 ∷ r) → ReadsLine t l r
line_from t l r s u a e = record {
  token = a.token;
  passes = a.passes;
  whole =
      e
      ∙ (append_assoc l.name (58 ∷ (l.raw ++ 13 ∷ [])) (10 ∷ r)
      ∙ ap (λ (x : List ℕ). l.name ++ (58 ∷ x)) (append_assoc l.raw (13 ∷ []) (10 ∷ r)));
}

stuck_longer : (tail more : List ℕ) → HasNoStep ReadsLine tail → ¬ (HasNoLineEnd tail) → HasNoStep ReadsLine (tail ++ more)
stuck_longer tail more stuck ended l r a = ended (λ front back e. go front back e)
  where
    go : (front back : List ℕ) → ¬ (tail ≡ front ++ (crlf ++ back))
    go front back e =
        let whole : tail ++ more ≡ spelled_line l ++ (10 ∷ r) = line_whole (tail ++ more) l r a.whole in
        let cut : tail ++ more ≡ (front ++ 13 ∷ []) ++ (10 ∷ (back ++ more)) =
        ap (λ (x : List ℕ). x ++ more) e
        ∙ (append_assoc front (crlf ++ back) more ∙ sym (append_assoc front (13 ∷ []) (10 ∷ (back ++ more)))) in
        let less : length (spelled_line l) ≤ length (front ++ 13 ∷ []) =
        feed_behind (spelled_line l) (10 ∷ r) (front ++ 13 ∷ []) (back ++ more) (spelled_inline (tail ++ more) l r a) (sym whole ∙ cut) in
        let spelled : List ℕ = spelled_line l ++ 10 ∷ [] in
        let parts : tail ++ more ≡ spelled ++ r = whole ∙ sym (append_assoc (spelled_line l) (10 ∷ []) r) in
        let p : (c : List ℕ) × (tail ≡ spelled ++ c) × (r ≡ c ++ more) =
        parted tail more spelled r parts
        (omega (arith, ap length e, length-append front (crlf ++ back), length-append front (13 ∷ []), length-append (spelled_line l) (10 ∷ []))) in
        stuck l p.0 (line_from tail l p.0 r (tail ++ more) a (p.1 ∙ append_assoc (spelled_line l) (10 ∷ []) p.0))

-- an open head whose last line has ended
begins_line_end : (tail more c : List ℕ) → ¬ (HasNoLineEnd tail) → tail ++ more ≡ crlf ++ c → (d : List ℕ) × (tail ≡ crlf ++ d)
begins_line_end [] more c ended e = absurd (ended (λ front back f. absurd (omega (arith, ap length f, length-append front (crlf ++ back)))))
begins_line_end (x ∷ []) more c ended e = absurd (ended (λ front back f. absurd (omega (arith, ap length f, length-append front (crlf ++ back)))))
begins_line_end (x ∷ y ∷ tail) more c ended e =
    let first : (x ≡ 13) × (y ∷ (tail ++ more) ≡ 10 ∷ c) = heads x 13 (y ∷ (tail ++ more)) (10 ∷ c) e in
    let second : (y ≡ 10) × (tail ++ more ≡ c) = heads y 10 (tail ++ more) c first.1 in
    (tail, (let p : x ≡ 13 = first.0 in let q : y ≡ 10 = second.0 in cc))

open_no_content : (text tail more c : List ℕ) (ls : List LineText) → Chain ReadsLine text ls tail → HasNoContent text → length text ≤ head_limit → ¬ (HasNoLineEnd tail) → ¬ (tail ++ more ≡ crlf ++ c)
open_no_content text tail more c ls a none short ended e =
    let d : (d : List ℕ) × (tail ≡ crlf ++ d) = begins_line_end tail more c ended e in
    none ls d.0 (record { in_order = chain_end ReadsLine text ls tail (crlf ++ d.0) d.1 a; short = omega arith })

open_not_nothing : (tail more : List ℕ) → ¬ (HasNoLineEnd tail) → ¬ (tail ++ more ≡ [])
open_not_nothing [] more ended e = ended (λ front back f. absurd (omega (arith, ap length f, length-append front (crlf ++ back))))
open_not_nothing (x ∷ tail) more ended e = absurd (let clash : ⊥ = cc in clash)

pub open_before : (text tail : List ℕ) (ls : List LineText) → Chain ReadsLine text ls tail × HasNoContent text × (length text ≤ head_limit → HasNoStep ReadsLine tail)
    → length text ≤ head_limit → ¬ (HasNoLineEnd tail) → BeginsNoPart text
open_before text tail ls a short ended = record {
  never = λ more part p.
      let both : (ls ≡ p.lines) × (tail ++ more ≡ p.holds.tail) =
      same_lines (text ++ more) ls p.lines (tail ++ more) p.holds.tail (longer more) (stuck more) p.holds.in_order (ends_stuck p.holds.tail part.content p.holds.ends) in
      part_ends more part.content (subst (λ (x : List ℕ). EndsHead x part.content) (sym both.1) p.holds.ends);
  never_cut = λ more m. cut more m;
}
  where
    longer : (more : List ℕ) → Chain ReadsLine (text ++ more) ls (tail ++ more)
    longer more = lines_longer text ls tail more a.0

    stuck : (more : List ℕ) → HasNoStep ReadsLine (tail ++ more)
    stuck more = stuck_longer tail more (a.2 short) ended

    part_ends : (more c : List ℕ) → EndsHead (tail ++ more) c → ⊥
    part_ends more c (inl (e, f)) = open_not_nothing tail more ended e
    part_ends more c (inr e) = open_no_content text tail more c ls a.0 a.1 short ended e

    cut : (more : List ℕ) → ¬ (MayBePart (text ++ more))
    cut more (inl k) =
        let same : tail ++ more ≡ crlf ++ k.content =
        (same_lines (text ++ more) ls k.lines (tail ++ more) (crlf ++ k.content) (longer more) (stuck more) k.ends.in_order (line_end_stuck k.content)).1 in
        open_no_content text tail more k.content ls a.0 a.1 short ended same
    cut more (inr k) =
        let same : tail ++ more ≡ k.tail =
        (same_lines (text ++ more) ls k.lines (tail ++ more) k.tail (longer more) (stuck more) k.in_order (open_line_stuck k.tail k.open_line)).1 in
        ended (λ front back e.
        k.open_line front (back ++ more)
        (sym same ∙ (ap (λ (x : List ℕ). x ++ more) e ∙ append_assoc front (crlf ++ back) more)))

pub open_alone : (front tail : List ℕ) (ls : List LineText) → Chain ReadsLine (front ++ crlf) ls tail × HasNoContent (front ++ crlf) × (length (front ++ crlf) ≤ head_limit → HasNoStep ReadsLine tail)
    → length (front ++ crlf) ≤ head_limit → (part : PartText) → ¬ (IsPart front part)
open_alone front tail ls a short part p = go p.holds.ends
  where
    longer : Chain ReadsLine (front ++ crlf) p.lines (p.holds.tail ++ crlf)
    longer = lines_longer front p.lines p.holds.tail crlf p.holds.in_order

    go : EndsHead p.holds.tail part.content → ⊥
    go (inl (e, f)) =
        a.1 p.lines []
        (record { in_order = chain_end ReadsLine (front ++ crlf) p.lines (p.holds.tail ++ crlf) (crlf ++ []) (ap (λ (x : List ℕ). x ++ crlf) e) longer; short = omega arith })
    go (inr e) =
        a.1 p.lines (part.content ++ crlf)
        (record {
          in_order = chain_end ReadsLine (front ++ crlf) p.lines (p.holds.tail ++ crlf) (crlf ++ (part.content ++ crlf)) (ap (λ (x : List ℕ). x ++ crlf) e) longer;
          short = omega arith;
        })

-- more bytes than a head may have, with no end of one
content_inside : (text more c : List ℕ) (ls : List LineText) → Chain ReadsLine (text ++ more) ls (crlf ++ c) → length (text ++ more) ≤ head_limit + length c → head_limit < length text → ¬ (HasNoContent text)
content_inside text more c ls a short long none =
    let f : (front : List ℕ) × (text ++ more ≡ front ++ (crlf ++ c)) = lines_front (text ++ more) ls (crlf ++ c) a in
    let cut : text ++ more ≡ (f.0 ++ crlf) ++ c = f.1 ∙ sym (append_assoc f.0 crlf c) in
    let sizes : length (text ++ more) ≡ length (f.0 ++ crlf) + length c = ap length cut ∙ length-append (f.0 ++ crlf) c in
    let p : (d : List ℕ) × (text ≡ (f.0 ++ crlf) ++ d) × (c ≡ d ++ more) = parted text more (f.0 ++ crlf) c cut (omega arith) in
    none ls p.0
    (record {
      in_order = lines_shorter text ls (crlf ++ p.0) more (chain_end ReadsLine (text ++ more) ls (crlf ++ c) ((crlf ++ p.0) ++ more) (ap (λ (x : List ℕ). crlf ++ x) p.2) a);
      short = omega (arith, ap length p.1, length-append (f.0 ++ crlf) p.0);
    })

pub too_long : (text : List ℕ) → HasNoContent text → head_limit < length text → BeginsNoPart text
too_long text none long = record {
  never = λ more part p. go more part p p.holds.ends;
  never_cut = λ more m. cut more m;
}
  where
    go : (more : List ℕ) (part : PartText) → (p : IsPart (text ++ more) part) → EndsHead p.holds.tail part.content → ⊥
    go more part p (inl (e, f)) = absurd (omega (arith, p.holds.short, ap length f, length-append text more, long))
    go more part p (inr e) =
        content_inside text more part.content p.lines (chain_end ReadsLine (text ++ more) p.lines p.holds.tail (crlf ++ part.content) e p.holds.in_order) p.holds.short long none

    cut : (more : List ℕ) → ¬ (MayBePart (text ++ more))
    cut more (inl k) = content_inside text more k.content k.lines k.ends.in_order k.ends.short long none
    cut more (inr k) = absurd (omega (arith, k.short, length-append text more, long))

-- what lines say of a head, by how they end
pub bad_lines_so : (text front content : List ℕ) (ls : List LineText) → EndsInContent text ls content → ((name kind : List ℕ) (file : Option (List ℕ)) → ¬ (IsHead ls name file kind)) → text ≡ front ++ crlf
    → ((part : PartText) → ¬ (IsPart front part)) × BeginsNoPart text
bad_lines_so text front content ls a bad e =
    (bad_head_alone front content ls (subst (λ (x : List ℕ). EndsInContent x ls content) e a) bad, bad_head_before text content ls a bad)

pub good_lines_so : (text content items : List ℕ) (ls : List LineText) (head : Head) → EndsInContent text ls content → IsHead ls head.name head.file head.kind → items ≡ content
    → (front : List ℕ) × (text ≡ front ++ (crlf ++ items)) × IsGoodHead front head
good_lines_so text content items ls head a says e =
    let g : (front : List ℕ) × (text ≡ front ++ (crlf ++ content)) × IsGoodHead front head = good_head text content ls head a says in
    (g.0, g.1 ∙ ap (λ (x : List ℕ). g.0 ++ (crlf ++ x)) (sym e), g.2)

pub open_lines_so : (text front tail : List ℕ) (ls : List LineText) → Chain ReadsLine text ls tail × HasNoContent text × (length text ≤ head_limit → HasNoStep ReadsLine tail)
    → length text ≤ head_limit → ¬ (HasNoLineEnd tail) → text ≡ front ++ crlf → ((part : PartText) → ¬ (IsPart front part)) × BeginsNoPart text
open_lines_so text front tail ls a short ended e = (
  open_alone front tail ls (subst (λ (x : List ℕ). Chain ReadsLine x ls tail × HasNoContent x × (length x ≤ head_limit → HasNoStep ReadsLine tail)) e a)
      (subst (λ (x : List ℕ). length x ≤ head_limit) e short),
  open_before text tail ls a short ended,
)
