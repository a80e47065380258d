-- That a body has one list of parts or one refusal.
use Rattle.std.proofs.Common.{◌≡◌, ℕ, ◌+◌, ◌<◌, List, [], ◌∷◌, ◌++◌, length, take, drop, get_or, Bool, true, false, sym, refl, ap, ◌∙◌, subst, arith, ◌⊎◌, inl, inr}
use Rattle.std.proofs.Common.{Bor}
use Rattle.std.proofs.lemmas.Bool.{cases_lt}
use Rattle.std.proofs.lemmas.List.{append_cancel_left, length-append, length-map, take_at, drop_at, map_push}
use Rattle.soc_base.proofs.Folk.{not_both}
use Rattle.soc_multipart.specs.declared.delimiters.Ending.{Ending}
use Rattle.soc_multipart.specs.declared.delimiters.Ending.TheVariants.{Opening}
use Rattle.soc_multipart.specs.declared.parts.PartsError.{PartsError}
use Rattle.soc_multipart.specs.declared.parts.PartsError.TheVariants.{BadBoundary, NoFirst, BadPartHead, NoClose, TooManyParts, NoMemory}
use Rattle.soc_multipart.specs.declared.parts.Part.{Part}
use Rattle.soc_multipart.specs.Chains.{Chain, HasNoStep}
use Rattle.soc_multipart.specs.Delimiters.{IsBoundary, mark_of, EndsOpening, EndsClosing, Opens, Closes, IsAt, IsAtDelimiter, HasNoDelimiter, Reaches, MeetsFirst}
use Rattle.soc_text.specs.Lines.{crlf}
use Rattle.soc_text.specs.Blanks.{is_blank}
use Rattle.soc_multipart.specs.Parts.{parts_limit, PartText, IsPart, MayBePart, ReadsPart, HoldsParts, Cut, OpensAfter, BeginsBadPart, PartFault, CutFault, IsOneFault}
use Rattle.soc_multipart.specs.PartViews.{part_text, part_texts}
use Rattle.soc_multipart.specs.inner.Meeting.{MeetsPart}
use Rattle.soc_multipart.proofs.Basics.{Stops, stops_cons, run_once}
use Rattle.soc_multipart.proofs.ChainLemmas.{chain_once, chain_goes_on, chain_grow}
use Rattle.soc_multipart.proofs.DelimiterLemmas.{at_from_is}
use Rattle.soc_multipart.proofs.EndLemmas.{left_behind}
use Rattle.soc_multipart.proofs.PartLemmas.{part_once}

heads : (x y : ℕ) (xs ys : List ℕ) → x ∷ xs ≡ y ∷ ys → (x ≡ y) × (xs ≡ ys)
heads x y xs ys e = (cc, cc)

-- a text has one first delimiter
not_before : (mark t f n f' n' : List ℕ) → Reaches mark t f n → IsAtDelimiter mark n → Reaches mark t f' n' → ¬ (length f < length f')
not_before mark t f n f' n' a at b l =
    b.clear (length f) l
    (subst (IsAtDelimiter mark) (sym (ap (drop (length f)) a.whole ∙ drop_at f n (length f) refl)) at)

pub reaches_once : (mark t f n f' n' : List ℕ) → Reaches mark t f n → IsAtDelimiter mark n → Reaches mark t f' n' → IsAtDelimiter mark n' → (f ≡ f') × (n ≡ n')
reaches_once mark t f n f' n' a at b at' =
    let low : ¬ (length f < length f') = not_before mark t f n f' n' a at b in
    let high : ¬ (length f' < length f) = not_before mark t f' n' f n b at' a in
    let sizes : length f ≡ length f' =
    elim (cases_lt (length f) (length f')) [
      | inl l ↦ absurd (low l)
      | inr l ↦ elim (cases_lt (length f') (length f)) [ inl m ↦ absurd (high m) | inr m ↦ omega arith ]
    ] in (
      sym (take_at f n (length f') sizes) ∙ (ap (take (length f')) (sym a.whole ∙ b.whole) ∙ take_at f' n' (length f') refl),
      sym (drop_at f n (length f') sizes) ∙ (ap (drop (length f')) (sym a.whole ∙ b.whole) ∙ drop_at f' n' (length f') refl),
    )

pub none_and_some : (mark t f n : List ℕ) → HasNoDelimiter mark t → Reaches mark t f n → ¬ (IsAtDelimiter mark n)
none_and_some mark t f n none a at =
    none (length f) (subst (IsAtDelimiter mark) (sym (ap (drop (length f)) a.whole ∙ drop_at f n (length f) refl)) at)

-- a delimiter opens one rest, or closes
line_stops : (rest : List ℕ) → Stops is_blank (crlf ++ rest)
line_stops rest = stops_cons is_blank 13 (10 ∷ rest) refl

opening_once : (after r s : List ℕ) → EndsOpening after r → EndsOpening after s → r ≡ s
opening_once after r s a b =
    append_cancel_left crlf r s
    (run_once is_blank a.pad b.pad (crlf ++ r) (crlf ++ s) (sym a.whole ∙ b.whole) a.blanks b.blanks (line_stops r) (line_stops s)).1

pub opens_once : (mark t r s : List ℕ) → Opens mark t r → Opens mark t s → r ≡ s
opens_once mark t r s a b =
    opening_once b.after r s
    (subst (λ (x : List ℕ). EndsOpening x r) (append_cancel_left mark a.after b.after (sym a.whole ∙ b.whole)) a.ends) b.ends

dash_not_return : (n : ℕ) → n ≡ 13 → ¬ (n ≡ 45)
dash_not_return n e f = absurd (omega arith)

dash_no_blank : (n : ℕ) → n ≡ 45 → is_blank n ≡ false
dash_no_blank n e = ap is_blank e

no_dash : (pad rest more : List ℕ) → ((k d : ℕ) → k < length pad → is_blank (get_or pad k d) ≡ true) → ¬ (pad ++ (crlf ++ rest) ≡ 45 ∷ more)
no_dash [] rest more h e = dash_not_return 13 refl (heads 13 45 (10 ∷ rest) more e).0
no_dash (x ∷ pad) rest more h e =
    not_both (is_blank x) (h 0 0 (omega arith)) (dash_no_blank x (heads x 45 (pad ++ (crlf ++ rest)) more e).0)

opening_or_closing : (after r : List ℕ) → EndsOpening after r → ¬ (EndsClosing after)
opening_or_closing after r a b = no_dash a.pad r (45 ∷ (b.pad ++ b.tail)) (λ k d l. a.blanks k d l) (sym a.whole ∙ b.whole)

pub opens_or_closes : (mark t r : List ℕ) → Opens mark t r → ¬ (Closes mark t)
opens_or_closes mark t r a b =
    opening_or_closing b.after r
    (subst (λ (x : List ℕ). EndsOpening x r) (append_cancel_left mark a.after b.after (sym a.whole ∙ b.whole)) a.ends) b.ends

-- parts in order
pub part_read_once : (mark : List ℕ) (t : List ℕ) (p q : PartText) (n m : List ℕ) → ReadsPart mark t p n → ReadsPart mark t q m → (p ≡ q) × (n ≡ m)
part_read_once mark t p q n m a b =
    let rests : a.rest ≡ b.rest = opens_once mark t a.rest b.rest a.opens b.opens in
    let ends : (a.piece ≡ b.piece) × (n ≡ m) =
    reaches_once mark b.rest a.piece n b.piece m (subst (λ (x : List ℕ). Reaches mark x a.piece n) rests a.reaches) a.stands b.reaches b.stands in
    (part_once b.piece p q (subst (λ (x : List ℕ). IsPart x p) ends.0 a.is_part) b.is_part, ends.1)

pub closed_stuck : (mark t : List ℕ) → Closes mark t → HasNoStep (ReadsPart mark) t
closed_stuck mark t c p n a = opens_or_closes mark t a.rest a.opens c

pub bad_stuck : (mark t rest : List ℕ) → Opens mark t rest → BeginsBadPart mark rest → HasNoStep (ReadsPart mark) t
bad_stuck mark t rest o (inl (piece, next, r, at, bad)) p n a =
    let same : rest ≡ a.rest = opens_once mark t rest a.rest o a.opens in
    let ends : (piece ≡ a.piece) × (next ≡ n) =
    reaches_once mark a.rest piece next a.piece n (subst (λ (x : List ℕ). Reaches mark x piece next) same r) at a.reaches a.stands in
    bad p (subst (λ (x : List ℕ). IsPart x p) (sym ends.0) a.is_part)
bad_stuck mark t rest o (inr (none, bad)) p n a =
    none_and_some mark rest a.piece n none
    (subst (λ (x : List ℕ). Reaches mark x a.piece n) (opens_once mark t a.rest rest a.opens o) a.reaches) a.stands

pub open_stuck : (mark t rest : List ℕ) → Opens mark t rest → HasNoDelimiter mark rest → HasNoStep (ReadsPart mark) t
open_stuck mark t rest o none p n a =
    none_and_some mark rest a.piece n none
    (subst (λ (x : List ℕ). Reaches mark x a.piece n) (opens_once mark t a.rest rest a.opens o) a.reaches) a.stands

first_once : (b body : List ℕ) (xs ys : List PartText) (n m : List ℕ) → (h : HoldsParts b body xs n) → (k : HoldsParts b body ys m) → h.first ≡ k.first
first_once b body xs ys n m h k =
    (reaches_once (mark_of b) (crlf ++ body) h.preamble h.first k.preamble k.first h.reaches h.stands k.reaches k.stands).1

pub held_once : (b body : List ℕ) (xs ys : List PartText) (n m : List ℕ) → HoldsParts b body xs n → HasNoStep (ReadsPart (mark_of b)) n
    → HoldsParts b body ys m → HasNoStep (ReadsPart (mark_of b)) m → (xs ≡ ys) × (n ≡ m)
held_once b body xs ys n m h s k t =
    chain_once (ReadsPart (mark_of b)) (part_read_once (mark_of b)) k.first xs ys n m
    (subst (λ (x : List ℕ). Chain (ReadsPart (mark_of b)) x xs n) (first_once b body xs ys n m h k) h.in_order) s k.in_order t

pub held_goes_on : (b body : List ℕ) (xs ys : List PartText) (n m : List ℕ) → HoldsParts b body xs n
    → HoldsParts b body ys m → HasNoStep (ReadsPart (mark_of b)) m → (zs : List PartText) × (ys ≡ xs ++ zs) × Chain (ReadsPart (mark_of b)) n zs m
held_goes_on b body xs ys n m h k t =
    chain_goes_on (ReadsPart (mark_of b)) (part_read_once (mark_of b)) k.first xs ys n m
    (subst (λ (x : List ℕ). Chain (ReadsPart (mark_of b)) x xs n) (first_once b body xs ys n m h k) h.in_order) k.in_order t

pub cut_once : (b body : List ℕ) (xs ys : List PartText) → Cut b body xs → Cut b body ys → xs ≡ ys
cut_once b body xs ys c d =
    (held_once b body xs ys c.last d.last c.holds (closed_stuck (mark_of b) c.last c.closes) d.holds (closed_stuck (mark_of b) d.last d.closes)).0

-- no refusal of a body that has parts
stuck_not_cut : (b body : List ℕ) (parts : List PartText) (count : ℕ) (rest : List ℕ) → Cut b body parts → (o : OpensAfter b body count rest) → HasNoStep (ReadsPart (mark_of b)) o.last → ⊥
stuck_not_cut b body parts count rest c o s =
    let same : o.last ≡ c.last =
    (held_once b body o.parts parts o.last c.last o.holds s c.holds (closed_stuck (mark_of b) c.last c.closes)).1 in
    opens_or_closes (mark_of b) c.last rest (subst (λ (x : List ℕ). Opens (mark_of b) x rest) same o.opens) c.closes

many_not_cut : (b body : List ℕ) (parts : List PartText) (rest : List ℕ) → Cut b body parts → ¬ (OpensAfter b body parts_limit rest)
many_not_cut b body parts rest c o = go (held_goes_on b body o.parts parts o.last c.last o.holds c.holds (closed_stuck (mark_of b) c.last c.closes))
  where
    go : ((zs : List PartText) × (parts ≡ o.parts ++ zs) × Chain (ReadsPart (mark_of b)) o.last zs c.last) → ⊥
    go ([], e, f) = opens_or_closes (mark_of b) c.last rest (subst (λ (x : List ℕ). Opens (mark_of b) x rest) f o.opens) c.closes
    go (z ∷ zs, e, f) = absurd (omega (arith, c.few, o.counted, ap length e, length-append o.parts (z ∷ zs)))

none_not_held : (b body : List ℕ) (parts : List PartText) (next : List ℕ) → HasNoDelimiter (mark_of b) (crlf ++ body) → ¬ (HoldsParts b body parts next)
none_not_held b body parts next none h = none_and_some (mark_of b) (crlf ++ body) h.preamble h.first none h.reaches h.stands

pub fault_not_cut : (b body : List ℕ) (parts : List PartText) (fault : PartsError) → Cut b body parts → ¬ (CutFault b body fault)
fault_not_cut b body parts BadBoundary c f = f c.good
fault_not_cut b body parts NoFirst c f = none_not_held b body parts c.last f.1 c.holds
fault_not_cut b body parts (BadPartHead n) c (rest, o, few, bad) =
    stuck_not_cut b body parts n rest c o (bad_stuck (mark_of b) o.last rest o.opens bad)
fault_not_cut b body parts NoClose c (count, rest, o, few, none, may) =
    stuck_not_cut b body parts count rest c o (open_stuck (mark_of b) o.last rest o.opens none)
fault_not_cut b body parts TooManyParts c (rest, o) = many_not_cut b body parts rest c o
fault_not_cut b body parts NoMemory c f = f

-- one refusal of a body that has none
counts_same : (b body : List ℕ) (n m : ℕ) (r s : List ℕ) → (o : OpensAfter b body n r) → HasNoStep (ReadsPart (mark_of b)) o.last → (p : OpensAfter b body m s) → HasNoStep (ReadsPart (mark_of b)) p.last
    → (n ≡ m) × (r ≡ s)
counts_same b body n m r s o k p l =
    let both : (o.parts ≡ p.parts) × (o.last ≡ p.last) = held_once b body o.parts p.parts o.last p.last o.holds k p.holds l in (
      sym o.counted ∙ (ap length both.0 ∙ p.counted),
      opens_once (mark_of b) p.last r s (subst (λ (x : List ℕ). Opens (mark_of b) x r) both.1 o.opens) p.opens,
    )

too_many_apart : (b body : List ℕ) (n : ℕ) (r s : List ℕ) → OpensAfter b body parts_limit r → (o : OpensAfter b body n s) → HasNoStep (ReadsPart (mark_of b)) o.last → ¬ (n < parts_limit)
too_many_apart b body n r s many o k few =
    let more : (zs : List PartText) × (o.parts ≡ many.parts ++ zs) × Chain (ReadsPart (mark_of b)) many.last zs o.last =
    held_goes_on b body many.parts o.parts many.last o.last many.holds o.holds k in
    absurd (omega (arith, many.counted, o.counted, ap length more.1, length-append many.parts more.0))

bad_or_open : (mark rest : List ℕ) → BeginsBadPart mark rest → HasNoDelimiter mark rest → ¬ (MayBePart rest)
bad_or_open mark rest (inl (piece, next, r, at, bad)) none may = none_and_some mark rest piece next none r at
bad_or_open mark rest (inr (none', bad)) none may = bad may

bad_and_open : (b body : List ℕ) (n m : ℕ) (r s : List ℕ) → OpensAfter b body n r → BeginsBadPart (mark_of b) r → OpensAfter b body m s → HasNoDelimiter (mark_of b) s → ¬ (MayBePart s)
bad_and_open b body n m r s o bad p none may =
    let both : (n ≡ m) × (r ≡ s) =
    counts_same b body n m r s o (bad_stuck (mark_of b) o.last r o.opens bad) p (open_stuck (mark_of b) p.last s p.opens none) in
    bad_or_open (mark_of b) s (subst (BeginsBadPart (mark_of b)) both.1 bad) none may

pub fault_once : (b body : List ℕ) (f g : PartsError) → CutFault b body f → CutFault b body g → f ≡ g
fault_once b body BadBoundary BadBoundary x y = refl
fault_once b body BadBoundary NoFirst x y = absurd (x y.0)
fault_once b body BadBoundary (BadPartHead n) x (r, o, few, bad) = absurd (x o.good)
fault_once b body BadBoundary NoClose x (n, r, o, few, none, may) = absurd (x o.good)
fault_once b body BadBoundary TooManyParts x (r, o) = absurd (x o.good)
fault_once b body BadBoundary NoMemory x y = absurd y
fault_once b body NoFirst BadBoundary x y = absurd (y x.0)
fault_once b body NoFirst NoFirst x y = refl
fault_once b body NoFirst (BadPartHead n) x (r, o, few, bad) = absurd (none_not_held b body o.parts o.last x.1 o.holds)
fault_once b body NoFirst NoClose x (n, r, o, few, none, may) = absurd (none_not_held b body o.parts o.last x.1 o.holds)
fault_once b body NoFirst TooManyParts x (r, o) = absurd (none_not_held b body o.parts o.last x.1 o.holds)
fault_once b body NoFirst NoMemory x y = absurd y
fault_once b body (BadPartHead n) BadBoundary (r, o, few, bad) y = absurd (y o.good)
fault_once b body (BadPartHead n) NoFirst (r, o, few, bad) y = absurd (none_not_held b body o.parts o.last y.1 o.holds)
fault_once b body (BadPartHead n) (BadPartHead m) (r, o, few, bad) (s, p, few', bad') =
    ap BadPartHead
    (counts_same b body n m r s o (bad_stuck (mark_of b) o.last r o.opens bad) p (bad_stuck (mark_of b) p.last s p.opens bad')).0
fault_once b body (BadPartHead n) NoClose (r, o, few, bad) (m, s, p, few', none, may) = absurd (bad_and_open b body n m r s o bad p none may)
fault_once b body (BadPartHead n) TooManyParts (r, o, few, bad) (s, p) =
    absurd (too_many_apart b body n s r p o (bad_stuck (mark_of b) o.last r o.opens bad) few)
fault_once b body (BadPartHead n) NoMemory x y = absurd y
fault_once b body NoClose BadBoundary (n, r, o, few, none, may) y = absurd (y o.good)
fault_once b body NoClose NoFirst (n, r, o, few, none, may) y = absurd (none_not_held b body o.parts o.last y.1 o.holds)
fault_once b body NoClose (BadPartHead m) (n, r, o, few, none, may) (s, p, few', bad) = absurd (bad_and_open b body m n s r p bad o none may)
fault_once b body NoClose NoClose x y = refl
fault_once b body NoClose TooManyParts (n, r, o, few, none, may) (s, p) =
    absurd (too_many_apart b body n s r p o (open_stuck (mark_of b) o.last r o.opens none) few)
fault_once b body NoClose NoMemory x y = absurd y
fault_once b body TooManyParts BadBoundary (r, o) y = absurd (y o.good)
fault_once b body TooManyParts NoFirst (r, o) y = absurd (none_not_held b body o.parts o.last y.1 o.holds)
fault_once b body TooManyParts (BadPartHead m) (r, o) (s, p, few, bad) =
    absurd (too_many_apart b body m r s o p (bad_stuck (mark_of b) p.last s p.opens bad) few)
fault_once b body TooManyParts NoClose (r, o) (m, s, p, few, none, may) =
    absurd (too_many_apart b body m r s o p (open_stuck (mark_of b) p.last s p.opens none) few)
fault_once b body TooManyParts TooManyParts x y = refl
fault_once b body TooManyParts NoMemory x y = absurd y
fault_once b body NoMemory g x y = absurd x

pub one_fault : IsOneFault
one_fault = record { not_cut = fault_not_cut; once = fault_once }

-- the part before a delimiter is bad
pub bad_piece : (mark rest piece : List ℕ) (end : Ending) → MeetsFirst mark rest piece end → ((part : PartText) → ¬ (IsPart piece part)) → BeginsBadPart mark rest
bad_piece mark rest piece end m h = inl (piece, m.next, m.reached, at_from_is mark m.next end m.stands, h)

-- a part's refusal is the body's
pub part_fault_lifts : (b body : List ℕ) (parts : List PartText) (next rest : List ℕ) (count : ℕ) (fault : PartsError) → IsBoundary b → HoldsParts b body parts next → Opens (mark_of b) next rest
    → length parts ≡ count → count < parts_limit → PartFault (mark_of b) rest count fault → CutFault b body fault
part_fault_lifts b body parts next rest count (BadPartHead n) good h o e few (f, bad) =
    (rest, record { parts = parts; last = next; good = good; counted = e ∙ sym f; holds = h; opens = o }, omega arith, bad)
part_fault_lifts b body parts next rest count NoClose good h o e few (none, may) =
    (count, rest, record { parts = parts; last = next; good = good; counted = e; holds = h; opens = o }, few, none, may)
part_fault_lifts b body parts next rest count BadBoundary good h o e few f = absurd f
part_fault_lifts b body parts next rest count NoFirst good h o e few f = absurd f
part_fault_lifts b body parts next rest count TooManyParts good h o e few f = absurd f
part_fault_lifts b body parts next rest count NoMemory good h o e few f = absurd f

pub refusal_lifts : (b body mark : List ℕ) (parts : List Part) (end : Ending) (rest : Bor (List ℕ)) (count : ℕ) (fault : PartsError) → mark ≡ mark_of b → end ≡ Opening rest → IsBoundary b
    → ((next : List ℕ) × HoldsParts b body (part_texts parts) next × IsAt (mark_of b) next end)
    → count ≡ length parts → count < parts_limit → ((fault ≡ NoMemory) ⊎ PartFault mark rest.now count fault) → (fault ≡ NoMemory) ⊎ CutFault b body fault
refusal_lifts b body mark parts end rest count fault e f good h c few (inl n) = inl n
refusal_lifts b body mark parts end rest count fault e f good (next, held, at) c few (inr p) =
    let o : Opens (mark_of b) next rest.now = subst (λ (x : Ending). IsAt (mark_of b) next x) f at in
    inr (part_fault_lifts b body (part_texts parts) next rest.now count fault good held o (length-map parts part_text ∙ sym c) few
    (subst (λ (m : List ℕ). PartFault m rest.now count fault) e p))

-- one part more
pub held_more : (b body mark : List ℕ) (parts now : List Part) (part : Part) (end new_end : Ending) (rest : Bor (List ℕ)) → mark ≡ mark_of b → end ≡ Opening rest
    → ((next : List ℕ) × HoldsParts b body (part_texts parts) next × IsAt (mark_of b) next end)
    → MeetsPart mark rest.now (part_text part) new_end → now ≡ parts ++ part ∷ []
    → (next : List ℕ) × HoldsParts b body (part_texts now) next × IsAt (mark_of b) next new_end
held_more b body mark parts now part end new_end rest e f (next, held, at) m g =
    let o : Opens (mark_of b) next rest.now = subst (λ (x : Ending). IsAt (mark_of b) next x) f at in
    let k : MeetsFirst (mark_of b) rest.now m.piece new_end = subst (λ (x : List ℕ). MeetsFirst x rest.now m.piece new_end) e m.meets in
    let read : ReadsPart (mark_of b) next (part_text part) k.next =
    record { rest = rest.now; piece = m.piece; opens = o; reaches = k.reached; stands = at_from_is (mark_of b) k.next new_end k.stands; is_part = m.is_part } in (
      k.next,
      record {
        preamble = held.preamble;
        first = held.first;
        reaches = held.reaches;
        stands = held.stands;
        in_order =
            chain_grow (ReadsPart (mark_of b)) held.first (part_texts parts) next (part_text part) k.next (part_texts now) held.in_order read
            (ap part_texts g ∙ map_push part_text parts part);
      },
      k.stands,
    )

left_same : (end : Ending) (rest : Bor (List ℕ)) → end ≡ Opening rest → left_behind end ≡ 1 + length rest.now
left_same end rest e = ap left_behind e
