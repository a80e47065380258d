-- The lines of a head: that a text has one list of them, and that the first bytes of a part show them.
use Rattle.std.proofs.Common.{◌≡◌, ℕ, ◌+◌, ◌-◌, ◌<◌, ◌≤◌, List, [], ◌∷◌, ◌++◌, length, take, drop, get_or, Bool, true, false, sym, refl, ap, ◌∙◌, subst, arith, append_assoc, ◌⊎◌, inl, inr}
use Rattle.std.specs.Str.{bytes_eq}
use Rattle.std.proofs.lemmas.List.{append_cancel_left, append_cancel_right, append-nil, length-append, length-take, length-drop, take-append-drop, drop_at, map_push, take_more, take_all, drop_all}
use Rattle.std.proofs.lemmas.List.Elements.{All-head}
use Rattle.std.proofs.lemmas.Slice.Eq.{bytes_eq-Decides}
use Rattle.soc_base.proofs.Folk.{not_both}
use Rattle.soc_multipart.specs.declared.heads.HeadEnd.{HeadEnd}
use Rattle.soc_multipart.specs.declared.heads.HeadEnd.TheVariants.{Content, Open}
use Rattle.soc_multipart.specs.declared.heads.Line.{Line}
use Rattle.soc_multipart.specs.declared.heads.Named.{Named}
use Rattle.soc_multipart.specs.declared.heads.Named.TheVariants.{Often}
use Rattle.soc_multipart.specs.Chains.{Chain, HasNoStep}
use Rattle.soc_multipart.specs.Delimiters.{PartsRun}
use Rattle.soc_text.specs.Lines.{crlf}
use Rattle.soc_multipart.specs.Params.{lower}
use Rattle.soc_text.specs.Tokens.{is_token_byte, IsToken}
use Rattle.soc_multipart.specs.Heads.{head_limit, LineText, is_line_byte, ReadsLine, values_of, EndsInContent, IsHeadEnd}
use Rattle.soc_text.specs.Blanks.{trimmed}
use Rattle.soc_multipart.specs.inner.Views.{line_text, line_texts, HasValues, EndsSo}
use Rattle.soc_multipart.proofs.Basics.{Stops, stops_cons, parts_once}
use Rattle.soc_multipart.proofs.ChainLemmas.{chain_once, chain_end}

heads : (x y : ℕ) (xs ys : List ℕ) → x ∷ xs ≡ y ∷ ys → (x ≡ y) × (xs ≡ ys)
heads x y xs ys e = (cc, cc)

cases_bool : (b : Bool) → (b ≡ true) ⊎ (b ≡ false)
cases_bool true = inl refl
cases_bool false = inr refl

colon_no_token : is_token_byte 58 ≡ false
unfolding is_token_byte
colon_no_token = refl

return_no_token : is_token_byte 13 ≡ false
unfolding is_token_byte
return_no_token = refl

colon_stops : (rest : List ℕ) → Stops is_token_byte (58 ∷ rest)
colon_stops rest = stops_cons is_token_byte 58 rest colon_no_token

return_stops : (rest : List ℕ) → Stops is_line_byte (crlf ++ rest)
return_stops rest = stops_cons is_line_byte 13 (10 ∷ rest) refl

-- the parts of a line
pub line_name : (t name tail : List ℕ) (l : LineText) (r : List ℕ) → PartsRun is_token_byte t name tail → ReadsLine t l r
    → (name ≡ l.name) × (tail ≡ 58 ∷ (l.raw ++ (crlf ++ r)))
line_name t name tail l r p a =
    parts_once is_token_byte t name tail l.name (58 ∷ (l.raw ++ (crlf ++ r))) p a.whole a.token.passes (colon_stops (l.raw ++ (crlf ++ r)))

pub line_raw : (t name tail tail2 raw tail3 : List ℕ) (l : LineText) (r : List ℕ) → PartsRun is_token_byte t name tail → tail ≡ 58 ∷ tail2
    → PartsRun is_line_byte tail2 raw tail3 → ReadsLine t l r → (raw ≡ l.raw) × (tail3 ≡ crlf ++ r)
line_raw t name tail tail2 raw tail3 l r p e q a =
    let behind : tail2 ≡ l.raw ++ (crlf ++ r) =
    (heads 58 58 tail2 (l.raw ++ (crlf ++ r)) (sym e ∙ (line_name t name tail l r p a).1)).1 in
    parts_once is_line_byte tail2 raw tail3 l.raw (crlf ++ r) q behind a.passes (return_stops r)

pub no_colon : (t name tail : List ℕ) → PartsRun is_token_byte t name tail → ((r : List ℕ) → ¬ (tail ≡ 58 ∷ r)) → HasNoStep ReadsLine t
no_colon t name tail p h l r a = h (l.raw ++ (crlf ++ r)) (line_name t name tail l r p a).1

pub no_line_end : (t name tail tail2 raw tail3 : List ℕ) → PartsRun is_token_byte t name tail → tail ≡ 58 ∷ tail2
    → PartsRun is_line_byte tail2 raw tail3 → ((r : List ℕ) → ¬ (tail3 ≡ crlf ++ r)) → HasNoStep ReadsLine t
no_line_end t name tail tail2 raw tail3 p e q h l r a = h r (line_raw t name tail tail2 raw tail3 l r p e q a).1

line_same : (l m : LineText) → l.name ≡ m.name → l.raw ≡ m.raw → l ≡ m
line_same l m e f =
    ap (λ (n : List ℕ). let x : LineText = record { name = n; raw = l.raw } in x) e
    ∙ ap (λ (v : List ℕ). let x : LineText = record { name = m.name; raw = v } in x) f

pub line_once : (t : List ℕ) (l m : LineText) (r s : List ℕ) → ReadsLine t l r → ReadsLine t m s → (l ≡ m) × (r ≡ s)
line_once t l m r s a b =
    let p : PartsRun is_token_byte t l.name (58 ∷ (l.raw ++ (crlf ++ r))) =
    record { whole = a.whole; passes = a.token.passes; stops = colon_stops (l.raw ++ (crlf ++ r)) } in
    let q : PartsRun is_line_byte (l.raw ++ (crlf ++ r)) l.raw (crlf ++ r) =
    record { whole = refl; passes = a.passes; stops = return_stops r } in
    let names : l.name ≡ m.name = (line_name t l.name (58 ∷ (l.raw ++ (crlf ++ r))) m s p b).0 in
    let raws : (l.raw ≡ m.raw) × (crlf ++ r ≡ crlf ++ s) =
    line_raw t l.name (58 ∷ (l.raw ++ (crlf ++ r))) (l.raw ++ (crlf ++ r)) l.raw (crlf ++ r) m s p refl q b in
    (line_same l m names raws.0, append_cancel_left crlf r s raws.1)

-- no line begins with a line end, or with nothing
token_no_return : (name rest more : List ℕ) → IsToken name → ¬ (13 ∷ more ≡ name ++ rest)
token_no_return [] rest more t e = absurd (let few : 0 < 0 = t.some in omega arith)
token_no_return (x ∷ name) rest more t e =
    not_both (is_token_byte x) (All-head (λ y. is_token_byte y ≡ true) x name t.passes)
    (ap is_token_byte (sym (heads 13 x more (name ++ rest) e).0) ∙ return_no_token)

pub line_end_stuck : (rest : List ℕ) → HasNoStep ReadsLine (crlf ++ rest)
line_end_stuck rest l r a = token_no_return l.name (58 ∷ (l.raw ++ (crlf ++ r))) (10 ∷ rest) a.token a.whole

pub nothing_stuck : HasNoStep ReadsLine []
nothing_stuck l r a =
    absurd (omega (arith, a.token.some, ap length a.whole, length-append l.name (58 ∷ (l.raw ++ (crlf ++ r)))))

pub line_shorter : (t : List ℕ) (l : LineText) (r : List ℕ) → ReadsLine t l r → length r < length t
line_shorter t l r a =
    omega (arith, ap length a.whole, length-append l.name (58 ∷ (l.raw ++ (crlf ++ r))), length-append l.raw (crlf ++ r))

-- lines in a text that goes on
line_longer : (t : List ℕ) (l : LineText) (r more : List ℕ) → ReadsLine t l r → ReadsLine (t ++ more) l (r ++ more)
line_longer t l r more a = record {
  token = a.token;
  passes = a.passes;
  whole =
      ap (λ (x : List ℕ). x ++ more) a.whole
      ∙ (append_assoc l.name (58 ∷ (l.raw ++ (crlf ++ r))) more
      ∙ ap (λ (x : List ℕ). l.name ++ (58 ∷ x)) (append_assoc l.raw (crlf ++ r) more));
}

pub lines_longer : (t : List ℕ) (ls : List LineText) (r more : List ℕ) → Chain ReadsLine t ls r → Chain ReadsLine (t ++ more) ls (r ++ more)
lines_longer t [] r more e = ap (λ (x : List ℕ). x ++ more) e
lines_longer t (l ∷ ls) r more (later, first, rest) = (later ++ more, line_longer t l later more first, lines_longer later ls r more rest)

-- what a chain of lines leaves is an end of the text
pub lines_front : (t : List ℕ) (ls : List LineText) (r : List ℕ) → Chain ReadsLine t ls r → (front : List ℕ) × (t ≡ front ++ r)
lines_front t [] r e = ([], e)
lines_front t (l ∷ ls) r (later, first, rest) =
    let inner : (front : List ℕ) × (later ≡ front ++ r) = lines_front later ls r rest in
    let spelled : List ℕ = l.name ++ (58 ∷ (l.raw ++ (crlf ++ inner.0))) in (
      spelled,
      first.whole
          ∙ (ap (λ (x : List ℕ). l.name ++ (58 ∷ (l.raw ++ (crlf ++ x)))) inner.1
          ∙ sym (append_assoc l.name (58 ∷ (l.raw ++ (crlf ++ inner.0))) r
          ∙ ap (λ (x : List ℕ). l.name ++ (58 ∷ x)) (append_assoc l.raw (crlf ++ inner.0) r))),
    )

-- lines in the front of a text, where what they leave holds the rest of it
pub lines_shorter : (t : List ℕ) (ls : List LineText) (r more : List ℕ) → Chain ReadsLine (t ++ more) ls (r ++ more) → Chain ReadsLine t ls r
lines_shorter t [] r more e = append_cancel_right t r more e
lines_shorter t (l ∷ ls) r more (later, first, rest) =
    let inner : (front : List ℕ) × (later ≡ front ++ (r ++ more)) = lines_front later ls (r ++ more) rest in
    let cut : later ≡ (inner.0 ++ r) ++ more = inner.1 ∙ sym (append_assoc inner.0 r more) in
    let spelled : List ℕ = l.name ++ (58 ∷ (l.raw ++ (crlf ++ (inner.0 ++ r)))) in
    let whole : t ++ more ≡ spelled ++ more =
    first.whole
    ∙ (ap (λ (x : List ℕ). l.name ++ (58 ∷ (l.raw ++ (crlf ++ x)))) cut
    ∙ sym (append_assoc l.name (58 ∷ (l.raw ++ (crlf ++ (inner.0 ++ r)))) more
    ∙ ap (λ (x : List ℕ). l.name ++ (58 ∷ x)) (append_assoc l.raw (crlf ++ (inner.0 ++ r)) more))) in (
      inner.0 ++ r,
      record { token = first.token; passes = first.passes; whole = append_cancel_right t spelled more whole },
      lines_shorter (inner.0 ++ r) ls r more (subst (λ (x : List ℕ). Chain ReadsLine x ls (r ++ more)) cut rest),
    )

-- a text parted in two ways
pub parted : (w more y content : List ℕ) → w ++ more ≡ y ++ content → length y ≤ length w → (c : List ℕ) × (w ≡ y ++ c) × (content ≡ c ++ more)
parted w more [] content e l = (w, refl, sym e)
parted [] more (x ∷ y) content e l = absurd (omega arith)
parted (z ∷ w) more (x ∷ y) content e l =
    let both : (z ≡ x) × (w ++ more ≡ y ++ content) = heads z x (w ++ more) (y ++ content) e in
    let inner : (c : List ℕ) × (w ≡ y ++ c) × (content ≡ c ++ more) = parted w more y content both.1 (omega arith) in
    (inner.0, (let first : z ≡ x = both.0 in let rest : w ≡ y ++ inner.0 = inner.1 in cc), inner.2)

-- what is left of a piece behind the lines of its first bytes
pub tail_is : (piece w front rest tail : List ℕ) → w ≡ take head_limit piece → w ≡ front ++ rest → tail ≡ drop (length w - length rest) piece
    → tail ≡ rest ++ drop head_limit piece
tail_is piece w front rest tail e f g =
    let whole : piece ≡ front ++ (rest ++ drop head_limit piece) =
    sym (take-append-drop head_limit piece)
    ∙ (ap (λ (x : List ℕ). x ++ drop head_limit piece) (sym e ∙ f) ∙ append_assoc front rest (drop head_limit piece)) in
    let place : length front ≡ length w - length rest = omega (arith, ap length f, length-append front rest) in
    g ∙ (ap (drop (length w - length rest)) whole ∙ drop_at front (rest ++ drop head_limit piece) (length w - length rest) place)

pub window_fits : (piece w : List ℕ) (ls : List LineText) (rest : List ℕ) → w ≡ take head_limit piece → Chain ReadsLine w ls rest
    → (length rest ≤ length w) × (length w ≤ length piece)
window_fits piece w ls rest e h =
    let f : (front : List ℕ) × (w ≡ front ++ rest) = lines_front w ls rest h in
    (omega (arith, ap length f.1, length-append f.0 rest), omega (arith, ap length e, length-take head_limit piece))

-- the lines of a piece that an empty line ends within the limit stand in its first bytes
content_in_window : (piece w rest : List ℕ) (ls : List LineText) → w ≡ take head_limit piece → Chain ReadsLine w ls rest → HasNoStep ReadsLine rest
    → (ls' : List LineText) (content : List ℕ) → EndsInContent piece ls' content → (c : List ℕ) × (rest ≡ crlf ++ c)
content_in_window piece w rest ls e h stuck ls' content k =
    let more : List ℕ = drop head_limit piece in
    let whole : w ++ more ≡ piece = ap (λ (x : List ℕ). x ++ more) e ∙ take-append-drop head_limit piece in
    let f : (front : List ℕ) × (piece ≡ front ++ (crlf ++ content)) = lines_front piece ls' (crlf ++ content) k.in_order in
    let cut : w ++ more ≡ (f.0 ++ crlf) ++ content = whole ∙ (f.1 ∙ sym (append_assoc f.0 crlf content)) in
    let sizes : length (w ++ more) ≡ length piece = ap length whole in
    let fits : length (f.0 ++ crlf) ≤ length w =
    omega (
      arith,
      k.short,
      ap length e,
      length-take head_limit piece,
      ap length f.1,
      length-append f.0 (crlf ++ content),
      length-append f.0 crlf,
    ) in
    let p : (c : List ℕ) × (w ≡ (f.0 ++ crlf) ++ c) × (content ≡ c ++ more) = parted w more (f.0 ++ crlf) content cut fits in
    let longer : Chain ReadsLine (w ++ more) ls' ((crlf ++ p.0) ++ more) =
    subst (λ (x : List ℕ). Chain ReadsLine x ls' ((crlf ++ p.0) ++ more)) (sym whole)
    (chain_end ReadsLine piece ls' (crlf ++ content) ((crlf ++ p.0) ++ more) (ap (λ (x : List ℕ). crlf ++ x) p.2) k.in_order) in
    let inner : Chain ReadsLine w ls' (crlf ++ p.0) = lines_shorter w ls' (crlf ++ p.0) more longer in
    (p.0, (chain_once ReadsLine line_once w ls ls' rest (crlf ++ p.0) h stuck inner (line_end_stuck p.0)).1)

pub head_end_is : (piece w rest tail : List ℕ) (ls : List LineText) (end : HeadEnd) → w ≡ take head_limit piece → Chain ReadsLine w ls rest → HasNoStep ReadsLine rest
    → tail ≡ rest ++ drop head_limit piece → EndsSo rest tail end → IsHeadEnd piece ls end
head_end_is piece w rest tail ls (Content content) e h stuck t (f, (front, g)) =
    let whole : w ++ drop head_limit piece ≡ piece = ap (λ (x : List ℕ). x ++ drop head_limit piece) e ∙ take-append-drop head_limit piece in
    let longer : Chain ReadsLine piece ls (rest ++ drop head_limit piece) =
    subst (λ (x : List ℕ). Chain ReadsLine x ls (rest ++ drop head_limit piece)) whole (lines_longer w ls rest (drop head_limit piece) h) in
    record {
      in_order = chain_end ReadsLine piece ls (rest ++ drop head_limit piece) (crlf ++ content.now) (sym t ∙ f) longer;
      short =
          omega (
            arith,
            ap length (sym f ∙ t),
            length-append rest (drop head_limit piece),
            ap length g,
            length-drop head_limit piece,
          );
    }
head_end_is piece w rest tail ls (Open open') e h stuck t (f, none) =
    let whole : w ++ drop head_limit piece ≡ piece = ap (λ (x : List ℕ). x ++ drop head_limit piece) e ∙ take-append-drop head_limit piece in
    let longer : Chain ReadsLine piece ls (rest ++ drop head_limit piece) =
    subst (λ (x : List ℕ). Chain ReadsLine x ls (rest ++ drop head_limit piece)) whole (lines_longer w ls rest (drop head_limit piece) h) in (
      chain_end ReadsLine piece ls (rest ++ drop head_limit piece) open'.now (sym t ∙ sym f) longer,
      λ ls' content k.
          let c : (c : List ℕ) × (rest ≡ crlf ++ c) = content_in_window piece w rest ls e h stuck ls' content k in none c.0 c.1,
      λ short.
          let all : open'.now ≡ rest = f ∙ (t ∙ (ap (λ (x : List ℕ). rest ++ x) (drop_all head_limit piece short) ∙ append-nil rest)) in
          subst (λ (x : List ℕ). HasNoStep ReadsLine x) (sym all) stuck,
    )

-- the values of a name in one line more
values_named_line : (name : List ℕ) (l : LineText) (ls : List LineText) → lower l.name ≡ lower name → values_of name (l ∷ ls) ≡ trimmed l.raw ∷ values_of name ls
values_named_line name l ls e = rw ((bytes_eq-Decides (lower l.name) (lower name)).1 e) refl

values_other_line : (name : List ℕ) (l : LineText) (ls : List LineText) → bytes_eq (lower l.name) (lower name) ≡ false → values_of name (l ∷ ls) ≡ values_of name ls
values_other_line name l ls e = rw e refl

pub values_hit : (name : List ℕ) (ls : List LineText) (l : LineText) → lower l.name ≡ lower name → values_of name (ls ++ l ∷ []) ≡ values_of name ls ++ trimmed l.raw ∷ []
values_hit name [] l e = values_named_line name l [] e
values_hit name (m ∷ ls) l e =
    elim (cases_bool (bytes_eq (lower m.name) (lower name))) [
      | inl is ↦
          let same : lower m.name ≡ lower name = (bytes_eq-Decides (lower m.name) (lower name)).0 is in
          values_named_line name m (ls ++ l ∷ []) same
          ∙ (ap (λ (x : List (List ℕ)). trimmed m.raw ∷ x) (values_hit name ls l e)
          ∙ ap (λ (x : List (List ℕ)). x ++ trimmed l.raw ∷ []) (sym (values_named_line name m ls same)))
      | inr other ↦
          values_other_line name m (ls ++ l ∷ []) other
          ∙ (values_hit name ls l e ∙ ap (λ (x : List (List ℕ)). x ++ trimmed l.raw ∷ []) (sym (values_other_line name m ls other)))
    ]

pub values_miss : (name : List ℕ) (ls : List LineText) (l : LineText) → ¬ (lower l.name ≡ lower name) → values_of name (ls ++ l ∷ []) ≡ values_of name ls
values_miss name [] l h =
    elim (cases_bool (bytes_eq (lower l.name) (lower name))) [
      | inl is ↦ absurd (h ((bytes_eq-Decides (lower l.name) (lower name)).0 is))
      | inr other ↦ values_other_line name l [] other
    ]
values_miss name (m ∷ ls) l h =
    elim (cases_bool (bytes_eq (lower m.name) (lower name))) [
      | inl is ↦
          let same : lower m.name ≡ lower name = (bytes_eq-Decides (lower m.name) (lower name)).0 is in
          values_named_line name m (ls ++ l ∷ []) same
          ∙ (ap (λ (x : List (List ℕ)). trimmed m.raw ∷ x) (values_miss name ls l h) ∙ sym (values_named_line name m ls same))
      | inr other ↦
          values_other_line name m (ls ++ l ∷ []) other ∙ (values_miss name ls l h ∙ sym (values_other_line name m ls other))
    ]

-- what the loop over the lines keeps
lines_more : (ls : List Line) (i : ℕ) (d : Line) → i < length ls → line_texts (take (i + 1) ls) ≡ line_texts (take i ls) ++ line_text (get_or ls i d) ∷ []
lines_more ls i d h = ap line_texts (take_more ls i d h) ∙ map_push line_text (take i ls) (get_or ls i d)

pub values_after_hit : (name : List ℕ) (ls : List Line) (i : ℕ) (d : Line) (found now now' : Named) → i < length ls → lower (get_or ls i d).name.now ≡ lower name
    → HasValues (values_of name (line_texts (take i ls))) found
    → ((values : List (List ℕ)) → HasValues values found → HasValues (values ++ trimmed (get_or ls i d).raw.now ∷ []) now)
    → now' ≡ now → HasValues (values_of name (line_texts (take (i + 1) ls))) now'
values_after_hit name ls i d found now now' h same k step e =
    subst (λ (n : Named). HasValues (values_of name (line_texts (take (i + 1) ls))) n) (sym e)
    (subst (λ (x : List (List ℕ)). HasValues x now)
    (sym (ap (values_of name) (lines_more ls i d h) ∙ values_hit name (line_texts (take i ls)) (line_text (get_or ls i d)) same))
    (step (values_of name (line_texts (take i ls))) k))

pub values_after_miss : (name : List ℕ) (ls : List Line) (i : ℕ) (d : Line) (found now' : Named) → i < length ls → ¬ (lower (get_or ls i d).name.now ≡ lower name)
    → HasValues (values_of name (line_texts (take i ls))) found → now' ≡ found → HasValues (values_of name (line_texts (take (i + 1) ls))) now'
values_after_miss name ls i d found now' h apart k e =
    subst (λ (n : Named). HasValues (values_of name (line_texts (take (i + 1) ls))) n) (sym e)
    (subst (λ (x : List (List ℕ)). HasValues x found)
    (sym (ap (values_of name) (lines_more ls i d h) ∙ values_miss name (line_texts (take i ls)) (line_text (get_or ls i d)) apart)) k)

pub once_more : (values : List (List ℕ)) (found : Named) (v x : List ℕ) → (HasValues values found → values ≡ v ∷ []) → HasValues values found
    → (first : List ℕ) × (second : List ℕ) × (more : List (List ℕ)) × (values ++ x ∷ [] ≡ first ∷ second ∷ more)
once_more values found v x e h = (v, x, [], ap (λ (y : List (List ℕ)). y ++ x ∷ []) (e h))

pub often_more : (values : List (List ℕ)) (x : List ℕ) → HasValues values Often
    → (first : List ℕ) × (second : List ℕ) × (more : List (List ℕ)) × (values ++ x ∷ [] ≡ first ∷ second ∷ more)
often_more values x (a, b, more, e) = (a, b, more ++ x ∷ [], ap (λ (y : List (List ℕ)). y ++ x ∷ []) e)

pub short_window : (piece : List ℕ) → length piece < head_limit → piece ≡ take head_limit piece
short_window piece h = sym (take_all head_limit piece (omega arith))
