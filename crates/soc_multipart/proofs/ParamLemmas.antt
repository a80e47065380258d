-- What a parameter is, by its parts, and that a text begins with one parameter at most.
use Rattle.std.proofs.Common.{◌≡◌, ◌≢◌, ℕ, zero, suc, ◌<◌, ◌≤◌, List, [], ◌∷◌, ◌++◌, length, get_or, Bool, true, false, sym, refl, ap, ◌∙◌, subst, arith, Some, None, ◌⊎◌, inl, inr}
use Rattle.std.specs.Str.{bytes_eq}
use Rattle.std.proofs.lemmas.List.{length-append, get_or_append_left, get_or_at, nil_from_length}
use Rattle.std.proofs.lemmas.Bool.{cases_eq}
use Rattle.std.proofs.lemmas.Bool.Decides.{nat_tests}
use Rattle.std.proofs.lemmas.Slice.Eq.{bytes_eq-Decides}
use Rattle.std.proofs.lemmas.List.Elements.{All-head}
use Rattle.std.proofs.lemmas.List.Quantifiers.{all_pairs_push}
use Rattle.soc_base.proofs.Folk.{not_both}
use Rattle.soc_multipart.specs.Chains.{Chain, HasNoStep}
use Rattle.soc_multipart.specs.Delimiters.{PartsRun}
use Rattle.soc_text.specs.Blanks.{is_blank}
use Rattle.soc_multipart.specs.Params.{quote, backslash, SpellsByte, EndsQuoted, EndsToken, BeginsWithValue, ReadsValue, SkipsGap, ReadsName, ParamText, ReadsParam, AreParams, AreDistinct, lower, value_of}
use Rattle.soc_text.specs.Tokens.{is_token_byte, IsToken}
use Rattle.soc_multipart.proofs.Basics.{Stops, stops_cons, parts_once, run_once}
use Rattle.soc_multipart.proofs.ChainLemmas.{chain_once, chain_goes_on, chain_end}

heads : (x y : ℕ) (xs ys : List ℕ) → x ∷ xs ≡ y ∷ ys → (x ≡ y) × (xs ≡ ys)
heads x y xs ys e = (cc, cc)

nil_not_cons : (x : ℕ) (xs : List ℕ) → ¬ ([] ≡ x ∷ xs)
nil_not_cons x xs e = cc

cases_bool : (b : Bool) → (b ≡ true) ⊎ (b ≡ false)
cases_bool true = inl refl
cases_bool false = inr refl

some_not_none : (v : List ℕ) → ¬ (Some v ≡ None)
some_not_none v e = cc

-- a quoted text has one next byte
pub spells_once : (t : List ℕ) (x y : ℕ) (r s : List ℕ) → SpellsByte t x r → SpellsByte t y s → (x ≡ y) × (r ≡ s)
spells_once t x y r s (inl a) (inl b) = heads x y r s (sym a.0 ∙ b.0)
spells_once t x y r s (inl a) (inr b) = absurd (a.2 (heads x backslash r (y ∷ s) (sym a.0 ∙ b)).0)
spells_once t x y r s (inr a) (inl b) = absurd (b.2 (heads y backslash s (x ∷ r) (sym b.0 ∙ a)).0)
spells_once t x y r s (inr a) (inr b) = heads x y r s (heads backslash backslash (x ∷ r) (y ∷ s) (sym a ∙ b)).1

-- no byte is spelled by a quote
quote_not_backslash : (n : ℕ) → n ≡ quote → ¬ (n ≡ backslash)
quote_not_backslash n e f = absurd (omega arith)

pub quote_spells_none : (rest : List ℕ) → HasNoStep SpellsByte (quote ∷ rest)
quote_spells_none rest b later (inl a) = a.1 (sym (heads quote b rest later a.0).0)
quote_spells_none rest b later (inr a) = quote_not_backslash quote refl (heads quote backslash rest (b ∷ later) a).0

pub quoted_by_parts : (t out rest behind : List ℕ) → Chain SpellsByte t out rest → rest ≡ quote ∷ behind → EndsQuoted t out behind
quoted_by_parts t out rest behind h e = chain_end SpellsByte t out rest (quote ∷ behind) e h

pub quoted_once : (t out rest value rest' : List ℕ) → EndsQuoted t out rest → EndsQuoted t value rest' → (out ≡ value) × (rest ≡ rest')
quoted_once t out rest value rest' h k =
    let both : (out ≡ value) × (quote ∷ rest ≡ quote ∷ rest') =
    chain_once SpellsByte spells_once t out value (quote ∷ rest) (quote ∷ rest') h (quote_spells_none rest) k (quote_spells_none rest') in
    (both.0, (heads quote quote rest rest' both.1).1)

-- the quote that ends a quoted text is followed by a byte of a token
pub quoted_goes_on : (t out rest behind : List ℕ) → Chain SpellsByte t out rest → rest ≡ quote ∷ behind → ¬ (EndsToken behind)
    → (value rest' : List ℕ) → EndsToken rest' → ¬ (EndsQuoted t value rest')
quoted_goes_on t out rest behind h e goes value rest' ends k =
    goes (subst EndsToken (sym (quoted_once t out behind value rest' (quoted_by_parts t out rest behind h e) k).1) ends)

-- a quoted text that does not end
pub quoted_stops : (t out rest : List ℕ) → Chain SpellsByte t out rest → ((behind : List ℕ) → ¬ (rest ≡ quote ∷ behind)) → HasNoStep SpellsByte rest
    → (value rest' : List ℕ) → EndsToken rest' → ¬ (EndsQuoted t value rest')
quoted_stops t out rest h open' stuck value rest' ends k =
    open' rest' (chain_once SpellsByte spells_once t out value rest (quote ∷ rest') h stuck k (quote_spells_none rest')).1

-- what a first byte spells
pub no_byte : (t : List ℕ) → t ≡ [] → HasNoStep SpellsByte t
no_byte t e b later (inl a) = nil_not_cons b later (sym e ∙ a.0)
no_byte t e b later (inr a) = nil_not_cons backslash (b ∷ later) (sym e ∙ a)

pub no_kept_byte : (t rest : List ℕ) (first : ℕ) → t ≡ first ∷ rest → first ≡ backslash → rest ≡ [] → HasNoStep SpellsByte t
no_kept_byte t rest first e f g b later (inl a) = a.2 ((heads b first later rest (sym a.0 ∙ e)).0 ∙ f)
no_kept_byte t rest first e f g b later (inr a) =
    nil_not_cons b later (sym g ∙ (heads first backslash rest (b ∷ later) (sym e ∙ a)).1)

pub no_quote_byte : (t rest : List ℕ) (first : ℕ) → t ≡ first ∷ rest → first ≡ quote → HasNoStep SpellsByte t
no_quote_byte t rest first e f b later h =
    quote_spells_none rest b later (subst (λ (x : List ℕ). SpellsByte x b later) (e ∙ ap (λ (x : ℕ). x ∷ rest) f) h)

-- tokens
quote_no_token : is_token_byte quote ≡ false
unfolding is_token_byte
quote_no_token = refl

equals_no_token : is_token_byte 61 ≡ false
unfolding is_token_byte
equals_no_token = refl

space_no_token : is_token_byte 32 ≡ false
unfolding is_token_byte
space_no_token = refl

tab_no_token : is_token_byte 9 ≡ false
unfolding is_token_byte
tab_no_token = refl

token_no_blank : (b : ℕ) → is_token_byte b ≡ true → is_blank b ≡ false
token_no_blank b h =
    elim (cases_eq b 32) [
      | inl is ↦ absurd (not_both (is_token_byte b) h (ap is_token_byte is ∙ space_no_token))
      | inr apart ↦
          elim (cases_eq b 9) [
            | inl is ↦ absurd (not_both (is_token_byte b) h (ap is_token_byte is ∙ tab_no_token))
            | inr other ↦ grind (arith, nat_tests)
          ]
    ]

-- a token begins with a byte of a token
token_stops_blank : (name rest : List ℕ) → IsToken name → Stops is_blank (name ++ rest)
token_stops_blank [] rest t = absurd (let few : 0 < 0 = t.some in omega arith)
token_stops_blank (x ∷ name) rest t =
    stops_cons is_blank x (name ++ rest) (token_no_blank x (All-head (λ y. is_token_byte y ≡ true) x name t.passes))

-- behind blanks that may stand there a semicolon stands at one place
pub gap_once : (spaced : Bool) (t g y : List ℕ) → SkipsGap spaced t g → (spaced ≡ true → Stops is_blank g) → SkipsGap spaced t (59 ∷ y) → g ≡ 59 ∷ y
gap_once true t g y s stops k =
    (run_once is_blank s.gap k.gap g (59 ∷ y) (sym s.whole ∙ k.whole) s.blanks k.blanks (stops refl) (stops_cons is_blank 59 y refl)).1
gap_once false t g y s stops k =
    sym (ap (λ (x : List ℕ). x ++ g) (s.free refl)) ∙ (sym s.whole ∙ (k.whole ∙ ap (λ (x : List ℕ). x ++ 59 ∷ y) (k.free refl)))

-- the parts of a name's form, and the name and what follows it, are the same
pub name_parts : (spaced : Bool) (t g tail pad tail2 name tail3 name' rest' : List ℕ) → SkipsGap spaced t g → (spaced ≡ true → Stops is_blank g)
    → g ≡ 59 ∷ tail → PartsRun is_blank tail pad tail2 → PartsRun is_token_byte tail2 name tail3 → ReadsName spaced t name' rest'
    → (name ≡ name') × (tail3 ≡ 61 ∷ rest')
name_parts spaced t g tail pad tail2 name tail3 name' rest' s stops e p q r =
    let whole : g ≡ 59 ∷ (r.pad ++ (name' ++ (61 ∷ rest'))) = gap_once spaced t g (r.pad ++ (name' ++ (61 ∷ rest'))) s stops r.skips in
    let behind : tail ≡ r.pad ++ (name' ++ (61 ∷ rest')) = (heads 59 59 tail (r.pad ++ (name' ++ (61 ∷ rest'))) (sym e ∙ whole)).1 in
    let rest2 : tail2 ≡ name' ++ (61 ∷ rest') =
    (parts_once is_blank tail pad tail2 r.pad (name' ++ (61 ∷ rest')) p behind r.blanks (token_stops_blank name' (61 ∷ rest') r.token)).1 in
    parts_once is_token_byte tail2 name tail3 name' (61 ∷ rest') q rest2 r.token.passes (stops_cons is_token_byte 61 rest' equals_no_token)

pub name_once : (spaced : Bool) (t n r n' r' : List ℕ) → ReadsName spaced t n r → ReadsName spaced t n' r' → (n ≡ n') × (r ≡ r')
name_once spaced t n r n' r' a b =
    let both : (n ≡ n') × (61 ∷ r ≡ 61 ∷ r') =
    name_parts spaced t (59 ∷ (a.pad ++ (n ++ (61 ∷ r)))) (a.pad ++ (n ++ (61 ∷ r))) a.pad (n ++ (61 ∷ r)) n (61 ∷ r) n' r'
    a.skips (λ is. stops_cons is_blank 59 (a.pad ++ (n ++ (61 ∷ r))) refl) refl
    (record { whole = refl; passes = a.blanks; stops = token_stops_blank n (61 ∷ r) a.token })
    (record { whole = refl; passes = a.token.passes; stops = stops_cons is_token_byte 61 r equals_no_token }) b in
    (both.0, (heads 61 61 r r' both.1).1)

pub no_semicolon : (spaced : Bool) (t g : List ℕ) → SkipsGap spaced t g → (spaced ≡ true → Stops is_blank g) → ((r : List ℕ) → ¬ (g ≡ 59 ∷ r))
    → (n r : List ℕ) → ¬ (ReadsName spaced t n r)
no_semicolon spaced t g s stops h n r a = h (a.pad ++ (n ++ (61 ∷ r))) (gap_once spaced t g (a.pad ++ (n ++ (61 ∷ r))) s stops a.skips)

pub no_name : (spaced : Bool) (t g tail pad tail2 name tail3 : List ℕ) → SkipsGap spaced t g → (spaced ≡ true → Stops is_blank g)
    → g ≡ 59 ∷ tail → PartsRun is_blank tail pad tail2 → PartsRun is_token_byte tail2 name tail3 → length name ≡ 0
    → (n r : List ℕ) → ¬ (ReadsName spaced t n r)
no_name spaced t g tail pad tail2 name tail3 s stops e p q empty n r a =
    let same : name ≡ n = (name_parts spaced t g tail pad tail2 name tail3 n r s stops e p q a).0 in
    absurd (omega (arith, a.token.some, ap length same, empty))

pub no_equals : (spaced : Bool) (t g tail pad tail2 name tail3 : List ℕ) → SkipsGap spaced t g → (spaced ≡ true → Stops is_blank g)
    → g ≡ 59 ∷ tail → PartsRun is_blank tail pad tail2 → PartsRun is_token_byte tail2 name tail3 → ((r : List ℕ) → ¬ (tail3 ≡ 61 ∷ r))
    → (n r : List ℕ) → ¬ (ReadsName spaced t n r)
no_equals spaced t g tail pad tail2 name tail3 s stops e p q h n r a =
    h r (name_parts spaced t g tail pad tail2 name tail3 n r s stops e p q a).1

pub name_by_parts : (spaced : Bool) (t g tail pad tail2 name tail3 rest : List ℕ) → SkipsGap spaced t g
    → g ≡ 59 ∷ tail → PartsRun is_blank tail pad tail2 → PartsRun is_token_byte tail2 name tail3 → (length name ≡ 0 → ⊥) → tail3 ≡ 61 ∷ rest
    → ReadsName spaced t name rest
name_by_parts spaced t g tail pad tail2 name tail3 rest s e p q some f =
    let inner : tail2 ≡ name ++ (61 ∷ rest) = q.whole ∙ ap (λ (x : List ℕ). name ++ x) f in
    let middle : g ≡ 59 ∷ (pad ++ (name ++ (61 ∷ rest))) = e ∙ ap (λ (x : List ℕ). 59 ∷ x) (p.whole ∙ ap (λ (x : List ℕ). pad ++ x) inner) in
    record {
      pad = pad;
      blanks = p.passes;
      token = record { some = omega arith; passes = q.passes };
      skips = record { gap = s.gap; blanks = s.blanks; free = s.free; whole = s.whole ∙ ap (λ (x : List ℕ). s.gap ++ x) middle };
    }

-- a token does not begin with a quote
token_no_quote : (v rest behind : List ℕ) → IsToken v → ¬ (v ++ rest ≡ quote ∷ behind)
token_no_quote [] rest behind t e = absurd (let few : 0 < 0 = t.some in omega arith)
token_no_quote (x ∷ v) rest behind t e =
    not_both (is_token_byte x) (All-head (λ y. is_token_byte y ≡ true) x v t.passes)
    (ap is_token_byte (heads x quote (v ++ rest) behind e).0 ∙ quote_no_token)

pub value_once : (t v r v' r' : List ℕ) → ReadsValue t v r → ReadsValue t v' r' → (v ≡ v') × (r ≡ r')
value_once t v r v' r' a b = values t v r v' r' a.begins b.begins a.ends b.ends
  where
    values : (t v r v' r' : List ℕ) → BeginsWithValue t v r → BeginsWithValue t v' r' → EndsToken r → EndsToken r' → (v ≡ v') × (r ≡ r')
    values t v r v' r' (inl (p, e)) (inl (q, f)) x y = run_once is_token_byte v v' r r' (sym e ∙ f) p.passes q.passes x y
    values t v r v' r' (inl (p, e)) (inr (b, f, q)) x y = absurd (token_no_quote v r b p (sym e ∙ f))
    values t v r v' r' (inr (b, e, p)) (inl (q, f)) x y = absurd (token_no_quote v' r' b q (sym f ∙ e))
    values t v r v' r' (inr (b, e, p)) (inr (b', f, q)) x y =
        quoted_once b v r v' r' p (subst (λ (z : List ℕ). EndsQuoted z v' r') (sym (heads quote quote b b' (sym e ∙ f)).1) q)

pub quoted_value : (t behind v r : List ℕ) → t ≡ quote ∷ behind → EndsQuoted behind v r × EndsToken r → ReadsValue t v r
quoted_value t behind v r e h = record { begins = inr (behind, e, h.0); ends = h.1 }

pub no_quoted_value : (t behind : List ℕ) → t ≡ quote ∷ behind → ((v r : List ℕ) → EndsToken r → ¬ (EndsQuoted behind v r)) → (v r : List ℕ) → ¬ (ReadsValue t v r)
no_quoted_value t behind e h v r a = go a.begins
  where
    go : BeginsWithValue t v r → ⊥
    go (inl (p, f)) = token_no_quote v r behind p (sym f ∙ e)
    go (inr (b, f, q)) = h v r a.ends (subst (λ (z : List ℕ). EndsQuoted z v r) (sym (heads quote quote behind b (sym e ∙ f)).1) q)

pub no_token_value : (t token rest : List ℕ) → ((behind : List ℕ) → ¬ (t ≡ quote ∷ behind)) → PartsRun is_token_byte t token rest → length token ≡ 0 → (v r : List ℕ) → ¬ (ReadsValue t v r)
no_token_value t token rest h p empty v r a = go a.begins
  where
    go : BeginsWithValue t v r → ⊥
    go (inl (q, f)) =
        let same : token ≡ v = (parts_once is_token_byte t token rest v r p f q.passes a.ends).0 in
        absurd (omega (arith, q.some, ap length same, empty))
    go (inr (b, f, q)) = h b f

-- parameters
param_same : (p q : ParamText) → p.name ≡ q.name → p.value ≡ q.value → p ≡ q
param_same p q e f =
    ap (λ (n : List ℕ). let x : ParamText = record { name = n; value = p.value } in x) e
    ∙ ap (λ (v : List ℕ). let x : ParamText = record { name = q.name; value = v } in x) f

pub param_once : (spaced : Bool) (t : List ℕ) (p q : ParamText) (r s : List ℕ) → ReadsParam spaced t p r → ReadsParam spaced t q s → (p ≡ q) × (r ≡ s)
param_once spaced t p q r s a b =
    let names : (p.name ≡ q.name) × (a.later ≡ b.later) = name_once spaced t p.name a.later q.name b.later a.named b.named in
    let values : (p.value ≡ q.value) × (r ≡ s) =
    value_once a.later p.value r q.value s a.valued (subst (λ (x : List ℕ). ReadsValue x q.value s) (sym names.1) b.valued) in
    (param_same p q names.0 values.0, values.1)

pub no_param_name : (spaced : Bool) (t : List ℕ) → ((n r : List ℕ) → ¬ (ReadsName spaced t n r)) → HasNoStep (ReadsParam spaced) t
no_param_name spaced t h p r a = h p.name a.later a.named

pub no_param_value : (spaced : Bool) (t name later : List ℕ) → ReadsName spaced t name later → ((v r : List ℕ) → ¬ (ReadsValue later v r)) → HasNoStep (ReadsParam spaced) t
no_param_value spaced t name later n h p r a =
    h p.value r (subst (λ (x : List ℕ). ReadsValue x p.value r) (sym (name_once spaced t name later p.name a.later n a.named).1) a.valued)

-- what is left behind a parameter is shorter
spells_shorter : (t vs r : List ℕ) → Chain SpellsByte t vs r → length r ≤ length t
spells_shorter t [] r e = omega (arith, ap length e)
spells_shorter t (v ∷ vs) r (later, inl a, more) =
    omega (arith, spells_shorter later vs r more, ap length a.0)
spells_shorter t (v ∷ vs) r (later, inr a, more) =
    omega (arith, spells_shorter later vs r more, ap length a)

value_shorter : (t v r : List ℕ) → BeginsWithValue t v r → length r < length t
value_shorter t v r (inl (p, e)) = omega (arith, p.some, ap length e, length-append v r)
value_shorter t v r (inr (b, e, q)) = omega (arith, spells_shorter b v (quote ∷ r) q, ap length e)

pub param_shorter : (spaced : Bool) (t : List ℕ) (p : ParamText) (r : List ℕ) → ReadsParam spaced t p r → length r < length t
param_shorter spaced t p r a =
    let n : ReadsName spaced t p.name a.later = a.named in
    let s : SkipsGap spaced t (59 ∷ (n.pad ++ (p.name ++ (61 ∷ a.later)))) = n.skips in
    omega (
      arith,
      value_shorter a.later p.value r a.valued.begins,
      ap length s.whole,
      length-append s.gap (59 ∷ (n.pad ++ (p.name ++ (61 ∷ a.later)))),
      length-append n.pad (p.name ++ (61 ∷ a.later)),
      length-append p.name (61 ∷ a.later),
    )

pub no_param_at_end : (spaced : Bool) → HasNoStep (ReadsParam spaced) []
no_param_at_end spaced p r a = let short : length r < 0 = param_shorter spaced [] p r a in absurd (omega arith)

-- the value of a name, and the parameters that have the name
name_test : (p : ParamText) (name : List ℕ) (b : Bool) → bytes_eq (lower p.name) (lower name) ≡ b → (b ≡ true → lower p.name ≡ lower name) × (lower p.name ≡ lower name → b ≡ true)
name_test p name b e =
    (λ yes. (bytes_eq-Decides (lower p.name) (lower name)).0 (e ∙ yes), λ same. sym e ∙ (bytes_eq-Decides (lower p.name) (lower name)).1 same)

pub value_named : (name : List ℕ) (p : ParamText) (ps : List ParamText) → lower p.name ≡ lower name → value_of name (p ∷ ps) ≡ Some p.value
value_named name p ps e = rw ((bytes_eq-Decides (lower p.name) (lower name)).1 e) refl

pub value_other : (name : List ℕ) (p : ParamText) (ps : List ParamText) → ¬ (lower p.name ≡ lower name) → value_of name (p ∷ ps) ≡ value_of name ps
value_other name p ps h =
    elim (cases_bool (bytes_eq (lower p.name) (lower name))) [
      | inl is ↦ absurd (h ((bytes_eq-Decides (lower p.name) (lower name)).0 is))
      | inr other ↦ rw other refl
    ]

pub none_named : (name : List ℕ) (ps : List ParamText) → value_of name ps ≡ None → (k : ℕ) (d : ParamText) → k < length ps → ¬ (lower (get_or ps k d).name ≡ lower name)
none_named name [] e k d l = absurd (omega arith)
none_named name (p ∷ ps) e zero d l = λ same. some_not_none p.value (sym (value_named name p ps same) ∙ e)
none_named name (p ∷ ps) e (suc k) d l =
    elim (cases_bool (bytes_eq (lower p.name) (lower name))) [
      | inl is ↦ absurd (some_not_none p.value (sym (value_named name p ps ((bytes_eq-Decides (lower p.name) (lower name)).0 is)) ∙ e))
      | inr other ↦
          let apart : ¬ (lower p.name ≡ lower name) = λ same. not_both (bytes_eq (lower p.name) (lower name)) ((bytes_eq-Decides (lower p.name) (lower name)).1 same) other in
          none_named name ps (sym (value_other name p ps apart) ∙ e) k d (omega arith)
    ]

some_named : (name v : List ℕ) (ps : List ParamText) → value_of name ps ≡ Some v → (k : ℕ) × (k < length ps) × ((d : ParamText) → lower (get_or ps k d).name ≡ lower name)
some_named name v [] e = absurd (some_not_none v (sym e))
some_named name v (p ∷ ps) e =
    elim (cases_bool (bytes_eq (lower p.name) (lower name))) [
      | inl is ↦ (0, omega arith, λ d. (bytes_eq-Decides (lower p.name) (lower name)).0 is)
      | inr other ↦
          let apart : ¬ (lower p.name ≡ lower name) = λ same. not_both (bytes_eq (lower p.name) (lower name)) ((bytes_eq-Decides (lower p.name) (lower name)).1 same) other in
          let later : (k : ℕ) × (k < length ps) × ((d : ParamText) → lower (get_or ps k d).name ≡ lower name) = some_named name v ps (sym (value_other name p ps apart) ∙ e) in
          (suc later.0, omega (arith, later.1), later.2)
    ]

pub distinct_push : (ps : List ParamText) (p : ParamText) → AreDistinct ps → value_of p.name ps ≡ None → AreDistinct (ps ++ p ∷ [])
distinct_push ps p h e = all_pairs_push (λ p q. lower p.name ≢ lower q.name) ps p h (none_named p.name ps e)

-- a name that came before makes any longer list of parameters wrong
clash : (ps qs : List ParamText) (p : ParamText) (v : List ℕ) → value_of p.name ps ≡ Some v → ¬ (AreDistinct (ps ++ p ∷ qs))
clash ps qs p v e h =
    let at : (k : ℕ) × (k < length ps) × ((d : ParamText) → lower (get_or ps k d).name ≡ lower p.name) = some_named p.name v ps e in
    let k : ℕ = at.0 in
    let inside : k < length ps = at.1 in
    let first : get_or (ps ++ p ∷ qs) k p ≡ get_or ps k p = get_or_append_left ps (p ∷ qs) p k inside in
    let second : get_or (ps ++ p ∷ qs) (length ps) p ≡ p = get_or_at ps p qs p (length ps) refl in
    h k (length ps) p inside (omega (arith, length-append ps (p ∷ qs)))
    (ap (λ (x : ParamText). lower x.name) first ∙ (at.2 p ∙ sym (ap (λ (x : ParamText). lower x.name) second)))

-- parameters that were read up to here are the front of any list that the text consists of
rest_of : (spaced : Bool) (t : List ℕ) (found ps : List ParamText) (r : List ℕ) → Chain (ReadsParam spaced) t found r → AreParams spaced t ps
    → (zs : List ParamText) × (ps ≡ found ++ zs) × Chain (ReadsParam spaced) r zs []
rest_of spaced t found ps r h a =
    chain_goes_on (ReadsParam spaced) (param_once spaced) t found ps r [] h a.in_order (no_param_at_end spaced)

pub params_stop : (spaced : Bool) (t : List ℕ) (found : List ParamText) (r : List ℕ) → Chain (ReadsParam spaced) t found r → (length r ≡ 0 → ⊥) → HasNoStep (ReadsParam spaced) r
    → (ps : List ParamText) → ¬ (AreParams spaced t ps)
params_stop spaced t found r h some stuck ps a = go (rest_of spaced t found ps r h a)
  where
    go : ((zs : List ParamText) × (ps ≡ found ++ zs) × Chain (ReadsParam spaced) r zs []) → ⊥
    go ([], e, f) = some (ap length f)
    go (z ∷ zs, e, (later, first, more)) = stuck z later first

pub params_clash : (spaced : Bool) (t : List ℕ) (found : List ParamText) (r : List ℕ) (p : ParamText) (later v : List ℕ)
    → Chain (ReadsParam spaced) t found r → ReadsParam spaced r p later → value_of p.name found ≡ Some v
    → (ps : List ParamText) → ¬ (AreParams spaced t ps)
params_clash spaced t found r p later v h k e ps a = go (rest_of spaced t found ps r h a)
  where
    go : ((zs : List ParamText) × (ps ≡ found ++ zs) × Chain (ReadsParam spaced) r zs []) → ⊥
    go ([], e', f) =
        let short : length later < length r = param_shorter spaced r p later k in absurd (omega (arith, ap length f))
    go (z ∷ zs, e', (next, first, more)) =
        let same : p ≡ z = (param_once spaced r p z later next k first).0 in
        let whole : ps ≡ found ++ p ∷ zs = e' ∙ ap (λ (x : ParamText). found ++ x ∷ zs) (sym same) in
        clash found zs p v e (subst AreDistinct whole a.distinct)

pub params_whole : (spaced : Bool) (t : List ℕ) (found : List ParamText) (r : List ℕ) → Chain (ReadsParam spaced) t found r → length r ≡ 0 → AreDistinct found → AreParams spaced t found
params_whole spaced t found r h e d =
    record { in_order = chain_end (ReadsParam spaced) t found r [] (nil_from_length r e) h; distinct = d }

pub distinct_none : AreDistinct []
distinct_none = λ i j d l m. absurd (omega arith)
