-- A router of literal paths finds a path among them.
use Rattle.std.proofs.Common.{◌≡◌, ℕ, zero, suc, ◌-◌, ◌<◌, ◌&&◌, ◌==◌, not, List, [], ◌∷◌, ◌++◌, append_assoc, length, ltb, Ok, Option, None, Some, Bool, true, false, cond, if◌then◌else◌, refl, sym, ap, ◌∙◌, arith, nat_lt}
use Rattle.std.proofs.lemmas.Bool.Decides.{nat_tests}
use Rattle.std.proofs.lemmas.List.{append-nil}
use Rattle.std.specs.List.{list_all}
use Rattle.std.specs.Str.{bytes_eq}
use Rattle.matchit.specs.Rows.{RowsOf, param_token, catch_all_token}
use Rattle.matchit.specs.Order.{lookup}
use Rattle.matchit.specs.Seek.{same_text, own, step, or_else, seek, first, param_step, has_slash}
use Rattle.matchit.specs.Route.{scan, shape_error, parse_route}
use Rattle.matchit.specs.Router.{RouteOf, map_key}
use Rattle.soc_http.specs.Route.{Target, target_in}
use Rattle.soc_http.specs.inner.Routers.{is_literal, row_of, rows_of}

left_so : (a b : Bool) → a && b ≡ true → a ≡ true
left_so true b e = refl
left_so false b e = e

right_so : (a b : Bool) → a && b ≡ true → b ≡ true
right_so true b e = e
right_so false b e = absurd (cc)

both : (a b : Bool) → a ≡ true → b ≡ true → a && b ≡ true
both true b p q = q
both false b p q = p

byte_not : (x token : ℕ) → 255 < token → nat_lt x 256 ≡ true → (x == token) ≡ false
byte_not x token big low = grind (arith, nat_tests)

module _ {K : Type 0} where
  -- each row is a text, without a parameter
  abbrev pub are_texts : RowsOf K → Bool
  are_texts [] = true
  are_texts (r ∷ rest) = list_all (λ b. nat_lt b 256) r.0 && are_texts rest

  nothing_left : (p : List ℕ) → (param_step {K = K} [] p).1 ≡ []
  unfolding param_step
  nothing_left p =
      elim (has_slash p) as (λ v. (cond {A = ℕ × RowsOf K} v (0, []) (length p, [])).1 ≡ []) [
        | true ↦ refl
        | false ↦ refl
      ]

  none_found : (skip : ℕ) (p : List ℕ) → seek {K = K} skip [] p ≡ None
  unfolding seek
  none_found skip [] = refl
  none_found (suc skip) (b ∷ p) = none_found skip p
  none_found zero (b ∷ p) = simp (none_found 0 p, nothing_left (b ∷ p), none_found (((param_step {K = K} [] (b ∷ p)).0) - 1) p)

  -- no row goes on with a token that is no byte
  no_step : (token : ℕ) (rows : RowsOf K) → 255 < token → are_texts rows ≡ true → step token rows ≡ []
  no_step token [] big texts = refl
  no_step token (([], key) ∷ rest) big texts = no_step token rest big texts
  no_step token ((x ∷ t, key) ∷ rest) big texts =
      rw (byte_not x token big (left_so (nat_lt x 256) _ (left_so _ (are_texts rest) texts))) (no_step token rest big (right_so _ (are_texts rest) texts))

  step_texts : (b : ℕ) (rows : RowsOf K) → are_texts rows ≡ true → are_texts (step b rows) ≡ true
  step_texts b [] texts = refl
  step_texts b (([], key) ∷ rest) texts = step_texts b rest texts
  step_texts b ((x ∷ t, key) ∷ rest) texts =
      let further = step_texts b rest (right_so _ (are_texts rest) texts) in
      elim (x == b) as (λ v. are_texts (cond v ((t, key) ∷ step b rest) (step b rest)) ≡ true) [
        | true ↦ both _ _ (right_so (nat_lt x 256) _ (left_so _ (are_texts rest) texts)) further
        | false ↦ further
      ]

  own_is : (rows : RowsOf K) → own rows ≡ lookup [] rows
  own_is [] = refl
  own_is (([], key) ∷ rest) = refl
  own_is ((x ∷ t, key) ∷ rest) = own_is rest

  step_is : (b : ℕ) (p : List ℕ) (rows : RowsOf K) → lookup p (step b rows) ≡ lookup (b ∷ p) rows
  step_is b p [] = refl
  step_is b p (([], key) ∷ rest) = step_is b p rest
  step_is b p ((x ∷ t, key) ∷ rest) =
      elim (x == b) as (λ v. lookup p (cond v ((t, key) ∷ step b rest) (step b rest)) ≡ cond (v && same_text t p) (Some key) (lookup (b ∷ p) rest)) [
        | true ↦ ap (λ (o : Option K). cond (same_text t p) (Some key) o) (step_is b p rest)
        | false ↦ step_is b p rest
      ]

  left : (o : Option K) → or_else o None ≡ o
  left None = refl
  left (Some key) = refl

  -- a router of texts finds the first row that has the path
  pub first_is : (path : List ℕ) (rows : RowsOf K) → are_texts rows ≡ true → first rows path ≡ lookup path rows
  unfolding seek
  first_is [] rows texts = own_is rows
  first_is (b ∷ p) rows texts =
      let params = no_step param_token rows (omega arith) texts in
      let others = no_step catch_all_token rows (omega arith) texts in
      rw (params, others, nothing_left (b ∷ p), none_found (((param_step {K = K} [] (b ∷ p)).0) - 1) p, left (seek 0 (step b rows) p))
      (first_is p (step b rows) (step_texts b rows texts) ∙ step_is b p rows)

-- what is found in the rows of a table is what the table says
among : (path : List ℕ) (table : List (List ℕ × Target)) → map_key (λ r. r.value) (lookup path (rows_of table)) ≡ target_in table path
among path [] = refl
among path (l ∷ rest) =
    elim (bytes_eq l.0 path) as (λ v. map_key (λ r. r.value) (cond v (Some (record { pattern = l.0; text = l.0; names = []; value = l.1 })) (lookup path (rows_of rest))) ≡ (if v then Some l.1 else target_in rest path)) [
      | true ↦ refl
      | false ↦ among path rest
    ]

pub found_is : (rows : RowsOf (RouteOf Target)) (table : List (List ℕ × Target)) (path : List ℕ) → rows ≡ rows_of table → are_texts (rows_of table) ≡ true → map_key (λ r. r.value) (first rows path) ≡ target_in table path
found_is rows table path is texts =
    ap (λ (r : RowsOf (RouteOf Target)). map_key (λ r. r.value) (first r path)) is ∙ ap (map_key (λ r. r.value)) (first_is path (rows_of table) texts) ∙ among path table

is_other : (x y : ℕ) → not (x == y) ≡ true → (x == y) ≡ false
is_other x y h = grind (arith, nat_tests)

no_shape_error : (text : List ℕ) → is_literal text ≡ true → shape_error text ≡ None
no_shape_error [] plain = refl
no_shape_error (b ∷ rest) plain =
    let low = left_so (nat_lt b 256) _ (left_so _ (is_literal rest) plain) in
    let past : ltb catch_all_token b ≡ false = grind (arith, nat_tests) in
    rw (past, byte_not b 256 (omega arith) low, byte_not b 257 (omega arith) low) (no_shape_error rest (right_so _ (is_literal rest) plain))

-- a text without braces is scanned as it stands
scan_literal : (p t text : List ℕ) → is_literal text ≡ true → scan (record { pattern = p; text = t; names = []; name_start = 0; catch_all = false; mode = 0 }) text ≡ Ok (record { pattern = p ++ text; text = t ++ text; names = []; name_start = 0; catch_all = false; mode = 0 })
unfolding scan
scan_literal p t [] plain = rw (append-nil p, append-nil t) refl
scan_literal p t (b ∷ rest) plain =
    let byte = left_so _ (is_literal rest) plain in
    let no_braces = right_so (nat_lt b 256) _ byte in
    rw (is_other b 123 (left_so _ (not (b == 125)) no_braces), is_other b 125 (right_so (not (b == 123)) _ no_braces))
    (scan_literal (p ++ b ∷ []) (t ++ b ∷ []) rest (right_so _ (is_literal rest) plain) ∙ simp append_assoc)

pub reads_literal : (text : List ℕ) → is_literal text ≡ true → parse_route text ≡ Ok (record { pattern = text; text = text; names = []; name_start = 0; catch_all = false; mode = 0 })
reads_literal text plain = rw (scan_literal [] [] text plain, no_shape_error text plain) refl
