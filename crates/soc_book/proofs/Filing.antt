-- What is kept of each accepted crash at its number.
use Rattle.std.proofs.Common.{◌≡◌, ℕ, zero, suc, ◌<◌, true, false, cond, ◌||◌, List, [], ◌∷◌, ◌++◌, length, map, Option, Some, None, IfSome, IsSome, sym, ap, subst, ◌∙◌, refl, append_assoc, arith, IsSomeAnd}
use Rattle.soc_book.proofs.Words.{bytes_eq, slice_get, AllByRecursion, find, option_map_or, option_and_then, option_map, IfSome_then, or_true, none_is_not_some, Crash, IsCrash, Entry, Filed, LedgerState, id_of, is_among, AreDistinct, true_is_not_false, turned, itself, IsAt, Change, Accepted, accepted_of, raw_of, has_id, IsApart, AreTold, IsFiledOf, IsFiled, AreFiled, Cell, Text, TellsCrash, product_of, IsRowFor}
use Rattle.soc_book.proofs.Changes.{IsSoundCrash}

-- ---- more entries, more crashes

pub IsAt-more : (entries more : List Entry) (place : ℕ) (entry : Entry) → IsAt entries place entry → IsAt (entries ++ more) place entry
IsAt-more entries more place entry at = record {
  before = at.before;
  behind = at.behind ++ more;
  whole = ap (λ (x : List Entry). x ++ more) at.whole ∙ append_assoc at.before (entry ∷ at.behind) more;
  place_is = at.place_is;
}

filed-more : (entries more : List Entry) (crash : Accepted) (filed : Filed) → IsFiled entries crash filed → IsFiled (entries ++ more) crash filed
filed-more entries more crash filed is = record {
  id = is.id;
  told = IfSome_then crash.raw is.told (λ raw of. record { product = of.product; digest = of.digest; at = IsAt-more entries more filed.place _ of.at; content = of.content });
}

pub AreFiled-more : (entries more : List Entry) (crashes : List Accepted) (filed : List Filed) → AreFiled entries crashes filed → AreFiled (entries ++ more) crashes filed
AreFiled-more entries more [] [] are = tt
AreFiled-more entries more (c ∷ cs) (f ∷ fs) are = (filed-more entries more c f are.0, AreFiled-more entries more cs fs are.1)
AreFiled-more entries more _ _ are = absurd are

pub AreFiled-push : (entries : List Entry) (crashes : List Accepted) (filed : List Filed) (crash : Accepted) (f : Filed) → AreFiled entries crashes filed → IsFiled entries crash f
    → AreFiled entries (crashes ++ crash ∷ []) (filed ++ f ∷ [])
AreFiled-push entries [] [] crash f are is = (is, tt)
AreFiled-push entries (c ∷ cs) (g ∷ gs) crash f are is = (are.0, AreFiled-push entries cs gs crash f are.1 is)
AreFiled-push entries _ _ crash f are is = absurd are

pub filed_ids : (entries : List Entry) (crashes : List Accepted) (filed : List Filed) → AreFiled entries crashes filed → map (λ (f : Filed). f.id) filed ≡ map (λ (c : Accepted). c.id) crashes
filed_ids entries [] [] are = refl
filed_ids entries (c ∷ cs) (g ∷ gs) are = ap (λ x. x ∷ map (λ (f : Filed). f.id) gs) are.0.id ∙ ap (λ xs. c.id ∷ xs) (filed_ids entries cs gs are.1)
filed_ids entries _ _ are = absurd are

-- ---- the crash of a number

pub filed_at : (entries : List Entry) (crashes : List Accepted) (filed : List Filed) (number : ℕ) (f : Filed) → AreFiled entries crashes filed → slice_get filed number ≡ Some f
    → (crash : Accepted) × (slice_get crashes number ≡ Some crash) × IsFiled entries crash f
filed_at entries [] [] number f are is = absurd (none_is_not_some is)
filed_at entries (c ∷ cs) (g ∷ gs) zero f are is = let same : g ≡ f = cc in (c, refl, subst (λ (x : Filed). IsFiled entries c x) same are.0)
filed_at entries (c ∷ cs) (g ∷ gs) (suc number) f are is = filed_at entries cs gs number f are.1 is
filed_at entries _ _ number f are is = absurd are

pub all_got : {A : Type 0} (P : A → Type 0) (xs : List A) (i : ℕ) (x : A) → AllByRecursion P xs → slice_get xs i ≡ Some x → P x
all_got P [] i x all is = absurd (none_is_not_some is)
all_got P (y ∷ xs) zero x all is = let same : y ≡ x = cc in subst P same all.0
all_got P (y ∷ xs) (suc i) x all is = all_got P xs i x all.1 is

-- no other crash has its id
pub found_at : (crashes : List Accepted) (number : ℕ) (crash : Accepted) → IsApart crashes → slice_get crashes number ≡ Some crash → find (has_id crash.id) crashes ≡ Some crash
found_at [] number crash apart is = absurd (none_is_not_some is)
found_at (c ∷ cs) zero crash apart is =
    let same : c ≡ crash = cc in
    ap (λ b. cond b (Some c) (find (has_id crash.id) cs)) (ap (λ (x : Accepted). bytes_eq x.id crash.id) same ∙ itself crash.id) ∙ ap (λ (x : Accepted). Some x) same
found_at (c ∷ cs) (suc number) crash apart is =
    let other : bytes_eq c.id crash.id ≡ false = turned crash.id c.id (all_got (λ (x : Accepted). bytes_eq x.id c.id ≡ false) cs number crash apart.0 is) in
    ap (λ b. cond b (Some c) (find (has_id crash.id) cs)) other ∙ found_at cs number crash apart.1 is

-- what is known of the crash of a number where each crash is told
pub record IsKnown (entries : List Entry) (log : List Change) (f : Filed) : Type 0 where
  pub raw : Crash
  pub is : raw_of log f.id ≡ Some raw
  pub id : raw.id ≡ f.id
  pub crash : IsCrash raw
  pub filed : IsFiledOf entries f raw

known_raw : (entries : List Entry) (log : List Change) (f : Filed) (crash : Accepted) (raw : Option Crash) → crash.raw ≡ raw → find (has_id crash.id) (accepted_of log) ≡ Some crash → IsFiled entries crash f
    → IsSoundCrash crash → IsSome raw → IsKnown entries log f
known_raw entries log f crash None is found filed sound told = absurd (true_is_not_false (sym told))
known_raw entries log f crash (Some raw) is found filed sound told =
    let here : IsFiledOf entries f raw = subst (λ (o : Option Crash). IfSome o (IsFiledOf entries f)) is filed.told in
    let both = subst (λ (o : Option Crash). IfSome o (λ r. (r.id ≡ crash.id) × IsCrash r)) is sound.1 in
    record {
      raw = raw;
      is = ap (λ id. raw_of log id) filed.id ∙ (ap (λ (o : Option Accepted). option_and_then (λ (c : Accepted). c.raw) o) found ∙ is);
      id = both.0 ∙ sym filed.id;
      crash = both.1;
      filed = here;
    }

pub known : (entries : List Entry) (log : List Change) (filed : List Filed) (number : ℕ) (f : Filed) → AreFiled entries (accepted_of log) filed → IsApart (accepted_of log) → AllByRecursion IsSoundCrash (accepted_of log) → AreTold (accepted_of log)
    → slice_get filed number ≡ Some f → IsKnown entries log f
known entries log filed number f are apart sound told is =
    let here = filed_at entries (accepted_of log) filed number f are is in
    known_raw entries log f here.0 (here.0).raw refl (found_at (accepted_of log) number here.0 apart here.1) here.2
    (all_got IsSoundCrash (accepted_of log) number here.0 sound here.1) (all_got (λ (c : Accepted). IsSome c.raw) (accepted_of log) number here.0 told here.1)

-- a row that tells of an id and a product tells of the crash that has them, and the other way round
module _ (product : Option (List ℕ)) (id : List ℕ) where
  pub row_tells_crash : (raw : Option Crash) (other : List ℕ) → id ≡ other → IfSome raw (λ x. (x.id ≡ other) × IsCrash x) → IfSome raw (λ x. product ≡ product_of x) → (row : List Cell) → IsRowFor id product row → IfSome raw (λ x. TellsCrash x row)
  row_tells_crash None other same sound is row of = tt
  row_tells_crash (Some x) other same sound is row of = record { id = of.id ∙ ap (λ y. Some (Text y)) (same ∙ sym sound.0); product = of.product ∙ ap (λ (o : Option (List ℕ)). option_map Text o) is }

  pub crash_tells_row : (raw : Option Crash) (other : List ℕ) → id ≡ other → IfSome raw (λ x. (x.id ≡ other) × IsCrash x) → IfSome raw (λ x. product ≡ product_of x) → (row : List Cell) → IsSomeAnd raw (λ x. TellsCrash x row) → IsRowFor id product row
  crash_tells_row None other same sound is row tells = absurd tells
  crash_tells_row (Some x) other same sound is row tells = record { id = tells.id ∙ ap (λ y. Some (Text y)) (sound.0 ∙ sym same); product = tells.product ∙ ap (λ (o : Option (List ℕ)). option_map Text o) (sym is) }

-- ---- the ids of numbers

pub got : {A : Type 0} (xs : List A) (number : ℕ) → number < length xs → (x : A) × (slice_get xs number ≡ Some x)
got [] number less = absurd (omega (arith, less))
got (x ∷ xs) zero less = (x, refl)
got (x ∷ xs) (suc number) less = got xs number (omega (arith, less))

pub id_of-got : (ledger : LedgerState) (number : ℕ) (f : Filed) → slice_get ledger.crashes number ≡ Some f → id_of ledger number ≡ f.id
id_of-got ledger number f is = ap (λ (o : Option Filed). option_map_or (λ (c : Filed). c.id) o []) is

id_in-front : (xs ys : List Filed) (number : ℕ) → number < length xs → option_map_or (λ (c : Filed). c.id) (slice_get (xs ++ ys) number) [] ≡ option_map_or (λ (c : Filed). c.id) (slice_get xs number) []
id_in-front [] ys number less = absurd (omega (arith, less))
id_in-front (x ∷ xs) ys zero less = refl
id_in-front (x ∷ xs) ys (suc number) less = id_in-front xs ys number (omega (arith, less))

pub id_of-front : (filed more : List Filed) (ledger ledger' : LedgerState) (number : ℕ) → ledger.crashes ≡ filed → ledger'.crashes ≡ filed ++ more → number < length filed → id_of ledger' number ≡ id_of ledger number
id_of-front filed more ledger ledger' number old new less =
    ap (λ (fs : List Filed). option_map_or (λ (c : Filed). c.id) (slice_get fs number) []) new
    ∙ (id_in-front filed more number less ∙ sym (ap (λ (fs : List Filed). option_map_or (λ (c : Filed). c.id) (slice_get fs number) []) old))

id_in-last : (xs : List Filed) (f : Filed) → option_map_or (λ (c : Filed). c.id) (slice_get (xs ++ f ∷ []) (length xs)) [] ≡ f.id
id_in-last [] f = refl
id_in-last (x ∷ xs) f = id_in-last xs f

pub id_of-last : (filed : List Filed) (f : Filed) (ledger' : LedgerState) → ledger'.crashes ≡ filed ++ f ∷ [] → id_of ledger' (length filed) ≡ f.id
id_of-last filed f ledger' new = ap (λ (fs : List Filed). option_map_or (λ (c : Filed). c.id) (slice_get fs (length filed)) []) new ∙ id_in-last filed f

-- an id among those of crashes
pub among_ids : (filed : List Filed) (number : ℕ) → number < length filed → is_among (map (λ (f : Filed). f.id) filed) (option_map_or (λ (c : Filed). c.id) (slice_get filed number) []) ≡ true
among_ids [] number less = absurd (omega (arith, less))
among_ids (f ∷ fs) zero less = ap (λ b. b || is_among (map (λ (g : Filed). g.id) fs) f.id) (itself f.id)
among_ids (f ∷ fs) (suc number) less =
    let rest = among_ids fs number (omega (arith, less)) in
    ap (λ b. bytes_eq f.id (option_map_or (λ (c : Filed). c.id) (slice_get fs number) []) || b) rest ∙ or_true (bytes_eq f.id (option_map_or (λ (c : Filed). c.id) (slice_get fs number) []))

-- no two numbers have the same id
pub distinct_numbers : (filed : List Filed) (m n : ℕ) → AreDistinct (map (λ (f : Filed). f.id) filed) → m < length filed → n < length filed
    → option_map_or (λ (c : Filed). c.id) (slice_get filed m) [] ≡ option_map_or (λ (c : Filed). c.id) (slice_get filed n) [] → m ≡ n
distinct_numbers [] m n distinct first second same = absurd (omega (arith, first))
distinct_numbers (f ∷ fs) zero zero distinct first second same = refl
distinct_numbers (f ∷ fs) zero (suc n) distinct first second same =
    absurd (true_is_not_false (sym (among_ids fs n (omega (arith, second))) ∙ (ap (λ id. is_among (map (λ (g : Filed). g.id) fs) id) (sym same) ∙ distinct.0)))
distinct_numbers (f ∷ fs) (suc m) zero distinct first second same =
    absurd (true_is_not_false (sym (among_ids fs m (omega (arith, first))) ∙ (ap (λ id. is_among (map (λ (g : Filed). g.id) fs) id) same ∙ distinct.0)))
distinct_numbers (f ∷ fs) (suc m) (suc n) distinct first second same = ap suc (distinct_numbers fs m n distinct.1 (omega (arith, first)) (omega (arith, second)) same)
