-- The table of the crashes: what is found in it, and what one more crash and a new standing make of it.
use Rattle.std.proofs.Common.{◌≡◌, ℕ, ◌+◌, ◌-◌, ◌<◌, ◌≤◌, ◌^◌, Bool, true, false, List, [], ◌∷◌, ◌++◌, length, get_or, set, map, Some, Ok, Err, cond, sym, ap, subst, ◌∙◌, arith, refl}
use Rattle.std.specs.Prelude.{count_by, insert, slice_get}
use Rattle.std.proofs.lemmas.List.{get_or-map, get_or_read, length-map, length-set, length_push, map-set, map_push, set-get_or}
use Rattle.std.proofs.lemmas.List.Edits.{length-insert}
use Rattle.std.proofs.lemmas.List.Sums.{count_by-le-length, get_or-le-sum_by, sum_by-set, sum_by_push}
use mir.Val.{bool_byte}
use Rattle.soc_ledger.specs.declared.crash.Crash.{Crash}
use Rattle.soc_ledger.specs.declared.crash.Filed.{Filed}
use Rattle.soc_ledger.specs.declared.crash.Standing.{Standing}
use Rattle.soc_ledger.specs.Events.{is_among}
use Rattle.soc_ledger.specs.inner.Tables.{FindsNumber, IsCrashTable, IsIndex, ids_in, shows_report}
use Rattle.soc_ledger.proofs.Index.{all_at, ids-in, index-none, index_push, number_found, number_missing}
use Rattle.soc_ledger.proofs.Lists.{place_among, true_is_not_false}

abbrev ids_of : List Crash → List (List ℕ)
ids_of crashes = map (λ crash. crash.filed.id) crashes

-- what a search in the slices of the tables says of the tables
module _ (xs crashes : List Crash) (ns by_id : List ℕ) (filed : List Filed) (id : List ℕ)
    (same : xs ≡ crashes) (same_numbers : ns ≡ by_id) (index : IsIndex (ids_of crashes) by_id) (viewed : map (λ (c : Crash). c.filed) crashes ≡ filed) where
  ids : ids_of crashes ≡ ids_in filed
  ids = sym (ids-in crashes) ∙ ap ids_in viewed

  pub found_number : (i n : ℕ) → FindsNumber (ids_of xs) ns id (Ok i) → n ≡ get_or by_id i n → slice_get (ids_in filed) n ≡ Some id
  found_number i n found read =
      let here : FindsNumber (ids_of crashes) by_id id (Ok i) = subst (λ u. FindsNumber (ids_of u) by_id id (Ok i)) same (subst (λ u. FindsNumber (ids_of xs) u id (Ok i)) same_numbers found) in
      ap (λ u. slice_get u n) (sym ids)
      ∙ (ap (λ u. slice_get (ids_of crashes) u) (get_or_read by_id i n here.0 read 0) ∙ number_found (ids_of crashes) by_id id i index here)

  pub found_gap : (i : ℕ) → FindsNumber (ids_of xs) ns id (Err i) → is_among (ids_in filed) id ≡ false
  found_gap i gap =
      let here : FindsNumber (ids_of crashes) by_id id (Err i) = subst (λ u. FindsNumber (ids_of u) by_id id (Err i)) same (subst (λ u. FindsNumber (ids_of xs) u id (Err i)) same_numbers gap) in
      ap (λ u. is_among u id) (sym ids) ∙ number_missing (ids_of crashes) by_id id i index here

  -- a new id has no place
  pub found_none : (i : ℕ) → is_among (ids_in filed) id ≡ false → FindsNumber (ids_of xs) ns id (Ok i) → ⊥
  found_none i new found =
      let here : FindsNumber (ids_of crashes) by_id id (Ok i) = subst (λ u. FindsNumber (ids_of u) by_id id (Ok i)) same (subst (λ u. FindsNumber (ids_of xs) u id (Ok i)) same_numbers found) in
      let number : ℕ = get_or by_id i 0 in
      let lt : number < length (ids_of crashes) = all_at (λ n. n < length (ids_of crashes)) by_id i index.within here.0 in
      let there : is_among (ids_in filed) id ≡ true = ap (λ u. is_among u id) (sym ids) ∙ (ap (λ u. is_among (ids_of crashes) u) (sym here.1) ∙ place_among (ids_of crashes) number lt) in
      true_is_not_false (sym there ∙ new)

-- ---- counts

byte-is : (b : Bool) → bool_byte b ≡ cond b 1 0
byte-is true = refl
byte-is false = refl

module _ (f : Crash → Bool) (crashes : List Crash) where
  -- a count once a crash is another
  pub counted_again : (i : ℕ) (c c' : Crash) (n : ℕ) → i < length crashes → c ≡ get_or crashes i c → n ≡ count_by f crashes
      → n - bool_byte (f c) + bool_byte (f c') ≡ count_by f (set crashes i c')
  counted_again i c c' n lt is counts =
      let moved : count_by f (set crashes i c') + cond (f (get_or crashes i c)) 1 0 ≡ count_by f crashes + cond (f c') 1 0 = sum_by-set (λ x. cond (f x) 1 0) crashes i c' c lt in
      let old : bool_byte (f c) ≡ cond (f (get_or crashes i c)) 1 0 = byte-is (f c) ∙ ap (λ u. cond (f u) 1 0) is in
      let new : bool_byte (f c') ≡ cond (f c') 1 0 = byte-is (f c') in
      let some : cond (f (get_or crashes i c)) 1 0 ≤ count_by f crashes = get_or-le-sum_by (λ x. cond (f x) 1 0) crashes i c lt in
      omega arith

  pub counted_more : (c : Crash) (n : ℕ) → n ≡ count_by f crashes → n + bool_byte (f c) ≡ count_by f (crashes ++ c ∷ [])
  counted_more c n counts =
      let more : count_by f (crashes ++ c ∷ []) ≡ count_by f crashes + cond (f c) 1 0 = sum_by_push (λ x. cond (f x) 1 0) crashes c in
      let new : bool_byte (f c) ≡ cond (f c) 1 0 = byte-is (f c) in
      omega arith

  pub count_fits : (i : ℕ) (c c' : Crash) (n : ℕ) → i < length crashes → c ≡ get_or crashes i c → n ≡ count_by f crashes → length crashes < 2 ^ 32
      → n - bool_byte (f c) + bool_byte (f c') < 2 ^ 32
  count_fits i c c' n lt is counts few =
      let again = counted_again i c c' n lt is counts in
      let most : count_by f (set crashes i c') ≤ length (set crashes i c') = count_by-le-length f (set crashes i c') in
      let long : length (set crashes i c') ≡ length crashes = length-set crashes i c' in
      omega arith

-- ---- what stands in the table after a call

pub table-none : (crashes : List Crash) (by_id : List ℕ) → crashes ≡ [] → by_id ≡ [] → IsCrashTable crashes by_id 0 0
table-none crashes by_id none none' =
    subst (λ u. IsCrashTable u by_id 0 0) (sym none) (subst (λ u. IsCrashTable [] u 0 0) (sym none')
    (record { few = omega arith; index = index-none; count = refl; withdrawn_count = refl; reported_count = refl }))

-- a mark that an element keeps stays in the list
pub map-kept : {A B : Type 0} (f : A → B) (xs : List A) (i : ℕ) (x y : A) → i < length xs → x ≡ get_or xs i x → f y ≡ f x → map f (set xs i y) ≡ map f xs
map-kept f xs i x y lt is kept =
    map-set f xs i y
    ∙ (ap (λ u. set (map f xs) i u) (kept ∙ (ap f is ∙ sym (get_or-map f xs i x (f x) lt)))
    ∙ set-get_or (map f xs) i (f x))

pub table-standing : (crashes : List Crash) (by_id : List ℕ) (w r : ℕ) (i : ℕ) (c : Crash) (s : Standing) (w' r' : ℕ) → IsCrashTable crashes by_id w r → i < length crashes → c ≡ get_or crashes i c
    → w' ≡ w - bool_byte c.standing.withdrawn + bool_byte s.withdrawn → r' ≡ r - bool_byte (shows_report c.standing) + bool_byte (shows_report s)
    → IsCrashTable (set crashes i (record { filed = c.filed; standing = s })) by_id w' r'
table-standing crashes by_id w r i c s w' r' table lt is withdrawn reported =
    let c' : Crash = record { filed = c.filed; standing = s } in
    let long : length (set crashes i c') ≡ length crashes = length-set crashes i c' in record {
      few = omega (arith, table.few);
      index = subst (λ u. IsIndex u by_id) (sym (map-kept (λ (x : Crash). x.filed.id) crashes i c c' lt is refl)) table.index;
      count = table.count ∙ sym long;
      withdrawn_count = withdrawn ∙ counted_again (λ x. x.standing.withdrawn) crashes i c c' w lt is table.withdrawn_count;
      reported_count = reported ∙ counted_again (λ x. shows_report x.standing) crashes i c c' r lt is table.reported_count;
    }

pub table-push : (xs crashes : List Crash) (ns by_id : List ℕ) (w r : ℕ) (i number : ℕ) (c : Crash) (crashes' : List Crash) (by_id' : List ℕ) (w' r' : ℕ)
    → xs ≡ crashes → ns ≡ by_id → IsCrashTable crashes by_id w r → length crashes < 2 ^ 32 - 1 → FindsNumber (ids_of xs) ns c.filed.id (Err i) → number ≡ length crashes
    → crashes' ≡ crashes ++ c ∷ [] → by_id' ≡ insert by_id i number
    → w' ≡ w + bool_byte c.standing.withdrawn → r' ≡ r + bool_byte (shows_report c.standing)
    → IsCrashTable crashes' by_id' w' r'
table-push xs crashes ns by_id w r i number c crashes' by_id' w' r' same same_numbers table few gap is more more_numbers withdrawn reported =
    let here : FindsNumber (ids_of crashes) by_id c.filed.id (Err i) =
    subst (λ u. FindsNumber (ids_of u) by_id c.filed.id (Err i)) same (subst (λ u. FindsNumber (ids_of xs) u c.filed.id (Err i)) same_numbers gap) in
    let pushed : IsIndex (ids_of crashes ++ c.filed.id ∷ []) (insert by_id i (length (ids_of crashes))) = index_push (ids_of crashes) by_id c.filed.id i table.index here in
    let numbered : insert by_id i (length (ids_of crashes)) ≡ by_id' = ap (λ u. insert by_id i u) (length-map crashes (λ (x : Crash). x.filed.id) ∙ sym is) ∙ sym more_numbers in
    let long : length (crashes ++ c ∷ []) ≡ length crashes + 1 = length_push crashes c in
    subst (λ u. IsCrashTable u by_id' w' r') (sym more) (record {
      few = omega arith;
      index =
          subst (λ u. IsIndex (ids_of (crashes ++ c ∷ [])) u) numbered
          (subst (λ u. IsIndex u (insert by_id i (length (ids_of crashes)))) (sym (map_push (λ (x : Crash). x.filed.id) crashes c)) pushed);
      count = ap length more_numbers ∙ (length-insert by_id i number here.0 ∙ (ap (λ n. n + 1) table.count ∙ sym long));
      withdrawn_count = withdrawn ∙ counted_more (λ x. x.standing.withdrawn) crashes c w table.withdrawn_count;
      reported_count = reported ∙ counted_more (λ x. shows_report x.standing) crashes c r table.reported_count;
    })

-- the place of a crash in the table
pub within : (crashes : List Crash) (filed : List Filed) (n : ℕ) → map (λ (c : Crash). c.filed) crashes ≡ filed → n < length filed → n < length crashes
within crashes filed n viewed lt =
    let long : length (map (λ (c : Crash). c.filed) crashes) ≡ length crashes = length-map crashes (λ (c : Crash). c.filed) in
    let same : length (map (λ (c : Crash). c.filed) crashes) ≡ length filed = ap length viewed in
    omega arith

pub few_crashes : (crashes : List Crash) (filed : List Filed) → map (λ (c : Crash). c.filed) crashes ≡ filed → length filed < 2 ^ 32 - 1 → length crashes < 2 ^ 32 - 1
few_crashes crashes filed viewed few =
    let long : length (map (λ (c : Crash). c.filed) crashes) ≡ length crashes = length-map crashes (λ (c : Crash). c.filed) in
    let same : length (map (λ (c : Crash). c.filed) crashes) ≡ length filed = ap length viewed in
    omega arith
