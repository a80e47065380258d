-- The body of a kept report's entry, part by part.
use Rattle.std.proofs.Common.{◌≡◌, ◌≤◌, ℕ, ◌-◌, List, ◌++◌, length, take, drop, refl, sym, ◌∙◌, ap, subst, arith, length-append, take-append-drop}
use Rattle.soc_book.proofs.Words.{take_all, take_at, drop_at, drop-drop, length-drop, length-take, IsId, id_len, Cell, HasText, row_text, KeptReport, IsReport}
use Rattle.soc_raw.specs.Refusals.{Refuses}
use Rattle.soc_raw.specs.declared.record_error.RecordError.{RecordError}
use Rattle.soc_raw.specs.declared.record_error.RecordError.TheVariants.{BadRecord, NoMemory}

module _ (made : KeptReport) (body : List ℕ) (is : IsReport made body) where
  id_count : length made.id ≡ 36
  id_count = id_len made.id is.is_id

  behind_id : drop 36 body ≡ made.digest ++ row_text made.row
  behind_id = ap (λ (x : List ℕ). drop 36 x) is.whole ∙ drop_at made.id (made.digest ++ row_text made.row) 36 id_count

  pub id_first : take 36 body ≡ made.id
  id_first = ap (λ (x : List ℕ). take 36 x) is.whole ∙ take_at made.id (made.digest ++ row_text made.row) 36 id_count

  pub digest_next : take 32 (drop 36 body) ≡ made.digest
  digest_next = ap (λ (x : List ℕ). take 32 x) behind_id ∙ take_at made.digest (row_text made.row) 32 is.long

  pub row_last : drop 68 body ≡ row_text made.row
  row_last = sym (drop-drop 32 36 body) ∙ (ap (λ (x : List ℕ). drop 32 x) behind_id ∙ drop_at made.digest (row_text made.row) 32 is.long)

  pub row_read : HasText made.row (drop 68 body)
  row_read = let P : List ℕ → Type 0 = λ x. HasText made.row x in subst P (sym row_last) is.has_text

  pub long_enough : 68 ≤ length body
  long_enough =
      let all = ap (λ (x : List ℕ). length x) is.whole in
      let first = length-append made.id (made.digest ++ row_text made.row) in
      let second = length-append made.digest (row_text made.row) in
      let count = id_count in
      let long = is.long in
      omega (arith, all, first, second, count, long)

-- a body of an id, 32 bytes and a row's text
pub of_parts : (id digest : List ℕ) (row : List Cell) (body : List ℕ) → 68 ≤ length body → IsId id → id ≡ take 36 body → digest ≡ take 32 (drop 36 body) → HasText row (drop 68 body)
    → IsReport (record { id = id; digest = digest; row = row }) body
of_parts id digest row body long is_id first next has =
    let text : drop 68 body ≡ row_text row = has.whole in
    let rest : drop 36 body ≡ digest ++ row_text row =
    sym (take-append-drop 32 (drop 36 body)) ∙ (ap (λ (x : List ℕ). x ++ drop 32 (drop 36 body)) (sym next) ∙ ap (λ (x : List ℕ). digest ++ x) (drop-drop 32 36 body ∙ text)) in
    let P : List ℕ → Type 0 = λ x. HasText row x in
    record {
      is_id = is_id;
      long = ap (λ (x : List ℕ). length x) next ∙ (length-take 32 (drop 36 body) ∙ omega (arith, long, length-drop 36 body));
      has_text = subst P text has;
      whole = sym (take-append-drop 36 body) ∙ (ap (λ (x : List ℕ). x ++ drop 36 body) (sym first) ∙ ap (λ (x : List ℕ). id ++ x) rest);
    }

-- a report of the same body is the one that was read
pub same_report : (made : KeptReport) (id digest : List ℕ) (row : List Cell) (body : List ℕ) → IsReport made body → id ≡ take 36 body → digest ≡ take 32 (drop 36 body) → made.row ≡ row
    → made ≡ record { id = id; digest = digest; row = row }
same_report made id digest row body is first next same =
    let a : made.id ≡ id = sym (first ∙ id_first made body is) in
    let b : made.digest ≡ digest = sym (next ∙ digest_next made body is) in
    let with_id : List ℕ → KeptReport = λ x. record { id = x; digest = made.digest; row = made.row } in
    let with_digest : List ℕ → KeptReport = λ x. record { id = id; digest = x; row = made.row } in
    let with_row : List Cell → KeptReport = λ x. record { id = id; digest = digest; row = x } in
    ap with_id a ∙ (ap with_digest b ∙ ap with_row same)

-- ---- as a body is read

-- what stands behind the first bytes
rest_of : (body : List ℕ) → take (length body - 68) (drop 68 body) ≡ drop 68 body
rest_of body = take_all (length body - 68) (drop 68 body) (omega (arith, length-drop 68 body))

pub read_ok : (id : List ℕ) (row : List Cell) (body : List ℕ) → 68 ≤ length body → IsId (take 36 body) → id ≡ take 36 body → HasText row (take (length body - 68) (drop 68 body))
    → IsReport (record { id = id; digest = take 32 (drop 36 body); row = row }) body
read_ok id row body long is_id first has =
    let P : List ℕ → Type 0 = λ x. HasText row x in
    of_parts id (take 32 (drop 36 body)) row body long (subst IsId (sym first) is_id) first refl (subst P (rest_of body) has)

row_text_read : (made : KeptReport) (body : List ℕ) → IsReport made body → HasText made.row (take (length body - 68) (drop 68 body))
row_text_read made body is = let P : List ℕ → Type 0 = λ x. HasText made.row x in subst P (sym (rest_of body)) (row_read made body is)

pub read_only : (made : KeptReport) (id : List ℕ) (row : List Cell) (body : List ℕ) → IsReport made body → id ≡ take 36 body → ((cells : List Cell) → HasText cells (take (length body - 68) (drop 68 body)) → cells ≡ row)
    → made ≡ record { id = id; digest = take 32 (drop 36 body); row = row }
read_only made id row body is first only = same_report made id (take 32 (drop 36 body)) row body is first refl (only made.row (row_text_read made body is))

pub bad_row : (e : RecordError) (body : List ℕ) → Refuses e ((cells : List Cell) → ¬ (HasText cells (take (length body - 68) (drop 68 body)))) → Refuses e ((made : KeptReport) → ¬ (IsReport made body))
bad_row BadRecord body none = λ made is. none made.row (row_text_read made body is)
bad_row NoMemory body none = tt

pub bad_id : (body : List ℕ) → ¬ (IsId (take 36 body)) → (made : KeptReport) → ¬ (IsReport made body)
bad_id body none made is = none (subst IsId (sym (id_first made body is)) is.is_id)

pub too_short : (body : List ℕ) → ¬ (68 ≤ length body) → (made : KeptReport) → ¬ (IsReport made body)
too_short body short made is = short (long_enough made body is)
