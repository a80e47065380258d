-- What searches and top crashers do: they are answered by the rows of the caller's view.
use Rattle.std.proofs.Common.{◌≡◌, ℕ, ◌+◌, ◌<◌, ◌≤◌, true, false, IsTrue, List, [], ◌∷◌, length, map, Option, Some, sym, ap, subst, ◌∙◌, refl, arith, nat_eq, inl}
use Rattle.soc_book.proofs.Words.{filter_map, AllByRecursion, list_any, option_map, eqb-true, Caller, Cell, Crash, Granted, is_granted, TellsCrash, row_at, HaveOwnIds, ListTheSame, seen_rows, DiskTold, Looks, JournalState, LedgerState, Limits, Basis, RowsTell, IsReplyTo, accepted_of, State, entries_of, kept_of, view_of, rows_in, all_weaker, Pending, Does, Stands, shown_row}
use Rattle.std.specs.Prelude.{◌||◌}
use Rattle.soc_query.specs.declared.answer.Answer.{Answer}
use Rattle.soc_query.specs.Answers.{answer_of, columns_of, facet_of, matching_rows}
use Rattle.soc_query.specs.Queries.{AreGranted, Asked}
use Rattle.soc_tops.specs.declared.query.TopsQuery.{TopsQuery}
use Rattle.soc_tops.specs.declared.tops.Tops.{Tops}
use Rattle.soc_tops.specs.Tops.{tops_of}
use Rattle.soc_desk.specs.declared.desk.Command.TheVariants as C
use Rattle.soc_desk.specs.declared.desk.Reply.TheVariants as R
use Rattle.soc_desk.proofs.Unseen.{every}
use Rattle.soc_desk.proofs.Views.{true_is_not_false}
use Rattle.soc_book.proofs.Listings.{AreSame, ids_of, listed, same_rows}
use Rattle.soc_book.proofs.Filing.{filed_ids}
use Rattle.soc_book.proofs.Readings.{all_passing, stays}

-- the rows of a basis are a reporter's, which tell of their crashes
pub rows_tell : (basis : Basis) (row_of : Crash → List Cell) → basis.row_of ≡ row_of → ((crash : Crash) → TellsCrash crash (row_of crash)) → RowsTell basis
rows_tell basis row_of is tells = λ crash. subst (λ f. TellsCrash crash (f crash)) (sym is) (tells crash)

-- ---- what an answer has of the caller's fields alone

among_granted : (caller : Caller) (fs : List ℕ) (f : ℕ) → AllByRecursion (Granted caller) fs → list_any (λ g. nat_eq g f) fs ≡ true → IsTrue (is_granted caller f)
among_granted caller [] f all h = absurd (true_is_not_false (sym h))
among_granted caller (g ∷ gs) f all h =
    elim (nat_eq g f) as (λ b. nat_eq g f ≡ b → (b || list_any (λ k. nat_eq k f) gs) ≡ true → IsTrue (is_granted caller f)) [
      | true ↦ λ same _. subst (λ k. IsTrue (is_granted caller k)) (eqb-true g f same) all.0
      | false ↦ λ _ later. among_granted caller gs f all.1 later
    ] refl h

columns_granted : (caller : Caller) (fs : List ℕ) (row : List Cell) → AllByRecursion (Granted caller) fs → AllByRecursion (λ cell. IsTrue (is_granted caller cell.field)) (columns_of fs row)
columns_granted caller fs row granted =
    all_weaker (λ (c : Cell). list_any (λ f. nat_eq f c.field) fs ≡ true) (λ c. IsTrue (is_granted caller c.field)) (columns_of fs row) (λ c h. among_granted caller fs c.field granted h)
    (all_passing (λ (c : Cell). list_any (λ f. nat_eq f c.field) fs) row)

all_mapped : {A B : Type 0} (P : B → Type 0) (f : A → B) (xs : List A) → ((x : A) → P (f x)) → AllByRecursion P (map f xs)
all_mapped P f [] each = tt
all_mapped P f (x ∷ xs) each = (each x, all_mapped P f xs each)

facet_fields : (size : ℕ) (rows : List (ℕ × List Cell)) (fs : List ℕ) → map (λ facet. facet.field) (map (facet_of size rows) fs) ≡ fs
facet_fields size rows [] = refl
facet_fields size rows (f ∷ fs) = ap (λ l. f ∷ l) (facet_fields size rows fs)

abbrev IsAnswer : Asked → Answer → Type 0
IsAnswer q answer =
    (answer.columns ≡ q.columns) × (map (λ facet. facet.field) answer.facets ≡ q.facets) × AllByRecursion (λ hit. AllByRecursion (λ cell. IsTrue (is_granted q.caller cell.field)) hit) answer.hits

answer_kind : (q : Asked) (rows : List (ℕ × List Cell)) → AreGranted q → IsAnswer q (answer_of q rows)
answer_kind q rows granted = (
  refl,
  facet_fields q.facet_size (matching_rows q rows) q.facets,
  all_mapped (λ hit. AllByRecursion (λ cell. IsTrue (is_granted q.caller cell.field)) hit) (columns_of q.columns) _ (λ row. columns_granted q.caller q.columns row granted.2),
)

pub search_kind : (q : Asked) (answer : Answer) (rows : List (ℕ × List Cell)) → AreGranted q → answer ≡ answer_of q rows → IsReplyTo (C.Search q) (R.Found answer)
search_kind q answer rows granted is = (refl, subst (IsAnswer q) (sym is) (answer_kind q rows granted))

module _ {basis : Basis} {limits : Limits} {ledger : LedgerState} {rows : List (ℕ × List Cell)} {pending : Option Pending} {journal : JournalState} {disk : DiskTold} {state : State}
    (stands : Stands basis limits ledger rows pending journal disk state) (disk' : DiskTold) (looks : Looks disk disk') where
  -- the store's rows are those of the log's crashes, in order
  store_listed : IsTrue basis.is_told → map (λ s. s.1) rows ≡ filter_map (shown_row basis state.log) (ids_of (accepted_of state.log))
  store_listed is_told =
      let none_more : (i : ℕ) → 0 + i ≡ i = λ i. omega arith in
      listed (shown_row basis state.log) 0 ledger.crashes rows stands.holds.rows_are.rise (every (λ s. 0 ≤ s.0) rows (λ s. omega arith))
      (all_weaker (λ s. s.0 < length ledger.crashes) (λ s. s.0 < 0 + length ledger.crashes) rows (λ s h. omega (arith, h)) stands.holds.rows_are.no_other)
      (λ i h. ap (λ p. option_map (λ s. s.1) (row_at p rows)) (none_more i) ∙ (stands.holds.rows_are.each i h).told is_told)
      ∙ ap (filter_map (shown_row basis state.log)) (filed_ids (entries_of (kept_of state.log)) (accepted_of state.log) ledger.crashes stands.holds.filed)

  rows_same : RowsTell basis → (caller : Caller) → IsTrue basis.is_told → AreSame (seen_rows caller rows) (rows_in (view_of basis state.log caller))
  rows_same tells caller is_told = same_rows basis tells state.log caller rows stands.legal.log is_told (store_listed is_told)

  -- ---- searches

  pub found : (q : Asked) (answer : Answer) → RowsTell basis → AreGranted q
      → ((some : List (ℕ × List Cell)) → answer_of q (seen_rows q.caller some) ≡ answer_of q some)
      → ((some others : List (ℕ × List Cell)) → HaveOwnIds some → HaveOwnIds others → ListTheSame some others → answer_of q some ≡ answer_of q others)
      → answer ≡ answer_of q rows → Does basis state disk (C.Search q) (R.Found answer) state disk'
  found q answer tells granted by_seen in_any_order is =
      stays stands disk' looks (C.Search q) (R.Found answer) (search_kind q answer rows granted is) (refl, refl) (λ never. absurd never) (λ never. absurd never)
      (λ is_told.
      let same : AreSame (seen_rows q.caller rows) (rows_in (view_of basis state.log q.caller)) = rows_same tells q.caller is_told in
      let viewed : answer_of q (rows_in (view_of basis state.log q.caller)) ≡ answer =
      sym (in_any_order (seen_rows q.caller rows) (rows_in (view_of basis state.log q.caller)) same.own same.other_own same.lists) ∙ (by_seen rows ∙ sym is) in
      inl (ap (λ a. Some (R.Found a)) viewed, refl))

  -- ---- top crashers

  pub tops_found : (q : TopsQuery) (tops : Tops) → RowsTell basis
      → ((some : List (ℕ × List Cell)) → tops_of q (seen_rows q.caller some) ≡ tops_of q some)
      → ((some others : List (ℕ × List Cell)) → HaveOwnIds some → HaveOwnIds others → ListTheSame some others → tops_of q some ≡ tops_of q others)
      → tops ≡ tops_of q rows → Does basis state disk (C.Tops q) (R.Tops tops) state disk'
  tops_found q tops tells by_seen in_any_order is =
      stays stands disk' looks (C.Tops q) (R.Tops tops) (refl, tt) (refl, refl) (λ never. absurd never) (λ never. absurd never)
      (λ is_told.
      let same : AreSame (seen_rows q.caller rows) (rows_in (view_of basis state.log q.caller)) = rows_same tells q.caller is_told in
      let viewed : tops_of q (rows_in (view_of basis state.log q.caller)) ≡ tops =
      sym (in_any_order (seen_rows q.caller rows) (rows_in (view_of basis state.log q.caller)) same.own same.other_own same.lists) ∙ (by_seen rows ∙ sym is) in
      inl (ap (λ t. Some (R.Tops t)) viewed, refl))
