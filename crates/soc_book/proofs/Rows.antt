-- The rows of a store once more is in the log.
use Rattle.std.proofs.Common.{◌≡◌, ◌≢◌, ℕ, ◌<◌, ◌≤◌, Bool, true, false, ◌&&◌, ◌||◌, cond, List, [], ◌∷◌, ◌++◌, reverse, Option, Some, None, sym, ap, ◌∙◌, refl, arith, IsTrue, length, subst, inl, inr}
use Rattle.soc_book.proofs.Words.{bytes_eq, is_some, if◌then◌else◌, AllByRecursion, nat_cmp, is_eq, match_ordering, Less, Equal, Greater, Cell, Event, is_due, is_held, was_accepted, has_report, reported_back, reported_after, true_is_not_false, same_text, itself, all-weaker, unknown_crash, PlacesRise, row_at, without_row, with_row, Basis, Change, Accepted, KeptReport, accept, ask, withdraw, report, keep, event_of, events, is_own, row_after, row_in, IsLegal, events-more, row_in-more, reverse-twice, held_plain, held_accept, held_withdraw, has_row, HasRow, HasRows, option_map, cases_eq, LedgerState, id_of}
use Rattle.std.specs.declared.cmp.Ordering.{Ordering}
use Rattle.std.proofs.lemmas.Cmp.{ranked, nat_cmp_total}
use Rattle.soc_ledger.specs.declared.event.Event.TheVariants as E
use Rattle.soc_ledger.proofs.Lists.{reverse-more}
use Rattle.soc_store.proofs.StoreLemmas.{rise_with}
use Rattle.soc_store.proofs.Tables.{at_key-same, at_key-other, all_made}

and_true : (b : Bool) → (b && true) ≡ b
and_true true = refl
and_true false = refl

pub and_false : (b : Bool) → (b && false) ≡ false
and_false true = refl
and_false false = refl

and_assoc : (a b c : Bool) → (a && b && c) ≡ (a && (b && c))
and_assoc true b c = refl
and_assoc false b c = refl

pub reported-more : (log : List Event) (event : Event) (id : List ℕ) → has_report (log ++ event ∷ []) id ≡ reported_after id event (reverse log) (has_report log id)
reported-more log event id = ap (λ back. reported_back id back) (reverse-more log event)

-- ---- one crash

module _ (basis : Basis) (log : List Change) (change : Change) (id : List ℕ) where
  abbrev ev : List Event
  ev = events basis log

  -- nothing of it changes
  pub row_same : (row : Option (List Cell)) → is_held (ev ++ event_of basis change ∷ []) id ≡ is_held ev id → has_report (ev ++ event_of basis change ∷ []) id ≡ has_report ev id
      → row_after basis id change (reverse log) (row_in basis log id) ≡ row_in basis log id → HasRow basis log id row → HasRow basis (log ++ change ∷ []) id row
  row_same row held reported same has =
      let held' : is_held (events basis (log ++ change ∷ [])) id ≡ is_held ev id = ap (λ l. is_held l id) (events-more basis log change) ∙ held in
      let reported' : has_report (events basis (log ++ change ∷ [])) id ≡ has_report ev id = ap (λ l. has_report l id) (events-more basis log change) ∙ reported in
      let row' : row_in basis (log ++ change ∷ []) id ≡ row_in basis log id = row_in-more basis log change id ∙ same in
      record {
        has = has.has ∙ (ap (λ b. b && has_report ev id) (sym held') ∙ ap (λ b. is_held (events basis (log ++ change ∷ [])) id && b) (sym reported'));
        told = λ is_told. has.told is_told ∙ (ap (λ b. if b then row_in basis log id else None) (sym held') ∙ ap (λ r. if is_held (events basis (log ++ change ∷ [])) id then r else None) (sym row'));
      }

  -- it has this row
  pub row_has : (row : List Cell) → is_held (ev ++ event_of basis change ∷ []) id ≡ true → has_report (ev ++ event_of basis change ∷ []) id ≡ true → (IsTrue basis.is_told → row_after basis id change (reverse log) (row_in basis log id) ≡ Some row)
      → HasRow basis (log ++ change ∷ []) id (Some row)
  row_has row held reported is =
      let held' : is_held (events basis (log ++ change ∷ [])) id ≡ true = ap (λ l. is_held l id) (events-more basis log change) ∙ held in
      let reported' : has_report (events basis (log ++ change ∷ [])) id ≡ true = ap (λ l. has_report l id) (events-more basis log change) ∙ reported in
      record {
        has = sym (ap (λ b. b && has_report (events basis (log ++ change ∷ [])) id) held' ∙ reported');
        told = λ is_told. sym (ap (λ b. if b then row_in basis (log ++ change ∷ []) id else None) held' ∙ (row_in-more basis log change id ∙ is is_told));
      }

  -- it isn't held any longer
  pub row_gone : is_held (ev ++ event_of basis change ∷ []) id ≡ false → HasRow basis (log ++ change ∷ []) id None
  row_gone gone =
      let gone' : is_held (events basis (log ++ change ∷ [])) id ≡ false = ap (λ l. is_held l id) (events-more basis log change) ∙ gone in
      record {
        has = sym (ap (λ b. b && has_report (events basis (log ++ change ∷ [])) id) gone');
        told = λ is_told. sym (ap (λ b. if b then row_in basis (log ++ change ∷ []) id else None) gone');
      }

pub none_of : {A : Type 0} (o : Option A) → is_some o ≡ false → o ≡ None
none_of None is = refl
none_of (Some x) is = absurd (true_is_not_false is)

shown_none : (o : Option (List Cell)) (b : Bool) → (if b then o else o) ≡ o
shown_none o true = refl
shown_none o false = refl

module _ (basis : Basis) (log : List Change) (legal : IsLegal basis log) where
  abbrev now : List Event
  now = events basis log

  -- a crash that wasn't accepted before has no row
  pub row_new : (crash : Accepted) → was_accepted now crash.id ≡ false → HasRow basis (log ++ keep (accept crash) ∷ []) crash.id None
  row_new crash new =
      let none : has_report now crash.id ≡ false = ap (λ s. s.has_report) (unknown_crash now legal.events_legal crash.id new) in
      let log' = log ++ keep (accept crash) ∷ [] in
      let none' : has_report (events basis log') crash.id ≡ false = ap (λ l. has_report l crash.id) (events-more basis log (keep (accept crash))) ∙ (reported-more now (E.Accepted crash.id) crash.id ∙ none) in
      record {
        has = sym (ap (λ b. is_held (events basis log') crash.id && b) none' ∙ and_false (is_held (events basis log') crash.id));
        told = λ is_told.
            let no_row : row_in basis log' crash.id ≡ None =
            row_in-more basis log (keep (accept crash)) crash.id ∙ none_of (row_in basis log crash.id) (sym (has_row basis crash.id log legal.events_legal (legal.told is_told)) ∙ none) in
            sym (ap (λ r. if is_held (events basis log') crash.id then r else None) no_row ∙ shown_none None (is_held (events basis log') crash.id));
      }

  -- one more acceptance
  pub row_accept : (crash : Accepted) (id : List ℕ) (row : Option (List Cell)) → was_accepted now id ≡ true → HasRow basis log id row → HasRow basis (log ++ keep (accept crash) ∷ []) id row
  row_accept crash id row was has = row_same basis log (keep (accept crash)) id row (held_accept now crash.id id was) (reported-more now (E.Accepted crash.id) id) refl has

  pub row_ask : (other id : List ℕ) (row : Option (List Cell)) → HasRow basis log id row → HasRow basis (log ++ keep (ask other) ∷ []) id row
  row_ask other id row has = row_same basis log (keep (ask other)) id row (held_plain now (E.Asked other) id refl refl) (reported-more now (E.Asked other) id) refl has

  -- one more withdrawal, of another crash
  pub row_others : (other id : List ℕ) (row : Option (List Cell)) → bytes_eq other id ≡ false → HasRow basis log id row → HasRow basis (log ++ keep (withdraw other) ∷ []) id row
  row_others other id row differs has =
      row_same basis log (keep (withdraw other)) id row (held_withdraw now other id false differs ∙ and_true (is_held now id)) (reported-more now (E.Withdrawn other) id) refl has

  -- of this one
  pub row_withdrawn : (id : List ℕ) → HasRow basis (log ++ keep (withdraw id) ∷ []) id None
  row_withdrawn id = row_gone basis log (keep (withdraw id)) id (held_withdraw now id id true (itself id) ∙ and_false (is_held now id))

-- ---- a report of a crash

module _ (basis : Basis) (log : List Change) (made : KeptReport) where
  abbrev reported : List Change
  reported = log ++ keep (report made) ∷ []

  abbrev own : Bool
  own = is_own basis made.digest

  abbrev pub counts : Bool
  counts = own && is_due (events basis log) made.id

  -- where it counts for nothing of the crash of an id, the row of that one stays
  stays : (id : List ℕ) (row : Option (List Cell)) → (bytes_eq made.id id && (own && is_due (events basis log) id)) ≡ false → HasRow basis log id row → HasRow basis reported id row
  stays id row none has =
      row_same basis log (keep (report made)) id row (held_plain (events basis log) (E.Reported made.id own) id refl refl)
      (reported-more (events basis log) (E.Reported made.id own) id ∙ ap (λ b. b || has_report (events basis log) id) (and_assoc (bytes_eq made.id id) own (is_due (events basis log) id) ∙ none))
      (ap (λ l. if bytes_eq made.id id && (own && is_due (events basis l) id) then Some made.row else row_in basis log id) (reverse-twice log) ∙ ap (λ b. if b then Some made.row else row_in basis log id) none)
      has

  idle_by : (id : List ℕ) (b : Bool) → bytes_eq made.id id ≡ b → counts ≡ false → (b && (own && is_due (events basis log) id)) ≡ false
  idle_by id true same idle = ap (λ x. own && is_due (events basis log) x) (sym (same_text made.id id same)) ∙ idle
  idle_by id false same idle = refl

  pub row_idle : (id : List ℕ) (row : Option (List Cell)) → counts ≡ false → HasRow basis log id row → HasRow basis reported id row
  row_idle id row idle has = stays id row (idle_by id (bytes_eq made.id id) refl idle) has

  pub row_unreported : (id : List ℕ) (row : Option (List Cell)) → bytes_eq made.id id ≡ false → HasRow basis log id row → HasRow basis reported id row
  row_unreported id row differs has = stays id row (ap (λ b. b && (own && is_due (events basis log) id)) differs) has

  -- where it counts, its row is the crash's
  pub row_counts : counts ≡ true → is_held (events basis log) made.id ≡ true → HasRow basis reported made.id (Some made.row)
  row_counts is held =
      row_has basis log (keep (report made)) made.id made.row (held_plain (events basis log) (E.Reported made.id own) made.id refl refl ∙ held)
      (reported-more (events basis log) (E.Reported made.id own) made.id
      ∙ (ap (λ b. (b && own && is_due (events basis log) made.id) || has_report (events basis log) made.id) (itself made.id) ∙ ap (λ b. b || has_report (events basis log) made.id) is))
      (λ is_told.
      ap (λ l. if bytes_eq made.id made.id && (own && is_due (events basis l) made.id) then Some made.row else row_in basis log made.id) (reverse-twice log)
      ∙ (ap (λ b. if b && (own && is_due (events basis log) made.id) then Some made.row else row_in basis log made.id) (itself made.id) ∙ ap (λ b. if b then Some made.row else row_in basis log made.id) is))

-- ---- the rows at other places

apart_eq : (x y : ℕ) (r : Ordering) → r ≡ nat_cmp x y → x ≢ y → is_eq r ≡ false
apart_eq x y Less is differs = refl
apart_eq x y Equal is differs = absurd (differs (ranked x y Equal is))
apart_eq x y Greater is differs = refl

pub row_behind : (p : ℕ) (s : ℕ × List Cell) (ss : List (ℕ × List Cell)) → p ≢ s.0 → row_at p (s ∷ ss) ≡ row_at p ss
row_behind p s ss differs = ap (λ b. cond b (Some s) (row_at p ss)) (apart_eq p s.0 (nat_cmp p s.0) refl differs)

-- no row stands at a place that is none of theirs
pub no_row : (p : ℕ) (rows : List (ℕ × List Cell)) → AllByRecursion (λ s. p ≢ s.0) rows → row_at p rows ≡ None
no_row p [] all = refl
no_row p (t ∷ ts) all = row_behind p t ts all.0 ∙ no_row p ts all.1

no_row_below : (p q : ℕ) (rows : List (ℕ × List Cell)) → p ≤ q → AllByRecursion (λ u. nat_cmp q u.0 ≡ Less) rows → row_at p rows ≡ None
no_row_below p q rows low all =
    no_row p rows (all-weaker (λ u. nat_cmp q u.0 ≡ Less) (λ u. p ≢ u.0) (λ u less. let above : q < u.0 = ranked q u.0 Less (sym less) in let differs : p ≢ u.0 = omega arith in differs) rows all)

-- the row at a place that another is taken from
pub row_at-others : (p q : ℕ) (rows : List (ℕ × List Cell)) → q ≢ p → row_at q (without_row p rows) ≡ row_at q rows
row_at-others p q [] differs = refl
row_at-others p q (t ∷ ts) differs =
    elim (nat_cmp p t.0) as (λ r. nat_cmp p t.0 ≡ r → row_at q (match_ordering r (t ∷ ts) ts (t ∷ without_row p ts)) ≡ row_at q (t ∷ ts)) [
      | Less ↦ λ is. refl
      | Equal ↦ λ is.
          let here : p ≡ t.0 = ranked p t.0 Equal (sym is) in
          let other : q ≢ t.0 = λ same. differs (same ∙ sym here) in
          sym (row_behind q t ts other)
      | Greater ↦ λ is. ap (λ o. cond (is_eq (nat_cmp q t.0)) (Some t) o) (row_at-others p q ts differs)
    ] refl

-- the place that a row is taken from
pub row_at-taken : (p : ℕ) (rows : List (ℕ × List Cell)) → PlacesRise rows → row_at p (without_row p rows) ≡ None
row_at-taken p [] rise = refl
row_at-taken p (t ∷ ts) rise =
    elim (nat_cmp p t.0) as (λ r. nat_cmp p t.0 ≡ r → row_at p (match_ordering r (t ∷ ts) ts (t ∷ without_row p ts)) ≡ None) [
      | Less ↦ λ is.
          let below : p < t.0 = ranked p t.0 Less (sym is) in
          let low : p ≤ t.0 = omega arith in
          ap (λ r. cond (is_eq r) (Some t) (row_at p ts)) is ∙ no_row_below p t.0 ts low rise.0
      | Equal ↦ λ is.
          let here : p ≡ t.0 = ranked p t.0 Equal (sym is) in
          let low : p ≤ t.0 = omega arith in
          no_row_below p t.0 ts low rise.0
      | Greater ↦ λ is. ap (λ r. cond (is_eq r) (Some t) (row_at p (without_row p ts))) is ∙ row_at-taken p ts rise.1
    ] refl

pub all_left : (P : ℕ × List Cell → Type 0) (p : ℕ) (rows : List (ℕ × List Cell)) → AllByRecursion P rows → AllByRecursion P (without_row p rows)
all_left P p [] all = tt
all_left P p (t ∷ ts) all =
    elim (nat_cmp p t.0) as (λ r. AllByRecursion P (match_ordering r (t ∷ ts) ts (t ∷ without_row p ts))) [
      | Less ↦ all
      | Equal ↦ all.1
      | Greater ↦ (all.0, all_left P p ts all.1)
    ]

-- ---- a row that is put

row_at-with : (p : ℕ) (row : List Cell) (rows : List (ℕ × List Cell)) → PlacesRise rows → row_at p (with_row (p, row) rows) ≡ Some (p, row)
row_at-with p row rows rise = at_key-same (λ s. s.0) nat_cmp_total p (λ _. (p, row)) (λ _. refl) rows rise

row_at-with_other : (p : ℕ) (row : List Cell) (q : ℕ) (rows : List (ℕ × List Cell)) → q ≢ p → row_at q (with_row (p, row) rows) ≡ row_at q rows
row_at-with_other p row q rows other = at_key-other (λ s. s.0) nat_cmp_total p (λ _. (p, row)) (λ _. refl) q rows (apart_eq q p (nat_cmp q p) refl other)

-- the crash of a number has this row, and the others have theirs
pub rows_put : (basis : Basis) (log log' : List Change) (ledger : LedgerState) (rows : List (ℕ × List Cell)) → HasRows basis log ledger rows → (number : ℕ) (row : List Cell) → number < length ledger.crashes → HasRow basis log' (id_of ledger number) (Some row)
    → ((other : ℕ) → other < length ledger.crashes → other ≢ number → HasRow basis log' (id_of ledger other) (option_map (λ s. s.1) (row_at other rows))) → HasRows basis log' ledger (with_row (number, row) rows)
rows_put basis log log' ledger rows are number row within has others = record {
  rise = rise_with number row rows are.rise;
  each = λ other less. elim (cases_eq other number) [
    | inl here ↦ subst (λ n. HasRow basis log' (id_of ledger n) (option_map (λ s. s.1) (row_at n (with_row (number, row) rows)))) (sym here)
        (subst (HasRow basis log' (id_of ledger number)) (sym (ap (option_map (λ s. s.1)) (row_at-with number row rows are.rise))) has)
    | inr differs ↦ subst (HasRow basis log' (id_of ledger other)) (sym (ap (option_map (λ s. s.1)) (row_at-with_other number row other rows differs))) (others other less differs)
  ];
  no_other = all_made (λ s. s.0) nat_cmp_total number (λ _. (number, row)) (λ _. refl) (λ s. s.0 < length ledger.crashes) rows within (λ s was. within) are.no_other;
}
