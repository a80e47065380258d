-- What seats know once their threads have ended, and what they tell of the closed hall's log.
use Rattle.std.proofs.Common.{◌≡◌, inl, ℕ, suc, ◌+◌, ◌<◌, Bool, true, false, List, [], ◌∷◌, ◌++◌, length, map, sum_by, refl, sym, ◌∙◌, ap, subst, arith}
use Rattle.std.specs.Prelude.{if◌then◌else◌}
use mathlib.Core.List.{append-nil}
use mathlib.Core.Option.{some-ne-none}
use Rattle.std.proofs.lemmas.List.Elements.{All-head, All-push}
use Rattle.std.proofs.lemmas.List.Sums.{sum_by-append, sum_by-cons}
use Rattle.soc_base.proofs.Folk.{some-injective}
use Rattle.soc_hall.specs.Asked.{Closes, HasPart}
use Rattle.soc_hall.specs.Log.{changes, pieces}
use Rattle.soc_hall.specs.Seats.{IsNew, known_of}
use Rattle.soc_hall.proofs.Totals.{closed_total}
use Rattle.soc_desk.specs.declared.desk.Receipt.{Receipt}
use Rattle.soc_service.specs.declared.change.Change.{Change}
use Rattle.soc_service.specs.Changes.{counts, events_in, kept_in}
use Rattle.soc_service.specs.Desks.{HasTurned}
use Rattle.soc_service.specs.Turns.{Knows as Knowledge, SeatOf}
use Rattle.soc_crew.specs.Gains.{Ends}
use Rattle.soc_crew.specs.inner.Seated.{AreSeated, Knows, kept_of}

module _ {S A B : Type 0} where
  pub none_seated : (basis : B) (opening : List Change) (seats : List (SeatOf S A B)) → seats ≡ [] → AreSeated basis opening 0 seats
  none_seated basis opening seats is = subst (λ l. AreSeated basis opening 0 l) (sym is) (record { each = λ k d less. absurd (let never : ⊥ = omega (arith, less) in never); kept_are = refl })

  -- what a seat that was new at first has kept
  kept_since : (basis : B) (opening : List Change) (first : Knowledge A B) (seat : SeatOf S A B) (kept : ℕ) → IsNew basis opening first → HasTurned first (known_of seat) kept → Knows basis opening seat × (kept_of seat ≡ kept)
  kept_since basis opening first seat kept new turned = (
    record { basis_is = turned.basis ∙ new.0; opening_is = turned.opening ∙ new.1 },
    ap (λ ts. kept_in (events_in (pieces ts))) (turned.turns ∙ ap (λ ts. ts ++ turned.more) new.3) ∙ turned.kept_are,
  )

  -- one seat more
  pub more_seated : (basis : B) (opening : List Change) (kept more : ℕ) (seats seats' : List (SeatOf S A B)) (seat : SeatOf S A B) (first : Knowledge A B) → seats' ≡ seats ++ seat ∷ [] → IsNew basis opening first
      → AreSeated basis opening kept seats → HasTurned first (known_of seat) more → AreSeated basis opening (kept + more) seats'
  more_seated basis opening kept more seats seats' seat first is new seated turned =
      let since = kept_since basis opening first seat more new turned in
      subst (λ l. AreSeated basis opening (kept + more) l) (sym is)
      (record {
        each = All-push (Knows basis opening) seats seat seated.each since.0;
        kept_are =
            let a = sum_by-append kept_of seats (seat ∷ []) in
            let b = sum_by-cons kept_of seat [] in
            let c = seated.kept_are in
            let d = since.1 in
            omega arith;
      })

-- ---- the closed log

abbrev weight : Change → ℕ
weight change = if counts change.event then 1 else 0

on_weight : (b : Bool) (n : ℕ) → (if b then suc n else n) ≡ (if b then 1 else 0) + n
on_weight true n = omega arith
on_weight false n = omega arith

weighs : (log : List Change) → kept_in (events_in log) ≡ sum_by weight log
weighs [] = refl
weighs (change ∷ log) =
    let a = sum_by-cons weight change log in
    let b = on_weight (counts change.event) (kept_in (events_in log)) in
    let c = weighs log in
    b ∙ (ap (λ n. weight change + n) c ∙ sym a)

module _ {S A B : Type 0} where
  abbrev All-known : List (SeatOf S A B) → List (Knowledge A B)
  All-known seats = map (λ seat. known_of seat) seats

  known_total : (seats : List (SeatOf S A B)) → sum_by (λ v. sum_by weight (pieces v.turns)) (All-known seats) ≡ sum_by kept_of seats
  known_total [] = refl
  known_total (seat ∷ seats) =
      let a = sum_by-cons (λ (v : Knowledge A B). sum_by weight (pieces v.turns)) (known_of seat) (All-known seats) in
      let b = sum_by-cons (λ (s : SeatOf S A B). kept_of s) seat seats in
      let c = weighs (pieces (known_of seat).turns) in
      let d = known_total seats in
      omega arith

  -- what the seats' turns kept together stands behind the opening
  pub closed : {answers : B → List Change → A → Receipt → List Change → Type 0} (basis basis' : B) (opening log : List Change) (kept : ℕ) (seats : List (SeatOf S A B)) → 0 < length seats
      → AreSeated basis opening kept seats → Closes answers log basis' (All-known seats) → Ends answers opening log basis basis' kept
  closed {answers} basis basis' opening log kept [] some seated closes = absurd (let never : ⊥ = omega (arith, some) in never)
  closed {answers} basis basis' opening log kept (seat ∷ seats) some seated closes =
      let own = All-head (Knows basis opening) seat seats seated.each in
      let part = All-head (HasPart answers basis' closes.opening closes.entries) (known_of seat) (All-known seats) closes.parts in
      let same : closes.opening ≡ opening = sym part.opening_is ∙ own.opening_is in
      let total = closed_total weight closes in
      let seats_total = known_total (seat ∷ seats) in
      let split = sum_by-append weight closes.opening (changes closes.entries) in
      let whole = ap (λ l. sum_by weight l) closes.log_is in
      let piece = weighs (changes closes.entries) in
      let kept_is = seated.kept_are in
      record {
        gains = record {
          piece = changes closes.entries;
          behind = closes.log_is ∙ ap (λ l. l ++ changes closes.entries) same;
          kept_are = omega arith;
        };
        same_basis = some-injective (sym part.basis_is ∙ own.basis_is);
        seats = All-known (seat ∷ seats);
        closes = closes;
        opened = same;
      }

-- a desk that nobody was served at
pub stays_as : {T A B : Type 0} {answers : B → List Change → A → Receipt → List Change → Type 0} {x y : T} → y ≡ x → (log : T → List Change) (basis : T → B) (kept : ℕ) → kept ≡ 0
    → Ends answers (log x) (log y) (basis x) (basis y) kept
stays_as {y = y} is log basis kept none = record {
  gains = record { piece = []; behind = ap log is ∙ sym (append-nil _); kept_are = sym none };
  same_basis = ap basis is;
  seats = [];
  closes = record {
    opening = log y;
    entries = [];
    log_is = sym (append-nil (log y));
    parts = λ k d less. absurd (let never : ⊥ = omega (arith, less) in never);
    owners = λ number. inl refl;
    distinct = λ j k v w at. absurd (some-ne-none v (sym at));
  };
  opened = ap log is;
}
