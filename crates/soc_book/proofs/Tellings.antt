-- The rows of a legal log tell of its raw crashes, where the disk tells its content.
use Rattle.std.proofs.Common.{◌≡◌, ℕ, Bool, true, false, ◌&&◌, IsTrue, List, [], ◌∷◌, ◌++◌, map, reverse, Option, Some, None, IfSome, IsSomeAnd, cond, sym, ap, subst, ◌∙◌, refl, IsSome}
use Rattle.soc_book.proofs.Words.{bytes_eq, filter_map, is_some, if◌then◌else◌, find, option_map, option_and_then, filter_map-append, bytes_eq-Decides, Crash, Cell, TellsCrash, is_due, IsLegalBack, AreLegal, Basis, RowsTell, Change, Accepted, KeptReport, report, keep, done, accepted_in, accepted_of, event_of, events, is_own, raw_of, row_back, row_in, AreSoundBack, IsLegal, AreTold, accepted_found, due_accepted, has_id, events_back, reverse-cons, reverse-map, reverse-twice, and_parts}
use Rattle.soc_desk.proofs.Views.{true_is_not_false}
use Rattle.soc_book.proofs.Changes.{all_front}

found_front : (id : List ℕ) (xs ys : List Accepted) (raw : Crash) → option_and_then (λ crash. crash.raw) (find (has_id id) xs) ≡ Some raw → option_and_then (λ crash. crash.raw) (find (has_id id) (xs ++ ys)) ≡ Some raw
found_front id [] ys raw is = cc
found_front id (x ∷ xs) ys raw is =
    elim (bytes_eq x.id id) as (λ b. option_and_then (λ c. c.raw) (cond b (Some x) (find (has_id id) xs)) ≡ Some raw → option_and_then (λ c. c.raw) (cond b (Some x) (find (has_id id) (xs ++ ys))) ≡ Some raw) [
      | true ↦ λ here. here
      | false ↦ λ later. found_front id xs ys raw later
    ] is

module _ (basis : Basis) (tells : RowsTell basis) (id : List ℕ) where
  -- the row tells of the raw crash of the id
  abbrev Tells : List Change → List Cell → Type 0
  Tells log row = IsSomeAnd (raw_of log id) (λ raw. TellsCrash raw row)

  told_older : (change : Change) (older : List Change) → AreTold (accepted_of (reverse (change ∷ older))) → AreTold (accepted_of (reverse older))
  told_older change older told =
      all_front (λ (crash : Accepted). IsSome crash.raw) (accepted_of (reverse older)) (filter_map accepted_in (change ∷ []))
      (subst AreTold (ap accepted_of (reverse-cons change older) ∙ filter_map-append accepted_in (reverse older) (change ∷ [])) told)

  still_found : (change : Change) (older : List Change) (raw : Crash) → raw_of (reverse older) id ≡ Some raw → raw_of (reverse (change ∷ older)) id ≡ Some raw
  still_found change older raw is =
      ap (λ l. option_and_then (λ c. c.raw) (find (has_id id) l)) (ap accepted_of (reverse-cons change older) ∙ filter_map-append accepted_in (reverse older) (change ∷ []))
      ∙ found_front id (accepted_of (reverse older)) (filter_map accepted_in (change ∷ [])) raw is

  still_tells : (change : Change) (older : List Change) (row : List Cell) → Tells (reverse older) row → Tells (reverse (change ∷ older)) row
  still_tells change older row before =
      let P : Option Crash → Type 0 = λ o. IsSomeAnd o (λ raw. TellsCrash raw row) in
      elim (raw_of (reverse older) id) as (λ o. raw_of (reverse older) id ≡ o → P o → Tells (reverse (change ∷ older)) row) [
        | None ↦ λ is none. absurd none
        | Some raw ↦ λ is tell. subst P (sym (still_found change older raw is)) tell
      ] refl before

  still_all : (change : Change) (older : List Change) (row : Option (List Cell)) → IfSome row (Tells (reverse older)) → IfSome row (Tells (reverse (change ∷ older)))
  still_all change older None before = tt
  still_all change older (Some row) before = still_tells change older row before

  -- the row that a processing gives
  processed : (older : List Change) → IfSome (option_map basis.row_of (raw_of (reverse older) id)) (Tells (reverse older))
  processed older =
      let P : List Cell → Option Crash → Type 0 = λ row o. IsSomeAnd o (λ raw. TellsCrash raw row) in
      elim (raw_of (reverse older) id) as (λ o. raw_of (reverse older) id ≡ o → IfSome (option_map basis.row_of o) (Tells (reverse older))) [
        | None ↦ λ is. tt
        | Some raw ↦ λ is. subst (P (basis.row_of raw)) (sym is) (tells raw)
      ] refl

  -- the row that a report gives whose crash is due
  reported : (older : List Change) (made : KeptReport) → AreLegal (events basis (reverse older)) → AreTold (accepted_of (reverse older)) → made.id ≡ id → is_due (events basis (reverse older)) id ≡ true
      → IfSome (raw_of (reverse older) made.id) (λ raw. TellsCrash raw made.row) → Tells (reverse older) made.row
  reported older made legal told same due sound =
      let P : Option Crash → Type 0 = λ o. IfSome o (λ raw. TellsCrash raw made.row) in
      let here : P (raw_of (reverse older) id) = subst (λ x. P (raw_of (reverse older) x)) same sound in
      let some : is_some (raw_of (reverse older) id) ≡ true = accepted_found basis (reverse older) id told (due_accepted (events basis (reverse older)) id legal due) in
      elim (raw_of (reverse older) id) as (λ o. is_some o ≡ true → P o → IsSomeAnd o (λ raw. TellsCrash raw made.row)) [
        | None ↦ λ is tell. absurd (true_is_not_false (sym is))
        | Some raw ↦ λ is tell. tell
      ] some here

  tells_back : (back : List Change) → IsLegalBack (map (event_of basis) back) → AreSoundBack back → AreTold (accepted_of (reverse back)) → IfSome (row_back basis id back) (Tells (reverse back))
  tells_back [] legal sound told = tt
  tells_back (done other ∷ older) legal sound told =
      let before = tells_back older legal.1 sound.1 (told_older (done other) older told) in
      elim (bytes_eq other id) as (λ b. IfSome (if b then option_map basis.row_of (raw_of (reverse older) id) else row_back basis id older) (Tells (reverse (done other ∷ older)))) [
        | true ↦ still_all (done other) older (option_map basis.row_of (raw_of (reverse older) id)) (processed older)
        | false ↦ still_all (done other) older (row_back basis id older) before
      ]
  tells_back (keep (report made) ∷ older) legal sound told =
      let told_before = told_older (keep (report made)) older told in
      let before = tells_back older legal.1 sound.1 told_before in
      let legal_before : AreLegal (events basis (reverse older)) = subst IsLegalBack (sym (events_back basis older)) legal.1 in
      let counts : Bool = bytes_eq made.id id && (is_own basis made.digest && is_due (events basis (reverse older)) id) in
      elim counts as (λ b. counts ≡ b → IfSome (if b then Some made.row else row_back basis id older) (Tells (reverse (keep (report made) ∷ older)))) [
        | true ↦ λ is.
            let parts = and_parts (bytes_eq made.id id) (is_own basis made.digest && is_due (events basis (reverse older)) id) is in
            let due = (and_parts (is_own basis made.digest) (is_due (events basis (reverse older)) id) parts.1).1 in
            still_tells (keep (report made)) older made.row (reported older made legal_before told_before ((bytes_eq-Decides made.id id).0 parts.0) due sound.0.2)
        | false ↦ λ is. still_all (keep (report made)) older (row_back basis id older) before
      ] refl
  tells_back (change ∷ older) legal sound told = still_all change older (row_back basis id older) (tells_back older legal.1 sound.1 (told_older change older told))

  -- the row of a crash tells of the log's raw crash
  pub rows_tell : (log : List Change) → IsLegal basis log → IsTrue basis.is_told → IfSome (row_in basis log id) (λ row. IsSomeAnd (raw_of log id) (λ raw. TellsCrash raw row))
  rows_tell log legal is_told =
      let P : List Change → Type 0 = λ l. IfSome (row_in basis log id) (Tells l) in
      subst P (reverse-twice log)
      (tells_back (reverse log) (subst IsLegalBack (reverse-map (event_of basis) log) legal.events_legal) legal.sound
      (subst (λ l. AreTold (accepted_of l)) (sym (reverse-twice log)) (legal.told is_told)))
