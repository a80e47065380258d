-- What is due, by what happened to a crash.
use Rattle.std.proofs.Common.{◌≡◌, ℕ, Bool, true, false, not, ◌&&◌, ◌||◌, IsTrue, List, [], ◌∷◌, length, reverse, Some, None, sym, ap, subst, ◌∙◌, refl}
use Rattle.std.specs.Prelude.{bytes_eq, is_some, unwrap_or, if◌then◌else◌}
use Rattle.std.specs.List.{cons_option, list_any}
use Rattle.std.proofs.lemmas.List.Elements.{filter_map-append}
use Rattle.std.proofs.lemmas.List.Folds.{list_any-append}
use Rattle.std.proofs.lemmas.Slice.Eq.{bytes_eq-Decides}
use Rattle.soc_base.proofs.Folk.{or_false}
use Rattle.soc_ledger.specs.declared.event.Event.{Event}
use Rattle.soc_ledger.specs.declared.event.Event.TheVariants as E
use Rattle.soc_ledger.specs.Due.{due_since_back, is_due, is_due_at_once}
use Rattle.soc_ledger.specs.Events.{accepted_in as accepts, withdrawn_in as withdraws, is_held, was_accepted, was_withdrawn}
use Rattle.soc_ledger.specs.Legal.{IsLegalBack}
use Rattle.soc_desk.specs.Laws.{DueByHistory, is_ask_of, was_asked, processed_since}
use Rattle.soc_desk.proofs.Logs.{reverse-cons, reverse-twice, not_true}
use Rattle.soc_desk.proofs.Views.{true_is_not_false}

-- a crash was due at once, accepted, withdrawn, asked for and processed since, and is due: how these stand to each other
pub record Agrees (at_once accepted withdrawn asked processed due : Bool) : Type 0 where
  pub is_due : due ≡ ((accepted && not withdrawn) && ((at_once || asked) && not processed))
  pub new_unasked : accepted ≡ false → asked ≡ false
  pub new_held : accepted ≡ false → withdrawn ≡ false

abbrev Stands : List ℕ → List Event → Type 0
Stands id back =
    Agrees (is_due_at_once id) (was_accepted (reverse back) id) (was_withdrawn (reverse back) id) (was_asked (reverse back) id) (processed_since id back) (is_some (due_since_back id back))

-- ---- one more event

module _ (id : List ℕ) (older : List Event) (event : Event) where
  accepted_next : was_accepted (reverse (event ∷ older)) id ≡ (was_accepted (reverse older) id || list_any (λ x. bytes_eq x id) (cons_option (accepts event) []))
  accepted_next =
      ap (λ l. was_accepted l id) (reverse-cons event older)
      ∙ (ap (λ ids. list_any (λ x. bytes_eq x id) ids) (filter_map-append accepts (reverse older) (event ∷ []))
      ∙ list_any-append (λ x. bytes_eq x id) _ (cons_option (accepts event) []))

  withdrawn_next : was_withdrawn (reverse (event ∷ older)) id ≡ (was_withdrawn (reverse older) id || list_any (λ x. bytes_eq x id) (cons_option (withdraws event) []))
  withdrawn_next =
      ap (λ l. was_withdrawn l id) (reverse-cons event older)
      ∙ (ap (λ ids. list_any (λ x. bytes_eq x id) ids) (filter_map-append withdraws (reverse older) (event ∷ []))
      ∙ list_any-append (λ x. bytes_eq x id) _ (cons_option (withdraws event) []))

  asked_next : was_asked (reverse (event ∷ older)) id ≡ (was_asked (reverse older) id || (is_ask_of id event || false))
  asked_next = ap (λ l. was_asked l id) (reverse-cons event older) ∙ list_any-append (is_ask_of id) (reverse older) (event ∷ [])

-- ---- tests

and_false : (b : Bool) → (b && false) ≡ false
and_false true = refl
and_false false = refl

held_accepted : (a w : Bool) → (a && not w) ≡ true → (a ≡ true) × (w ≡ false)
held_accepted true true held = absurd (true_is_not_false (sym held))
held_accepted true false held = (refl, refl)
held_accepted false w held = absurd (true_is_not_false (sym held))

along : (c a w q p d a' w' q' p' d' : Bool) → a' ≡ a → w' ≡ w → q' ≡ q → p' ≡ p → d' ≡ d → Agrees c a w q p d → Agrees c a' w' q' p' d'
along c a w q p d a' w' q' p' d' same_a same_w same_q same_p same_d agrees =
    subst (λ x. Agrees c x w' q' p' d') (sym same_a)
    (subst (λ x. Agrees c a x q' p' d') (sym same_w)
    (subst (λ x. Agrees c a w x p' d') (sym same_q)
    (subst (λ x. Agrees c a w q x d') (sym same_p)
    (subst (λ x. Agrees c a w q p x) (sym same_d) agrees))))

-- the crash is accepted
accepts_it : (c a w q p d : Bool) → a ≡ false → Agrees c a w q p d → Agrees c (a || true) (w || false) (q || false) false c
accepts_it c true w q p d new agrees = absurd (true_is_not_false new)
accepts_it c false true q p d new agrees = absurd (true_is_not_false (agrees.new_held refl))
accepts_it c false false true p d new agrees = absurd (true_is_not_false (agrees.new_unasked refl))
accepts_it true false false false p d new agrees = record { is_due = refl; new_unasked = λ never. refl; new_held = λ never. refl }
accepts_it false false false false p d new agrees = record { is_due = refl; new_unasked = λ never. refl; new_held = λ never. refl }

-- it is asked for
asks_it : (c a w q p d : Bool) → (a && not w) ≡ true → Agrees c (a || false) (w || false) (q || true) false true
asks_it c true true q p d held = absurd (true_is_not_false (sym held))
asks_it c false w q p d held = absurd (true_is_not_false (sym held))
asks_it true true false q p d held = record { is_due = refl; new_unasked = λ never. absurd (true_is_not_false never); new_held = λ never. refl }
asks_it false true false true p d held = record { is_due = refl; new_unasked = λ never. absurd (true_is_not_false never); new_held = λ never. refl }
asks_it false true false false p d held = record { is_due = refl; new_unasked = λ never. absurd (true_is_not_false never); new_held = λ never. refl }

-- it is withdrawn
withdraws_it : (c a w q p : Bool) → (a && not w) ≡ true → Agrees c (a || false) (w || true) (q || false) p false
withdraws_it c true true q p held = absurd (true_is_not_false (sym held))
withdraws_it c false w q p held = absurd (true_is_not_false (sym held))
withdraws_it c true false q p held = record { is_due = refl; new_unasked = λ never. absurd (true_is_not_false never); new_held = λ never. absurd (true_is_not_false never) }

-- it is processed
processes_it : (c a w q p d : Bool) → Agrees c a w q p d → Agrees c (a || false) (w || false) (q || false) true false
processes_it c a w q p d agrees = along c a w q true false (a || false) (w || false) (q || false) true false (or_false a) (or_false w) (or_false q) refl refl
    (record { is_due = sym (ap (λ x. (a && not w) && x) (and_false (c || q)) ∙ and_false (a && not w)); new_unasked = agrees.new_unasked; new_held = agrees.new_held })

-- nothing of it changes
leaves_it : (c a w q p d p' d' : Bool) → p' ≡ p → d' ≡ d → Agrees c a w q p d → Agrees c (a || false) (w || false) (q || false) p' d'
leaves_it c a w q p d p' d' same_p same_d agrees = along c a w q p d (a || false) (w || false) (q || false) p' d' (or_false a) (or_false w) (or_false q) same_p same_d agrees

-- a report that counts is of a due crash; one of a crash that isn't due leaves it so
reports_it : (c a w q p d : Bool) → Agrees c a w q p d → Agrees c (a || false) (w || false) (q || false) (d || p) false
reports_it c a w q p true agrees = processes_it c a w q p true agrees
reports_it c a w q p false agrees = leaves_it c a w q p false p false refl refl agrees

-- ---- each event

module _ (id : List ℕ) (older : List Event) where
  abbrev c : Bool
  c = is_due_at_once id

  abbrev a : Bool
  a = was_accepted (reverse older) id

  abbrev w : Bool
  w = was_withdrawn (reverse older) id

  abbrev q : Bool
  q = was_asked (reverse older) id

  abbrev p : Bool
  p = processed_since id older

  abbrev d : Bool
  d = is_some (due_since_back id older)

  -- how it stands after an event, by parts
  stands_next : (event : Event) (p' d' : Bool) → processed_since id (event ∷ older) ≡ p' → is_some (due_since_back id (event ∷ older)) ≡ d'
      → Agrees c (a || list_any (λ x. bytes_eq x id) (cons_option (accepts event) [])) (w || list_any (λ x. bytes_eq x id) (cons_option (withdraws event) [])) (q || (is_ask_of id event || false)) p' d'
      → Stands id (event ∷ older)
  stands_next event p' d' is_p is_d agrees =
      along c _ _ _ p' d' _ _ _ _ _ (accepted_next id older event) (withdrawn_next id older event) (asked_next id older event) is_p is_d agrees

  accepted_now : (other : List ℕ) (b : Bool) → bytes_eq other id ≡ b → IsTrue (not (was_accepted (reverse older) other)) → Agrees c a w q p d → Stands id (E.Accepted other ∷ older)
  accepted_now other true same new agrees =
      let is : other ≡ id = (bytes_eq-Decides other id).0 same in
      let was : a ≡ false = not_true a (subst (λ x. IsTrue (not (was_accepted (reverse older) x))) is new) in
      stands_next (E.Accepted other) false c (ap (λ x. if x then false else p) same)
      (ap (λ x. is_some (if x then (if is_due_at_once other then Some (length older) else None) else due_since_back id older)) same ∙ (at_once_is (is_due_at_once other) ∙ ap is_due_at_once is))
      (subst (λ x. Agrees c (a || (x || false)) (w || false) (q || false) false c) (sym same) (accepts_it c a w q p d was agrees)) where
        at_once_is : (x : Bool) → is_some (if x then Some (length older) else None) ≡ x
        at_once_is true = refl
        at_once_is false = refl
  accepted_now other false differs new agrees =
      stands_next (E.Accepted other) p d (ap (λ x. if x then false else p) differs)
      (ap (λ x. is_some (if x then (if is_due_at_once other then Some (length older) else None) else due_since_back id older)) differs)
      (subst (λ x. Agrees c (a || (x || false)) (w || false) (q || false) p d) (sym differs) (leaves_it c a w q p d p d refl refl agrees))

  asked_now : (other : List ℕ) (b : Bool) → bytes_eq other id ≡ b → IsTrue (is_held (reverse older) other) → Agrees c a w q p d → Stands id (E.Asked other ∷ older)
  asked_now other true same held agrees =
      let was : (a && not w) ≡ true = subst (λ x. is_held (reverse older) x ≡ true) ((bytes_eq-Decides other id).0 same) held in
      stands_next (E.Asked other) false true (ap (λ x. if x then false else p) same)
      (ap (λ x. is_some (if x then Some (unwrap_or (due_since_back id older) (length older)) else due_since_back id older)) same)
      (subst (λ x. Agrees c (a || false) (w || false) (q || (x || false)) false true) (sym same) (asks_it c a w q p d was))
  asked_now other false differs held agrees =
      stands_next (E.Asked other) p d (ap (λ x. if x then false else p) differs)
      (ap (λ x. is_some (if x then Some (unwrap_or (due_since_back id older) (length older)) else due_since_back id older)) differs)
      (subst (λ x. Agrees c (a || false) (w || false) (q || (x || false)) p d) (sym differs) (leaves_it c a w q p d p d refl refl agrees))

  withdrawn_now : (other : List ℕ) (b : Bool) → bytes_eq other id ≡ b → IsTrue (is_held (reverse older) other) → Agrees c a w q p d → Stands id (E.Withdrawn other ∷ older)
  withdrawn_now other true same held agrees =
      let was : (a && not w) ≡ true = subst (λ x. is_held (reverse older) x ≡ true) ((bytes_eq-Decides other id).0 same) held in
      stands_next (E.Withdrawn other) p false refl (ap (λ x. is_some (if x then None else due_since_back id older)) same)
      (subst (λ x. Agrees c (a || false) (w || (x || false)) (q || false) p false) (sym same) (withdraws_it c a w q p was))
  withdrawn_now other false differs held agrees =
      stands_next (E.Withdrawn other) p d refl (ap (λ x. is_some (if x then None else due_since_back id older)) differs)
      (subst (λ x. Agrees c (a || false) (w || (x || false)) (q || false) p d) (sym differs) (leaves_it c a w q p d p d refl refl agrees))

  done_now : (other : List ℕ) (b : Bool) → bytes_eq other id ≡ b → Agrees c a w q p d → Stands id (E.Done other ∷ older)
  done_now other true same agrees =
      stands_next (E.Done other) true false (ap (λ x. x || p) same) (ap (λ x. is_some (if x then None else due_since_back id older)) same) (processes_it c a w q p d agrees)
  done_now other false differs agrees =
      stands_next (E.Done other) p d (ap (λ x. x || p) differs) (ap (λ x. is_some (if x then None else due_since_back id older)) differs) (leaves_it c a w q p d p d refl refl agrees)

  reported_now : (other : List ℕ) (own b : Bool) → bytes_eq other id ≡ b → Agrees c a w q p d → Stands id (E.Reported other own ∷ older)
  reported_now other own false differs agrees =
      stands_next (E.Reported other own) p d (ap (λ x. (x && (own && d)) || p) differs) (ap (λ x. is_some (if x && own then None else due_since_back id older)) differs) (leaves_it c a w q p d p d refl refl agrees)
  reported_now other true true same agrees =
      stands_next (E.Reported other true) (d || p) false (ap (λ x. (x && (true && d)) || p) same) (ap (λ x. is_some (if x && true then None else due_since_back id older)) same) (reports_it c a w q p d agrees)
  reported_now other false true same agrees =
      stands_next (E.Reported other false) p d (ap (λ x. (x && (false && d)) || p) same) (ap (λ x. is_some (if x && false then None else due_since_back id older)) same) (leaves_it c a w q p d p d refl refl agrees)

stands : (id : List ℕ) (back : List Event) → IsLegalBack back → Stands id back
stands id [] legal = record { is_due = refl; new_unasked = λ never. refl; new_held = λ never. refl }
stands id (E.Accepted other ∷ older) legal = accepted_now id older other (bytes_eq other id) refl legal.0 (stands id older legal.1)
stands id (E.Asked other ∷ older) legal = asked_now id older other (bytes_eq other id) refl legal.0 (stands id older legal.1)
stands id (E.Withdrawn other ∷ older) legal = withdrawn_now id older other (bytes_eq other id) refl legal.0 (stands id older legal.1)
stands id (E.Reported other own ∷ older) legal = reported_now id older other own (bytes_eq other id) refl (stands id older legal.1)
stands id (E.Done other ∷ older) legal = done_now id older other (bytes_eq other id) refl (stands id older legal.1)
stands id (E.Stopped ∷ older) legal =
    let before = stands id older legal.1 in
    stands_next id older E.Stopped (processed_since id older) (is_some (due_since_back id older)) refl refl (leaves_it _ _ _ _ _ _ _ _ refl refl before)

pub due_by_history : DueByHistory
due_by_history log id legal =
    let all = (stands id (reverse log) legal).is_due in
    let same : reverse (reverse log) ≡ log = reverse-twice log in
    subst (λ l. is_due log id ≡ (is_held l id && ((is_due_at_once id || was_asked l id) && not (processed_since id (reverse log))))) same all
