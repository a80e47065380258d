-- Which crashes no view has, and what changes no view.
use Rattle.std.proofs.Common.{◌≡◌, ℕ, Bool, true, false, not, ◌&&◌, ◌||◌, IsTrue, List, [], ◌∷◌, ◌++◌, reverse, Option, Some, None, IfSome, IsSomeAnd, cond, sym, ap, subst, ◌∙◌, refl}
use Rattle.std.specs.Prelude.{bytes_eq, filter_map, if◌then◌else◌}
use Rattle.std.specs.List.{AllByRecursion, cons_option, find, list_any}
use Rattle.std.specs.Option.{option_map, option_and_then}
use Rattle.std.proofs.lemmas.List.{append-nil}
use Rattle.std.proofs.lemmas.List.Elements.{filter_map-append}
use Rattle.std.proofs.lemmas.Slice.Eq.{bytes_eq-Decides}
use Rattle.soc_base.proofs.Folk.{or_true}
use Rattle.soc_base.specs.Names.{value_of}
use Rattle.soc_raw.specs.Record.{Crash}
use Rattle.soc_schema.specs.declared.caller.Caller.{Caller}
use Rattle.soc_schema.specs.Permits.{shows}
use Rattle.soc_schema.specs.Reports.{product_of}
use Rattle.soc_ledger.specs.declared.event.Event.TheVariants as E
use Rattle.soc_ledger.specs.Due.{is_due}
use Rattle.soc_ledger.specs.Events.{is_held, was_accepted, was_withdrawn}
use Rattle.soc_desk.specs.Basis.{Basis}
use Rattle.soc_desk.specs.Laws.{IsAbsent, IsHidden, IsUnseen, HidesCrashes, KeepsViews}
use Rattle.soc_desk.specs.Log.{Change, Accepted, KeptReport, accept, ask, withdraw, report, keep, done, stop, accepted_in, accepted_of, event_of, events, is_own, raw_of, row_after, row_in}
use Rattle.soc_desk.specs.View.{Seen, view_of}
use Rattle.soc_desk.proofs.Views.{turned_eq, true_is_not_false, shown, item, item_of, items_of, view_of_items, view_items, item_id, item_hidden, item_row, item_other, items_absent, absent_items, filter_map-all, all-filter_map, filter_map-same, all_weaker}
use Rattle.soc_desk.proofs.Logs.{has_id, IsApart, accepted_apart, was_accepted-is, events-more, row_in-more, held_plain, held_accept, held_withdraw}

-- ---- absent ids

-- the view lacks an id that no item has
module _ (basis : Basis) (log : List Change) (caller : Caller) (id : List ℕ) where
  lacks : AllByRecursion (λ crash. IfSome (item_of basis log caller crash) (λ p. bytes_eq p.0 id ≡ false)) (accepted_of log) → IsAbsent basis log caller id
  lacks all =
      subst (λ v. value_of v id ≡ None) (sym (view_items basis log caller))
      (items_absent (items_of basis log caller) id (all-filter_map (item_of basis log caller) (λ p. bytes_eq p.0 id ≡ false) (accepted_of log) all))

  pub is_lacking : IsAbsent basis log caller id → AllByRecursion (λ crash. IfSome (item_of basis log caller crash) (λ p. bytes_eq p.0 id ≡ false)) (accepted_of log)
  is_lacking none =
      filter_map-all (item_of basis log caller) (λ p. bytes_eq p.0 id ≡ false) (accepted_of log)
      (absent_items (items_of basis log caller) id (subst (λ v. value_of v id ≡ None) (view_items basis log caller) none))

  -- an item of another id
  other_item : (crash : Accepted) → bytes_eq crash.id id ≡ false → IfSome (item_of basis log caller crash) (λ p. bytes_eq p.0 id ≡ false)
  other_item crash other = item_id caller (is_held (events basis log) crash.id) crash.id crash.raw (row_in basis log crash.id) (λ x. bytes_eq x id ≡ false) other

  -- no item, where the crash isn't shown or isn't held
  no_item : (crash : Accepted) → item_of basis log caller crash ≡ None → IfSome (item_of basis log caller crash) (λ p. bytes_eq p.0 id ≡ false)
  no_item crash none =
      let P : Option (List ℕ × Seen) → Type 0 = λ o. IfSome o (λ p. bytes_eq p.0 id ≡ false) in
      subst P (sym none) tt

  not_held : (crash : Accepted) → is_held (events basis log) crash.id ≡ false → item_of basis log caller crash ≡ None
  not_held crash gone = ap (λ b. item caller b crash.id crash.raw (row_in basis log crash.id)) gone

  -- a crash of this id that isn't held
  lacks_unheld : is_held (events basis log) id ≡ false → IsAbsent basis log caller id
  lacks_unheld gone = lacks (every (accepted_of log)) where
    each : (crash : Accepted) (b : Bool) → bytes_eq crash.id id ≡ b → IfSome (item_of basis log caller crash) (λ p. bytes_eq p.0 id ≡ false)
    each crash true same = no_item crash (not_held crash (ap (λ x. is_held (events basis log) x) ((bytes_eq-Decides crash.id id).0 same) ∙ gone))
    each crash false other = other_item crash other

    every : (crashes : List Accepted) → AllByRecursion (λ crash. IfSome (item_of basis log caller crash) (λ p. bytes_eq p.0 id ≡ false)) crashes
    every [] = tt
    every (crash ∷ crashes) = (each crash (bytes_eq crash.id id) refl, every crashes)

  -- a crash of this id that isn't shown
  lacks_hidden : (crashes : List Accepted) → IsApart crashes
      → IsSomeAnd (option_and_then (λ crash. crash.raw) (find (has_id id) crashes)) (λ raw. shows caller.products (product_of raw) ≡ false)
      → AllByRecursion (λ crash. IfSome (item_of basis log caller crash) (λ p. bytes_eq p.0 id ≡ false)) crashes
  lacks_hidden [] apart hidden = tt
  lacks_hidden (crash ∷ crashes) apart hidden =
      elim (bytes_eq crash.id id) as (λ b. bytes_eq crash.id id ≡ b
      → IsSomeAnd (option_and_then (λ c. c.raw) (cond b (Some crash) (find (has_id id) crashes))) (λ raw. shows caller.products (product_of raw) ≡ false)
      → AllByRecursion (λ c. IfSome (item_of basis log caller c) (λ p. bytes_eq p.0 id ≡ false)) (crash ∷ crashes)) [
        | true ↦ λ same here. (no_item crash (hidden_item crash here), others crash.id crashes ((bytes_eq-Decides crash.id id).0 same) apart.0)
        | false ↦ λ other rest. (other_item crash other, lacks_hidden crashes apart.1 rest)
      ] refl hidden where
        unshown : (raw : Option Crash) → IsSomeAnd raw (λ r. shows caller.products (product_of r) ≡ false) → shown caller raw ≡ None
        unshown None here = absurd here
        unshown (Some raw) here = ap (λ b. if b then Some raw else None) here

        hidden_item : (crash : Accepted) → IsSomeAnd crash.raw (λ raw. shows caller.products (product_of raw) ≡ false) → item_of basis log caller crash ≡ None
        hidden_item crash here = item_hidden caller (is_held (events basis log) crash.id) crash.id crash.raw (row_in basis log crash.id) (unshown crash.raw here)

        others : (own : List ℕ) (crashes : List Accepted) → own ≡ id → AllByRecursion (λ other. bytes_eq other.id own ≡ false) crashes
            → AllByRecursion (λ c. IfSome (item_of basis log caller c) (λ p. bytes_eq p.0 id ≡ false)) crashes
        others own [] same apart = tt
        others own (crash ∷ crashes) same apart = (other_item crash (ap (λ x. bytes_eq crash.id x) (sym same) ∙ apart.0), others own crashes same apart.1)

-- what isn't held is in no view
pub hides_unheld : (basis : Basis) (log : List Change) (caller : Caller) (id : List ℕ) → is_held (events basis log) id ≡ false → IsAbsent basis log caller id
hides_unheld basis log caller id gone = lacks_unheld basis log caller id gone

-- hidden, withdrawn and absent ids are in no view
pub hides : HidesCrashes
hides = record {
  hidden = λ basis log caller id legal hidden.
      lacks basis log caller id (lacks_hidden basis log caller id (accepted_of log) (accepted_apart basis log legal.events_legal) hidden);
  withdrawn = λ basis log caller id gone.
      lacks_unheld basis log caller id (unheld_withdrawn (was_accepted (events basis log) id) (was_withdrawn (events basis log) id) gone);
  absent = λ basis log caller id new.
      lacks_unheld basis log caller id (unheld_absent (was_accepted (events basis log) id) (was_withdrawn (events basis log) id) new);
} where
  unheld_withdrawn : (a w : Bool) → IsTrue w → (a && not w) ≡ false
  unheld_withdrawn true true gone = refl
  unheld_withdrawn true false gone = absurd (true_is_not_false (sym gone))
  unheld_withdrawn false w gone = refl

  unheld_absent : (a w : Bool) → IsTrue (not a) → (a && not w) ≡ false
  unheld_absent true w new = absurd (true_is_not_false (sym new))
  unheld_absent false w new = refl

-- ---- changes that no view shows

-- what a change says of a crash stays, where it isn't the crash that it is of
module _ (basis : Basis) (log : List Change) (caller : Caller) (change : Change) where
  abbrev held_next : (id : List ℕ) → Bool
  held_next id = is_held (events basis log ++ event_of basis change ∷ []) id

  -- the item of a crash after the change, by parts
  same_item : (crash : Accepted) → held_next crash.id ≡ is_held (events basis log) crash.id → row_after basis crash.id change (reverse log) (row_in basis log crash.id) ≡ row_in basis log crash.id
      → item_of basis (log ++ change ∷ []) caller crash ≡ item_of basis log caller crash
  same_item crash held row =
      ap (λ b. item caller b crash.id crash.raw (row_in basis (log ++ change ∷ []) crash.id)) (ap (λ l. is_held l crash.id) (events-more basis log change) ∙ held)
      ∙ ap (λ r. item caller (is_held (events basis log) crash.id) crash.id crash.raw r) (row_in-more basis log change crash.id ∙ row)

  -- a crash that had no item has none, whatever its row is now
  still_none : (crash : Accepted) → held_next crash.id ≡ is_held (events basis log) crash.id → item_of basis log caller crash ≡ None → item_of basis (log ++ change ∷ []) caller crash ≡ item_of basis log caller crash
  still_none crash held none =
      ap (λ b. item caller b crash.id crash.raw (row_in basis (log ++ change ∷ []) crash.id)) (ap (λ l. is_held l crash.id) (events-more basis log change) ∙ held)
      ∙ (item_row caller (is_held (events basis log) crash.id) crash.id crash.raw (row_in basis log crash.id) (row_in basis (log ++ change ∷ []) crash.id) none ∙ sym none)

  -- a crash that isn't held any longer has none
  now_none : (crash : Accepted) → held_next crash.id ≡ false → item_of basis log caller crash ≡ None → item_of basis (log ++ change ∷ []) caller crash ≡ item_of basis log caller crash
  now_none crash gone none =
      ap (λ b. item caller b crash.id crash.raw (row_in basis (log ++ change ∷ []) crash.id)) (ap (λ l. is_held l crash.id) (events-more basis log change) ∙ gone) ∙ sym none

  -- the view stays where each item stays, and what is accepted isn't seen
  view_stays : AllByRecursion (λ crash. item_of basis (log ++ change ∷ []) caller crash ≡ item_of basis log caller crash) (accepted_of log)
      → filter_map (item_of basis (log ++ change ∷ []) caller) (filter_map accepted_in (change ∷ [])) ≡ [] → view_of basis (log ++ change ∷ []) caller ≡ view_of basis log caller
  view_stays same new =
      let f = item_of basis (log ++ change ∷ []) caller in
      let items : items_of basis (log ++ change ∷ []) caller ≡ items_of basis log caller =
      ap (filter_map f) (filter_map-append accepted_in log (change ∷ []))
      ∙ (filter_map-append f (accepted_of log) (filter_map accepted_in (change ∷ []))
      ∙ (ap (λ t. t ++ filter_map f (filter_map accepted_in (change ∷ []))) (filter_map-same f (item_of basis log caller) (accepted_of log) same)
      ∙ (ap (λ t. items_of basis log caller ++ t) new ∙ append-nil (items_of basis log caller)))) in
      view_items basis (log ++ change ∷ []) caller ∙ (ap view_of_items items ∙ sym (view_items basis log caller))

and_true : (b : Bool) → (b && true) ≡ b
and_true true = refl
and_true false = refl

and_false : (b : Bool) → (b && false) ≡ false
and_false true = refl
and_false false = refl

-- each of some crashes has the id of one of them
own_ids : (crashes : List Accepted) → AllByRecursion (λ crash. list_any (has_id crash.id) crashes ≡ true) crashes
own_ids [] = tt
own_ids (crash ∷ crashes) = (
  ap (λ b. b || list_any (has_id crash.id) crashes) ((bytes_eq-Decides crash.id crash.id).1 refl),
  all_weaker _ _ crashes (λ other is. ap (λ b. has_id other.id crash || b) is ∙ or_true (has_id other.id crash)) (own_ids crashes),
)

were_accepted : (basis : Basis) (log : List Change) → AllByRecursion (λ crash. was_accepted (events basis log) crash.id ≡ true) (accepted_of log)
were_accepted basis log = all_weaker _ _ (accepted_of log) (λ crash is. was_accepted-is basis log crash.id ∙ is) (own_ids (accepted_of log))

pub every : {X : Type 0} (P : X → Type 0) (xs : List X) → ((x : X) → P x) → AllByRecursion P xs
every P [] each = tt
every P (x ∷ xs) each = (each x, every P xs each)

module _ (basis : Basis) (log : List Change) (caller : Caller) where
  -- what is known of each crash where no view has this id
  abbrev Lacks : List ℕ → Accepted → Type 0
  Lacks id crash = IfSome (item_of basis log caller crash) (λ p. bytes_eq p.0 id ≡ false)

  none_of : (id : List ℕ) (crash : Accepted) → bytes_eq id crash.id ≡ true → Lacks id crash → item_of basis log caller crash ≡ None
  none_of id crash same lacking =
      item_other caller (is_held (events basis log) crash.id) crash.id crash.raw (row_in basis log crash.id) id (turned_eq id crash.id true same) lacking

  done_item : (id : List ℕ) (crash : Accepted) (b : Bool) → bytes_eq id crash.id ≡ b → Lacks id crash → item_of basis (log ++ done id ∷ []) caller crash ≡ item_of basis log caller crash
  done_item id crash true same lacking = still_none basis log caller (done id) crash (held_plain (events basis log) (E.Done id) crash.id refl refl) (none_of id crash same lacking)
  done_item id crash false other lacking = same_item basis log caller (done id) crash (held_plain (events basis log) (E.Done id) crash.id refl refl)
      (ap (λ b. if b then option_map basis.row_of (raw_of (reverse (reverse log)) crash.id) else row_in basis log crash.id) other)

  report_item : (made : KeptReport) (crash : Accepted) (b : Bool) → bytes_eq made.id crash.id ≡ b → Lacks made.id crash → item_of basis (log ++ keep (report made) ∷ []) caller crash ≡ item_of basis log caller crash
  report_item made crash true same lacking =
      still_none basis log caller (keep (report made)) crash (held_plain (events basis log) (E.Reported made.id (is_own basis made.digest)) crash.id refl refl) (none_of made.id crash same lacking)
  report_item made crash false other lacking =
      same_item basis log caller (keep (report made)) crash (held_plain (events basis log) (E.Reported made.id (is_own basis made.digest)) crash.id refl refl)
      (ap (λ b. if b && (is_own basis made.digest && is_due (events basis (reverse (reverse log))) crash.id) then Some made.row else row_in basis log crash.id) other)

  withdraw_item : (id : List ℕ) (crash : Accepted) (b : Bool) → bytes_eq id crash.id ≡ b → Lacks id crash → item_of basis (log ++ keep (withdraw id) ∷ []) caller crash ≡ item_of basis log caller crash
  withdraw_item id crash true same lacking =
      now_none basis log caller (keep (withdraw id)) crash (held_withdraw (events basis log) id crash.id true same ∙ and_false (is_held (events basis log) crash.id)) (none_of id crash same lacking)
  withdraw_item id crash false other lacking =
      same_item basis log caller (keep (withdraw id)) crash (held_withdraw (events basis log) id crash.id false other ∙ and_true (is_held (events basis log) crash.id)) refl

  -- what is accepted and hidden has no item
  accept_item : (crash : Accepted) → IsHidden caller crash → filter_map (item_of basis (log ++ keep (accept crash) ∷ []) caller) (crash ∷ []) ≡ []
  accept_item crash hidden =
      ap (λ o. cons_option o []) (item_hidden caller (is_held (events basis (log ++ keep (accept crash) ∷ [])) crash.id) crash.id crash.raw (row_in basis (log ++ keep (accept crash) ∷ []) crash.id) (unshown crash.raw hidden)) where
        unshown : (raw : Option Crash) → IfSome raw (λ r. shows caller.products (product_of r) ≡ false) → shown caller raw ≡ None
        unshown None here = refl
        unshown (Some raw) here = ap (λ b. if b then Some raw else None) here

  pub keeps : (change : Change) → IsUnseen basis log caller change → view_of basis (log ++ change ∷ []) caller ≡ view_of basis log caller
  keeps (keep (accept crash)) unseen = view_stays basis log caller (keep (accept crash))
      (all_weaker _ _ (accepted_of log) (λ other before. same_item basis log caller (keep (accept crash)) other (held_accept (events basis log) crash.id other.id before) refl) (were_accepted basis log))
      (accept_item crash unseen)
  keeps (keep (ask id)) unseen = view_stays basis log caller (keep (ask id))
      (every _ (accepted_of log) (λ crash. same_item basis log caller (keep (ask id)) crash (held_plain (events basis log) (E.Asked id) crash.id refl refl) refl)) refl
  keeps (keep (withdraw id)) unseen = view_stays basis log caller (keep (withdraw id))
      (all_weaker _ _ (accepted_of log) (λ crash lacking. withdraw_item id crash (bytes_eq id crash.id) refl lacking) (is_lacking basis log caller id unseen)) refl
  keeps (keep (report made)) unseen = view_stays basis log caller (keep (report made))
      (all_weaker _ _ (accepted_of log) (λ crash lacking. report_item made crash (bytes_eq made.id crash.id) refl lacking) (is_lacking basis log caller made.id unseen)) refl
  keeps (done id) unseen = view_stays basis log caller (done id)
      (all_weaker _ _ (accepted_of log) (λ crash lacking. done_item id crash (bytes_eq id crash.id) refl lacking) (is_lacking basis log caller id unseen)) refl
  keeps stop unseen = view_stays basis log caller stop
      (every _ (accepted_of log) (λ crash. same_item basis log caller stop crash (held_plain (events basis log) E.Stopped crash.id refl refl) refl)) refl

pub keeps_views : KeepsViews
keeps_views basis log caller change legal unseen = keeps basis log caller change unseen
