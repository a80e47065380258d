-- Rows are those of their crashes, in every life.
use Rattle.std.proofs.Common.{◌≡◌, ◌⊎◌, inl, inr, ℕ, Bool, true, false, ◌&&◌, IsTrue, List, [], ◌∷◌, ◌++◌, map, reverse, Option, Some, None, IfSome, MatchOption, sym, ap, subst, ◌∙◌, refl, append_assoc}
use Rattle.std.specs.Prelude.{bytes_eq, if◌then◌else◌, ⊤}
use Rattle.std.specs.List.{AllByRecursion, find}
use Rattle.std.specs.Option.{option_and_then, option_map, option_map_or, option_or}
use Rattle.std.proofs.lemmas.List.{append-nil, map-append}
use Rattle.std.proofs.lemmas.List.Elements.{filter_map-append}
use Rattle.std.proofs.lemmas.List.Folds.{find-append}
use Rattle.soc_base.proofs.Folk.{and_parts}
use Rattle.soc_raw.specs.Record.{Crash}
use Rattle.soc_schema.specs.declared.caller.Caller.{Caller}
use Rattle.soc_schema.specs.declared.permission.Permission.{Permission}
use Rattle.soc_schema.specs.declared.value.Cell.{Cell}
use Rattle.soc_ledger.specs.Due.{due_ids, is_due}
use Rattle.soc_ledger.proofs.Lists.{same_text, true_is_not_false}
use Rattle.soc_desk.specs.declared.desk.Command.TheVariants as C
use Rattle.soc_desk.specs.declared.desk.Refusal.TheVariants as F
use Rattle.soc_desk.specs.declared.desk.Reply.{Reply}
use Rattle.soc_desk.specs.declared.desk.Reply.TheVariants as R
use Rattle.soc_desk.specs.Basis.{Basis}
use Rattle.soc_desk.specs.Decisions.{lacked}
use Rattle.soc_desk.specs.Desk.{DrainsAll, Refuses, Step}
use Rattle.soc_desk.specs.Keeps.{KeepsFirst, ids_to_keep, is_passed_over, kept_with_doubt, report_of, to_append}
use Rattle.soc_desk.specs.Laws.{IsDrained}
use Rattle.soc_desk.specs.Log.{Accepted, Change, Kept, KeptReport, accept, ask, withdraw, report, keep, done, stop, accepted_in, accepted_of, events, is_own, raw_of, row_back, row_in}
use Rattle.soc_desk.specs.Opens.{log_of}
use Rattle.soc_desk.specs.State.{Settles, State, kept_in, kept_of}
use Rattle.soc_desk.proofs.Drained.{drains_all}
use Rattle.soc_desk.proofs.Logs.{has_id, reverse-cons, reverse-twice}
use Rattle.soc_desk.proofs.Views.{all_weaker, filter_map-all}
use Rattle.soc_lives.specs.Lives.{Action, asking, storing, failing, keeping, AllLive, Does, Follow, Life, Lives, Transition, ended, last_state, opened, Leaves}
use Rattle.soc_lives.specs.Laws.{AreDrained, BeginsUnreported, BeginsWith, GoByDigests, HasTrueRows, InEachState, IsKeptBy, IsKeptInside, IsLeft, IsNoReport, LeavesDoubt, RowsAreOfCrashes}
use Rattle.soc_lives.proofs.Growth.{IsFrontOf, kept_all, kept_more}
use Rattle.soc_lives.proofs.Later.{in_each_state, kept_later, next_left}
use Rattle.soc_lives.proofs.Reports.{accepted_kept}
use Rattle.soc_lives.proofs.Settling.{Once, SettlesPlainly, asked_once, fails_once, stores_once}
use Rattle.soc_lives.proofs.Whole.{all_turned}

-- ---- the raw crash of an id

abbrev raw_among : List Accepted → List ℕ → Option Crash
raw_among crashes id = option_and_then (λ crash. crash.raw) (find (has_id id) crashes)

first_found : (o o' : Option Accepted) (raw : Crash) → option_and_then (λ crash. crash.raw) o ≡ Some raw → option_and_then (λ crash. crash.raw) (option_or o o') ≡ Some raw
first_found None o' raw is = cc
first_found (Some crash) o' raw is = is

raw_further : (crashes more : List Accepted) (id : List ℕ) (raw : Crash) → raw_among crashes id ≡ Some raw → raw_among (crashes ++ more) id ≡ Some raw
raw_further crashes more id raw is =
    ap (option_and_then (λ (crash : Accepted). crash.raw)) (find-append (has_id id) crashes more) ∙ first_found (find (has_id id) crashes) (find (has_id id) more) raw is

mapped_further : {X : Type 0} (f : Crash → X) (o o' : Option Crash) (x : X) → ((raw : Crash) → o ≡ Some raw → o' ≡ Some raw) → option_map f o ≡ Some x → option_map f o' ≡ Some x
mapped_further f None o' x further is = cc
mapped_further f (Some raw) o' x further is = ap (option_map f) (further raw refl) ∙ is

pub front_raw : (log after : List Change) → IsFrontOf log after → (id : List ℕ) (raw : Crash) → raw_of log id ≡ Some raw → raw_of after id ≡ Some raw
front_raw log after (piece, is) id raw has =
    ap (λ (cs : List Accepted). raw_among cs id) (ap accepted_of is ∙ filter_map-append accepted_in log piece) ∙ raw_further (accepted_of log) (accepted_of piece) id raw has

-- ---- reports of their crashes

module _ (rows : List ℕ → Crash → List Cell) where
  abbrev IsOf : List Accepted → KeptReport → Type 0
  IsOf crashes made = option_map (rows made.digest) (raw_among crashes made.id) ≡ Some made.row

  -- behind these crashes, each report has the row of its crash
  abbrev pub AreTrue : List Accepted → List Kept → Type 0
  AreTrue crashes [] = ⊤
  AreTrue crashes (accept crash ∷ kept) = AreTrue (crashes ++ crash ∷ []) kept
  AreTrue crashes (ask id ∷ kept) = AreTrue crashes kept
  AreTrue crashes (withdraw id ∷ kept) = AreTrue crashes kept
  AreTrue crashes (report made ∷ kept) = IsOf crashes made × AreTrue crashes kept

  true_join : (crashes : List Accepted) (kept more : List Kept) → AreTrue crashes kept → AreTrue (crashes ++ accepted_of (log_of kept)) more → AreTrue crashes (kept ++ more)
  true_join crashes [] more all all' = subst (λ (cs : List Accepted). AreTrue cs more) (append-nil crashes) all'
  true_join crashes (accept crash ∷ kept) more all all' =
      true_join (crashes ++ crash ∷ []) kept more all (subst (λ (cs : List Accepted). AreTrue cs more) (sym (append_assoc crashes (crash ∷ []) (accepted_of (log_of kept)))) all')
  true_join crashes (ask id ∷ kept) more all all' = true_join crashes kept more all all'
  true_join crashes (withdraw id ∷ kept) more all all' = true_join crashes kept more all all'
  true_join crashes (report made ∷ kept) more all all' = (all.0, true_join crashes kept more all.1 all')

  true_front : (crashes : List Accepted) (kept more : List Kept) → AreTrue crashes (kept ++ more) → AreTrue crashes kept
  true_front crashes [] more all = tt
  true_front crashes (accept crash ∷ kept) more all = true_front (crashes ++ crash ∷ []) kept more all
  true_front crashes (ask id ∷ kept) more all = true_front crashes kept more all
  true_front crashes (withdraw id ∷ kept) more all = true_front crashes kept more all
  true_front crashes (report made ∷ kept) more all = (all.0, true_front crashes kept more all.1)

  plain_true : (crashes : List Accepted) (kept : List Kept) → AllByRecursion IsNoReport kept → AreTrue crashes kept
  plain_true crashes [] plain = tt
  plain_true crashes (accept crash ∷ kept) plain = plain_true (crashes ++ crash ∷ []) kept plain.1
  plain_true crashes (ask id ∷ kept) plain = plain_true crashes kept plain.1
  plain_true crashes (withdraw id ∷ kept) plain = plain_true crashes kept plain.1
  plain_true crashes (report made ∷ kept) plain = absurd plain.0

  abbrev IsTrueIn : List Accepted → Kept → Type 0
  IsTrueIn crashes (report made) = IsOf crashes made
  IsTrueIn crashes (accept crash) = ⊤
  IsTrueIn crashes (ask id) = ⊤
  IsTrueIn crashes (withdraw id) = ⊤

  each_true : (crashes more : List Accepted) (kept : List Kept) → AreTrue crashes kept → AllByRecursion (IsTrueIn ((crashes ++ accepted_of (log_of kept)) ++ more)) kept
  each_true crashes more [] all = tt
  each_true crashes more (accept crash ∷ kept) all =
      (tt, subst (λ (cs : List Accepted). AllByRecursion (IsTrueIn (cs ++ more)) kept) (append_assoc crashes (crash ∷ []) (accepted_of (log_of kept))) (each_true (crashes ++ crash ∷ []) more kept all))
  each_true crashes more (ask id ∷ kept) all = (tt, each_true crashes more kept all)
  each_true crashes more (withdraw id ∷ kept) all = (tt, each_true crashes more kept all)
  each_true crashes more (report made ∷ kept) all = (
    mapped_further (rows made.digest) (raw_among crashes made.id) _ made.row
        (λ raw has. raw_further (crashes ++ accepted_of (log_of kept)) more made.id raw (raw_further crashes (accepted_of (log_of kept)) made.id raw has)) all.0,
    each_true crashes more kept all.1,
  )

  -- ---- rows of a log

  module _ (basis : Basis) (by : IfSome basis.digest (λ digest. basis.row_of ≡ rows digest)) where
    rows_by : (own : Option (List ℕ)) (digest : List ℕ) → IfSome own (λ d. basis.row_of ≡ rows d) → option_map_or (λ d. bytes_eq d digest) own false ≡ true → rows digest ≡ basis.row_of
    rows_by None digest goes is = absurd (true_is_not_false (sym is))
    rows_by (Some own) digest goes is = sym (goes ∙ ap rows (same_text own digest is))

    module _ (whole : List Change) (id : List ℕ) where
      abbrev IsRow : Option (List Cell) → Type 0
      IsRow row = IfSome row (λ r. option_map basis.row_of (raw_of whole id) ≡ Some r)

      row_done : (b : Bool) (here : Option Crash) (earlier : Option (List Cell)) → ((raw : Crash) → here ≡ Some raw → raw_of whole id ≡ Some raw) → IsRow earlier → IsRow (if b then option_map basis.row_of here else earlier)
      row_done true None earlier further rest = tt
      row_done true (Some raw) earlier further rest = ap (option_map basis.row_of) (further raw refl)
      row_done false here earlier further rest = rest

      row_reported : (made : KeptReport) (due : Bool) (earlier : Option (List Cell)) → IsOf (accepted_of whole) made → IsRow earlier
          → IsRow (if bytes_eq made.id id && (is_own basis made.digest && due) then Some made.row else earlier)
      row_reported made due earlier of rest =
          elim (bytes_eq made.id id && (is_own basis made.digest && due)) as (λ b. (bytes_eq made.id id && (is_own basis made.digest && due)) ≡ b → IsRow (if b then Some made.row else earlier)) [
            | true ↦ λ is. counted is
            | false ↦ λ is. rest
          ] refl where
            counted : (bytes_eq made.id id && (is_own basis made.digest && due)) ≡ true → option_map basis.row_of (raw_of whole id) ≡ Some made.row
            counted is =
                let parts = and_parts (bytes_eq made.id id) (is_own basis made.digest && due) is in
                let own = and_parts (is_own basis made.digest) due parts.1 in
                ap (λ f. option_map f (raw_of whole id)) (sym (rows_by basis.digest made.digest by own.0))
                ∙ (ap (λ (i : List ℕ). option_map (rows made.digest) (raw_among (accepted_of whole) i)) (sym (same_text made.id id parts.0)) ∙ of)

      older_front : (change : Change) (older : List Change) → IsFrontOf (reverse (change ∷ older)) whole → IsFrontOf (reverse older) whole
      older_front change older (piece, is) =
          (change ∷ piece, is ∙ (ap (λ (l : List Change). l ++ piece) (reverse-cons change older) ∙ append_assoc (reverse older) (change ∷ []) piece))

      row_true : (back : List Change) → IsFrontOf (reverse back) whole → AllByRecursion (λ change. IfSome (kept_in change) (IsTrueIn (accepted_of whole))) back → IsRow (row_back basis id back)
      row_true [] front all = tt
      row_true (keep (accept crash) ∷ older) front all = row_true older (older_front (keep (accept crash)) older front) all.1
      row_true (keep (ask other) ∷ older) front all = row_true older (older_front (keep (ask other)) older front) all.1
      row_true (keep (withdraw other) ∷ older) front all = row_true older (older_front (keep (withdraw other)) older front) all.1
      row_true (keep (report made) ∷ older) front all =
          row_reported made (is_due (events basis (reverse older)) id) (row_back basis id older) all.0 (row_true older (older_front (keep (report made)) older front) all.1)
      row_true (done other ∷ older) front all =
          let front' = older_front (done other) older front in
          row_done (bytes_eq other id) (raw_of (reverse older) id) (row_back basis id older) (front_raw (reverse older) whole front' id) (row_true older front' all.1)
      row_true (stop ∷ older) front all = row_true older (older_front stop older front) all.1

    rows_true : (log : List Change) → AreTrue [] (kept_of log) → (id : List ℕ) → IfSome (row_in basis log id) (λ row. option_map basis.row_of (raw_of log id) ≡ Some row)
    rows_true log all id = row_true log id (reverse log) ([], sym (reverse-twice log) ∙ sym (append-nil (reverse (reverse log)))) (all_turned _ log each) where
      crashes : (accepted_of (log_of (kept_of log))) ++ [] ≡ accepted_of log
      crashes = append-nil (accepted_of (log_of (kept_of log))) ∙ accepted_kept log

      each : AllByRecursion (λ change. IfSome (kept_in change) (IsTrueIn (accepted_of log))) log
      each = filter_map-all kept_in (IsTrueIn (accepted_of log)) log (subst (λ (cs : List Accepted). AllByRecursion (IsTrueIn cs) (kept_of log)) crashes (each_true [] [] (kept_of log) all))

    -- ---- reports that are kept

    abbrev made_by : List ℕ → List ℕ → List Cell → KeptReport
    made_by id digest row = record { id = id; digest = digest; row = row }

    made_true : (digest : Option (List ℕ)) (row : Option (List Cell)) (crashes : List Accepted) (id : List ℕ) → IfSome digest (λ d. basis.row_of ≡ rows d)
        → IfSome row (λ r. option_map basis.row_of (raw_among crashes id) ≡ Some r) → IfSome (option_and_then (λ d. option_map (λ r. made_by id d r) row) digest) (IsOf crashes)
    made_true None row crashes id goes has = tt
    made_true (Some digest) None crashes id goes has = tt
    made_true (Some digest) (Some row) crashes id goes has = ap (λ f. option_map f (raw_among crashes id)) (sym goes) ∙ has

    abbrev rest_by : List Change → List (List ℕ) → Bool → KeptReport → List Kept
    rest_by log ids over made = if over then to_append basis log ids else report made ∷ to_append basis (log ++ keep (report made) ∷ []) ids

    abbrev Appends : List (List ℕ) → Type 0
    Appends ids = (log : List Change) → AreTrue [] (kept_of log) → AreTrue (accepted_of log) (to_append basis log ids)

    module _ (ids : List (List ℕ)) (rest : Appends ids) (log : List Change) (all : AreTrue [] (kept_of log)) where
      next_true : (made : KeptReport) → IsOf (accepted_of log) made → AreTrue [] (kept_of (log ++ keep (report made) ∷ []))
      next_true made of =
          subst (AreTrue []) (sym (kept_more log (keep (report made) ∷ []))) (true_join [] (kept_of log) (report made ∷ []) all (subst (λ (cs : List Accepted). IsOf cs made) (sym (accepted_kept log)) of, tt))

      same_crashes : (made : KeptReport) → accepted_of (log ++ keep (report made) ∷ []) ≡ accepted_of log
      same_crashes made = filter_map-append accepted_in log (keep (report made) ∷ []) ∙ append-nil (accepted_of log)

      true_over : (made : KeptReport) (over : Bool) → IsOf (accepted_of log) made → AreTrue (accepted_of log) (rest_by log ids over made)
      true_over made true of = rest log all
      true_over made false of =
          (of, subst (λ (cs : List Accepted). AreTrue cs (to_append basis (log ++ keep (report made) ∷ []) ids)) (same_crashes made) (rest (log ++ keep (report made) ∷ []) (next_true made of)))

      true_with : (o : Option KeptReport) → IfSome o (IsOf (accepted_of log))
          → AreTrue (accepted_of log) (option_map_or (λ made. rest_by log ids (is_passed_over basis log made) made) o (to_append basis log ids))
      true_with None of = rest log all
      true_with (Some made) of = true_over made (is_passed_over basis log made) of

    appended_true : (ids : List (List ℕ)) → Appends ids
    appended_true [] log all = tt
    appended_true (id ∷ ids) log all = true_with ids (appended_true ids) log all (report_of basis log id) (made_true basis.digest (row_in basis log id) (accepted_of log) id by (rows_true log all id))

    -- ---- transitions

    abbrev TrueState : State → Type 0
    TrueState state = AreTrue [] (kept_with_doubt state)

    settled_true : (before : State) (doubt : List Kept) (log : List Change) → AreTrue [] (kept_of before.log ++ doubt) → Settles before.log doubt log → AreTrue [] (kept_of log)
    settled_true before [] log all is = subst (AreTrue []) (append-nil (kept_of before.log) ∙ ap kept_of (sym is)) all
    settled_true before (first ∷ more) log all (inl is) =
        subst (AreTrue []) (ap (λ (k : List Kept). kept_of before.log ++ k) (sym (kept_all (first ∷ more))) ∙ (sym (kept_more before.log (map keep (first ∷ more))) ∙ ap kept_of (sym is))) all
    settled_true before (first ∷ more) log all (inr is) = subst (AreTrue []) (ap kept_of (sym is)) (true_front [] (kept_of before.log) (first ∷ more) all)

    leaves_true : (before after : State) → TrueState before → LeavesDoubt before after → TrueState after
    leaves_true before after all leaves =
        subst (AreTrue []) (ap (λ (k : List Kept). k ++ before.doubt) (sym leaves.nothing_kept) ∙ ap (λ (d : List Kept). kept_of after.log ++ d) (sym leaves.same)) all

    plainly_true : (before : State) (action : Action) (after : State) → TrueState before → SettlesPlainly before action after → TrueState after
    plainly_true before action after all settles =
        let log_true = settled_true before before.doubt settles.log all settles.settles in
        let row : kept_with_doubt after ≡ kept_of settles.log ++ (kept_of settles.own ++ after.doubt) =
        ap (λ (l : List Change). kept_of l ++ after.doubt) settles.after_log ∙ (ap (λ (k : List Kept). k ++ after.doubt) (kept_more settles.log settles.own) ∙ append_assoc (kept_of settles.log) (kept_of settles.own) after.doubt) in
        subst (AreTrue []) (sym row) (true_join [] (kept_of settles.log) (kept_of settles.own ++ after.doubt) log_true (plain_true _ (kept_of settles.own ++ after.doubt) settles.plain))

    once_true : (before : State) (action : Action) (after : State) → TrueState before → Once before action after → TrueState after
    once_true before action after all (inl leaves) = leaves_true before after all leaves
    once_true before action after all (inr settles) = plainly_true before action after all settles

    keeps_true : (log : List Change) (all : List Kept) (reply : Reply) (after : State) → AreTrue [] (kept_of log ++ all) → KeepsFirst log all reply after → TrueState after
    keeps_true log all (R.Kept count) after whole (count_is, is) =
        subst (AreTrue []) (sym (ap kept_with_doubt is ∙ (append-nil (kept_of (log ++ map keep all)) ∙ (kept_more log (map keep all) ∙ ap (λ (k : List Kept). kept_of log ++ k) (kept_all all))))) whole
    keeps_true log all (R.Refused F.NoMemory) after whole (first, rest, parts, some, is) =
        let front : AreTrue [] (kept_of log ++ first) = true_front [] (kept_of log ++ first) rest (subst (AreTrue []) (ap (λ (k : List Kept). kept_of log ++ k) parts ∙ sym (append_assoc (kept_of log) first rest)) whole) in
        subst (AreTrue []) (sym (ap kept_with_doubt is ∙ (append-nil (kept_of (log ++ map keep first)) ∙ (kept_more log (map keep first) ∙ ap (λ (k : List Kept). kept_of log ++ k) (kept_all first))))) front
    keeps_true log all (R.Refused F.StoreFault) after whole (first, failed, rest, parts, some, is) =
        let row : kept_of log ++ all ≡ ((kept_of log ++ first) ++ failed) ++ rest =
        ap (λ (k : List Kept). kept_of log ++ k) parts ∙ (sym (append_assoc (kept_of log) first (failed ++ rest)) ∙ sym (append_assoc (kept_of log ++ first) failed rest)) in
        subst (AreTrue []) (sym (ap kept_with_doubt is ∙ ap (λ (k : List Kept). k ++ failed) (kept_more log (map keep first) ∙ ap (λ (k : List Kept). kept_of log ++ k) (kept_all first))))
        (true_front [] ((kept_of log ++ first) ++ failed) rest (subst (AreTrue []) row whole))
    keeps_true log all _ after whole fails = absurd fails

    does_true : IsTrue basis.is_told → (before : State) (action : Action) (after : State) → TrueState before → Does basis before action after → TrueState after
    does_true is_told before (asking command reply) after all step = once_true before (asking command reply) after all (asked_once basis before command reply after step)
    does_true is_told before (storing raws) after all writes = plainly_true before (storing raws) after all (stores_once basis is_told before raws after writes)
    does_true is_told before (failing raws) after all writes = plainly_true before (failing raws) after all (fails_once basis is_told before raws after writes)
    does_true is_told before (keeping reply) after all (inl (some, (said, same))) = subst TrueState (sym same) all
    does_true is_told before (keeping reply) after all (inr keeps) =
        let log_true = settled_true before before.doubt keeps.log all keeps.settles in
        keeps_true keeps.log _ reply after
        (true_join [] (kept_of keeps.log) (to_append basis keeps.log (ids_to_keep basis keeps.log)) log_true
        (subst (λ (cs : List Accepted). AreTrue cs (to_append basis keeps.log (ids_to_keep basis keeps.log))) (sym (accepted_kept keeps.log)) (appended_true (ids_to_keep basis keeps.log) keeps.log log_true)))
        keeps.keeps

    state_rows : (state : State) → TrueState state → HasTrueRows basis state
    state_rows state all = rows_true state.log (true_front [] (kept_of state.log) state.doubt all)

    goes_true : IsTrue basis.is_told → (before : State) (transitions : List Transition) → TrueState before → Follow basis before transitions
        → AllByRecursion (λ transition. HasTrueRows basis transition.after) transitions × TrueState (last_state before transitions)
    goes_true is_told before [] all goes = (tt, all)
    goes_true is_told before (transition ∷ transitions) all goes =
        let here = does_true is_told before transition.action transition.after all goes.0.0 in
        let rest = goes_true is_told transition.after transitions here goes.1 in
        ((state_rows transition.after here, rest.0), rest.1)

    -- ---- what is left

    by_true : (state : State) (kept : List Kept) → TrueState state → IsKeptBy state kept → AreTrue [] kept
    by_true state kept all (inl is) = subst (AreTrue []) (sym is) (true_front [] (kept_of state.log) state.doubt all)
    by_true state kept all (inr is) = subst (AreTrue []) (sym is) all

    either_true : (before after : State) (kept : List Kept) → TrueState before → TrueState after → IsKeptBy before kept ⊎ IsKeptBy after kept → AreTrue [] kept
    either_true before after kept all all' (inl by_before) = by_true before kept all by_before
    either_true before after kept all all' (inr by_after) = by_true after kept all' by_after

    inside_true : (before : State) (action : Action) (after : State) (kept : List Kept) → TrueState before → TrueState after → IsKeptInside before action after kept → AreTrue [] kept
    inside_true before (asking command reply) after kept all all' inside = either_true before after kept all all' inside
    inside_true before (storing raws) after kept all all' inside = either_true before after kept all all' inside
    inside_true before (failing raws) after kept all all' inside = either_true before after kept all all' inside
    inside_true before (keeping reply) after kept all all' (inl by_before) = by_true before kept all by_before
    inside_true before (keeping reply) after kept all all' (inr between) =
        subst (AreTrue []) (sym between.kept_is)
        (true_front [] (kept_of before.log ++ between.more) between.rest (subst (AreTrue []) (between.whole ∙ sym (append_assoc (kept_of before.log) between.more between.rest)) all'))

  opened_true : (life : Life) → AreTrue [] life.opening → AreTrue [] (kept_with_doubt (opened life))
  opened_true life all = subst (AreTrue []) (sym (append-nil (kept_of (log_of life.opening)) ∙ kept_all life.opening)) all

  module _ (found : List ℕ) (life : Life) (by : IfSome life.basis.digest (λ digest. life.basis.row_of ≡ rows digest)) (opening : AreTrue [] life.opening) (lives : Lives found life) where
    life_true : InEachState (HasTrueRows life.basis) life × AreTrue [] (kept_with_doubt (ended life))
    life_true =
        let start = opened_true life opening in
        let goes = goes_true life.basis by lives.is_told (opened life) life.transitions start lives.goes in
        ((state_rows life.basis by (opened life) start, goes.0), goes.1)

    left_true : (kept : List Kept) → IsLeft (ended life) life.cut kept → AreTrue [] kept
    left_true kept left = by_cut life.cut lives.ends left where
      by_cut : (cut : Option Transition) → Leaves life.basis (ended life) cut life.image → IsLeft (ended life) cut kept → AreTrue [] kept
      by_cut None leaves left = by_true life.basis by (ended life) kept life_true.1 left
      by_cut (Some cut) leaves left =
          inside_true life.basis by (ended life) cut.action cut.after kept life_true.1 (does_true life.basis by lives.is_told (ended life) cut.action cut.after life_true.1 leaves.0.0) left

  lives_true : (found : List ℕ) (life : Life) (later : List Life) → AreTrue [] life.opening → AllLive found (life ∷ later) → GoByDigests rows (life ∷ later)
      → AllByRecursion (λ life. InEachState (HasTrueRows life.basis) life) (life ∷ later)
  lives_true found life [] opening all by = ((life_true found life by.0 opening all.0).0, tt)
  lives_true found life (next ∷ later) opening all by = (
    (life_true found life by.0 opening all.0).0,
    lives_true life.image next later (left_true found life by.0 opening all.0 next.opening (next_left found life next later all)) all.1 by.1,
  )

  all_true : (found : List ℕ) (lives : List Life) → AllLive found lives → GoByDigests rows lives → BeginsUnreported lives → AllByRecursion (λ life. InEachState (HasTrueRows life.basis) life) lives
  all_true found [] all by unreported = tt
  all_true found (life ∷ later) all by unreported = lives_true found life later (plain_true [] life.opening unreported) all by

-- ---- drains

not_refused : (count : ℕ) (wants : Option Permission) (P : Type 0) (before after : State) → MatchOption wants P (λ name. Refuses before (F.NoPermission name) (R.Drained count) after) → P
not_refused count None P before after step = step
not_refused count (Some name) P before after (said, same) = absurd (apart said) where
  apart : R.Drained count ≡ R.Refused (F.NoPermission name) → ⊥
  apart said = cc

drained : (basis : Basis) (before : State) (caller : Caller) (count : ℕ) (after : State) → Step basis before (C.Drain caller) (R.Drained count) after → IsDrained basis before.log after.log
drained basis before caller count after step =
    let drains = not_refused count (lacked (C.Drain caller)) (DrainsAll before (due_ids (events basis before.log)) (R.Drained count) after) before after step in
    subst (IsDrained basis before.log) (ap (λ (s : State). s.log) (sym drains.1)) (drains_all basis before.log)

follow_drained : (basis : Basis) (before : State) (transitions : List Transition) → Follow basis before transitions → AreDrained basis before transitions
follow_drained basis before [] goes = tt
follow_drained basis before (transition ∷ transitions) goes = (
  λ caller count is. drained basis before caller count transition.after (subst (λ (action : Action). Does basis before action transition.after) is goes.0.0),
  follow_drained basis transition.after transitions goes.1,
)

all_drained : (found : List ℕ) (lives : List Life) → AllLive found lives → AllByRecursion (λ life. AreDrained life.basis (opened life) life.transitions) lives
all_drained found [] all = tt
all_drained found (life ∷ lives) all = (follow_drained life.basis (opened life) life.transitions all.0.goes, all_drained life.image lives all.1)

-- ---- crashes

pub raw_later : (log : List Change) (id : List ℕ) (raw : Crash) → raw_of log id ≡ Some raw → (next : Life) → BeginsWith (kept_of log) next.opening → raw_of (log_of next.opening) id ≡ Some raw
raw_later log id raw has next (more, is) =
    front_raw (log_of (kept_of log)) (log_of next.opening) (log_of more, ap log_of is ∙ map-append keep (kept_of log) more) id raw
    (ap (λ (cs : List Accepted). raw_among cs id) (accepted_kept log) ∙ has)

pub crash_later : (found : List ℕ) (life : Life) (later : List Life) → AllLive found (life ∷ later)
    → InEachState (λ state. (id : List ℕ) → IfSome (raw_of state.log id) (λ raw. AllByRecursion (λ next. raw_of (log_of next.opening) id ≡ Some raw) later)) life
crash_later found life later all =
    in_each_state _ found life all.0 (λ state legal front id. by state.log id (kept_later found life later all state.log front) (raw_of state.log id) refl) where
      by : (log : List Change) (id : List ℕ) → AllByRecursion (λ next. BeginsWith (kept_of log) next.opening) later → (o : Option Crash) → raw_of log id ≡ o
          → IfSome o (λ raw. AllByRecursion (λ next. raw_of (log_of next.opening) id ≡ Some raw) later)
      by log id begins None is = tt
      by log id begins (Some raw) is = all_weaker _ _ later (raw_later log id raw is) begins

pub rows_are_of_crashes : RowsAreOfCrashes
rows_are_of_crashes = record { rows = all_true; drained = all_drained; crashes = crash_later }
