-- What stops during the last sweep leave.
use Rattle.std.proofs.Common.{◌≡◌, ◌⊎◌, inl, inr, ⊎_elim, ℕ, IsTrue, List, [], ◌∷◌, ◌++◌, map, take, refl, sym, ap, ◌∙◌, subst}
use Rattle.std.proofs.lemmas.List.{append-nil, append_assoc}
use Rattle.std.proofs.lemmas.List.Elements.{filter_map-append}
use Rattle.soc_edge.specs.Disk.{DiskTold, IsDisk}
use Rattle.soc_edge.proofs.Disks.{GoesOn-none, GoesOn-append, LeavesOnly-append, LeavesOnly-weaker}
use Rattle.soc_ledger.specs.declared.event.Event.{Event}
use Rattle.soc_ledger.specs.Due.{due_ids}
use Rattle.soc_desk.specs.declared.desk.Command.TheVariants as C
use Rattle.soc_desk.specs.declared.desk.Refusal.TheVariants as F
use Rattle.soc_desk.specs.declared.desk.Reply.{Reply}
use Rattle.soc_desk.specs.declared.desk.Reply.TheVariants as R
use Rattle.soc_desk.specs.Basis.{Basis}
use Rattle.soc_desk.specs.Desk.{DrainsAll, with_done}
use Rattle.soc_desk.specs.Grows.{BehindDoubt}
use Rattle.soc_desk.specs.Keeps.{KeepAllows, Reports, StandsBetween, kept_with_doubt}
use Rattle.soc_desk.specs.Log.{Change, Kept, done, events, keep, event_of}
use Rattle.soc_desk.specs.State.{State, Allowed, StandsFor, doubted, kept_in, kept_of}
use Rattle.soc_book.specs.Keeping.{KeepsReports}
use Rattle.soc_book.specs.inner.Does.{Does}
use Rattle.soc_serve.specs.Sweep.{KeepsAll}
use Rattle.soc_serve.specs.inner.Sweeping.{LeavesMore, LeavesSame, SameJournal}
use Rattle.soc_serve.proofs.Sweeps.{behind_again, operator, still}

-- ---- a drain

kept_done : (ids : List (List ℕ)) → kept_of (map done ids) ≡ []
kept_done [] = refl
kept_done (id ∷ ids) = kept_done ids

done_same : (before after : State) (ids : List (List ℕ)) → after ≡ with_done before ids → SameJournal before after
done_same before after ids is = record {
  kept = ap (λ (s : State). kept_of s.log) is
      ∙ (filter_map-append kept_in before.log (map done ids) ∙ (ap (λ (k : List Kept). kept_of before.log ++ k) (kept_done ids) ∙ append-nil (kept_of before.log)));
  doubt = ap (λ (s : State). s.doubt) is;
}

pub drained_same : (before : State) (due : List (List ℕ)) (reply : Reply) (after : State) → DrainsAll before due reply after → SameJournal before after
drained_same before due (R.Drained count) after drains = done_same before after due drains.1
drained_same before due (R.Refused F.NoMemory) after drains = done_same before after (take drains.0 due) drains.2
drained_same before due (R.Refused F.StoreFault) after drains = done_same before after (take drains.0 due) drains.2
drained_same before due _ after never = absurd never

-- what one of two such states allows the other does
pub same_allowed : (before after : State) → SameJournal before after → (image : List ℕ) → Allowed after image → Allowed before image
same_allowed before after same image (inl stands) = inl (subst (λ (k : List Kept). StandsFor image k) same.kept stands)
same_allowed before after same image (inr stands) =
    inr (subst (λ (k : List Kept). StandsFor image k) (ap (λ (k : List Kept). k ++ after.doubt) same.kept ∙ ap (λ (k : List Kept). kept_of before.log ++ k) same.doubt) stands)

pub drain_leaves : (basis : Basis) (before : State) (disk : DiskTold) (reply : Reply) (after : State) (disk' : DiskTold)
    → Does basis before disk (C.Drain operator) reply after disk' → LeavesSame basis before disk after disk'
drain_leaves basis before disk reply after disk' does = record {
  goes_on = does.goes_on;
  behind = (does.gains.piece, does.gains.behind);
  same = same;
  each = λ told. LeavesOnly-weaker disk disk' (λ image. Allowed before image ⊎ Allowed after image) (Allowed before)
      (λ image allowed. ⊎_elim (λ was. was) (λ is. same_allowed before after (same told) image is) allowed) (does.survives told);
} where
  same : IsTrue basis.is_told → SameJournal before after
  same told = drained_same before (due_ids (events basis before.log)) reply after (does.step told)

-- ---- the keeping of reports

pub keep_leaves : (basis : Basis) (before : State) (disk : DiskTold) (reply : Reply) (after : State) (disk' : DiskTold)
    → KeepsReports basis before disk reply after disk' → LeavesMore basis before disk after disk'
keep_leaves basis before disk reply after disk' keeps = record { goes_on = keeps.goes_on; behind = (keeps.piece, keeps.behind); each = keeps.survives }

of_behind : {X : Type 0} (log doubt piece : List Event) (Adds : List Event → List Event → Type 0) → BehindDoubt log doubt piece Adds → ((l own : List Event) → Adds l own → X) → X
of_behind log [] piece Adds adds each = each log piece adds
of_behind log (first ∷ more) piece Adds (inl adds) each = each log piece adds
of_behind log (first ∷ more) piece Adds (inr adds) each = each (log ++ first ∷ more) adds.0 adds.2

pub map_none : {A B : Type 0} (f : A → B) (xs : List A) → map f xs ≡ [] → xs ≡ []
map_none f [] none = refl
map_none f (x ∷ xs) none = absurd (cc)

-- once reports are kept nothing is in doubt
pub nothing_in_doubt : (basis : Basis) (before : State) (count : ℕ) (after : State) → KeepsAll basis before count after → after.doubt ≡ []
nothing_in_doubt basis before count after keeps =
    map_none (λ change. event_of basis (keep change)) after.doubt
    (of_behind (events basis before.log) (doubted basis before) (events basis keeps.piece) (Reports basis (R.Kept count) (doubted basis after)) keeps.grows
    (λ log own (reports : Reports basis (R.Kept count) (doubted basis after) log own). reports.ends.1))

-- ---- one step, and then another

-- the kept changes of a longer log, with its doubt
pub longer : (before after : State) (piece : List Change) → after.log ≡ before.log ++ piece → kept_with_doubt after ≡ kept_of before.log ++ (kept_of piece ++ after.doubt)
longer before after piece behind =
    ap (λ (l : List Change). kept_of l ++ after.doubt) behind
    ∙ (ap (λ (k : List Kept). k ++ after.doubt) (filter_map-append kept_in before.log piece) ∙ append_assoc (kept_of before.log) (kept_of piece) after.doubt)

-- what the later state allows stands between
behind_allows : (before after : State) (piece : List Change) → after.log ≡ before.log ++ piece → (image : List ℕ) → Allowed after image → KeepAllows before after image
behind_allows before after piece behind image (inl stands) = inr (record {
  more = kept_of piece;
  rest = after.doubt;
  whole = longer before after piece behind;
  stands = subst (λ (k : List Kept). StandsFor image k) (ap kept_of behind ∙ filter_map-append kept_in before.log piece) stands;
})
behind_allows before after piece behind image (inr stands) = inr (record {
  more = kept_of piece ++ after.doubt;
  rest = [];
  whole = longer before after piece behind ∙ ap (λ (k : List Kept). kept_of before.log ++ k) (sym (append-nil (kept_of piece ++ after.doubt)));
  stands = subst (λ (k : List Kept). StandsFor image k) (longer before after piece behind) stands;
})

-- a step that keeps the journal, and then another
module _ (before between after : State) (same : SameJournal before between) where
  same_first : (image : List ℕ) → KeepAllows between after image → KeepAllows before after image
  same_first image (inl allowed) = inl (same_allowed before between same image allowed)
  same_first image (inr stands) = inr (subst (λ (k : List Kept). StandsBetween k (kept_with_doubt after) image) same.kept stands)

same_last : (before between after : State) → SameJournal between after → (image : List ℕ) → KeepAllows before between image → KeepAllows before after image
same_last before between after same image (inl allowed) = inl allowed
same_last before between after same image (inr stands) =
    inr (subst (λ (k : List Kept). StandsBetween (kept_of before.log) k image)
    (ap (λ (k : List Kept). k ++ between.doubt) (sym same.kept) ∙ ap (λ (k : List Kept). kept_of after.log ++ k) (sym same.doubt)) stands)

-- a step that leaves nothing in doubt, and then another
module _ (before between after : State) (piece more : List Change) (behind : between.log ≡ before.log ++ piece) (later : after.log ≡ between.log ++ more) (settled : between.doubt ≡ []) where
  kept_between : kept_with_doubt between ≡ kept_of between.log
  kept_between = ap (λ (k : List Kept). kept_of between.log ++ k) settled ∙ append-nil (kept_of between.log)

  settled_first : (image : List ℕ) → KeepAllows before between image → KeepAllows before after image
  settled_first image (inl allowed) = inl allowed
  settled_first image (inr stands) = inr (record {
    more = stands.more;
    rest = stands.rest ++ (kept_of more ++ after.doubt);
    whole = longer between after more later
        ∙ (ap (λ (k : List Kept). k ++ (kept_of more ++ after.doubt)) (sym kept_between ∙ stands.whole)
        ∙ (append_assoc (kept_of before.log) (stands.more ++ stands.rest) (kept_of more ++ after.doubt)
        ∙ ap (λ (k : List Kept). kept_of before.log ++ k) (append_assoc stands.more stands.rest (kept_of more ++ after.doubt))));
    stands = stands.stands;
  })

  kept_split : kept_of between.log ≡ kept_of before.log ++ kept_of piece
  kept_split = ap kept_of behind ∙ filter_map-append kept_in before.log piece

  settled_last : (image : List ℕ) → KeepAllows between after image → KeepAllows before after image
  settled_last image (inl allowed) = settled_first image (behind_allows before between piece behind image allowed)
  settled_last image (inr stands) = inr (record {
    more = kept_of piece ++ stands.more;
    rest = stands.rest;
    whole = stands.whole
        ∙ (ap (λ (k : List Kept). k ++ (stands.more ++ stands.rest)) kept_split
        ∙ (append_assoc (kept_of before.log) (kept_of piece) (stands.more ++ stands.rest)
        ∙ ap (λ (k : List Kept). kept_of before.log ++ k) (sym (append_assoc (kept_of piece) stands.more stands.rest))));
    stands = subst (λ (k : List Kept). StandsFor image k)
        (ap (λ (k : List Kept). k ++ stands.more) kept_split ∙ append_assoc (kept_of before.log) (kept_of piece) stands.more) stands.stands;
  })

module _ (basis : Basis) (before between after : State) (disk middle disk' : DiskTold) where
  -- reports are kept behind crashes that were processed
  pub keeps_behind : LeavesSame basis before disk between middle → LeavesMore basis between middle after disk' → LeavesMore basis before disk after disk'
  keeps_behind first then = record {
    goes_on = GoesOn-append disk middle disk' first.goes_on then.goes_on;
    behind = behind_again before between after first.behind then.behind;
    each = λ told. LeavesOnly-append disk middle disk' (KeepAllows before after) first.goes_on then.goes_on
        (LeavesOnly-weaker disk middle (Allowed before) (KeepAllows before after) (λ image allowed. inl allowed) (first.each told))
        (LeavesOnly-weaker middle disk' (KeepAllows between after) (KeepAllows before after) (same_first before between after (first.same told)) (then.each told));
  }

  -- crashes are processed behind reports that were kept
  pub processes_behind : LeavesMore basis before disk between middle → LeavesSame basis between middle after disk' → LeavesMore basis before disk after disk'
  processes_behind first then = record {
    goes_on = GoesOn-append disk middle disk' first.goes_on then.goes_on;
    behind = behind_again before between after first.behind then.behind;
    each = λ told. LeavesOnly-append disk middle disk' (KeepAllows before after) first.goes_on then.goes_on
        (LeavesOnly-weaker disk middle (KeepAllows before between) (KeepAllows before after) (same_last before between after (then.same told)) (first.each told))
        (LeavesOnly-weaker middle disk' (Allowed between) (KeepAllows before after)
        (λ image allowed. same_last before between after (then.same told) image (behind_allows before between first.behind.0 first.behind.1 image allowed)) (then.each told));
  }

  -- more reports are kept behind those that were
  pub keeps_more : (count : ℕ) → KeepsAll basis before count between → LeavesMore basis before disk between middle → LeavesMore basis between middle after disk' → LeavesMore basis before disk after disk'
  keeps_more count keeps first then =
      let settled : between.doubt ≡ [] = nothing_in_doubt basis before count between keeps in
      record {
        goes_on = GoesOn-append disk middle disk' first.goes_on then.goes_on;
        behind = behind_again before between after first.behind then.behind;
        each = λ told. LeavesOnly-append disk middle disk' (KeepAllows before after) first.goes_on then.goes_on
            (LeavesOnly-weaker disk middle (KeepAllows before between) (KeepAllows before after)
            (settled_first before between after first.behind.0 then.behind.0 first.behind.1 then.behind.1 settled) (first.each told))
            (LeavesOnly-weaker middle disk' (KeepAllows between after) (KeepAllows before after)
            (settled_last before between after first.behind.0 then.behind.0 first.behind.1 then.behind.1 settled) (then.each told));
      }

-- nothing was done
pub nothing_done : (basis : Basis) (state : State) (disk : DiskTold) → IsDisk disk → (IsTrue basis.is_told → (image : List ℕ) → disk.images image → Allowed state image)
    → LeavesMore basis state disk state disk
nothing_done basis state disk sound allowed = record {
  goes_on = GoesOn-none disk sound;
  behind = still state;
  each = λ told. record { each = λ image left. inl (allowed told image (sound.only_now image left)) };
}
