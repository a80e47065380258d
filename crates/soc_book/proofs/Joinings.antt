-- Commands that are carried out in groups, and the new crashes that wait meanwhile.
use Rattle.std.proofs.Common.{◌≡◌, ◌↔◌, ◌⊎◌, inl, inr, ℕ, suc, ◌+◌, ◌<◌, ◌≤◌, ◌^◌, Bool, false, IsTrue, List, [], ◌∷◌, ◌++◌, length, map, Option, Some, None, IsSome, Result, Vec, Ok, Err, sym, ap, subst, ◌∙◌, refl, arith, append_assoc, length-append}
use Rattle.std.specs.declared.alloc.Global.{Global}
use Rattle.soc_book.proofs.Words.{IsErrOf, WritesBook, AllByRecursion, append-nil, length-map, map-append, crash_of, RawCrash, Cell, DiskTold, IsDisk, DiskFailed, Looks-none, Entry, entries_text, sealed_all, JournalState, entries_text-one, length-entries_text-append, length-sealed_all, Event, Filed, is_due_at_once, accepted_ids, has_stop, is_among, was_accepted, LedgerState, or_no, true_is_not_false, or_no_left, or_no_right, accepted_ids-more, Command, Limits, Receipt, Refusal, Reply, Basis, Change, Kept, keep, event_of, events, IsLegal, State, settled, entries_of, kept_of, events-more, Book, Pending, NewCrash, NewCrashes, AsksAll, AsksBook, SameSetting, StandsFor, disk_in, disk_of, reporter_of, AddsSubmission, AreMadeOf, AsksInTurn, FitsAll, HasPlace, IsEmpty, IsUnderWay, Joins, Leads, MayStore, StoresBook, receipt_of, IsSubmissionOf, IsPrepared, command_of, AreAppended, AreAccepted, AreNew, FitNew, Stands, ArePending, most_together, Becomes, EndsAs}
use Rattle.std.proofs.lemmas.Grind.{flat_map-append}
use Rattle.soc_schema.specs.declared.reporter.Reporter as reporter
use Rattle.soc_edge.specs.declared.disk.Disk as disk
use Rattle.soc_ledger.specs.declared.event.Event.TheVariants as E
use Rattle.soc_desk.specs.declared.desk.Command.TheVariants as C
use Rattle.soc_desk.specs.declared.desk.Refusal.TheVariants as F
use Rattle.soc_book.specs.declared.book.Change.TheVariants as P
use Rattle.soc_desk.specs.declared.desk.Reply.TheVariants as R
use Rattle.soc_desk.specs.Batches.{Group, alone, together, AcceptNew, AllFail, AreStored, AsksGroup, AsksGroups, StoresAll, commands_in, receipts_in}
use Rattle.soc_book.specs.declared.submission.Submission.{Submission}
use Rattle.soc_book.specs.inner.Batches.{IsSameBatch}
use Rattle.soc_book.specs.declared.prepared.Work.{Work}
use Rattle.soc_book.specs.declared.prepared.Work.TheVariants as W
use Rattle.soc_book.proofs.Accepting.{accepted_as, accepted_entry, accepted_is, accepted_legal, accepted_told}
use Rattle.soc_book.proofs.Pushing.{ids}
use Rattle.soc_book.proofs.Settings.{same_setting}
use Rattle.soc_book.proofs.Standing.{allowed_in, gate_behind, none_waits}

-- the next one of what is told
pub told_one : {A B : Type 0} (f : A → B) (told told' all : List B) (rest : List A) (x : A) (behind : List A) → rest ≡ x ∷ behind → told' ≡ told ++ f x ∷ [] → told ++ map f rest ≡ all → told' ++ map f behind ≡ all
told_one f told told' all rest x behind next is before =
    ap (λ xs. xs ++ map f behind) is ∙ (append_assoc told (f x ∷ []) (map f behind) ∙ (ap (λ xs. told ++ map f xs) (sym next) ∙ before))

next_of : {A : Type 0} (P : A → Type 0) (yielded : List A) (x : A) (behind : List A) → AllByRecursion P (yielded ++ x ∷ behind) → P x
next_of P [] x behind each = each.0
next_of P (y ∷ yielded) x behind each = next_of P yielded x behind each.1

-- how many were yielded
pub yielded_few : {A : Type 0} (yielded rest all : List A) → yielded ++ rest ≡ all → length yielded ≤ length all
yielded_few yielded rest all is = omega (arith, ap (λ xs. length xs) is, length-append yielded rest)

pub yielded_fewer : {A : Type 0} (yielded rest all : List A) (x : A) (behind : List A) → yielded ++ rest ≡ all → rest ≡ x ∷ behind → length yielded < length all
yielded_fewer yielded rest all x behind is next = omega (arith, ap (λ xs. length xs) is, ap (λ xs. length xs) next, length-append yielded rest)

pub yielded_more : {A : Type 0} (yielded rest all : List A) (x : A) (behind : List A) → yielded ++ rest ≡ all → rest ≡ x ∷ behind → (yielded ++ x ∷ []) ++ behind ≡ all
yielded_more yielded rest all x behind is next = append_assoc yielded (x ∷ []) behind ∙ (ap (λ xs. yielded ++ xs) (sym next) ∙ is)

empty_rest : {A : Type 0} (rest : List A) → length rest ≡ 0 → rest ≡ []
empty_rest [] none = refl
empty_rest (x ∷ rest) none = absurd (omega (arith, none))

pub yielded_all : {A : Type 0} (yielded rest all : List A) → yielded ++ rest ≡ all → length rest ≡ 0 → yielded ++ [] ≡ all
yielded_all yielded rest all is none = ap (λ xs. yielded ++ xs) (sym (empty_rest rest none)) ∙ is

-- the next one of those of which all this holds
pub all_next : {A : Type 0} (P : A → Type 0) (yielded rest all : List A) (x : A) (behind : List A) → yielded ++ rest ≡ all → rest ≡ x ∷ behind → AllByRecursion P all → P x
all_next P yielded rest all x behind is next each = next_of P yielded x behind (subst (AllByRecursion P) (sym (ap (λ xs. yielded ++ xs) (sym next) ∙ is)) each)

-- ---- which crashes may wait

pub settled_by : {b : Bool} (doubt : Option ℕ) → (IsTrue b ↔ IsSome doubt) → b ≡ false → doubt ≡ None
settled_by None same calm = refl
settled_by (Some count) same calm = absurd (true_is_not_false (sym (same.1 refl) ∙ calm))

pub may_empty : (ledger : LedgerState) (journal : JournalState) (limits : Limits) (batch : NewCrashes) → IsEmpty batch → MayStore ledger journal limits batch
may_empty ledger journal limits batch none = record {
  ids_are = none.ids ∙ ap (λ (news : List NewCrash). map (λ new. new.id) news) (sym none.crashes);
  same_count = ap (λ (es : List Entry). length es) none.entries ∙ ap (λ (news : List NewCrash). length news) (sym none.crashes);
  bytes_are = none.bytes ∙ ap (λ (es : List Entry). length (entries_text es)) (sym none.entries);
  fits = λ some. let no = ap (λ (xs : List (List ℕ)). length xs) none.ids in absurd (omega (arith, no, some));
}

pub may_same : (ledger : LedgerState) (journal : JournalState) (limits : Limits) (batch batch' : NewCrashes) → IsSameBatch batch batch' → MayStore ledger journal limits batch → MayStore ledger journal limits batch'
may_same ledger journal limits batch batch' same may = record {
  ids_are = same.ids ∙ (may.ids_are ∙ ap (λ (news : List NewCrash). map (λ new. new.id) news) (sym same.crashes));
  same_count = ap (λ (es : List Entry). length es) same.entries ∙ (may.same_count ∙ ap (λ (news : List NewCrash). length news) (sym same.crashes));
  bytes_are = same.bytes ∙ (may.bytes_are ∙ ap (λ (es : List Entry). length (entries_text es)) (sym same.entries));
  fits = λ some.
      let fits = may.fits (subst (λ (xs : List (List ℕ)). 0 < length xs) same.ids some) in
      record {
        settled = fits.settled;
        fit = subst (λ (news : List NewCrash). FitNew ledger news) (sym same.crashes) fits.fit;
        few = subst (λ (news : List NewCrash). length ledger.crashes + length news ≤ limits.crashes) (sym same.crashes) fits.few;
        room = subst (λ (es : List Entry). journal.gate + length (sealed_all es) ≤ journal.limit) (sym same.entries) fits.room;
      };
}

-- with more room for events
pub may_roomy : (ledger : LedgerState) (room : ℕ) (journal : JournalState) (limits : Limits) (batch : NewCrashes) → ledger.room ≤ room → MayStore ledger journal limits batch → MayStore (record ledger { room = room }) journal limits batch
may_roomy ledger room journal limits batch more may = record {
  ids_are = may.ids_are;
  same_count = may.same_count;
  bytes_are = may.bytes_are;
  fits = λ some.
      let fits = may.fits some in
      let large : most_together ≤ ledger.room = fits.fit.0 in
      record { settled = fits.settled; fit = (omega (arith, large, more), fits.fit.1, fits.fit.2, fits.fit.3); few = fits.few; room = fits.room };
}

among_both : (xs ys : List (List ℕ)) (id : List ℕ) → is_among xs id ≡ false → is_among ys id ≡ false → is_among (xs ++ ys) id ≡ false
among_both [] ys id first second = second
among_both (x ∷ xs) ys id first second = or_no _ _ (or_no_left _ _ first) (among_both xs ys id (or_no_right _ _ first) second)

new_push : (taken : List (List ℕ)) (news : List NewCrash) (new : NewCrash) → (0 < length news → AreNew taken news) → is_among (taken ++ map (λ n. n.id) news) new.id ≡ false → AreNew taken (news ++ new ∷ [])
new_push taken [] new all other = (ap (λ xs. is_among xs new.id) (sym (append-nil taken)) ∙ other, tt)
new_push taken (first ∷ news) new all other =
    let here = all (omega arith) in (
      here.0,
      new_push (taken ++ first.id ∷ []) news new (λ some. here.1) (ap (λ xs. is_among xs new.id) (append_assoc taken (first.id ∷ []) (map (λ n. n.id) news)) ∙ other),
    )

-- one more may wait
module _ (ledger : LedgerState) (journal : JournalState) (limits : Limits) (batch : NewCrashes) (made : Submission) (batch' : NewCrashes) (large : most_together ≤ ledger.room) (place : HasPlace ledger journal limits batch made)
    (adds : AddsSubmission batch made batch') (may : MayStore ledger journal limits batch) where
  count : length batch.ids.items ≡ length batch.crashes.items
  count = ap (λ (xs : List (List ℕ)). length xs) may.ids_are ∙ length-map batch.crashes.items (λ new. new.id)

  count_more : length batch'.crashes.items ≡ length batch.ids.items + 1
  count_more = ap (λ (news : List NewCrash). length news) adds.crashes ∙ (length-append batch.crashes.items (made.new ∷ []) ∙ ap (λ n. n + 1) (sym count))

  bytes_more : batch'.bytes ≡ length (entries_text batch'.entries.items)
  bytes_more =
      let all = ap (λ (es : List Entry). length (entries_text es)) adds.entries ∙ length-entries_text-append batch.entries.items (made.entry ∷ []) in
      let one = ap (λ (x : List ℕ). length x) (entries_text-one made.entry) in
      omega (arith, adds.bytes, may.bytes_are, all, one)

  all_new : AreNew (accepted_ids ledger.log) batch'.crashes.items
  all_new = subst (λ (news : List NewCrash). AreNew (accepted_ids ledger.log) news) (sym adds.crashes)
      (new_push (accepted_ids ledger.log) batch.crashes.items made.new (λ some. (may.fits (subst (λ (n : ℕ). 0 < n) (sym count) some)).fit.3)
      (among_both (accepted_ids ledger.log) (map (λ n. n.id) batch.crashes.items) made.new.id place.accepted (ap (λ xs. is_among xs made.new.id) (sym may.ids_are) ∙ place.among)))

  pub may_more : MayStore ledger journal limits batch'
  may_more =
      let fits = place.fits in
      let few = fits.few in
      let below = fits.below in
      let some = fits.count in
      let room = fits.room in
      record {
        ids_are = adds.ids ∙ (ap (λ xs. xs ++ made.new.id ∷ []) may.ids_are ∙ (sym (map-append (λ n. n.id) batch.crashes.items (made.new ∷ [])) ∙ ap (λ (news : List NewCrash). map (λ n. n.id) news) (sym adds.crashes)));
        same_count =
            ap (λ (es : List Entry). length es) adds.entries ∙ (length-append batch.entries.items (made.entry ∷ []) ∙ (ap (λ n. n + 1) may.same_count
            ∙ (sym (length-append batch.crashes.items (made.new ∷ [])) ∙ ap (λ (news : List NewCrash). length news) (sym adds.crashes))));
        bytes_are = bytes_more;
        fits = λ any. record {
          settled = fits.settled;
          fit = (large, omega (arith, some, count_more), omega (arith, few, below, count_more), all_new);
          few = omega (arith, few, count_more);
          room = omega (arith, room, bytes_more, adds.bytes, length-sealed_all batch'.entries.items);
        };
      }

-- ---- groups that follow one another

module _ {D : Type 0} {told : D → DiskTold} {basis : Basis} {state : State} {disk : D} where
  leads_none : Leads told basis state disk [] [] state disk
  leads_none = record { groups = []; commands_are = refl; receipts_are = refl; leads = λ rest after last asks. asks }

  module _ {commands : List Command} {receipts : List Receipt} {between : State} {disk' : D} (led : Leads told basis state disk commands receipts between disk') where
    leads_group : (group : Group) (after : State) (disk'' : D) → AsksGroup basis between (told disk') group after (told disk'') → Leads told basis state disk (commands ++ commands_in group) (receipts ++ receipts_in group) after disk''
    leads_group group after disk'' asks = record {
      groups = led.groups ++ group ∷ [];
      commands_are = flat_map-append commands_in led.groups (group ∷ []) ∙ (ap (λ cs. cs ++ (commands_in group ++ [])) led.commands_are ∙ ap (λ cs. commands ++ cs) (append-nil (commands_in group)));
      receipts_are = flat_map-append receipts_in led.groups (group ∷ []) ∙ (ap (λ rs. rs ++ (receipts_in group ++ [])) led.receipts_are ∙ ap (λ rs. receipts ++ rs) (append-nil (receipts_in group)));
      leads = λ rest end last more. subst (λ gs. AsksGroups told basis state disk gs end last) (sym (append_assoc led.groups (group ∷ []) rest)) (led.leads (group ∷ rest) end last (after, disk'', asks, more));
    }

    leads_all : IsDisk (told disk') → AsksGroups told basis state disk led.groups between disk'
    leads_all sound = subst (λ gs. AsksGroups told basis state disk gs between disk') (append-nil led.groups) (led.leads [] between disk' (refl, Looks-none (told disk') sound))

-- ---- raw crashes that wait

made_push : (raws : List RawCrash) (news : List NewCrash) (entries : List Entry) (raw : RawCrash) (made : Submission) → AreMadeOf raws news entries → IsSubmissionOf made (crash_of raw)
    → AreMadeOf (raws ++ raw ∷ []) (news ++ made.new ∷ []) (entries ++ made.entry ∷ [])
made_push [] [] [] raw made are is = (is, tt)
made_push (first ∷ raws) (new ∷ news) (entry ∷ entries) raw made are is = (are.0, made_push raws news entries raw made are.1 is)
made_push _ _ _ raw made are is = absurd are

made_none : (raws : List RawCrash) (entries : List Entry) → AreMadeOf raws [] entries → raws ≡ []
made_none [] entries are = refl
made_none (raw ∷ raws) entries are = absurd are

made_count : (raws : List RawCrash) (news : List NewCrash) (entries : List Entry) → AreMadeOf raws news entries → length raws ≡ length news
made_count [] [] [] are = refl
made_count (raw ∷ raws) (new ∷ news) (entry ∷ entries) are = ap (λ n. suc n) (made_count raws news entries are.1)
made_count _ _ _ are = absurd are

-- what joined is a submission
pub joined : (before after : NewCrashes) (work : Work) (command : Command) → command_of work ≡ command → IsPrepared work → Joins before work after
    → (raw : RawCrash) × (made : Submission) × (C.Submit raw ≡ command) × IsSubmissionOf made (crash_of raw) × AddsSubmission before made after
joined before after (W.Submit raw (Ok made)) command same prepared adds = (raw.value, made, same, prepared, adds)
joined before after _ command same prepared adds = absurd adds

-- ---- commands under way

module _ {D R : Type 0} {d : disk.Ghosts D} {r : reporter.Ghosts R} where
  own_setting : (book : Book D R d r) → SameSetting book book
  own_setting book = record { same_disk = refl; limits = refl; reporter = refl }

  pub way_begins : (book : Book D R d r) (batch : NewCrashes) → IsEmpty batch → IsUnderWay book [] [] book batch
  way_begins book batch none = record {
    raws = [];
    made = subst (λ (news : List NewCrash). AreMadeOf [] news batch.entries.items) (sym none.crashes) (subst (λ (es : List Entry). AreMadeOf [] [] es) (sym none.entries) tt);
    done = [];
    all = refl;
    asked = λ basis state rows stands. (state, stands, leads_none);
    setting = own_setting book;
  }

  module _ {before now : Book D R d r} {commands : List Command} {receipts : List Receipt} {batch : NewCrashes} (way : IsUnderWay before commands receipts now batch) {later : Book D R d r} (setting : SameSetting now later) where
    asked_later : disk_in later ≡ disk_in now → ((basis : Basis) (state : State) → StandsFor basis now state → StandsFor basis later state) → AsksInTurn before way.done receipts later
    asked_later same_disk moves basis state rows stands =
        let asked = way.asked basis state rows stands in
        (asked.0, moves basis asked.0 asked.1, subst (λ (x : D). Leads d.state basis state (disk_in before) way.done receipts asked.0 x) (sym same_disk) asked.2)

    -- a group more
    asked_group : (more : List Command) (receipts' : List Receipt)
        → ((basis : Basis) (state : State) → basis.row_of ≡ r.row_of (reporter_of now) → StandsFor basis now state
        → Becomes basis later (λ after. (group : Group) × (commands_in group ≡ more) × (receipts ++ receipts_in group ≡ receipts') × AsksGroup basis state (disk_of now) group after (disk_of later)))
        → AsksInTurn before (way.done ++ more) receipts' later
    asked_group more receipts' does basis state rows stands =
        let asked = way.asked basis state rows stands in
        let did = does basis asked.0 (rows ∙ ap r.row_of (sym way.setting.reporter)) asked.1 in
        let led = leads_group asked.2 did.2.0 did.0 (disk_in later) did.2.3 in (
          did.0,
          did.1,
          subst (λ (rs : List Receipt). Leads d.state basis state (disk_in before) (way.done ++ more) rs did.0 (disk_in later)) did.2.2
              (subst (λ (cs : List Command). Leads d.state basis state (disk_in before) (way.done ++ cs) (receipts ++ receipts_in did.2.0) did.0 (disk_in later)) did.2.1 led),
        )

    -- one more crash waits
    pub way_joins : disk_in later ≡ disk_in now → ((basis : Basis) (state : State) → StandsFor basis now state → StandsFor basis later state) → (raw : RawCrash) (made : Submission) (batch' : NewCrashes) → IsSubmissionOf made (crash_of raw)
        → AddsSubmission batch made batch' → IsUnderWay before (commands ++ C.Submit raw ∷ []) receipts later batch'
    way_joins same_disk moves raw made batch' is adds = record {
      raws = way.raws ++ raw ∷ [];
      made = subst (λ (news : List NewCrash). AreMadeOf (way.raws ++ raw ∷ []) news batch'.entries.items) (sym adds.crashes)
          (subst (λ (es : List Entry). AreMadeOf (way.raws ++ raw ∷ []) (batch.crashes.items ++ made.new ∷ []) es) (sym adds.entries) (made_push way.raws batch.crashes.items batch.entries.items raw made way.made is));
      done = way.done;
      all = ap (λ cs. cs ++ C.Submit raw ∷ []) way.all ∙ (append_assoc way.done (map C.Submit way.raws) (C.Submit raw ∷ []) ∙ ap (λ cs. way.done ++ cs) (sym (map-append C.Submit way.raws (raw ∷ []))));
      asked = asked_later same_disk moves;
      setting = same_setting way.setting setting;
    }

    -- what doesn't join leaves those that wait
    pub way_stays : disk_in later ≡ disk_in now → ((basis : Basis) (state : State) → StandsFor basis now state → StandsFor basis later state) → (batch' : NewCrashes) → IsSameBatch batch batch' → IsUnderWay before commands receipts later batch'
    way_stays same_disk moves batch' same = record {
      raws = way.raws;
      made = subst (λ (news : List NewCrash). AreMadeOf way.raws news batch'.entries.items) (sym same.crashes) (subst (λ (es : List Entry). AreMadeOf way.raws batch.crashes.items es) (sym same.entries) way.made);
      done = way.done;
      all = way.all;
      asked = asked_later same_disk moves;
      setting = same_setting way.setting setting;
    }

    all_done : (raws : List RawCrash) → raws ≡ [] → commands ≡ way.done ++ map C.Submit raws → commands ≡ way.done
    all_done raws none all = all ∙ (ap (λ (rs : List RawCrash). way.done ++ map C.Submit rs) none ∙ append-nil way.done)

    all_carried : batch.crashes.items ≡ [] → commands ≡ way.done
    all_carried none = all_done way.raws (made_none way.raws batch.entries.items (subst (λ (news : List NewCrash). AreMadeOf way.raws news batch.entries.items) none way.made)) way.all

    -- with nothing that waits, after these commands
    way_after : (batch' : NewCrashes) → IsEmpty batch' → (done more : List Command) (receipts' : List Receipt) → commands ++ more ≡ done → AsksInTurn before done receipts' later → IsUnderWay before (commands ++ more) receipts' later batch'
    way_after batch' none done more receipts' all asked = record {
      raws = [];
      made = subst (λ (news : List NewCrash). AreMadeOf [] news batch'.entries.items) (sym none.crashes) (subst (λ (es : List Entry). AreMadeOf [] [] es) (sym none.entries) tt);
      done = done;
      all = all ∙ sym (append-nil done);
      asked = asked;
      setting = same_setting way.setting setting;
    }

    -- those that wait are written
    pub way_stored : (receipts' : List Receipt) → StoresBook now batch receipts later receipts' → (batch' : NewCrashes) → IsEmpty batch' → IsUnderWay before (commands ++ []) receipts' later batch'
    way_stored receipts' stores batch' none = way_after batch' none (way.done ++ map C.Submit way.raws) [] receipts' (append-nil commands ∙ way.all)
        (asked_group (map C.Submit way.raws) receipts' (λ basis state rows stands.
        let did = stores basis state way.raws stands way.made in
        (did.0, did.1, (together way.raws did.2.0, refl, sym did.2.1, did.2.2))))

    -- a command is carried out alone
    pub way_alone : (command : Command) (receipt : Receipt) → AsksBook now command receipt later → IsEmpty batch → IsUnderWay before (commands ++ command ∷ []) (receipts ++ receipt ∷ []) later batch
    way_alone command receipt asks none = way_after batch none (way.done ++ command ∷ []) (command ∷ []) (receipts ++ receipt ∷ []) (ap (λ cs. cs ++ command ∷ []) (all_carried none.crashes))
        (asked_group (command ∷ []) (receipts ++ receipt ∷ []) (λ basis state rows stands.
        let did = asks basis state rows stands in
        (did.0, did.1, (alone command receipt, refl, refl, did.2))))

  -- the same behind a writing
  pub way_then_alone : {before now later : Book D R d r} {receipts : List Receipt} {batch : NewCrashes} (commands : List Command) → IsUnderWay before (commands ++ []) receipts now batch → SameSetting now later → (command : Command) (receipt : Receipt)
      → AsksBook now command receipt later → IsEmpty batch → (receipts' : List Receipt) → receipts' ≡ receipts ++ receipt ∷ [] → IsUnderWay before (commands ++ command ∷ []) receipts' later batch
  way_then_alone {before = before} {later = later} {receipts = receipts} {batch = batch} commands way setting command receipt asks none receipts' pushed =
      subst (λ (rs : List Receipt). IsUnderWay before (commands ++ command ∷ []) rs later batch) (sym pushed)
      (subst (λ (cs : List Command). IsUnderWay before (cs ++ command ∷ []) (receipts ++ receipt ∷ []) later batch) (append-nil commands) (way_alone way setting command receipt asks none))

  -- nothing waits, so nothing is written
  pub way_idle : {before now : Book D R d r} {commands : List Command} {receipts : List Receipt} {batch : NewCrashes} → IsUnderWay before commands receipts now batch → batch.crashes.items ≡ [] → (batch' : NewCrashes) → IsEmpty batch'
      → IsUnderWay before (commands ++ []) receipts now batch'
  way_idle {now = now} {commands = commands} {receipts = receipts} way idle batch' none =
      way_after way (own_setting now) batch' none way.done [] receipts (append-nil commands ∙ all_carried way (own_setting now) idle) way.asked

  pub way_ends : {before now : Book D R d r} {commands : List Command} {receipts : List Receipt} {batch : NewCrashes} → IsUnderWay before commands receipts now batch → IsEmpty batch → IsDisk (disk_of now) → AsksAll before commands receipts now
  way_ends {before = before} {now = now} {commands = commands} {receipts = receipts} way none sound basis state rows stands =
      let asked = way.asked basis state rows stands in
      (asked.0, asked.1, asked.2.groups, asked.2.commands_are ∙ sym (all_carried way (own_setting now) none.crashes), asked.2.receipts_are, leads_all asked.2 sound)

-- ---- new crashes that are written together

abbrev changes_of : Basis → List RawCrash → List Kept
changes_of basis raws = map (λ raw. accepted_as basis raw) raws

next_new : (basis : Basis) (log : List Change) (raw : RawCrash) (new : NewCrash) (news : List NewCrash) → new.id ≡ raw.id → AreNew (accepted_ids (events basis log) ++ new.id ∷ []) news
    → AreNew (accepted_ids (events basis (log ++ keep (accepted_as basis raw) ∷ []))) news
next_new basis log raw new news same others =
    let grown : accepted_ids (events basis (log ++ keep (accepted_as basis raw) ∷ [])) ≡ accepted_ids (events basis log) ++ raw.id ∷ [] =
    ap accepted_ids (events-more basis log (keep (accepted_as basis raw))) ∙ accepted_ids-more (events basis log) (E.Accepted raw.id) in
    subst (λ xs. AreNew xs news) (ap (λ x. accepted_ids (events basis log) ++ x ∷ []) same ∙ sym grown) others

fresh_raw : (basis : Basis) (log : List Change) (raw : RawCrash) (new : NewCrash) → new.id ≡ raw.id → is_among (accepted_ids (events basis log)) new.id ≡ false → was_accepted (events basis log) raw.id ≡ false
fresh_raw basis log raw new same fresh = ap (λ x. was_accepted (events basis log) x) (sym same) ∙ fresh

all_accepted : (basis : Basis) (raws : List RawCrash) (news : List NewCrash) (entries : List Entry) → AreMadeOf raws news entries → AreAccepted basis news (changes_of basis raws)
all_accepted basis [] [] [] are = tt
all_accepted basis (raw ∷ raws) (new ∷ news) (entry ∷ entries) are = (accepted_is basis raw new are.0.tells, all_accepted basis raws news entries are.1)
all_accepted basis _ _ _ are = absurd are

all_entries : (basis : Basis) → IsTrue basis.is_told → (raws : List RawCrash) (news : List NewCrash) (entries : List Entry) → AreMadeOf raws news entries → entries ≡ entries_of (changes_of basis raws)
all_entries basis is_told [] [] [] are = refl
all_entries basis is_told (raw ∷ raws) (new ∷ news) (entry ∷ entries) are =
    ap (λ (e : Entry). e ∷ entries) (accepted_entry basis raw entry are.0.entry is_told) ∙ ap (λ (es : List Entry). entries_of (accepted_as basis raw ∷ []) ++ es) (all_entries basis is_told raws news entries are.1)
all_entries basis is_told _ _ _ are = absurd are

accept_all : (basis : Basis) (raws : List RawCrash) (news : List NewCrash) (entries : List Entry) (log : List Change) → AreMadeOf raws news entries → AreNew (accepted_ids (events basis log)) news → AcceptNew basis log raws (changes_of basis raws)
accept_all basis [] [] [] log are fresh = tt
accept_all basis (raw ∷ raws) (new ∷ news) (entry ∷ entries) log are fresh = (
  (refl, accepted_told basis raw),
  fresh_raw basis log raw new are.0.tells.id fresh.0,
  accept_all basis raws news entries (log ++ keep (accepted_as basis raw) ∷ []) are.1 (next_new basis log raw new news are.0.tells.id fresh.1),
)
accept_all basis _ _ _ log are fresh = absurd are

all_legal : (basis : Basis) (raws : List RawCrash) (news : List NewCrash) (entries : List Entry) (log : List Change) → AreMadeOf raws news entries → AreNew (accepted_ids (events basis log)) news → IsLegal basis log
    → IsLegal basis (log ++ map keep (changes_of basis raws))
all_legal basis [] [] [] log are fresh legal = subst (IsLegal basis) (sym (append-nil log)) legal
all_legal basis (raw ∷ raws) (new ∷ news) (entry ∷ entries) log are fresh legal =
    let change = keep (accepted_as basis raw) in
    subst (IsLegal basis) (append_assoc log (keep (accepted_as basis raw) ∷ []) (map keep (changes_of basis raws)))
    (all_legal basis raws news entries (log ++ keep (accepted_as basis raw) ∷ []) are.1 (next_new basis log raw new news are.0.tells.id fresh.1)
    (accepted_legal basis raw log legal (fresh_raw basis log raw new are.0.tells.id fresh.0) are.0.is))
all_legal basis _ _ _ log are fresh legal = absurd are

-- ---- their receipts

all_stored : (front : ℕ) (stopped : Bool) (raws : List RawCrash) (news : List NewCrash) (entries : List Entry) → AreMadeOf raws news entries → AreStored raws (map (receipt_of front stopped (Ok tt)) (map (λ new. new.id) news))
all_stored front stopped [] [] [] are = tt
all_stored front stopped (raw ∷ raws) (new ∷ news) (entry ∷ entries) are = (ap (λ x. R.Stored x (is_due_at_once x)) are.0.tells.id, all_stored front stopped raws news entries are.1)
all_stored front stopped _ _ _ are = absurd are

all_fail : (front : ℕ) (stopped : Bool) (raws : List RawCrash) (news : List NewCrash) → length raws ≡ length news → AllFail raws (map (receipt_of front stopped (Err F.StoreFault)) (map (λ new. new.id) news))
all_fail front stopped [] [] same = tt
all_fail front stopped (raw ∷ raws) (new ∷ news) same = (refl, all_fail front stopped raws news (omega (arith, same)))
all_fail front stopped [] (new ∷ news) same = absurd (omega (arith, same))
all_fail front stopped (raw ∷ raws) [] same = absurd (omega (arith, same))

all_tell : (P : Receipt → Type 0) (front : ℕ) (stopped : Bool) (written : Result (Unit {0}) Refusal) → ((reply : Reply) → P (record { front = front; stopped = stopped; reply = reply })) → (names : List (List ℕ))
    → AllByRecursion P (map (receipt_of front stopped written) names)
all_tell P front stopped written each [] = tt
all_tell P front stopped written each (id ∷ names) = (each (receipt_of front stopped written id).reply, all_tell P front stopped written each names)

-- ---- the whole

module _ {basis : Basis} {limits : Limits} {ledger : LedgerState} {rows : List (ℕ × List Cell)} {pending : Option Pending} {journal : JournalState} {disk : DiskTold} {log : List Change}
    (stands : Stands basis limits ledger rows pending journal disk (settled log)) (batch : NewCrashes) (may : MayStore ledger journal limits batch) (some : 0 < length batch.ids.items)
    (raws : List RawCrash) (made : AreMadeOf raws batch.crashes.items batch.entries.items) where
  fits : FitsAll ledger journal limits batch
  fits = may.fits some

  now_new : AreNew (accepted_ids (events basis log)) batch.crashes.items
  now_new = subst (λ (l : List Event). AreNew (accepted_ids l) batch.crashes.items) stands.holds.events_are fits.fit.3

  pub together_accepted : AreAccepted basis batch.crashes.items (changes_of basis raws)
  together_accepted = all_accepted basis raws batch.crashes.items batch.entries.items made

  pub together_legal : IsLegal basis (log ++ map keep (changes_of basis raws))
  together_legal = all_legal basis raws batch.crashes.items batch.entries.items log made now_new stands.legal.log

  pub together_entries : IsTrue basis.is_told → batch.entries.items ≡ entries_of (changes_of basis raws)
  together_entries is_told = all_entries basis is_told raws batch.crashes.items batch.entries.items made

  raw_count : length raws ≡ length batch.crashes.items
  raw_count = made_count raws batch.crashes.items batch.entries.items made

  few_enough : length (accepted_ids (events basis log)) + length raws ≤ basis.crashes
  few_enough =
      let held : length (accepted_ids (events basis log)) ≡ length ledger.crashes =
      ap (λ (xs : List (List ℕ)). length xs) (sym (ids basis log ledger rows stands.legal.log stands.holds)) ∙ length-map ledger.crashes (λ (f : Filed). f.id) in
      let few = fits.few in
      let limit = stands.bounds.crashes in
      omega (arith, held, few, limit, raw_count)

  fits_journal : (changes : List Kept) → IsTrue basis.is_told → batch.entries.items ≡ entries_of changes → journal.gate + length (sealed_all (entries_of changes)) ≤ basis.journal_bytes
  fits_journal changes is_told same =
      let room = fits.room in
      let limit = stands.bounds.limit in
      omega (arith, room, limit, ap (λ (es : List Entry). length (sealed_all es)) same)

  module _ {limits' : Limits} {ledger' : LedgerState} {rows' : List (ℕ × List Cell)} {pending' : Option Pending} {journal' : JournalState} {disk' : DiskTold} {after : State} (later : Stands basis limits' ledger' rows' pending' journal' disk' after)
      (own : List Receipt) where
    ends_as : (written : Result (Unit {0}) Refusal) → (IsErrOf written F.JournalFull → ⊥) → EndsAs basis log (changes_of basis raws) written after disk disk' → own ≡ map (receipt_of (length ledger'.log) (has_stop ledger'.log) written) batch.ids.items
        → ((after ≡ settled (log ++ map keep (changes_of basis raws))) × AreStored raws own) ⊎ ((after ≡ record { log = log; doubt = changes_of basis raws }) × AllFail raws own × DiskFailed disk disk')
    ends_as (Ok done) room ends told =
        let given = told ∙ ap (λ (xs : List (List ℕ)). map (receipt_of (length ledger'.log) (has_stop ledger'.log) (Ok tt)) xs) may.ids_are in
        inl (ends.0, subst (λ (rs : List Receipt). AreStored raws rs) (sym given) (all_stored (length ledger'.log) (has_stop ledger'.log) raws batch.crashes.items batch.entries.items made))
    ends_as (Err F.StoreFault) room ends told =
        let given = told ∙ ap (λ (xs : List (List ℕ)). map (receipt_of (length ledger'.log) (has_stop ledger'.log) (Err F.StoreFault)) xs) may.ids_are in
        inr (ends.0, subst (λ (rs : List Receipt). AllFail raws rs) (sym given) (all_fail (length ledger'.log) (has_stop ledger'.log) raws batch.crashes.items raw_count), ends.1)
    ends_as (Err F.JournalFull) room ends told = absurd (room refl)
    ends_as (Err _) room ends told = absurd ends

    front_is : length ledger'.log ≡ length after.log
    front_is = ap (λ (l : List Event). length l) later.holds.events_are ∙ length-map after.log (event_of basis)

    pub together_stores : (written : Result (Unit {0}) Refusal) → (IsErrOf written F.JournalFull → ⊥) → AreAppended basis log disk (changes_of basis raws) written after disk' → own ≡ map (receipt_of (length ledger'.log) (has_stop ledger'.log) written) batch.ids.items
        → length ledger'.log < 2 ^ 60 → StoresAll basis (settled log) disk raws own after disk'
    together_stores written not_full did told short = record {
      log = log;
      settles = refl;
      changes = changes_of basis raws;
      accepts = accept_all basis raws batch.crashes.items batch.entries.items log made now_new;
      few = few_enough;
      fits = λ is_told.
          let gate = gate_behind disk journal (entries_of (kept_of log)) [] (stands.told is_told).means in
          let room = fits_journal (changes_of basis raws) is_told (together_entries is_told) in
          omega (arith, gate, room);
      ends = ends_as written not_full did.ends told;
      legal = later.legal;
      short = omega (arith, front_is, short);
      told_after = subst (λ (rs : List Receipt). AllByRecursion (λ (receipt : Receipt). (receipt.front ≡ length after.log) × (receipt.stopped ≡ has_stop (events basis after.log))) rs) (sym told)
          (all_tell (λ (receipt : Receipt). (receipt.front ≡ length after.log) × (receipt.stopped ≡ has_stop (events basis after.log))) (length ledger'.log) (has_stop ledger'.log) written
          (λ reply. (front_is, ap has_stop later.holds.events_are)) batch.ids.items);
      goes_on = did.goes_on;
      survives = did.survives;
      allowed = allowed_in later;
    }

-- a state without a change that waits is settled
doubt_none : (basis : Basis) (log : List Change) (ledger : LedgerState) (pending : Option Pending) (doubt : List Kept) → pending ≡ None → ArePending basis log ledger pending doubt → doubt ≡ []
doubt_none basis log ledger pending [] none are = refl
doubt_none basis log ledger pending (first ∷ more) none are = absurd (subst (λ (p : Option Pending). ArePending basis log ledger p (first ∷ more)) none are)

pub settled_state : {basis : Basis} {limits : Limits} {ledger : LedgerState} {rows : List (ℕ × List Cell)} {pending : Option Pending} {journal : JournalState} {disk : DiskTold} {state : State} → Stands basis limits ledger rows pending journal disk state
    → pending ≡ None → state ≡ settled state.log
settled_state {basis = basis} {ledger = ledger} {pending = pending} {state = state} stands none =
    ap (λ (doubt : List Kept). record { log = state.log; doubt = doubt }) (doubt_none basis state.log ledger pending state.doubt none stands.doubt)

-- new crashes that are accepted wait, where there are some
accepted_some : (basis : Basis) (news : List NewCrash) → 0 < length news → AreAccepted basis news [] → ⊥
accepted_some basis [] some are = omega (arith, some)
accepted_some basis (new ∷ news) some are = are

accepts_wait : (basis : Basis) (log : List Change) (ledger : LedgerState) (news : Vec NewCrash Global) (changes : List Kept) → 0 < length news.items → AreAccepted basis news.items changes → ArePending basis log ledger (Some (P.Accepts news)) changes
accepts_wait basis log ledger news [] some are = accepted_some basis news.items some are
accepts_wait basis log ledger news (first ∷ more) some are = are

-- what is appended for new crashes, and told of them
module _ {D R : Type 0} {d : disk.Ghosts D} {r : reporter.Ghosts R} (now later : Book D R d r) (batch : NewCrashes) (receipts receipts' : List Receipt) (written : Result (Unit {0}) Refusal) (may : MayStore now.ledger now.vault.journal now.limits batch)
    (some : 0 < length batch.ids.items) (told : receipts' ≡ receipts ++ map (receipt_of (length later.ledger.log) (has_stop later.ledger.log) written) batch.ids.items) (short : length later.ledger.log < 2 ^ 60)
    (given : List Entry) (given_is : given ≡ batch.entries.items) (full : IsErrOf written F.JournalFull → now.vault.journal.limit < now.vault.journal.gate + length (sealed_all given)) (appends : WritesBook now (P.Accepts batch.crashes) given written later) where
  not_full : IsErrOf written F.JournalFull → ⊥
  not_full is =
      let over = full is in
      let room = (may.fits some).room in
      omega (arith, over, room, ap (λ (es : List Entry). length (sealed_all es)) given_is)

  some_crashes : 0 < length batch.crashes.items
  some_crashes = omega (arith, some, ap (λ (xs : List (List ℕ)). length xs) may.ids_are ∙ length-map batch.crashes.items (λ new. new.id))

  stores_raws : (basis : Basis) (log : List Change) (raws : List RawCrash) → StandsFor basis now (settled log) → AreMadeOf raws batch.crashes.items batch.entries.items
      → Becomes basis later (λ after. (own : List Receipt) × (receipts' ≡ receipts ++ own) × StoresAll basis (settled log) (disk_of now) raws own after (disk_of later))
  stores_raws basis log raws stands made =
      let did = appends basis log (changes_of basis raws) stands (accepts_wait basis log now.ledger batch.crashes (changes_of basis raws) some_crashes (together_accepted stands batch may some raws made)) (together_legal stands batch may some raws made)
      (λ is_told. given_is ∙ together_entries stands batch may some raws made is_told) in
      let own = map (receipt_of (length later.ledger.log) (has_stop later.ledger.log) written) batch.ids.items in
      (did.0, did.1, (own, told, together_stores stands batch may some raws made did.1 own written not_full did.2 refl short))

  pub stores_book : StoresBook now batch receipts later receipts'
  stores_book basis state raws stands made =
      let same = settled_state stands (none_waits now.ledger now.vault.journal now.doubt now.safe (may.fits some).settled) in
      subst (λ (s : State). Becomes basis later (λ after. (own : List Receipt) × (receipts' ≡ receipts ++ own) × StoresAll basis s (disk_of now) raws own after (disk_of later))) (sym same)
      (stores_raws basis state.log raws (subst (λ (s : State). StandsFor basis now s) same stands) made)
