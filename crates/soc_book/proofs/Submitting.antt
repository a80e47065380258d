-- What submissions decide over a settled log.
use Rattle.std.proofs.Common.{◌≡◌, ◌↔◌, inl, inr, ℕ, ◌+◌, ◌<◌, ◌≤◌, Bool, true, false, not, ◌&&◌, IsTrue, List, [], ◌++◌, length, take, drop, Option, Some, None, IsSomeAnd, sym, ap, subst, ◌∙◌, refl, arith}
use Rattle.soc_book.proofs.Words.{bytes_eq, nat_le, slice_get, if◌then◌else◌, option_map_or, le-leb, false_from_ne_true, leb_tells, length-map, bytes_eq-Decides, crash_of, Crash, IsCrash, head_text, record_of, pairs_text, RawCrash, content_at, record_length, same_content, Cell, DiskTold, IsDisk, Looks, DiskFailed, Looks-none, Entry, head_size, JournalState, Filed, Event, is_due_at_once, is_held, was_accepted, was_withdrawn, accepted_ids, LedgerState, id_of, true_is_not_false, unknown_crash, IsAt, Means, Limits, Reply, Basis, Decision, answers, appends, accepting, decide_new, decide_repeated, decide_submission, Change, events, raw_of, State, settled, entry_of, entries_of, kept_of, found_accepted, Pending, NewCrash, Tells, IsDecided, IsWritten, Stands}
use Rattle.std.proofs.Math.Seq.{take-append_seam}
use Rattle.std.proofs.lemmas.List.{take-append-drop}
use Rattle.sha2.specs.Sha256.{sha256}
use Rattle.soc_raw.specs.Record.{content_text}
use Rattle.soc_desk.specs.declared.desk.Command.TheVariants as C
use Rattle.soc_desk.specs.declared.desk.Reply.TheVariants as R
use Rattle.soc_desk.specs.declared.desk.Refusal.TheVariants as F
use Rattle.soc_book.proofs.Accepting.{accepted_as, accepted_told}
use Rattle.soc_book.proofs.Asking.{allowed}
use Rattle.soc_book.proofs.Deciding.{answered, written_decides, says}
use Rattle.soc_book.proofs.Filing.{IsKnown, id_of-got}
use Rattle.soc_book.proofs.Pushing.{ids, was}
use Rattle.soc_book.proofs.Lookups.{known_at}
use Rattle.soc_book.proofs.Standing.{stands_moved}

-- ---- contents

same_parts : (a b : Crash) → a.annotations ≡ b.annotations → a.dumps ≡ b.dumps → content_text a ≡ content_text b
unfolding content_text
same_parts a b annotations dumps = ap (λ ps. pairs_text ps ++ pairs_text a.dumps) annotations ∙ ap (λ ps. pairs_text b.annotations ++ pairs_text ps) dumps

-- a content stands in front of anything exactly where it is the content
fits_content : (held raw : Crash) (more : List ℕ) → IsCrash held → IsCrash raw → take (length (content_text raw)) (content_text held ++ more) ≡ content_text raw → content_text held ≡ content_text raw
fits_content held raw more is_held is_raw fits =
    let n = length (content_text raw) in
    let parted : content_text held ++ more ≡ content_text raw ++ drop n (content_text held ++ more) =
    sym (take-append-drop n (content_text held ++ more)) ∙ ap (λ t. t ++ drop n (content_text held ++ more)) fits in
    let same = same_content held raw more (drop n (content_text held ++ more)) is_held is_raw parted in
    same_parts held raw same.0 same.1

content_fits : (held raw : Crash) (more : List ℕ) → content_text held ≡ content_text raw → take (length (content_text raw)) (content_text held ++ more) ≡ content_text raw
content_fits held raw more same = ap (λ t. take (length (content_text raw)) (t ++ more)) same ∙ take-append_seam (content_text raw) more

module _ {basis : Basis} {limits : Limits} {ledger : LedgerState} {rows : List (ℕ × List Cell)} {pending : Option Pending} {journal : JournalState} {disk : DiskTold} {log : List Change}
    (stands : Stands basis limits ledger rows pending journal disk (settled log)) (sound : IsDisk disk) (raw : RawCrash) (new : NewCrash) (is : IsCrash (crash_of raw)) (tells : Tells new (crash_of raw)) where
  abbrev now : List Event
  now = events basis log

  abbrev crash : Crash
  crash = crash_of raw

  same_log : ledger.log ≡ now
  same_log = stands.holds.events_are

  -- ---- a new id

  module _ (fresh : was_accepted ledger.log new.id ≡ false) where
    pub fresh_now : was_accepted now raw.id ≡ false
    fresh_now = ap (λ l. was_accepted l raw.id) (sym same_log) ∙ (ap (λ x. was_accepted ledger.log x) (sym tells.id) ∙ fresh)

    is_new_now : not (was_accepted now raw.id) ≡ true
    is_new_now = ap not fresh_now

    not_withdrawn : was_withdrawn now raw.id ≡ false
    not_withdrawn = ap (λ s. s.withdrawn) (unknown_crash now stands.legal.log.events_legal raw.id fresh_now)

    no_raw : raw_of log raw.id ≡ None
    no_raw =
        elim (raw_of log raw.id) as (λ o. raw_of log raw.id ≡ o → o ≡ None) [
          | None ↦ λ none. refl
          | Some held ↦ λ some. absurd (true_is_not_false (sym (found_accepted basis log raw.id held some) ∙ fresh_now))
        ] refl

    decides_new : decide_submission basis log crash ≡ decide_new basis log crash
    decides_new =
        ap (λ b. if b then answers (R.Refused (F.Withdrawn raw.id)) else option_map_or (decide_repeated crash) (raw_of log raw.id) (decide_new basis log crash)) not_withdrawn
        ∙ ap (λ (o : Option Crash). option_map_or (decide_repeated crash) o (decide_new basis log crash)) no_raw

    crash_count : length (accepted_ids now) ≡ length ledger.crashes
    crash_count = ap (λ (xs : List (List ℕ)). length xs) (sym (ids basis log ledger rows stands.legal.log stands.holds)) ∙ length-map ledger.crashes (λ (f : Filed). f.id)

    decides_by : (b : Bool) → nat_le basis.crashes (length (accepted_ids now)) ≡ b
        → decide_submission basis log crash ≡ (if b then answers (R.Refused F.TooManyCrashes) else appends (accepting crash) (R.Stored raw.id (is_due_at_once raw.id)))
    decides_by b is_b = decides_new ∙ ap (λ x. if x then answers (R.Refused F.TooManyCrashes) else appends (accepting crash) (R.Stored raw.id (is_due_at_once raw.id))) is_b

    -- there are as many crashes as may be
    pub too_many : limits.crashes ≤ length ledger.crashes
        → (after : State) × Stands basis limits ledger rows pending journal disk after × IsDecided basis log disk (C.Submit raw) (R.Refused F.TooManyCrashes) after disk
    too_many full =
        let same : basis.crashes ≡ limits.crashes = stands.bounds.crashes in
        let count = crash_count in
        let most : basis.crashes ≤ length (accepted_ids now) = omega arith in (
          settled log,
          stands,
          says basis log disk disk (C.Submit raw) (R.Refused F.TooManyCrashes) (Looks-none disk sound) (allowed stands) (refl, tt) tt (λ never. never) ((is_new_now, le-leb basis.crashes (length (accepted_ids now)) most, refl), refl)
              (λ is_told. ap (λ (d : Decision). Some d) (decides_by true (le-leb basis.crashes (length (accepted_ids now)) most))),
        )

    -- it is kept
    pub stores : (disk' : DiskTold) (due : Bool) (reply : Reply) (after : State) → length ledger.crashes < limits.crashes → due ≡ is_due_at_once new.id
        → IsWritten basis log disk (accepted_as basis raw) (R.Stored new.id due) reply after disk' → IsDecided basis log disk (C.Submit raw) reply after disk'
    stores disk' due reply after few due_is wrote =
        let at_once : due ≡ is_due_at_once raw.id = due_is ∙ ap is_due_at_once tells.id in
        let said : R.Stored new.id due ≡ R.Stored raw.id (is_due_at_once raw.id) = ap (λ x. R.Stored x due) tells.id ∙ ap (λ b. R.Stored raw.id b) at_once in
        let not_full : nat_le basis.crashes (length (accepted_ids now)) ≡ false = few_left in
        written_decides basis log disk disk' (C.Submit raw) (accepted_as basis raw) (accepting crash) (R.Stored raw.id (is_due_at_once raw.id)) (record {
          kind = (refl, (refl, refl));
          fault_kind = (refl, tt);
          full_kind = (refl, tt);
          plain = tt;
          no_fault = λ fault. fault;
          adds = (is_new_now, ap not not_full, refl, refl);
          fault_adds = (inl (is_new_now, ap not not_full, refl), refl);
          full_adds = ((is_new_now, ap not not_full, refl), refl);
        }) (accepted_told basis raw)
        (λ is_told. ap (λ (d : Decision). Some d) (decides_by false not_full))
        reply after (subst (λ (r : Reply). IsWritten basis log disk (accepted_as basis raw) r reply after disk') said wrote) where
          few_left : nat_le basis.crashes (length (accepted_ids now)) ≡ false
          few_left =
              elim (leb_tells basis.crashes (length (accepted_ids now))) [
                | inl both ↦
                    let same : basis.crashes ≡ limits.crashes = stands.bounds.crashes in
                    let count = crash_count in
                    let most : basis.crashes ≤ length (accepted_ids now) = both.1 in
                    absurd (omega arith)
                | inr both ↦ both.0
              ]

  -- ---- an id that was accepted

  module _ (number : ℕ) (within : number < length ledger.crashes) (same_id : id_of ledger number ≡ new.id) (f : Filed) (there : slice_get ledger.crashes number ≡ Some f) where
    raw_id : f.id ≡ raw.id
    raw_id = sym (id_of-got ledger number f there) ∙ (same_id ∙ tells.id)

    accepted_now : was_accepted now raw.id ≡ true
    accepted_now = ap (λ x. was_accepted now x) (sym (same_id ∙ tells.id)) ∙ was basis log ledger rows stands.legal.log stands.holds number within

    gone_now : (b : Bool) → was_withdrawn ledger.log f.id ≡ b → was_withdrawn now raw.id ≡ b
    gone_now b gone = ap (λ l. was_withdrawn l raw.id) (sym same_log) ∙ (ap (λ x. was_withdrawn ledger.log x) (sym raw_id) ∙ gone)

    -- it was withdrawn
    pub withdrawn : was_withdrawn ledger.log f.id ≡ true
        → (after : State) × Stands basis limits ledger rows pending journal disk after × IsDecided basis log disk (C.Submit raw) (R.Refused (F.Withdrawn new.id)) after disk
    withdrawn gone =
        let was_gone = gone_now true gone in (
          settled log,
          stands,
          subst (λ x. IsDecided basis log disk (C.Submit raw) (R.Refused (F.Withdrawn x)) (settled log) disk) (sym tells.id)
              (says basis log disk disk (C.Submit raw) (R.Refused (F.Withdrawn raw.id)) (Looks-none disk sound) (allowed stands) (refl, refl) tt (λ never. never) ((was_gone, refl), refl)
              (λ is_told. ap (λ (d : Decision). Some d) (ap (λ b. if b then answers (R.Refused (F.Withdrawn raw.id)) else option_map_or (decide_repeated crash) (raw_of log raw.id) (decide_new basis log crash)) was_gone))),
        )

    module _ (kept : was_withdrawn ledger.log f.id ≡ false) where
      held_now : is_held now raw.id ≡ true
      held_now = ap (λ b. b && not (was_withdrawn now raw.id)) accepted_now ∙ ap (λ b. not b) (gone_now false kept)

      known_now : IsTrue basis.is_told → IsKnown (entries_of (kept_of log)) log f
      known_now is_told = known_at stands is_told number f there

      raw_now : (is_told : IsTrue basis.is_told) → raw_of log raw.id ≡ Some (known_now is_told).raw
      raw_now is_told = ap (λ x. raw_of log x) (sym raw_id) ∙ (known_now is_told).is

      -- the decision, by whether the contents are the same
      decides_held : (is_told : IsTrue basis.is_told) (b : Bool) → bytes_eq (content_text (known_now is_told).raw) (content_text crash) ≡ b
          → decide_submission basis log crash ≡ (if b then answers (R.Repeated raw.id) else answers (R.Refused (F.OtherContent raw.id)))
      decides_held is_told b same =
          ap (λ x. if x then answers (R.Refused (F.Withdrawn raw.id)) else option_map_or (decide_repeated crash) (raw_of log raw.id) (decide_new basis log crash)) (gone_now false kept)
          ∙ (ap (λ (o : Option Crash). option_map_or (decide_repeated crash) o (decide_new basis log crash)) (raw_now is_told)
          ∙ ap (λ x. if x then answers (R.Repeated raw.id) else answers (R.Refused (F.OtherContent raw.id))) same)

      -- other content, for one reason or another
      other : (disk' : DiskTold) → Looks disk disk' → ((is_told : IsTrue basis.is_told) → content_text (known_now is_told).raw ≡ content_text crash → ⊥)
          → IsDecided basis log disk (C.Submit raw) (R.Refused (F.OtherContent raw.id)) (settled log) disk'
      other disk' looks apart = says basis log disk disk' (C.Submit raw) (R.Refused (F.OtherContent raw.id)) looks (allowed stands) (refl, refl) tt (λ never. never) ((held_now, refl), refl)
          (λ is_told. ap (λ (d : Decision). Some d) (decides_held is_told false (false_from_ne_true _ (λ same. apart is_told ((bytes_eq-Decides _ _).0 same)))))

      -- the digests differ
      pub other_digest : (f.digest ≡ new.digest → ⊥)
          → (after : State) × Stands basis limits ledger rows pending journal disk after × IsDecided basis log disk (C.Submit raw) (R.Refused (F.OtherContent new.id)) after disk
      other_digest apart = (
        settled log,
        stands,
        subst (λ x. IsDecided basis log disk (C.Submit raw) (R.Refused (F.OtherContent x)) (settled log) disk) (sym tells.id)
            (other disk (Looks-none disk sound) (λ is_told same. apart ((known_now is_told).filed.digest ∙ (ap sha256 same ∙ sym tells.digest)))),
      )

      -- the digests are equal, and the disk is asked
      module _ (same_digest : f.digest ≡ new.digest) (disk' : DiskTold) (journal' : JournalState) (looks : Looks disk disk') (same_journal : journal' ≡ journal)
          (moves : (entries : List Entry) (doubt : List Entry) → Means disk journal entries doubt → Means disk' journal' entries doubt) where
        moved : Stands basis limits ledger rows pending journal' disk' (settled log)
        moved = stands_moved basis limits ledger rows pending journal disk journal' disk' (settled log) stands same_journal moves

        -- it fails
        pub fails_read : DiskFailed disk disk' → (after : State) × Stands basis limits ledger rows pending journal' disk' after × IsDecided basis log disk (C.Submit raw) (R.Refused F.StoreFault) after disk'
        fails_read failed = (
          settled log,
          moved,
          answered basis log disk disk' (C.Submit raw) (R.Refused F.StoreFault) looks (allowed stands)
              (refl, tt) tt (λ fault. failed) (inr (held_now, refl), refl)
              (λ is_told.
              let k = known_now is_told in
              let P : Option Crash → Type 0 = λ o. IsSomeAnd o (λ h. sha256 (content_text h) ≡ sha256 (content_text crash)) in
              inr ((held_now, subst P (sym (raw_now is_told)) (sym k.filed.digest ∙ (same_digest ∙ tells.digest))), refl, refl)),
        )

        -- it answers
        module _ (text : List ℕ) (text_is : text ≡ content_text crash) (holds : Bool)
            (reads : (entries : List Entry) (doubt : List Entry) (entry : Entry) (at skip : ℕ) → Means disk journal entries doubt → IsAt entries at entry → f.content ≡ at + (head_size + skip) → skip ≤ length entry.body
            → (more : List ℕ) × (IsTrue holds ↔ (take (length text) (drop skip entry.body ++ more) ≡ text))) where
          tells_content : (is_told : IsTrue basis.is_told) → (more : List ℕ) × (IsTrue holds ↔ (take (length (content_text crash)) (content_text (known_now is_told).raw ++ more) ≡ content_text crash))
          tells_content is_told =
              let k = known_now is_told in
              let skip = length (head_text k.raw) in
              let within_body : skip ≤ length (record_of k.raw) = omega (arith, record_length k.raw) in
              let read = reads (entries_of (kept_of log)) [] (entry_of (accepting k.raw)) f.place skip (stands.told is_told).means k.filed.at k.filed.content within_body in (
                read.0,
                subst (λ (t : List ℕ). IsTrue holds ↔ (take (length t) (content_text k.raw ++ read.0) ≡ t)) text_is
                    (subst (λ (b : List ℕ). IsTrue holds ↔ (take (length text) (b ++ read.0) ≡ text)) (content_at k.raw skip refl) read.1),
              )

          pub repeats : holds ≡ true → (after : State) × Stands basis limits ledger rows pending journal' disk' after × IsDecided basis log disk (C.Submit raw) (R.Repeated new.id) after disk'
          repeats agrees = (
            settled log,
            moved,
            subst (λ x. IsDecided basis log disk (C.Submit raw) (R.Repeated x) (settled log) disk') (sym tells.id)
                (says basis log disk disk' (C.Submit raw) (R.Repeated raw.id) looks (allowed stands) (refl, refl) tt (λ never. never) (held_now, refl, refl)
                (λ is_told.
                let k = known_now is_told in
                let told = tells_content is_told in
                ap (λ (d : Decision). Some d) (decides_held is_told true ((bytes_eq-Decides (content_text k.raw) (content_text crash)).1 (fits_content k.raw crash told.0 k.crash is (told.1.0 agrees)))))),
          )

          pub differs_on_disk : holds ≡ false → (after : State) × Stands basis limits ledger rows pending journal' disk' after × IsDecided basis log disk (C.Submit raw) (R.Refused (F.OtherContent new.id)) after disk'
          differs_on_disk not_held = (
            settled log,
            moved,
            subst (λ x. IsDecided basis log disk (C.Submit raw) (R.Refused (F.OtherContent x)) (settled log) disk') (sym tells.id)
                (other disk' looks (λ is_told same.
                let told = tells_content is_told in
                true_is_not_false (sym (told.1.1 (content_fits (known_now is_told).raw crash told.0 same)) ∙ not_held))),
          )

-- two texts by a test that they differ
pub texts_differ : (a b : List ℕ) → true ≡ not (bytes_eq a b) → a ≡ b → ⊥
texts_differ a b is same = true_is_not_false (is ∙ ap not ((bytes_eq-Decides a b).1 same))

pub texts_agree : (a b : List ℕ) → false ≡ not (bytes_eq a b) → a ≡ b
texts_agree a b is = (bytes_eq-Decides a b).0 (at (bytes_eq a b) is) where
  at : (x : Bool) → false ≡ not x → x ≡ true
  at true same = refl
  at false same = cc
