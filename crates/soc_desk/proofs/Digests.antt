-- What a submission of other content is answered.
use Rattle.std.proofs.Common.{◌≡◌, ◌≢◌, ◌⊎◌, inl, inr, Bool, true, false, not, ◌&&◌, IsTrue, List, Option, Some, None, IsSomeAnd, sym, ap, subst, ◌∙◌, refl}
use Rattle.std.specs.Prelude.{bytes_eq, if◌then◌else◌}
use Rattle.std.specs.Option.{option_map_or}
use Rattle.std.proofs.lemmas.Slice.Eq.{bytes_eq-Decides}
use Rattle.sha2.specs.Sha256.{sha256}
use Rattle.soc_raw.specs.RawCrash.{crash_of}
use Rattle.soc_raw.specs.Record.{Crash, content_text}
use Rattle.soc_raw.specs.declared.raw_crash.RawCrash.{RawCrash}
use Rattle.soc_ledger.specs.Events.{is_held, was_accepted, was_withdrawn}
use Rattle.soc_desk.specs.declared.desk.Command.TheVariants as C
use Rattle.soc_desk.specs.declared.desk.Reply.{Reply}
use Rattle.soc_desk.specs.declared.desk.Reply.TheVariants as R
use Rattle.soc_desk.specs.declared.desk.Refusal.TheVariants as F
use Rattle.soc_desk.specs.Basis.{Basis}
use Rattle.soc_desk.specs.Decisions.{answers, decide_new, decide_repeated, decide_submission}
use Rattle.soc_desk.specs.Desk.{Decides, Step}
use Rattle.soc_desk.specs.Laws.{DigestsDecide}
use Rattle.soc_desk.specs.Log.{Change, events, raw_of}
use Rattle.soc_desk.specs.State.{State, settled}
use Rattle.soc_desk.proofs.Views.{true_is_not_false}

held_not_withdrawn : (a w : Bool) → IsTrue (a && not w) → w ≡ false
held_not_withdrawn true true held = absurd (true_is_not_false (sym held))
held_not_withdrawn true false held = refl
held_not_withdrawn false w held = absurd (true_is_not_false (sym held))

module _ (basis : Basis) (log : List Change) (raw held : Crash) (differ : sha256 (content_text held) ≢ sha256 (content_text raw)) where
  other : (b : Bool) → bytes_eq (content_text held) (content_text raw) ≡ b → b ≡ false
  other true same = absurd (differ (ap sha256 ((bytes_eq-Decides (content_text held) (content_text raw)).0 same)))
  other false same = refl

  decides_other : was_withdrawn (events basis log) raw.id ≡ false → raw_of log raw.id ≡ Some held → decide_submission basis log raw ≡ answers (R.Refused (F.OtherContent raw.id))
  decides_other kept is =
      ap (λ b. if b then answers (R.Refused (F.Withdrawn raw.id)) else option_map_or (decide_repeated raw) (raw_of log raw.id) (decide_new basis log raw)) kept
      ∙ (ap (λ o. option_map_or (decide_repeated raw) o (decide_new basis log raw)) is
      ∙ ap (λ b. if b then answers (R.Repeated raw.id) else answers (R.Refused (F.OtherContent raw.id))) (other (bytes_eq (content_text held) (content_text raw)) refl))

some_same : (a b : Crash) → Some a ≡ Some b → a ≡ b
some_same a b is = cc

module _ (basis : Basis) (log : List Change) (raw : RawCrash) (held : Crash) (reply : Reply) (after : State) (is_there : IsTrue (is_held (events basis log) raw.id)) (found : raw_of log raw.id ≡ Some held)
    (differ : sha256 (content_text held) ≢ sha256 (content_text (crash_of raw))) where
  compared : (o : Option Crash) → o ≡ Some held → IsSomeAnd o (λ h. sha256 (content_text h) ≡ sha256 (content_text (crash_of raw))) → ⊥
  compared None is there = absurd there
  compared (Some h) is there = differ (ap (λ x. sha256 (content_text x)) (sym (some_same h held is)) ∙ there)

  decides_so : Step basis (settled log) (C.Submit raw) reply after → (reply ≡ R.Refused (F.OtherContent raw.id)) ⊎ (reply ≡ R.Refused F.NoMemory)
  decides_so (inl refused) = inr refused.0
  decides_so (inr (inl (doubt, rest))) = absurd (doubt refl)
  decides_so (inr (inr step)) =
      let same : step.log ≡ log = step.settles in
      elim step.decides [
        | inl decides ↦
            let kept = held_not_withdrawn (was_accepted (events basis log) raw.id) (was_withdrawn (events basis log) raw.id) is_there in
            let here : Decides basis step.log (answers (R.Refused (F.OtherContent raw.id))) reply after =
            subst (λ d. Decides basis step.log d reply after) (ap (λ l. decide_submission basis l (crash_of raw)) same ∙ decides_other basis log (crash_of raw) held differ kept found) decides in
            inl here.0
        | inr failed ↦ absurd (compared (raw_of step.log raw.id) (ap (λ l. raw_of l raw.id) same ∙ found) failed.0.1)
      ]

pub digests_decide : DigestsDecide
digests_decide = λ basis log raw held reply after is_there found differ step. decides_so basis log raw held reply after is_there found differ step
