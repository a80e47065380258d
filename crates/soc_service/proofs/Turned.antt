-- What the turns of a seat have kept.
use Rattle.std.proofs.Common.{◌≡◌, inl, inr, ℕ, suc, ◌+◌, Bool, true, false, List, [], ◌∷◌, ◌++◌, Option, None, Some, refl, sym, ◌∙◌, ap, subst, append_assoc, arith}
use Rattle.std.specs.Prelude.{if◌then◌else◌}
use Rattle.std.proofs.lemmas.List.{map-append}
use mathlib.Core.List.{append-nil}
use Rattle.soc_raw.specs.Record.{Crash}
use Rattle.soc_raw.specs.RawCrash.{crash_of}
use Rattle.soc_hall.specs.declared.view.Turn.{Turn as HallTurn}
use Rattle.soc_hall.specs.Log.{pieces}
use Rattle.soc_ledger.specs.declared.event.Event.{Event}
use Rattle.soc_desk.specs.declared.desk.Command.{Command}
use Rattle.soc_desk.specs.declared.desk.Receipt.{Receipt}
use Rattle.soc_desk.specs.declared.desk.Reply.{Reply}
use Rattle.soc_desk.specs.Basis.{Basis}
use Rattle.soc_service.specs.declared.change.Change.{Change}
use Rattle.soc_service.specs.Changes.{counts, events_in, kept_in}
use Rattle.soc_service.specs.declared.processor.WorkerStop.{WorkerStop}
use Rattle.soc_service.specs.Desks.{HasTurned}
use Rattle.soc_service.specs.Answers.{TellsAnswers}
use Rattle.soc_service.specs.Turns.{Knows, Shared, Turn}
use Rattle.soc_service.specs.Works.{Fetches, Finishes, LeavesLast, StopsBehind, Work, Worked, WorksOn, WorksOnAll}
use Rattle.soc_service.proofs.Counted.{kept_in_turn}
use Rattle.soc_service.proofs.Worked.{behind_fetch, fetch_adds_none}

-- ---- counts of lists that are joined

on_kept : (b : Bool) (n m : ℕ) → (if b then suc (n + m) else n + m) ≡ (if b then suc n else n) + m
on_kept true n m = omega arith
on_kept false n m = omega arith

pub kept_in-append : (events more : List Event) → kept_in (events ++ more) ≡ kept_in events + kept_in more
kept_in-append [] more = omega arith
kept_in-append (event ∷ events) more =
    ap (λ n. if counts event then suc n else n) (kept_in-append events more) ∙ on_kept (counts event) (kept_in events) (kept_in more)

pub kept_both : (log more : List Change) → kept_in (events_in (log ++ more)) ≡ kept_in (events_in log) + kept_in (events_in more)
kept_both log more = ap kept_in (map-append (λ change. change.event) log more) ∙ kept_in-append (events_in log) (events_in more)

pieces-append : {A : Type 0} (turns more : List (HallTurn Change A Receipt)) → pieces (turns ++ more) ≡ pieces turns ++ pieces more
pieces-append [] more = refl
pieces-append (turn ∷ turns) more = ap (λ l. turn.piece ++ l) (pieces-append turns more) ∙ sym (append_assoc turn.piece (pieces turns) (pieces more))

module _ {A B : Type 0} where
  pub turned_none : (v : Knows A B) → HasTurned v v 0
  turned_none v = record { number = refl; basis = refl; opening = refl; more = []; turns = sym (append-nil v.turns); kept_are = refl }

  pub turned_same : (v w : Knows A B) → v ≡ w → HasTurned v w 0
  turned_same v w is = subst (λ u. HasTurned v u 0) is (turned_none v)

  pub turned_more : (u v w : Knows A B) (a b : ℕ) → HasTurned u v a → HasTurned v w b → HasTurned u w (a + b)
  turned_more u v w a b first next = record {
    number = next.number ∙ first.number;
    basis = next.basis ∙ first.basis;
    opening = next.opening ∙ first.opening;
    more = first.more ++ next.more;
    turns = next.turns ∙ (ap (λ l. l ++ next.more) first.turns ∙ append_assoc u.turns first.more next.more);
    kept_are =
        ap (λ l. kept_in (events_in l)) (pieces-append first.more next.more)
        ∙ (kept_both (pieces first.more) (pieces next.more)
        ∙ (ap (λ n. n + kept_in (events_in (pieces next.more))) first.kept_are ∙ ap (λ n. a + n) next.kept_are));
  }

module _ {T A B : Type 0} (desk : Shared T A B) (command_of : A → Command) where
  -- one turn
  pub by_turn : (v : Knows A B) (command : Command) (receipt : Receipt) (w : Knows A B) (turn : Turn desk command_of v command receipt w) (kept : ℕ)
      → kept_in (events_in turn.asked.piece) ≡ kept → HasTurned v w kept
  by_turn v command receipt w turn kept is =
      let knows = turn.asked.knows in
      record {
        number = ap (λ k. k.number) knows;
        basis = ap (λ k. k.basis) knows;
        opening = ap (λ k. k.opening) knows;
        more = _;
        turns = ap (λ k. k.turns) knows;
        kept_are = ap (λ l. kept_in (events_in l)) (append-nil turn.asked.piece) ∙ is;
      }

module _ {T A B : Type 0} (desk : Shared T A B) (command_of : A → Command) (desk_of : B → Basis) (tells : TellsAnswers command_of desk_of desk.answers) where
  by_fetch : (v : Knows A B) (id : List ℕ) (reply : Reply) (w : Knows A B) → Fetches desk command_of v id reply w → HasTurned v w 0
  by_fetch v id reply w fetch =
      by_turn desk command_of v _ fetch.receipt w fetch.turn 0 (ap (λ l. kept_in (events_in l)) (fetch_adds_none desk command_of desk_of tells id fetch))

  by_finish : (v : Knows A B) (crash : Crash) (reply : Reply) (w : Knows A B) → Finishes desk command_of v crash reply w → HasTurned v w 0
  by_finish v crash reply w finish = by_turn desk command_of v _ finish.receipt w finish.turn 0 (kept_in_turn desk command_of desk_of tells finish.turn)

  behind : (reply : Reply) (u w : Knows A B) → StopsBehind desk command_of reply u w → HasTurned u w 0
  behind reply u w (inl is) = subst (λ k. HasTurned u k 0) (sym is) (turned_none u)
  behind reply u w (inr (raw, gave, answer, finish)) = by_finish u (crash_of raw) answer w finish

  by_work : (v : Knows A B) (work : Work) (w : Knows A B) → WorksOn desk command_of v work.id work.outcome w → HasTurned v w 0
  by_work v work w works =
      turned_more v works.between w 0 0 (by_fetch v work.id works.reply works.between works.fetch)
      (behind works.reply works.between w (behind_fetch desk command_of desk_of tells work.id work.outcome works.reply works.between works.fetch w works.goes_on))

  by_works : (v : Knows A B) (works : List Work) (w : Knows A B) → WorksOnAll desk command_of v works w → HasTurned v w 0
  by_works v [] w is = subst (λ k. HasTurned v k 0) (sym is) (turned_none v)
  by_works v (work ∷ works) w (u, one, rest) = turned_more v u w 0 0 (by_work v work u one) (by_works u works w rest)

  by_last : (v : Knows A B) (left : Option (List ℕ)) (w : Knows A B) → LeavesLast desk command_of v left w → HasTurned v w 0
  by_last v None w is = subst (λ k. HasTurned v k 0) (sym is) (turned_none v)
  by_last v (Some id) w leaves =
      turned_more v leaves.between w 0 0 (by_fetch v id leaves.reply leaves.between leaves.fetch) (behind leaves.reply leaves.between w leaves.stops)

  -- a processor's turns keep nothing: they say that crashes were processed
  pub by_worker : (v : Knows A B) (taken made stale missed : List (List ℕ)) (stop : WorkerStop) (w : Knows A B)
      → Worked desk command_of v taken made stale missed stop w → HasTurned v w 0
  by_worker v taken made stale missed stop w worked =
      turned_more v worked.between w 0 0 (by_works v worked.works worked.between worked.each) (by_last worked.between worked.left w worked.last)
