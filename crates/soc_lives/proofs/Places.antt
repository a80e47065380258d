-- Acknowledged changes, and how often an id is accepted.
use Rattle.std.proofs.Common.{◌≡◌, ℕ, ◌≤◌, true, false, cond, IsTrue, List, [], ◌∷◌, ◌++◌, map, Option, Some, None, IfSome, sym, ap, subst, ◌∙◌, refl, append_assoc, arith}
use Rattle.std.specs.Prelude.{bytes_eq, filter, length}
use Rattle.std.specs.List.{AllByRecursion}
use Rattle.std.specs.Option.{option_map_or}
use Rattle.std.proofs.lemmas.List.{append-nil, map-append}
use Rattle.std.proofs.lemmas.List.Elements.{filter_map-append}
use Rattle.soc_raw.specs.RawCrash.{crash_of}
use Rattle.soc_raw.specs.declared.raw_crash.RawCrash.{RawCrash}
use Rattle.soc_ledger.proofs.Lists.{itself, same_text}
use Rattle.soc_desk.specs.Basis.{Basis}
use Rattle.soc_desk.specs.Batches.{AcceptNew}
use Rattle.soc_desk.specs.Decisions.{accepting}
use Rattle.soc_desk.specs.Laws.{acknowledged}
use Rattle.soc_desk.specs.Log.{Accepted, Change, IsLegal, Kept, accept, ask, withdraw, report, keep, accepted_in, accepted_of}
use Rattle.soc_desk.specs.Opens.{log_of}
use Rattle.soc_desk.specs.State.{State, kept_of}
use Rattle.soc_desk.proofs.Lasting.{acknowledges}
use Rattle.soc_desk.proofs.Logs.{IsApart, accepted_apart, has_id}
use Rattle.soc_desk.proofs.Views.{all_both, all_weaker, turned_eq}
use Rattle.soc_lives.specs.Lives.{Action, asking, storing, failing, keeping, AllLive, Does, Life, Lives, Transition, ended, opened}
use Rattle.soc_lives.specs.Laws.{AcknowledgedStays, BeginsWith, HasPlace, InEachState, StandAt, accept_count, acknowledged_by}
use Rattle.soc_lives.proofs.Growth.{IsFrontOf, at_each, kept_all, kept_more}
use Rattle.soc_lives.proofs.Later.{in_each_state, kept_later, later_lives, starts_legal}

-- ---- how often an id is accepted

abbrev those : List ℕ → List Accepted → List Accepted
those id crashes = filter (has_id id) crashes

-- where nobody has the id, nobody is counted
none_counted : (id : List ℕ) (crashes : List Accepted) → AllByRecursion (λ other. bytes_eq other.id id ≡ false) crashes → those id crashes ≡ []
none_counted id [] none = refl
none_counted id (crash ∷ crashes) none = ap (λ b. cond b (crash ∷ those id crashes) (those id crashes)) none.0 ∙ none_counted id crashes none.1

-- an id that equals the first one's is none of the others'
others_apart : (first : Accepted) (id : List ℕ) (crashes : List Accepted) → bytes_eq first.id id ≡ true → AllByRecursion (λ other. bytes_eq other.id first.id ≡ false) crashes → AllByRecursion (λ other. bytes_eq other.id id ≡ false) crashes
others_apart first id crashes same apart = subst (λ (i : List ℕ). AllByRecursion (λ other. bytes_eq other.id i ≡ false) crashes) (same_text first.id id same) apart

one_more : (crash : Accepted) (crashes : List Accepted) → crashes ≡ [] → length (crash ∷ crashes) ≡ 1
one_more crash crashes none = ap (λ (cs : List Accepted). length (crash ∷ cs)) none

at_most : (n : ℕ) → n ≡ 1 → n ≤ 1
at_most n is = omega (arith, is)

counted_once : (id : List ℕ) (crashes : List Accepted) → IsApart crashes → length (those id crashes) ≤ 1
counted_once id [] apart = omega arith
counted_once id (crash ∷ crashes) apart =
    elim (bytes_eq crash.id id) as (λ b. bytes_eq crash.id id ≡ b → length (cond b (crash ∷ those id crashes) (those id crashes)) ≤ 1) [
      | true ↦ λ same. at_most _ (one_more crash (those id crashes) (none_counted id crashes (others_apart crash id crashes same apart.0)))
      | false ↦ λ same. counted_once id crashes apart.1
    ] refl

each_once : (crashes : List Accepted) → IsApart crashes → AllByRecursion (λ crash. length (those crash.id crashes) ≡ 1) crashes
each_once [] apart = tt
each_once (crash ∷ crashes) apart = (
  ap (λ b. length (cond b (crash ∷ those crash.id crashes) (those crash.id crashes))) (itself crash.id) ∙ one_more crash (those crash.id crashes) (none_counted crash.id crashes apart.0),
  all_weaker _ _ crashes (λ other both. ap (λ b. length (cond b (crash ∷ those other.id crashes) (those other.id crashes))) (turned_eq other.id crash.id false both.0) ∙ both.1) (all_both _ _ crashes apart.0 (each_once crashes apart.1)),
)

part : {X : Type 0} (P : X → Type 0) (xs ys zs : List X) → AllByRecursion P (xs ++ (ys ++ zs)) → AllByRecursion P ys
part P [] [] zs all = tt
part P [] (y ∷ ys) zs all = (all.0, part P [] ys zs all.1)
part P (x ∷ xs) ys zs all = part P xs ys zs all.1

accepted_row : (front changes more : List Kept) → accepted_of (log_of (front ++ (changes ++ more))) ≡ accepted_of (log_of front) ++ (accepted_of (log_of changes) ++ accepted_of (log_of more))
accepted_row front changes more =
    accepted_join front (changes ++ more) ∙ ap (λ (cs : List Accepted). accepted_of (log_of front) ++ cs) (accepted_join changes more) where
      accepted_join : (a b : List Kept) → accepted_of (log_of (a ++ b)) ≡ accepted_of (log_of a) ++ accepted_of (log_of b)
      accepted_join a b = ap accepted_of (map-append keep a b) ∙ filter_map-append accepted_in (log_of a) (log_of b)

once_there : (basis : Basis) (front changes more opening : List Kept) → IsLegal basis (log_of opening) → opening ≡ front ++ (changes ++ more)
    → AllByRecursion (λ crash. accept_count (log_of opening) crash.id ≡ 1) (accepted_of (log_of changes))
once_there basis front changes more opening legal whole =
    part (λ crash. accept_count (log_of opening) crash.id ≡ 1) (accepted_of (log_of front)) (accepted_of (log_of changes)) (accepted_of (log_of more))
    (subst (AllByRecursion (λ crash. accept_count (log_of opening) crash.id ≡ 1)) (ap (λ (k : List Kept). accepted_of (log_of k)) whole ∙ accepted_row front changes more)
    (each_once (accepted_of (log_of opening)) (accepted_apart basis (log_of opening) legal.events_legal)))

-- ---- acknowledged changes

ack_one : (change : Option Kept) (after : State) → IfSome change (λ c. (log : List Change) × (after.log ≡ log ++ keep c ∷ []))
    → (log : List Change) × (after.log ≡ log ++ map keep (option_map_or (λ c. c ∷ []) change []))
ack_one None after last = (after.log, sym (append-nil after.log))
ack_one (Some change) after last = last

pub all_accepting : (basis : Basis) → IsTrue basis.is_told → (log : List Change) (raws : List RawCrash) (changes : List Kept) → AcceptNew basis log raws changes → changes ≡ map (λ raw. accepting (crash_of raw)) raws
all_accepting basis is_told log [] [] accepts = refl
all_accepting basis is_told log [] (change ∷ changes) accepts = absurd accepts
all_accepting basis is_told log (raw ∷ raws) [] accepts = absurd accepts
all_accepting basis is_told log (raw ∷ raws) (ask id ∷ changes) accepts = absurd accepts.0
all_accepting basis is_told log (raw ∷ raws) (withdraw id ∷ changes) accepts = absurd accepts.0
all_accepting basis is_told log (raw ∷ raws) (report made ∷ changes) accepts = absurd accepts.0
all_accepting basis is_told log (raw ∷ raws) (accept crash ∷ changes) accepts =
    ap (λ (c : Kept). c ∷ changes) (accepts.0.1 is_told)
    ∙ ap (λ (cs : List Kept). accepting (crash_of raw) ∷ cs) (all_accepting basis is_told (log ++ keep (accept crash) ∷ []) raws changes accepts.2)

acks : (basis : Basis) → IsTrue basis.is_told → (before : State) (action : Action) (after : State) → Does basis before action after
    → (log : List Change) × (after.log ≡ log ++ map keep (acknowledged_by action))
acks basis is_told before (asking command reply) after step = ack_one (acknowledged command reply) after (acknowledges basis before command reply after step)
acks basis is_told before (storing raws) after writes =
    (writes.log, ap (λ (s : State). s.log) writes.after_is ∙ ap (λ (cs : List Kept). writes.log ++ map keep cs) (all_accepting basis is_told writes.log raws writes.changes writes.accepts))
acks basis is_told before (failing raws) after writes = (after.log, sym (append-nil after.log))
acks basis is_told before (keeping reply) after keeps = (after.log, sym (append-nil after.log))

-- ---- later lives

stand_there : (front changes : List Kept) (next : Life) → BeginsWith (front ++ changes) next.opening × ((found : List ℕ) × Lives found next) → StandAt front changes next.opening
stand_there front changes next ((more, is), (found, lives)) =
    let whole = is ∙ append_assoc front changes more in
    record { more = more; whole = whole; once = once_there next.basis front changes more next.opening lives.legal whole }

has_place : (found : List ℕ) (life : Life) (later : List Life) → AllLive found (life ∷ later) → (old : State) (transition : Transition) → Does life.basis old transition.action transition.after
    → IsFrontOf transition.after.log (ended life).log → HasPlace later transition
has_place found life later all old transition does front =
    let written = acks life.basis all.0.is_told old transition.action transition.after does in
    let changes = acknowledged_by transition.action in
    let here : kept_of transition.after.log ≡ kept_of written.0 ++ changes =
    ap kept_of written.1 ∙ (kept_more written.0 (map keep changes) ∙ ap (λ (k : List Kept). kept_of written.0 ++ k) (kept_all changes)) in
    let begins = kept_later found life later all transition.after.log front in
    record {
      front = kept_of written.0;
      here = here;
      there = all_weaker _ _ later (stand_there (kept_of written.0) changes)
          (all_both _ _ later (subst (λ (k : List Kept). AllByRecursion (λ next. BeginsWith k next.opening) later) here begins) (later_lives life.image later all.1));
    }

pub acknowledged_stays : AcknowledgedStays
acknowledged_stays found life later all =
    at_each life.basis all.0.is_told (HasPlace later) (ended life) (opened life) life.transitions (starts_legal found life all.0) all.0.goes refl
    (λ old transition legal does legal' front. has_place found life later all old transition does front)

-- ---- whatever is repeated

pub accepts_once : (found : List ℕ) (lives : List Life) → AllLive found lives
    → AllByRecursion (InEachState (λ state. (id : List ℕ) → accept_count (state.log ++ map keep state.doubt) id ≤ 1)) lives
accepts_once found [] all = tt
accepts_once found (life ∷ lives) all = (
  in_each_state _ found life all.0 (λ state legal front id. counted_once id (accepted_of (state.log ++ map keep state.doubt)) (accepted_apart life.basis (state.log ++ map keep state.doubt) legal.doubt.events_legal)),
  accepts_once life.image lives all.1,
)
