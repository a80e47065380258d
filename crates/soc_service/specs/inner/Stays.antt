-- What may be asked may still be asked of a longer log.
use Rattle.std.specs.Prelude.{◌≡◌, ℕ, Bool, true, false, List, [], ◌∷◌, ◌++◌, Option, Some, None, if◌then◌else◌}
use Rattle.soc_desk.specs.declared.desk.Command.{Command}
use Rattle.soc_desk.specs.declared.desk.Command.TheVariants as C
use Rattle.soc_desk.specs.Basis.{Basis}
use Rattle.soc_desk.specs.Kinds.{NeedsNothing}
use Rattle.soc_service.specs.declared.change.Change.{Change}
use Rattle.soc_service.specs.Answers.{MayAsk}
use Rattle.soc_service.specs.Changes.{accepts, text_in}

on_first : (b : Bool) (text first second longer : Option (List ℕ)) → (second ≡ text → longer ≡ text) → (if b then first else second) ≡ text → (if b then first else longer) ≡ text
on_first true text first second longer more is = is
on_first false text first second longer more is = more is

none_is_not_some : (text : List ℕ) → None ≡ Some text → ⊥
none_is_not_some text is = cc

pub text_stays : (log more : List Change) (id text : List ℕ) → text_in log id ≡ Some text → text_in (log ++ more) id ≡ Some text
text_stays [] more id text is = absurd (none_is_not_some text is)
text_stays (change ∷ log) more id text is =
    on_first (accepts id change.event) (Some text) change.text (text_in log id) (text_in (log ++ more) id) (text_stays log more id text) is

pub may_still : (basis : Basis) (log more : List Change) (command : Command) → MayAsk basis log command → MayAsk basis (log ++ more) command
may_still basis log more (C.Finish processed) may = (may.0, λ is. ((may.1 is).0, text_stays log more processed.crash.id _ (may.1 is).1))
may_still basis log more _ may = may

-- every other command may be asked at any time
pub may_others : (basis : Basis) (log : List Change) (command : Command) → NeedsNothing command → MayAsk basis log command
may_others basis log (C.Finish processed) never = absurd never
may_others basis log _ nothing = tt
