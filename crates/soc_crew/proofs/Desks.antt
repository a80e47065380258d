-- What no command changes of a desk.
use Rattle.std.proofs.Common.{◌≡◌, List, [], ◌∷◌, ◌∙◌, ap}
use Rattle.soc_desk.specs.declared.desk.Command.{Command}
use Rattle.soc_desk.specs.declared.desk.Receipt.{Receipt}
use Rattle.soc_collect.specs.Asked.{AsksAll, Step}

-- what each command leaves as it is, all commands leave as it is
pub asks_keep : {K A : Type 0} {asks : K → Command → Receipt → K → Type 0} (steps : List Step) (before after : K) → AsksAll asks before steps after → (f : K → A)
    → ((k : K) (command : Command) (receipt : Receipt) (l : K) → asks k command receipt l → f l ≡ f k) → f after ≡ f before
asks_keep [] before after is f each = ap f is
asks_keep (step ∷ steps) before after (between, asked, rest) f each =
    asks_keep steps between after rest f each ∙ each before step.command step.receipt between asked
