-- What contracts see of a JSON part that was read.
use Rattle.std.specs.Prelude.{◌≡◌, ℕ, List, MatchOption, Option, Some}
use Rattle.serde_json.specs.Data.{Members}
use Rattle.serde_json.specs.Find.{as_object}
use Rattle.serde_json.specs.View.{view}
use Rattle.serde_json.specs.declared.value.Value.{Value}
use Rattle.soc_forms.specs.Extras.{IsExtra}

-- the value is the object that the content is the text of, or the content is none
abbrev pub ShowsExtra : List ℕ → Option Value → Type 0
ShowsExtra content found =
    MatchOption found ((members : Members) → ¬ (IsExtra content members)) (λ value. (members : Members) × (as_object (view value) ≡ Some members) × IsExtra content members)
