-- What makers of regular expressions answer.
use Rattle.std.specs.Prelude.{◌≡◌, ℕ, List, Result, Err}
use Rattle.regex.specs.Patterns.{default_config}
use Rattle.regex.specs.Strings.{regex_source, regex_config, IsReadFromSource}
use Rattle.regex.specs.declared.string.regex.Regex.{Regex}
use Rattle.soc_edge.specs.Calls.{Calls, one_more, passed, failed}
use Rattle.soc_siglists.specs.declared.maker.MakeError.{MakeError}
use Rattle.soc_siglists.specs.declared.maker.MakeError.TheVariants.{Failed}

-- the expression that the grammar reads in the text, with the default options
pub record IsMade (text : List ℕ) (made : Regex) : Type 0 where
  pub source : regex_source made ≡ text
  pub config : regex_config made ≡ default_config
  pub read : IsReadFromSource made

-- the count of faults after a call that gave this answer: it rises by the answer `Failed` alone
abbrev pub counted : ℕ → Result Regex MakeError → ℕ
counted faults (Err Failed) = one_more faults
counted faults answer = faults

-- the same of calls of which some were made to fail
abbrev pub after_make : Calls → Result Regex MakeError → Calls
after_make calls (Err Failed) = failed calls
after_make calls answer = passed calls
