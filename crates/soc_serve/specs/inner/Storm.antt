-- The steps of a storm.
use Rattle.std.specs.Prelude.{ℕ, List, [], ◌∷◌, Option, Some, codes}
use Rattle.std.specs.declared.cmp.Ordering.{Ordering}
use Rattle.soc_raw.specs.Record.{Crash}
use Rattle.soc_schema.specs.declared.value.Cell.{Cell}
use Rattle.soc_schema.specs.Fields.{signature_field}
use Rattle.soc_schema.specs.Orders.{value_cmp}
use Rattle.soc_query.specs.declared.answer.Term.{Term}
use Rattle.soc_query.specs.Queries.{Asked, default_columns}
use Rattle.soc_desk.specs.declared.desk.Limits.{Limits}
use Rattle.soc_desk.specs.Log.{events}
use Rattle.soc_desk.specs.State.{State, IsLegalState}
use Rattle.soc_replay.specs.Opening.{OpensJournal}
use Rattle.soc_serve.specs.Storm.{AreNoReports, Subsides, onlooker}

abbrev pub by_value : Term → Term → Ordering
by_value t u = value_cmp t.value u.value

-- what asks for the signatures
abbrev pub signature_asked : Asked
signature_asked = record {
  caller = onlooker;
  conditions = [];
  sorts = [];
  columns = default_columns;
  facets = signature_field ∷ [];
  facet_size = 10000;
  number = 0;
  offset = 0;
}

abbrev pub signature_pairs : List (List ℕ × List ℕ)
signature_pairs =
    (codes "_facets", codes "signature") ∷ (codes "_facets_size", codes "10000") ∷ (codes "_results_number", codes "0") ∷ []

-- the service over an empty disk, by a reporter
pub record PlaysBy (row_of : Crash → List Cell) (digest : Option (List ℕ)) (limits : Limits) (count : ℕ) (text : List ℕ) : Type 0 where
  pub opening : OpensJournal row_of digest limits (Some [])
  pub closed : State
  pub legal : IsLegalState opening.basis closed
  pub none_kept : AreNoReports (events opening.basis closed.log)
  pub subsides : Subsides opening.basis closed count text
