-- What is shown of a row stays a row, and lists are searched as their test says.
use Rattle.std.proofs.Common.{ℕ, ◌+◌, ◌≤◌, true, false, List, [], ◌∷◌, arith, cond}
use Rattle.soc_schema.specs.declared.caller.Caller.{Caller}
use Rattle.soc_schema.specs.declared.value.Cell.{Cell}
use Rattle.soc_schema.specs.Permits.{granted_cells, is_granted}
use Rattle.soc_schema.specs.Rows.{RisesFrom}

rises_earlier : (low high : ℕ) (cells : List Cell) → low ≤ high → RisesFrom high cells → RisesFrom low cells
rises_earlier low high [] le rises = tt
rises_earlier low high (c ∷ cells) le rises = (let h : high ≤ c.field = rises.0 in omega arith, rises.1, rises.2)

pub granted_rises : (caller : Caller) (low : ℕ) (cells : List Cell) → RisesFrom low cells → RisesFrom low (granted_cells caller cells)
granted_rises caller low [] rises = tt
granted_rises caller low (c ∷ cells) rises =
    let rest : RisesFrom (c.field + 1) (granted_cells caller cells) = granted_rises caller (c.field + 1) cells rises.2 in
    let h : low ≤ c.field = rises.0 in
    elim (is_granted caller c.field) as (λ b. RisesFrom low (cond b (c ∷ granted_cells caller cells) (granted_cells caller cells))) [
      | true ↦ (rises.0, rises.1, rest)
      | false ↦ rises_earlier low (c.field + 1) (granted_cells caller cells) (omega arith) rest
    ]
