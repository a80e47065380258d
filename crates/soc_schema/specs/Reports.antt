-- What a report tells of its crash.
use Rattle.std.specs.Prelude.{◌≡◌, List, [], ◌∷◌, ◌++◌, ℕ, Option, None, Some, codes, option_map, refl}
use Rattle.soc_base.specs.Names.{value_of as text_of}
use Rattle.soc_raw.specs.Record.{Crash}
use Rattle.soc_schema.specs.declared.value.Cell.{Cell}
use Rattle.soc_schema.specs.declared.value.Value.TheVariants.{Text}
use Rattle.soc_schema.specs.Fields.{uuid_field, product_field}
use Rattle.soc_schema.specs.Rows.{value_of, cell}

-- a raw crash's product, where it has one
abbrev pub product_of : Crash → Option (List ℕ)
product_of crash = text_of crash.annotations (codes "ProductName")

-- the row has the raw crash's id as `uuid`, and its product as `product`, or none where it has none
pub record TellsCrash (crash : Crash) (row : List Cell) : Type 0 where
  pub id : value_of row uuid_field ≡ Some (Text crash.id)
  pub product : value_of row product_field ≡ option_map Text (product_of crash)

-- a raw crash and a reporter's row of it
pub record Report : Type 0 where
  pub crash : Crash
  pub row : List Cell

-- the row that has `product` and `uuid` alone
abbrev pub product_cells : Option (List ℕ) → List Cell
product_cells None = []
product_cells (Some product) = cell product_field (Text product) ∷ []

abbrev pub bare_row : Crash → List Cell
bare_row crash = product_cells (product_of crash) ++ cell uuid_field (Text crash.id) ∷ []

id_of_cells : (product : Option (List ℕ)) (id : List ℕ) → value_of (product_cells product ++ cell uuid_field (Text id) ∷ []) uuid_field ≡ Some (Text id)
id_of_cells None id = refl
id_of_cells (Some product) id = refl

product_of_cells : (product : Option (List ℕ)) (id : List ℕ) → value_of (product_cells product ++ cell uuid_field (Text id) ∷ []) product_field ≡ option_map Text product
product_of_cells None id = refl
product_of_cells (Some product) id = refl

pub bare_row-tells : (crash : Crash) → TellsCrash crash (bare_row crash)
bare_row-tells crash =
    record { id = id_of_cells (product_of crash) crash.id; product = product_of_cells (product_of crash) crash.id }
