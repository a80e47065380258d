-- What a store holds: a list of places and rows, and what counting over it gives.
use Rattle.std.specs.Prelude.{ℕ, ◌+◌, Bool, List, [], ◌∷◌, Option, None, Some, map}
use Rattle.std.specs.List.{list_any}
use Rattle.std.specs.Option.{option_map_or}
use Rattle.std.specs.Ordering.{nat_cmp}
use Rattle.soc_schema.specs.declared.value.Value.{Value}
use Rattle.soc_schema.specs.declared.value.Cell.{Cell}
use Rattle.soc_schema.specs.Rows.{value_of}
use Rattle.soc_schema.specs.Tables.{alter, at_key, prune, Rising}
use Rattle.soc_schema.specs.Values.{is_value, product_of, rows_with}
use Rattle.soc_store.specs.declared.counts.ProductCount.{ProductCount}
use Rattle.soc_store.specs.Orders.{product_cmp}

-- the rows of entries
abbrev pub rows_in : {E : Type 0} → (E → ℕ) → (E → List Cell) → List E → List (ℕ × List Cell)
rows_in place row es = map (λ e. (place e, row e)) es

-- each place is below those after it
abbrev pub PlacesRise : List (ℕ × List Cell) → Type 0
PlacesRise rows = Rising (λ s. s.0) nat_cmp rows

-- the rows with one more at its place, in the stead of the one that is there
abbrev pub with_row : ℕ × List Cell → List (ℕ × List Cell) → List (ℕ × List Cell)
with_row s rows = alter (λ t. t.0) nat_cmp s.0 (λ _. s) rows

-- the rows without the one at the place
abbrev pub without_row : ℕ → List (ℕ × List Cell) → List (ℕ × List Cell)
without_row p rows = prune (λ t. t.0) nat_cmp p (λ _. None) rows

-- the place and the row at the place
abbrev pub row_at : ℕ → List (ℕ × List Cell) → Option (ℕ × List Cell)
row_at p rows = at_key (λ t. t.0) nat_cmp p rows

-- the value that the row at a place has of the field
abbrev pub value_at : ℕ → ℕ → List (ℕ × List Cell) → Option Value
value_at p f rows = option_map_or (λ s. value_of s.1 f) (row_at p rows) None

-- the product of the row at a place
abbrev pub product_at : List (ℕ × List Cell) → ℕ → Option (List ℕ)
product_at rows p = option_map_or (λ s. product_of s.1) (row_at p rows) None

-- the places of the rows that have the value of the field
abbrev pub places_of : ℕ → Value → List (ℕ × List Cell) → List ℕ
places_of f v rows = map (λ s. s.0) (rows_with f v rows)

-- one more of a product
abbrev pub one_more : Option (List ℕ) → Option ProductCount → ProductCount
one_more p None = record { product = p; count = 1 }
one_more p (Some c) = record { product = p; count = c.count + 1 }

abbrev pub counted : Option (List ℕ) → List ProductCount → List ProductCount
counted p cs = alter (λ c. c.product) product_cmp p (one_more p) cs

-- how often each product stands in the list, in rising order
abbrev pub tally : List (Option (List ℕ)) → List ProductCount
tally [] = []
tally (p ∷ ps) = counted p (tally ps)

-- how many of the rows that have the value there are of each product
abbrev pub counts_of : ℕ → Value → List (ℕ × List Cell) → List ProductCount
counts_of f v rows = tally (map (λ s. product_of s.1) (rows_with f v rows))

-- whether one of the rows has the value
abbrev pub some_has : ℕ → List (ℕ × List Cell) → Value → Bool
some_has f rows v = list_any (λ s. is_value v (value_of s.1 f)) rows
