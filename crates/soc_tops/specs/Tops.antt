-- Top crashers: the signatures of a product's version by how many rows of a range of days have them. This project's
-- profile.
use Rattle.std.specs.Prelude.{ℕ, ◌+◌, ◌&&◌, not, Bool, false, List, [], ◌∷◌, Option, None, Some, if◌then◌else◌, map, length, take}
use Rattle.std.specs.List.{filter, enumerate_from}
use Rattle.std.specs.Option.{option_map_or}
use Rattle.std.specs.Ordering.{nat_cmp, is_eq}
use Rattle.soc_schema.specs.declared.value.Value.{Value}
use Rattle.soc_schema.specs.declared.value.Value.TheVariants.{Text}
use Rattle.soc_schema.specs.declared.value.Cell.{Cell}
use Rattle.soc_schema.specs.Rows.{value_of}
use Rattle.soc_schema.specs.Fields.{date_field, product_field, signature_field, version_field}
use Rattle.soc_schema.specs.Orders.{in_order, value_cmp}
use Rattle.soc_schema.specs.Values.{is_value, rows_with, sees, text_in, text_of, values_of}
use Rattle.soc_tops.specs.declared.query.Days.{Days}
use Rattle.soc_tops.specs.declared.query.TopsQuery.{TopsQuery}
use Rattle.soc_tops.specs.declared.tops.Top.{Top}
use Rattle.soc_tops.specs.declared.tops.Tops.{Tops}
use Rattle.soc_tops.specs.Asked.{is_after}

-- the day lies in the range
abbrev pub has_day : Days → List ℕ → Bool
has_day days day = not (is_after days.from day) && not (is_after day days.to)

-- a row's day is the first ten bytes of its date
abbrev pub is_within : Days → List Cell → Bool
is_within days row = option_map_or (λ date. has_day days (take 10 date)) (text_of (value_of row date_field)) false

-- a row of the query's product and version, in a range of days
abbrev pub is_asked : TopsQuery → Days → List Cell → Bool
is_asked q days row =
    is_value (Text q.product) (value_of row product_field) && (is_value (Text q.version) (value_of row version_field) && is_within days row)

-- those that the caller may see
abbrev pub rows_between : TopsQuery → Days → List (ℕ × List Cell) → List (ℕ × List Cell)
rows_between q days rows = filter (λ s. sees q.caller s.1 && is_asked q days s.1) rows

-- a signature and how many rows have it
pub record Counted : Type 0 where
  pub signature : Value
  pub count : ℕ

abbrev pub counted_in : List (ℕ × List Cell) → Value → Counted
counted_in rows v = record { signature = v; count = length (rows_with signature_field v rows) }

-- the signatures of rows: greater counts first, and then lesser bytes
abbrev pub ranking_of : List (ℕ × List Cell) → List Counted
ranking_of rows =
    in_order (λ c d. nat_cmp d.count c.count) (map (counted_in rows) (values_of signature_field rows))

-- the rank of a signature in a list that begins with this rank
abbrev pub rank_from : ℕ → Value → List Counted → Option ℕ
rank_from rank v [] = None
rank_from rank v (c ∷ cs) = if is_eq (value_cmp v c.signature) then Some rank else rank_from (rank + 1) v cs

-- a ranked signature, and its count and rank in the old rows
abbrev pub top_of : List (ℕ × List Cell) → ℕ × Counted → Top
top_of old ranked =
    record {
      signature = text_in ranked.1.signature;
      count = ranked.1.count;
      rank = ranked.0;
      old_count = length (rows_with signature_field ranked.1.signature old);
      old_rank = rank_from 1 ranked.1.signature (ranking_of old);
    }

-- how many new rows there are, and the first of their signatures
abbrev pub tops_of : TopsQuery → List (ℕ × List Cell) → Tops
tops_of q rows =
    record {
      total = length (rows_between q q.days rows);
      tops = map (top_of (rows_between q q.old_days rows)) (enumerate_from 1 (take q.limit (ranking_of (rows_between q q.days rows))));
    }
