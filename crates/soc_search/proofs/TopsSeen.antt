-- Top crashers depend on how many of the rows that are asked for have each signature, and so on the granted fields of
-- visible rows alone, in whatever order.
use Rattle.std.proofs.Common.{◌≡◌, ℕ, false, List, [], ◌∷◌, length, map, take, refl, ap, ◌∙◌}
use Rattle.std.specs.Prelude.{◌&&◌}
use Rattle.std.specs.List.{enumerate_from}
use Rattle.std.specs.Option.{option_map_or}
use Rattle.std.specs.Ordering.{nat_cmp}
use Rattle.soc_schema.specs.declared.caller.Caller.{Caller}
use Rattle.soc_schema.specs.declared.value.Value.{Value}
use Rattle.soc_schema.specs.declared.value.Value.TheVariants.{Text}
use Rattle.soc_schema.specs.declared.value.Cell.{Cell}
use Rattle.soc_schema.specs.Fields.{date_field, field_entry, field_table, permission_of, product_field, signature_field, version_field}
use Rattle.soc_schema.specs.Orders.{in_order}
use Rattle.soc_schema.specs.Permits.{Granted}
use Rattle.soc_schema.specs.Rows.{value_of}
use Rattle.soc_schema.specs.Values.{is_value, rows_with, sees, text_in, text_of, values_of}
use Rattle.soc_tops.specs.declared.query.Days.{Days}
use Rattle.soc_tops.specs.declared.query.TopsQuery.{TopsQuery}
use Rattle.soc_tops.specs.Tops.{Counted, counted_in, has_day, is_asked, is_within, rank_from, ranking_of, rows_between, top_of, tops_of}
use Rattle.soc_search.specs.Seen.{HaveOwnIds, ListTheSame, seen_rows}
use Rattle.soc_search.proofs.AnyOrderLemmas.{as_many}
use Rattle.soc_search.proofs.CountedLemmas.{values_same}
use Rattle.soc_search.proofs.ListedLemmas.{SameRows, rows_kept, rows_same}
use Rattle.soc_search.proofs.RankLemmas.{same_top, same_tops}
use Rattle.soc_search.proofs.SeenLemmas.{counted_seen, kept_seen, length_seen, product_shown, public, see, seen, value_seen}

module _ (rows others : List (ℕ × List Cell)) (counts : (v : Value) → length (rows_with signature_field v rows) ≡ length (rows_with signature_field v others)) where
  each_counted : (vs : List Value) → map (counted_in rows) vs ≡ map (counted_in others) vs
  each_counted [] = refl
  each_counted (v ∷ vs) =
      let here : ◌≡◌ {A = Counted} (counted_in rows v) (counted_in others v) = ap (λ n. record { signature = v; count = n }) (counts v) in
      ap (λ t. t ∷ map (counted_in rows) vs) here ∙ ap (λ l. counted_in others v ∷ l) (each_counted vs)

  ranking_same : ranking_of rows ≡ ranking_of others
  ranking_same =
      ap (in_order (λ c d. nat_cmp d.count c.count)) (each_counted (values_of signature_field rows) ∙ ap (map (counted_in others)) (values_same signature_field rows others counts))

  tops_map : (ranked : List (ℕ × Counted)) → map (top_of rows) ranked ≡ map (top_of others) ranked
  tops_map [] = refl
  tops_map (r ∷ rs) =
      let here : top_of rows r ≡ top_of others r =
      same_top (text_in r.1.signature) r.1.count r.0 (top_of rows r).old_count (top_of others r).old_count (top_of rows r).old_rank (top_of others r).old_rank
      (counts r.1.signature) (ap (rank_from 1 r.1.signature) ranking_same) in
      ap (λ t. t ∷ map (top_of rows) rs) here ∙ ap (λ l. top_of others r ∷ l) (tops_map rs)

tops_same : (q : TopsQuery) (rows others : List (ℕ × List Cell)) → ((days : Days) → length (rows_between q days rows) ≡ length (rows_between q days others))
    → ((days : Days) (v : Value) → length (rows_with signature_field v (rows_between q days rows)) ≡ length (rows_with signature_field v (rows_between q days others)))
    → tops_of q rows ≡ tops_of q others
tops_same q rows others whole counts =
    let new = rows_between q q.days rows in
    let news = rows_between q q.days others in
    let old = rows_between q q.old_days rows in
    let olds = rows_between q q.old_days others in
    same_tops (length new) (length news) (map (top_of old) (enumerate_from 1 (take q.limit (ranking_of new)))) (map (top_of olds) (enumerate_from 1 (take q.limit (ranking_of news))))
    (whole q.days)
    (ap (λ l. map (top_of old) (enumerate_from 1 (take q.limit l))) (ranking_same new news (counts q.days))
    ∙ tops_map old olds (counts q.old_days) (enumerate_from 1 (take q.limit (ranking_of news))))

-- ---- what is seen

module _ (caller : Caller) where
  date_shown : Granted caller date_field
  unfolding permission_of field_entry field_table
  date_shown = public caller date_field refl

  signature_shown : Granted caller signature_field
  unfolding permission_of field_entry field_table
  signature_shown = public caller signature_field refl

  version_shown : Granted caller version_field
  unfolding permission_of field_entry field_table
  version_shown = public caller version_field refl

  asked_seen : (q : TopsQuery) (days : Days) (row : List Cell) → is_asked q days (see caller row) ≡ is_asked q days row
  asked_seen q days row =
      ap (λ o. is_value (Text q.product) o && (is_value (Text q.version) (value_of (see caller row) version_field) && is_within days (see caller row))) (value_seen caller row product_field (product_shown caller))
      ∙ ap (λ o. is_value (Text q.product) (value_of row product_field) && (is_value (Text q.version) o && is_within days (see caller row))) (value_seen caller row version_field version_shown)
      ∙ ap (λ o. is_value (Text q.product) (value_of row product_field) && (is_value (Text q.version) (value_of row version_field) && option_map_or (λ date. has_day days (take 10 date)) (text_of o) false)) (value_seen caller row date_field date_shown)

pub by_what_is_seen : (q : TopsQuery) (rows : List (ℕ × List Cell)) → tops_of q (seen_rows q.caller rows) ≡ tops_of q rows
by_what_is_seen q rows =
    let between : (days : Days) → rows_between q days (seen_rows q.caller rows) ≡ map (seen q.caller) (rows_between q days rows) =
    λ days. kept_seen q.caller (is_asked q days) (asked_seen q.caller q days) rows in
    tops_same q (seen_rows q.caller rows) rows
    (λ days. ap length (between days) ∙ length_seen q.caller (rows_between q days rows))
    (λ days v. ap (λ l. length (rows_with signature_field v l)) (between days) ∙ counted_seen q.caller signature_field v (rows_between q days rows) (signature_shown q.caller))

-- ---- the same rows in another order

pub in_any_order : (q : TopsQuery) (rows others : List (ℕ × List Cell)) → HaveOwnIds rows → HaveOwnIds others → ListTheSame rows others → tops_of q rows ≡ tops_of q others
in_any_order q rows others own other_own lists =
    let kept : (days : Days) → SameRows (rows_between q days rows) (rows_between q days others) =
    λ days. rows_kept (λ row. sees q.caller row && is_asked q days row) rows others (rows_same rows others own other_own lists) in
    tops_same q rows others
    (λ days. as_many (rows_between q days rows) (rows_between q days others) (kept days))
    (λ days v. as_many (rows_with signature_field v (rows_between q days rows)) (rows_with signature_field v (rows_between q days others))
    (rows_kept (λ row. is_value v (value_of row signature_field)) (rows_between q days rows) (rows_between q days others) (kept days)))
