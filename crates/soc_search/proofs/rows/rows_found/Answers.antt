use Rattle.std.proofs.Common.{◌≡◌, ◌∙◌, ap, sym, subst, true, Some, ℕ, List, Result, Ok, Err, IfOk, inl, inr, ⊎_elim, ◌⊎◌, map}
use Rattle.std.specs.Prelude.{◌&&◌}
use Rattle.std.specs.List.Sorted.{IsNonDecreasing}
use Rattle.soc_base.specs.declared.no_memory.NoMemory.{NoMemory}
use Rattle.soc_schema.specs.declared.value.Value.TheVariants.{Text}
use Rattle.soc_schema.specs.Fields.{product_field, version_field}
use Rattle.soc_schema.specs.Permits.{shows}
use Rattle.soc_schema.specs.Values.{product_of}
use Rattle.soc_store.specs.Stored.{places_of}
use Rattle.soc_search.specs.declared.rows.Found.{Found}
use Rattle.soc_tops.specs.Tops.{is_asked, rows_between}
use Rattle.soc_search.proofs.RowLemmas.{asked_among, hidden_rows, places_rise}
use Rattle.soc_search.proofs.rows.rows_found.Goals as goal

pub returns-then-not-visible-clause-new : goal.returns-then-not-visible-clause-new
returns-then-not-visible-clause-new g c =
    let q = c.args.query.now in
    c.new.ensures.new ∙ hidden_rows q q.days c.args.store.now (ap (λ t. shows q.caller.products (Some t)) (sym c.as_str.ensures) ∙ sym c.if-not-visible.ensures.test)

pub returns-then-not-visible-clause-old : goal.returns-then-not-visible-clause-old
returns-then-not-visible-clause-old g c =
    let q = c.args.query.now in
    c.new.ensures.old ∙ hidden_rows q q.old_days c.args.store.now (ap (λ t. shows q.caller.products (Some t)) (sym c.as_str.ensures) ∙ sym c.if-not-visible.ensures.test)

pub returns-clause-new : goal.returns-clause-new
returns-clause-new g c =
    let q = c.args.query.now in
    let store = c.args.store.now in
    let shown : shows q.caller.products (Some q.product) ≡ true = ap (λ t. shows q.caller.products (Some t)) (sym c.as_str.ensures) ∙ sym c.if-not-visible.ensures.test in
    let either : (c.fewer-places.result.now ≡ places_of product_field (Text q.product) store) ⊎ (c.fewer-places.result.now ≡ places_of version_field (Text q.version) store) =
    ⊎_elim
    (λ (e : c.fewer-places.result.now ≡ c.places.result.now). inl (e ∙ c.places.ensures ∙ ap (λ v. places_of product_field v store) (c.in_ok-text.ensures ∙ ap Text c.as_str-2.ensures)))
    (λ (e : c.fewer-places.result.now ≡ c.places-2.result.now). inr (e ∙ c.places-2.ensures ∙ ap (λ v. places_of version_field v store) (c.in_ok-text-2.ensures ∙ ap Text c.as_str-3.ensures)))
    c.fewer-places.ensures.either in
    subst (λ l. IfOk c.rows_among.result (λ found. found.places.items ≡ l)) (asked_among q q.days store c.fewer-places.result.now c.places_rise.ensures.rise shown either) c.rows_among.ensures.new

pub returns-clause-old : goal.returns-clause-old
returns-clause-old g c =
    let q = c.args.query.now in
    let store = c.args.store.now in
    let shown : shows q.caller.products (Some q.product) ≡ true = ap (λ t. shows q.caller.products (Some t)) (sym c.as_str.ensures) ∙ sym c.if-not-visible.ensures.test in
    let either : (c.fewer-places.result.now ≡ places_of product_field (Text q.product) store) ⊎ (c.fewer-places.result.now ≡ places_of version_field (Text q.version) store) =
    ⊎_elim
    (λ (e : c.fewer-places.result.now ≡ c.places.result.now). inl (e ∙ c.places.ensures ∙ ap (λ v. places_of product_field v store) (c.in_ok-text.ensures ∙ ap Text c.as_str-2.ensures)))
    (λ (e : c.fewer-places.result.now ≡ c.places-2.result.now). inr (e ∙ c.places-2.ensures ∙ ap (λ v. places_of version_field v store) (c.in_ok-text-2.ensures ∙ ap Text c.as_str-3.ensures)))
    c.fewer-places.ensures.either in
    subst (λ l. IfOk c.rows_among.result (λ found. found.old_places.items ≡ l)) (asked_among q q.old_days store c.fewer-places.result.now c.places_rise.ensures.rise shown either) c.rows_among.ensures.old

both_rise : (r : Result Found NoMemory) (new old : List ℕ) → IfOk r (λ found. found.places.items ≡ new) → IfOk r (λ found. found.old_places.items ≡ old) → IsNonDecreasing new → IsNonDecreasing old
    → IfOk r (λ found. IsNonDecreasing found.places.items × IsNonDecreasing found.old_places.items)
both_rise (Ok found) new old is old_is rise old_rise = (subst IsNonDecreasing (sym is) rise, subst IsNonDecreasing (sym old_is) old_rise)
both_rise (Err e) new old is old_is rise old_rise = tt

pub returns-clause-rising : goal.returns-clause-rising
returns-clause-rising g c =
    let q = c.args.query.now in
    let store = c.args.store.now in
    both_rise c.rows_among.result (map (λ s. s.0) (rows_between q q.days store)) (map (λ s. s.0) (rows_between q q.old_days store)) (returns-clause-new g c) (returns-clause-old g c)
    (places_rise (λ s. shows q.caller.products (product_of s.1) && is_asked q q.days s.1) store c.places_rise.ensures.rise)
    (places_rise (λ s. shows q.caller.products (product_of s.1) && is_asked q q.old_days s.1) store c.places_rise.ensures.rise)
