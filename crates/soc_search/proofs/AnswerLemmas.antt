-- An answer by its parts.
use Rattle.std.proofs.Common.{◌≡◌, ℕ, Bool, cond, List, [], ◌∷◌, filter, refl, ap, ◌∙◌}
use Rattle.std.specs.List.{AllByRecursion}
use Rattle.soc_schema.specs.declared.value.Cell.{Cell}
use Rattle.soc_query.specs.declared.answer.Facet.{Facet}
use Rattle.soc_query.specs.declared.answer.Answer.{Answer}
use Rattle.soc_search.specs.inner.Selections.{Selects}

-- tests that agree on each keep the same
pub kept_agree : {X : Type 0} (a b : X → Bool) (xs : List X) → AllByRecursion (λ x. a x ≡ b x) xs → filter a xs ≡ filter b xs
kept_agree a b [] all = refl
kept_agree a b (x ∷ xs) all = ap (λ t. cond t (x ∷ filter a xs) (filter a xs)) all.0 ∙ ap (λ l. cond (b x) (x ∷ l) l) (kept_agree a b xs all.1)

-- the selected rows are those that pass the test
pub selected_rows : (set : ℕ → Bool) (test : List Cell → Bool) (rows : List (ℕ × List Cell)) → Selects set test rows → filter (λ s. set s.0) rows ≡ filter (λ s. test s.1) rows
selected_rows set test rows all = kept_agree (λ s. set s.0) (λ s. test s.1) rows all

pub same_answer : (t u : ℕ) (cs ds : List ℕ) (hs gs : List (List Cell)) (fs es : List Facet) → t ≡ u → cs ≡ ds → hs ≡ gs → fs ≡ es → ◌≡◌ {A = Answer} (record { total = t; columns = cs; hits = hs; facets = fs }) (record { total = u; columns = ds; hits = gs; facets = es })
same_answer t u cs ds hs gs fs es a b c d =
    let one : ◌≡◌ {A = Answer} (record { total = t; columns = cs; hits = hs; facets = fs }) (record { total = u; columns = cs; hits = hs; facets = fs }) = ap (λ n. record { total = n; columns = cs; hits = hs; facets = fs }) a in
    let two : ◌≡◌ {A = Answer} (record { total = u; columns = cs; hits = hs; facets = fs }) (record { total = u; columns = ds; hits = hs; facets = fs }) = ap (λ n. record { total = u; columns = n; hits = hs; facets = fs }) b in
    let three : ◌≡◌ {A = Answer} (record { total = u; columns = ds; hits = hs; facets = fs }) (record { total = u; columns = ds; hits = gs; facets = fs }) = ap (λ n. record { total = u; columns = ds; hits = n; facets = fs }) c in
    let four : ◌≡◌ {A = Answer} (record { total = u; columns = ds; hits = gs; facets = fs }) (record { total = u; columns = ds; hits = gs; facets = es }) = ap (λ n. record { total = u; columns = ds; hits = gs; facets = n }) d in
    one ∙ two ∙ three ∙ four
