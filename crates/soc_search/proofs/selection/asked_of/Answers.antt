use Rattle.std.proofs.Common.{◌≡◌, ◌≢◌, ◌++◌, ◌∷◌, ◌+◌, ◌∙◌, [], ap, sym, subst, map, take, Contains, List, ℕ}
use denote.Ref.{Bor}
use Rattle.std.proofs.lemmas.Bool.{false≢true}
use Rattle.std.proofs.lemmas.List.{map-append}
use Rattle.soc_query.specs.declared.condition.Condition.{Condition}
use Rattle.soc_search.specs.inner.Selections.{AreOnce, asked_of}
use Rattle.soc_search.proofs.OnceLemmas.{more_new, more_again, more_other}
use Rattle.soc_search.proofs.selection.asked_of.Goals as goal
use Rattle.soc_search.proofs.selection.asked_of.Goals.{then-place+then-not-is_among+in_ok-push, else-place, else-place-via-then-place+else-not-is_among, else-place-via-else-place}

pub loop-condition-preserved : goal.loop-condition-preserved
loop-condition-preserved c =
    let seen : List (Bor Condition) → List Condition = map (λ (d : Bor Condition). d.now) in
    let cs : List Condition = c.args.conditions.now in
    let i : ℕ = c.loop-condition.condition-index in
    let k : Condition = c.condition-item.result in
    let f : ℕ = c.args.field in
    let listed : List (Bor Condition) = c.loop-condition.asked.items in
    let once : List Condition = seen listed in
    let left = asked_of f (take (i + 1) cs) in
    let within = c.loop-condition-test.true in
    let here = sym c.condition-item.is in
    let are = c.loop-condition.invariant in
    elim c.if-place.branch [
      | then-place+then-not-is_among+in_ok-push w ↦
          let at : k.field ≡ f = sym c.place.ensures.value ∙ (w.if-place.true ∙ c.place-in-loop-condition.ensures.value) in
          let new : ¬ (Contains once k) = λ has. absurd (false≢true (sym w.if-not-is_among.true ∙ w.is_among.ensures.1 (subst (λ l. Contains (seen l) k) (sym w.as_slice.ensures.value) has))) in
          let put : seen c.if-place.asked.items ≡ once ++ k ∷ [] = ap (λ v. seen v.items) w.asked-is ∙ (ap seen w.in_ok-push.ensures.items ∙ map-append (λ (d : Bor Condition). d.now) listed _) in
          subst (λ l. AreOnce l left) (sym put) (more_new once cs f i k within here are at new)
      | else-place w ↦
          let same : c.if-place.asked ≡ c.loop-condition.asked = w.asked-is in
          elim w.else-place.branch [
            | else-place-via-then-place+else-not-is_among w' ↦
                let at : k.field ≡ f = sym c.place.ensures.value ∙ (w'.if-place.true ∙ c.place-in-loop-condition.ensures.value) in
                let has : Contains once k = subst (λ l. Contains (seen l) k) w'.as_slice.ensures.value (w'.is_among.ensures.0 w'.if-not-is_among.false) in
                subst (λ v. AreOnce (seen v.items) left) (sym same) (more_again once cs f i k within here are at has)
            | else-place-via-else-place w' ↦
                let at : k.field ≢ f = λ is. w'.if-place.false (c.place.ensures.value ∙ (is ∙ sym c.place-in-loop-condition.ensures.value)) in
                subst (λ v. AreOnce (seen v.items) left) (sym same) (more_other once cs f i k within here are at)
          ]
    ]
