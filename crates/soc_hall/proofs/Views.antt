-- Lists of views, of which one changes or is new.
use Rattle.std.proofs.Common.{◌≡◌, ◌≢◌, ◌⊎◌, ℕ, zero, suc, ◌<◌, List, [], ◌∷◌, ◌++◌, length, set, sym, refl, ap, ◌∙◌, subst, inl, inr, ⊎_elim, arith}
use mathlib.Core.Option.{some, some-injective, some-ne-none}
use mathlib.Core.Logic.{dite}
use native.Mathlib.Decide.{ℕ_discrete}
use lib.ListN.{get_elem?}
use Rattle.atomic_table.proofs.Lists.{at_set, set_here, set_else, at_longer}
use Rattle.soc_hall.specs.declared.view.Entry.{Entry}
use Rattle.soc_hall.specs.declared.view.Stage.{Stage}
use Rattle.soc_hall.specs.declared.view.Stage.TheVariants.{Fresh, Idle, Waits, Turns, Away}
use Rattle.soc_hall.specs.declared.view.Known.{Known}
use Rattle.soc_hall.specs.declared.view.View.{View}
use Rattle.soc_hall.specs.Log.{changes_by}
use Rattle.soc_hall.specs.inner.Rule.{HasTicket, Sits, Speaks, HasOwners, AreAway}

-- the ticket of a stage, for telling two apart
abbrev pub ticket_no : Stage → ℕ
ticket_no Fresh = 0
ticket_no Idle = 0
ticket_no (Waits t) = t
ticket_no (Turns t) = t
ticket_no Away = 0

abbrev is_away : Stage → ℕ
is_away Fresh = 0
is_away Idle = 0
is_away (Waits t) = 0
is_away (Turns t) = 0
is_away Away = 1

one_zero : (a b : ℕ) → a ≡ b → a ≡ 0 → b ≡ 1 → ⊥
one_zero a b e f g = omega arith

pub fresh_away : {st : Stage} → st ≡ Fresh → st ≡ Away → ⊥
fresh_away a b = one_zero 0 1 (ap is_away (sym a ∙ b)) refl refl

pub idle_away : {st : Stage} → st ≡ Idle → st ≡ Away → ⊥
idle_away a b = one_zero 0 1 (ap is_away (sym a ∙ b)) refl refl

pub waits_away : {st : Stage} {t : ℕ} → st ≡ Waits t → st ≡ Away → ⊥
waits_away a b = one_zero 0 1 (ap is_away (sym a ∙ b)) refl refl

pub turns_away : {st : Stage} {t : ℕ} → st ≡ Turns t → st ≡ Away → ⊥
turns_away a b = one_zero 0 1 (ap is_away (sym a ∙ b)) refl refl

pub only_one : {A : Type 0} → (v : A) (j : ℕ) (d : A) → get_elem? (v ∷ []) j ≡ some d → (j ≡ 0) × (v ≡ d)
only_one v zero d e = (refl, some-injective v d e)
only_one v (suc j) d e = absurd (some-ne-none d (sym e))

module _ {A : Type 0} where
  -- what holds of each view still holds where one view changes
  pub seats_stay : (K : ℕ → A → Type 0) (vs : List A) (me : ℕ) (w : A) → K me w → ((j : ℕ) (d : A) → j ≢ me → get_elem? vs j ≡ some d → K j d)
      → (j : ℕ) (d : A) → get_elem? (set vs me w) j ≡ some d → K j d
  seats_stay K vs me w mine others j d e = ⊎_elim (λ (t : (j ≡ me) × (w ≡ d)). subst (λ (x : ℕ × A). K x.0 x.1) (λ i. (sym t.0 i, t.1 i)) mine)
      (λ (t : (j ≢ me) × (get_elem? vs j ≡ some d)). others j d t.0 t.1) (at_set vs me j w d e)

  pub at_below : (vs : List A) (j : ℕ) (v : A) → get_elem? vs j ≡ some v → j < length vs
  at_below [] j v e = absurd (some-ne-none v (sym e))
  at_below (x ∷ xs) zero v e = omega arith
  at_below (x ∷ xs) (suc j) v e = let r = at_below xs j v e in omega arith

  pub at_end : (l : List A) (a b : A) (j : ℕ) → get_elem? (l ++ a ∷ []) j ≡ some b → (get_elem? l j ≡ some b) ⊎ ((j ≡ length l) × (a ≡ b))
  at_end [] a b zero e = inr (refl, some-injective a b e)
  at_end [] a b (suc j) e = absurd (some-ne-none b (sym e))
  at_end (x ∷ xs) a b zero e = inl e
  at_end (x ∷ xs) a b (suc j) e = ⊎_elim inl (λ t. inr (ap suc t.0, t.1)) (at_end xs a b j e)

module _ {B X C P : Type 0} where
  -- the ticket of a changed view is nobody else's
  pub apart_set : (vs : List (View B X C P)) (me : ℕ) (w : View B X C P) → ((i j t : ℕ) (v u : View B X C P) → get_elem? vs i ≡ some v → get_elem? vs j ≡ some u → HasTicket t v.stage → HasTicket t u.stage → i ≡ j)
      → ((j t : ℕ) (d : View B X C P) → j ≢ me → get_elem? vs j ≡ some d → HasTicket t w.stage → HasTicket t d.stage → ⊥)
      → (i j t : ℕ) (v u : View B X C P) → get_elem? (set vs me w) i ≡ some v → get_elem? (set vs me w) j ≡ some u → HasTicket t v.stage → HasTicket t u.stage → i ≡ j
  apart_set vs me w apart alone i j t v u ei ej hv hu = ⊎_elim
      (λ (a : (i ≡ me) × (w ≡ v)). ⊎_elim
      (λ (b : (j ≡ me) × (w ≡ u)). a.0 ∙ sym b.0)
      (λ (b : (j ≢ me) × (get_elem? vs j ≡ some u)). absurd (alone j t u b.0 b.1 (subst (λ (z : View B X C P). HasTicket t z.stage) (sym a.1) hv) hu))
      (at_set vs me j w u ej))
      (λ (a : (i ≢ me) × (get_elem? vs i ≡ some v)). ⊎_elim
      (λ (b : (j ≡ me) × (w ≡ u)). absurd (alone i t v a.0 a.1 (subst (λ (z : View B X C P). HasTicket t z.stage) (sym b.1) hu) hv))
      (λ (b : (j ≢ me) × (get_elem? vs j ≡ some u)). apart i j t v u a.1 b.1 hv hu)
      (at_set vs me j w u ej))
      (at_set vs me i w v ei)

  pub away_set : (vs : List (View B X C P)) (id : ℕ) (v w : View B X C P) → get_elem? vs id ≡ some v → w.gone ≡ v.gone → (v.stage ≡ Away → w.stage ≡ Away) → AreAway vs → AreAway (set vs id w)
  away_set vs id v w at same stays old j k d g e h =
      let source : (u : View B X C P) × (get_elem? vs g.number ≡ some u) × (u.stage ≡ Away) = ⊎_elim
      (λ (t : (j ≡ id) × (w ≡ d)). old id k v g at (subst (λ (z : List (Known B X C P)). get_elem? z k ≡ some g) (sym (ap (λ (z : View B X C P). z.gone) t.1) ∙ same) h))
      (λ (t : (j ≢ id) × (get_elem? vs j ≡ some d)). old j k d g t.1 h)
      (at_set vs id j w d e) in dite (ℕ_discrete g.number id)
      (λ here. let one : source.0 ≡ v = some-injective source.0 v (sym source.1 ∙ (ap (λ (n : ℕ). get_elem? vs n) here ∙ at)) in
      (w, ap (λ (n : ℕ). get_elem? (set vs id w) n) here ∙ set_here vs id w (at_below vs id v at), stays (sym (ap (λ (z : View B X C P). z.stage) one) ∙ source.2)))
      (λ other. (source.0, set_else vs id g.number w other ∙ source.1, source.2))

  pub owners_set : (vs : List (View B X C P)) (id : ℕ) (v w : View B X C P) (log log' : List (Entry X)) → get_elem? vs id ≡ some v → (Sits v.stage → Sits w.stage × (w.number ≡ v.number) × (w.gone ≡ v.gone))
      → ((j : ℕ) → (changes_by j log' ≡ changes_by j log) ⊎ ((w.number ≡ j) × Sits w.stage)) → HasOwners log vs → HasOwners log' (set vs id w)
  owners_set vs id v w log log' at sits by old j = ⊎_elim
      (λ (same : changes_by j log' ≡ changes_by j log). ⊎_elim
      (λ (none_by : changes_by j log ≡ []). inl (same ∙ none_by))
      (λ (o : (i : ℕ) × (u : View B X C P) × (get_elem? vs i ≡ some u) × Speaks j u). inr (dite (ℕ_discrete o.0 id)
      (λ here. let one : o.1 ≡ v = some-injective o.1 v (sym o.2 ∙ (ap (λ (n : ℕ). get_elem? vs n) here ∙ at)) in
      let sp : Speaks j v = subst (Speaks j) one o.3 in
      let t = sits sp.0 in
      (id, w, set_here vs id w (at_below vs id v at), (t.0, subst (λ (z : ℕ × List (Known B X C P)). (z.0 ≡ j) ⊎ ((k : ℕ) × (g : Known B X C P) × (get_elem? z.1 k ≡ some g) × (g.number ≡ j))) (λ q. (sym t.1 q, sym t.2 q)) sp.1)))
      (λ other. (o.0, o.1, set_else vs id o.0 w other ∙ o.2, o.3))))
      (old j))
      (λ (mine : (w.number ≡ j) × Sits w.stage). inr (id, w, set_here vs id w (at_below vs id v at), (mine.1, inl mine.0)))
      (by j)

  pub away_snoc : (vs : List (View B X C P)) (n : View B X C P) → n.gone ≡ [] → AreAway vs → AreAway (vs ++ n ∷ [])
  away_snoc vs n none_gone old j k d g e h = let source : (u : View B X C P) × (get_elem? vs g.number ≡ some u) × (u.stage ≡ Away) = ⊎_elim
      (λ (o : get_elem? vs j ≡ some d). old j k d g o h)
      (λ (t : (j ≡ length vs) × (n ≡ d)). absurd (some-ne-none g (sym h ∙ ap (λ (z : List (Known B X C P)). get_elem? z k) (sym (ap (λ (z : View B X C P). z.gone) t.1) ∙ none_gone))))
      (at_end vs n d j e) in (source.0, at_longer vs (n ∷ []) g.number source.0 source.1, source.2)

  pub owners_snoc : (vs : List (View B X C P)) (n : View B X C P) (log : List (Entry X)) → HasOwners log vs → HasOwners log (vs ++ n ∷ [])
  owners_snoc vs n log old j = ⊎_elim (λ (e : changes_by j log ≡ []). inl e) (λ (o : (i : ℕ) × (u : View B X C P) × (get_elem? vs i ≡ some u) × Speaks j u). inr (o.0, o.1, at_longer vs (n ∷ []) o.0 o.1 o.2, o.3)) (old j)
