-- A seat takes another in, and the seat that has taken in all others closes the hall.
use Rattle.std.proofs.Common.{◌≡◌, ◌≢◌, ℕ, zero, suc, ◌+◌, ◌<◌, ◌≤◌, List, [], ◌∷◌, ◌++◌, length, set, sym, refl, ap, ◌∙◌, subst, inl, inr, ⊎_elim, arith, length-set}
use Rattle.std.specs.Prelude.{Some, All}
use mathlib.Core.Option.{Option, some, some-injective, some-ne-none}
use mathlib.Core.Logic.{dite}
use native.Mathlib.Decide.{ℕ_discrete}
use lib.ListN.{get_elem?}
use Rattle.atomic_table.specs.Table.{State, Joins, Final, Seen}
use Rattle.atomic_table.proofs.Lists.{at_set, set_here, set_else, at_longer, at_last}
use Rattle.soc_hall.specs.declared.view.Place.{Place}
use Rattle.soc_hall.specs.declared.view.Place.TheVariants.{Empty, Rest, Done}
use Rattle.soc_hall.specs.declared.view.Entry.{Entry}
use Rattle.soc_hall.specs.declared.view.Stage.{Stage}
use Rattle.soc_hall.specs.declared.view.Stage.TheVariants.{Fresh, Idle, Waits, Turns, Away}
use Rattle.soc_hall.specs.declared.view.Known.{Known}
use Rattle.soc_hall.specs.declared.view.View.{View}
use Rattle.soc_hall.specs.Log.{changes_by, pieces}
use Rattle.soc_hall.specs.Seats.{known}
use Rattle.soc_hall.specs.inner.Rule.{Sits, Speaks, tickets, HasTicket, HasTurn, Holds, total, IsMine, FitsStage, Fits, IsHome, IsOut, Kept}
use Rattle.soc_hall.specs.inner.Steps.{spent, taking_in}
use Rattle.soc_hall.specs.Asked.{HasPart, IsState, Closes}
use Rattle.soc_hall.proofs.Logs.{total_set}
use Rattle.soc_hall.proofs.Views.{idle_away, seats_stay, apart_set, at_end, at_below}
use Rattle.soc_hall.proofs.Kept.{place_stays}
use Rattle.soc_hall.proofs.Meets.{blank_fits}

module _ {T C P : Type 0} where
  holds_map : (Q R : T → Type 0) (x : Place T C P) → ((y : T) → Q y → R y) → Holds Q x → Holds R x
  holds_map Q R Empty f h = h
  holds_map Q R (Rest y) f h = f y h
  holds_map Q R (Done y c p) f h = f y h

module _ {A : Type 0} (Q : A → Type 0) where
  pub all_at : (xs : List A) → ((k : ℕ) (x : A) → get_elem? xs k ≡ some x → Q x) → All Q xs
  all_at [] each k d l = absurd (omega arith)
  all_at (x ∷ xs) each zero d l = each 0 x refl
  all_at (x ∷ xs) each (suc k) d l = all_at xs (λ j y e. each (suc j) y e) k d (omega arith)

module _ {V : Type 0} (f : V → ℕ) where
  at_total : (vs : List V) (j : ℕ) (v : V) → get_elem? vs j ≡ some v → f v ≤ total f vs
  at_total [] j v e = absurd (some-ne-none v (sym e))
  at_total (x ∷ xs) zero v e = let is : f x ≡ f v = ap f (some-injective x v e) in omega arith
  at_total (x ∷ xs) (suc j) v e = let r = at_total xs j v e in omega arith

  two_total : (vs : List V) (i j : ℕ) (v w : V) → get_elem? vs i ≡ some v → get_elem? vs j ≡ some w → i ≢ j → f v + f w ≤ total f vs
  two_total [] i j v w e g ne = absurd (some-ne-none v (sym e))
  two_total (x ∷ xs) zero zero v w e g ne = absurd (ne refl)
  two_total (x ∷ xs) zero (suc j) v w e g ne = let is : f x ≡ f v = ap f (some-injective x v e) in let r = at_total xs j w g in omega arith
  two_total (x ∷ xs) (suc i) zero v w e g ne = let is : f x ≡ f w = ap f (some-injective x w g) in let r = at_total xs i v e in omega arith
  two_total (x ∷ xs) (suc i) (suc j) v w e g ne = let r = two_total xs i j v w e g (λ q. ne (ap suc q)) in omega arith

module _ {T B X C P : Type 0} (log_of : T → List X) (basis_of : T → B) (answers : B → List X → C → P → List X → Type 0) (basis : B) (opening : List X) (seats : ℕ) where
  abbrev V : Type 0
  V = View B X C P

  abbrev S : Type 0
  S = Place T C P

  abbrev St : Type 0
  St = State S V

  abbrev Rule : St → Type 0
  Rule = Kept log_of basis_of answers basis opening seats

  abbrev Fit : List (Entry X) → ℕ → ℕ → ℕ → V → Type 0
  Fit = Fits answers basis opening

  -- two seats at one place are one
  one_at : (vs : List V) (i j : ℕ) (u v : V) → i ≡ j → get_elem? vs i ≡ some u → get_elem? vs j ≡ some v → u ≡ v
  one_at vs i j u v same eu ev = some-injective u v (sym eu ∙ (ap (λ (k : ℕ). get_elem? vs k) same ∙ ev))

  not_away : (vs : List V) (i j : ℕ) (u v : V) → get_elem? vs i ≡ some u → u.stage ≡ Away → get_elem? vs j ≡ some v → v.stage ≡ Idle → i ≢ j
  not_away vs i j u v eu away ev idle same = idle_away (ap (λ (z : V). z.stage) (one_at vs i j u v same eu ev) ∙ idle) away

  pub takes_in : (id : ℕ) (v : V) (other : ℕ) (w : V) → v.stage ≡ Idle → w.stage ≡ Idle → w.gone ≡ [] → Joins Rule id v other w (taking_in v w) spent
  takes_in id v other w idle idle' none_gone s r at ne there =
      let b : V = taking_in v w in
      let vs1 : List V = set s.views id (taking_in v w) in
      let vs2 : List V = set (set s.views id (taking_in v w)) other spent in
      let theirs : get_elem? s.views other ≡ some w = sym (set_else s.views id other b ne) ∙ there in
      let f : Fit r.log r.drawn r.served id v = r.each_seat id v at in
      let fw : Fit r.log r.drawn r.served other w = r.each_seat other w theirs in
      let mine : IsMine basis opening r.log id v = subst (λ (st : Stage). FitsStage basis opening r.log r.drawn r.served id v st) idle f.stage in
      let mine_w : IsMine basis opening r.log other w = subst (λ (st : Stage). FitsStage basis opening r.log r.drawn r.served other w st) idle' fw.stage in
      let before_w : (k : ℕ) (g : Known B X C P) → get_elem? v.gone k ≡ some g → g.number ≢ w.number = λ k g e same.
      let a = r.away id k v g at e in not_away s.views g.number other a.0 w a.1 a.2 theirs idle' (same ∙ mine_w.number_is) in
      let lift : (n : ℕ) (u : V) → get_elem? s.views n ≡ some u → u.stage ≡ Away → get_elem? vs2 n ≡ some u = λ n u e away.
      set_else vs1 other n spent (not_away s.views n other u w e away theirs idle') ∙ (set_else s.views id n b (not_away s.views n id u v e away at idle) ∙ e) in
      let b_there : get_elem? vs2 id ≡ some b = set_else vs1 other id spent (λ e. ne (sym e)) ∙ set_here s.views id b (at_below s.views id v at) in
      let fit_b : Fit r.log r.drawn r.served id b = record {
        seen = f.seen;
        told = f.told;
        stage = subst (λ (st : Stage). FitsStage basis opening r.log r.drawn r.served id b st) (sym idle)
            record { basis_is = mine.basis_is; opening_is = mine.opening_is; some_part = let q = mine.some_part in omega arith; number_is = mine.number_is; in_log = mine.in_log; in_seen = mine.in_seen };
        stands = f.stands;
        gone = λ k g e. ⊎_elim (λ (o : get_elem? v.gone k ≡ some g). f.gone k g o)
            (λ (n : (k ≡ length v.gone) × (known w ≡ g)). subst (HasPart answers basis opening r.log) n.1 record { basis_is = mine_w.basis_is; opening_is = mine_w.opening_is; seen = fw.seen; mine = subst (λ (m : ℕ). changes_by m r.log ≡ pieces w.turns) (sym mine_w.number_is) mine_w.in_log; turns = fw.stands })
            (at_end v.gone (known w) g k e);
        distinct = λ k l g h ek el same. ⊎_elim
            (λ (ok : get_elem? v.gone k ≡ some g). ⊎_elim
            (λ (ol : get_elem? v.gone l ≡ some h). f.distinct k l g h ok ol same)
            (λ (nl : (l ≡ length v.gone) × (known w ≡ h)). absurd (before_w k g ok (same ∙ sym (ap (λ (z : Known B X C P). z.number) nl.1))))
            (at_end v.gone (known w) h l el))
            (λ (nk : (k ≡ length v.gone) × (known w ≡ g)). ⊎_elim
            (λ (ol : get_elem? v.gone l ≡ some h). absurd (before_w l h ol (sym same ∙ sym (ap (λ (z : Known B X C P). z.number) nk.1))))
            (λ (nl : (l ≡ length v.gone) × (known w ≡ h)). nk.0 ∙ sym nl.0)
            (at_end v.gone (known w) h l el))
            (at_end v.gone (known w) g k ek);
      } in record {
        log = r.log;
        drawn = r.drawn;
        served = r.served;
        words = r.words;
        few = let e : total (λ (u : V). u.parts) vs1 + v.parts ≡ total (λ (u : V). u.parts) s.views + (v.parts + w.parts) = total_set (λ (u : V). u.parts) s.views id v b at in
            let e2 : total (λ (u : V). u.parts) vs2 + w.parts ≡ total (λ (u : V). u.parts) vs1 + 0 = total_set (λ (u : V). u.parts) vs1 other w spent there in let o = r.few in omega arith;
        at_most = r.at_most;
        out = let e : total (λ (u : V). tickets u.stage) vs1 + tickets v.stage ≡ total (λ (u : V). tickets u.stage) s.views + tickets v.stage = total_set (λ (u : V). tickets u.stage) s.views id v b at in
            let e2 : total (λ (u : V). tickets u.stage) vs2 + tickets w.stage ≡ total (λ (u : V). tickets u.stage) vs1 + 0 = total_set (λ (u : V). tickets u.stage) vs1 other w spent there in
            let z : tickets w.stage ≡ 0 = ap tickets idle' in let o = r.out in omega arith;
        each_seat = seats_stay (Fit r.log r.drawn r.served) vs1 other spent (blank_fits log_of basis_of answers basis opening seats r.log r.drawn r.served other [] (r.log, refl))
            (λ j d ne' e. seats_stay (Fit r.log r.drawn r.served) s.views id b fit_b (λ i u _ e'. r.each_seat i u e') j d e);
        apart = apart_set vs1 other spent
            (apart_set s.views id b r.apart (λ j t d ne' e hb hd. subst (HasTicket t) idle hb)) (λ j t d ne' e hs hd. hs);
        unused = λ j l. r.unused j (let e : length vs1 ≡ length s.views = length-set s.views id b in let e2 : length vs2 ≡ length vs1 = length-set vs1 other spent in omega arith);
        away = λ j k d g e h. ⊎_elim
            (λ (t : (j ≡ other) × (spent ≡ d)). absurd (some-ne-none g (sym h ∙ ap (λ (z : V). get_elem? z.gone k) (sym t.1))))
            (λ (t : (j ≢ other) × (get_elem? vs1 j ≡ some d)). ⊎_elim
            (λ (q : (j ≡ id) × (b ≡ d)). ⊎_elim
            (λ (o : get_elem? v.gone k ≡ some g). let a = r.away id k v g at o in (a.0, lift g.number a.0 a.1 a.2, a.2))
            (λ (n : (k ≡ length v.gone) × (known w ≡ g)).
            let here : g.number ≡ other = sym (ap (λ (z : Known B X C P). z.number) n.1) ∙ mine_w.number_is in
            (spent, ap (λ (m : ℕ). get_elem? vs2 m) here ∙ set_here vs1 other spent (at_below vs1 other w there), refl))
            (at_end v.gone (known w) g k (subst (λ (z : V). get_elem? z.gone k ≡ some g) (sym q.1) h)))
            (λ (q : (j ≢ id) × (get_elem? s.views j ≡ some d)). let a = r.away j k d g q.1 h in (a.0, lift g.number a.0 a.1 a.2, a.2))
            (at_set s.views id j b d t.1))
            (at_set vs1 other j spent d e);
        owners = λ j. ⊎_elim (λ (e : changes_by j r.log ≡ []). inl e)
            (λ (o : (i : ℕ) × (u : V) × (get_elem? s.views i ≡ some u) × Speaks j u). inr (dite (ℕ_discrete o.0 id)
            (λ here. let sp : Speaks j v = subst (Speaks j) (one_at s.views o.0 id o.1 v here o.2 at) o.3 in
            (id, b, b_there, (sp.0, ⊎_elim (λ (n : v.number ≡ j). inl n) (λ (g : (k : ℕ) × (g : Known B X C P) × (get_elem? v.gone k ≡ some g) × (g.number ≡ j)). inr (g.0, g.1, at_longer v.gone (known w ∷ []) g.0 g.1 g.2, g.3)) sp.1)))
            (λ elsewhere. dite (ℕ_discrete o.0 other)
            (λ here. let sp : Speaks j w = subst (Speaks j) (one_at s.views o.0 other o.1 w here o.2 theirs) o.3 in (
              id,
              b,
              b_there,
              (
                subst Sits (sym idle) tt,
                ⊎_elim (λ (n : w.number ≡ j). inr (length v.gone, known w, at_last v.gone (known w) (length v.gone) refl, n))
                    (λ (g : (k : ℕ) × (g : Known B X C P) × (get_elem? w.gone k ≡ some g) × (g.number ≡ j)). absurd (some-ne-none g.1 (sym g.2 ∙ ap (λ (z : List (Known B X C P)). get_elem? z g.0) none_gone))) sp.1,
              ),
            ))
            (λ elsewhere'. (o.0, o.1, set_else vs1 other o.0 spent elsewhere' ∙ (set_else s.views id o.0 b elsewhere ∙ o.2), o.3)))))
            (r.owners j);
        place = place_stays log_of basis_of answers basis opening seats r.log record { words = s.words; homes = s.homes; views = vs1 } s.words other w spent there (λ h. subst HasTurn idle' h) (λ h. h)
            (place_stays log_of basis_of answers basis opening seats r.log s s.words id v b at (λ h. subst HasTurn idle h) (λ h. subst HasTurn idle h) r.place);
      }

  sits_part : (log : List (Entry X)) (drawn served j : ℕ) (v : V) (st : Stage) → FitsStage basis opening log drawn served j v st → Sits st → 0 < v.parts
  sits_part log drawn served j v Fresh f h = absurd h
  sits_part log drawn served j v Idle f h = f.some_part
  sits_part log drawn served j v (Waits t) f h = f.0.some_part
  sits_part log drawn served j v (Turns t) f h = f.0.some_part
  sits_part log drawn served j v Away f h = absurd h

  turn_sits : (st : Stage) → HasTurn st → Sits st
  turn_sits Fresh h = absurd h
  turn_sits Idle h = absurd h
  turn_sits (Waits t) h = tt
  turn_sits (Turns t) h = tt
  turn_sits Away h = absurd h

  -- the seat with all parts is the only one
  only_seat : (s : St) (r : Rule s) (id i : ℕ) (v u : V) → get_elem? s.views id ≡ some v → v.parts ≡ seats → get_elem? s.views i ≡ some u → Sits u.stage → i ≡ id
  only_seat s r id i v u at all e sits = dite (ℕ_discrete i id) (λ same. same) (λ ne.
      let two : u.parts + v.parts ≤ total (λ (z : V). z.parts) s.views = two_total (λ (z : V). z.parts) s.views i id u v e at ne in
      let some_of : 0 < u.parts = sits_part r.log r.drawn r.served i u u.stage (r.each_seat i u e).stage sits in let o = r.few in absurd (omega arith))

  pub closes : (id : ℕ) (v : V) (ws : List ℕ) (xs : List S) (x : S) → v.stage ≡ Idle → v.parts ≡ seats → Final (Seen Rule id v) ws xs → get_elem? xs 0 ≡ some x → Holds (λ y. Closes answers (log_of y) (basis_of y) (v.gone ++ known v ∷ [])) x
  closes id v ws xs x idle all fin there =
      let s : St = fin.0 in
      let r : Rule s = fin.1.0 in
      let at : get_elem? s.views id ≡ some v = fin.1.1 in
      let f : Fit r.log r.drawn r.served id v = r.each_seat id v at in
      let mine : IsMine basis opening r.log id v = subst (λ (st : Stage). FitsStage basis opening r.log r.drawn r.served id v st) idle f.stage in
      let no_turn : (j : ℕ) (u : V) → get_elem? s.views j ≡ some u → HasTurn u.stage → ⊥ = λ j u e turn.
      subst HasTurn (ap (λ (z : V). z.stage) (one_at s.views j id u v (only_seat s r id j v u at all e (turn_sits u.stage turn)) e at) ∙ idle) turn in
      let home : IsHome log_of basis_of basis opening r.log s = ⊎_elim (λ (h : IsHome log_of basis_of basis opening r.log s). h) (λ (o : IsOut s). absurd (no_turn o.0 o.1 o.3 o.4)) r.place in
      let it : home.0 ≡ x = some-injective home.0 x (sym (fin.4 0 home.0 (ap (λ (hs : List (Option S)). get_elem? hs 0) home.1)) ∙ there) in
      let others : (k : ℕ) (g : Known B X C P) → get_elem? v.gone k ≡ some g → g.number ≢ v.number = λ k g e same.
      let a = r.away id k v g at e in not_away s.views g.number id a.0 v a.1 a.2 at idle (same ∙ mine.number_is) in
      holds_map (IsState log_of basis_of (Some basis) opening r.log) (λ y. Closes answers (log_of y) (basis_of y) (v.gone ++ known v ∷ [])) x
      (λ y state. record {
        opening = opening;
        entries = r.log;
        log_is = state.0;
        parts = all_at (HasPart answers (basis_of y) opening r.log) (v.gone ++ known v ∷ []) (λ k g e.
            let part : HasPart answers basis opening r.log g = ⊎_elim
            (λ (o : get_elem? v.gone k ≡ some g). f.gone k g o)
            (λ (n : (k ≡ length v.gone) × (known v ≡ g)). subst (HasPart answers basis opening r.log) n.1 record { basis_is = mine.basis_is; opening_is = mine.opening_is; seen = f.seen; mine = subst (λ (n : ℕ). changes_by n r.log ≡ pieces v.turns) (sym mine.number_is) mine.in_log; turns = f.stands })
            (at_end v.gone (known v) g k e) in
            record { basis_is = part.basis_is ∙ state.1; opening_is = part.opening_is; seen = part.seen; mine = part.mine; turns = part.turns });
        owners = λ j. ⊎_elim (λ (e : changes_by j r.log ≡ []). inl e)
            (λ (o : (i : ℕ) × (u : V) × (get_elem? s.views i ≡ some u) × Speaks j u). inr (⊎_elim
            (λ (n : v.number ≡ j). (length v.gone, known v, at_last v.gone (known v) (length v.gone) refl, n))
            (λ (g : (k : ℕ) × (g : Known B X C P) × (get_elem? v.gone k ≡ some g) × (g.number ≡ j)). (g.0, g.1, at_longer v.gone (known v ∷ []) g.0 g.1 g.2, g.3))
            (subst (Speaks j) (one_at s.views o.0 id o.1 v (only_seat s r id o.0 v o.1 at all o.2 o.3.0) o.2 at) o.3).1))
            (r.owners j);
        distinct = λ k l g h ek el same. ⊎_elim
            (λ (ok : get_elem? v.gone k ≡ some g). ⊎_elim
            (λ (ol : get_elem? v.gone l ≡ some h). f.distinct k l g h ok ol same)
            (λ (nl : (l ≡ length v.gone) × (known v ≡ h)). absurd (others k g ok (same ∙ sym (ap (λ (z : Known B X C P). z.number) nl.1))))
            (at_end v.gone (known v) h l el))
            (λ (nk : (k ≡ length v.gone) × (known v ≡ g)). ⊎_elim
            (λ (ol : get_elem? v.gone l ≡ some h). absurd (others l h ol (sym same ∙ sym (ap (λ (z : Known B X C P). z.number) nk.1))))
            (λ (nl : (l ≡ length v.gone) × (known v ≡ h)). nk.0 ∙ sym nl.0)
            (at_end v.gone (known v) h l el))
            (at_end v.gone (known v) g k ek);
      })
      (subst (Holds (IsState log_of basis_of (Some basis) opening r.log)) it home.2)
