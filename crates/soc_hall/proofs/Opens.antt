-- The hall opens with its rule, and a seat is cut in two and numbered under it.
use Rattle.std.proofs.Common.{◌≡◌, ℕ, ◌+◌, ◌-◌, ◌<◌, ◌≤◌, List, [], ◌∷◌, ◌++◌, length, get_or, set, sym, refl, ap, ◌∙◌, subst, inl, inr, ⊎_elim, arith, length-set, add-zero, length-append}
use mathlib.Core.Option.{some, none, some-injective, some-ne-none}
use mathlib.Core.List.{append-nil}
use lib.ListN.{get_elem?}
use lib.Seq.{set-get_or}
use Rattle.atomic_table.specs.Table.{State, Me, keeps, step, Allows, Splits, opening as table_opens}
use Rattle.atomic_table.proofs.Lists.{set_else, at_longer}
use Rattle.soc_hall.specs.declared.view.Place.{Place}
use Rattle.soc_hall.specs.declared.view.Place.TheVariants.{Rest}
use Rattle.soc_hall.specs.declared.view.Entry.{Entry}
use Rattle.soc_hall.specs.declared.view.Turn.{Turn}
use Rattle.soc_hall.specs.declared.view.Stage.{Stage}
use Rattle.soc_hall.specs.declared.view.Stage.TheVariants.{Fresh, Idle}
use Rattle.soc_hall.specs.declared.view.Start.{Start}
use Rattle.soc_hall.specs.declared.view.View.{View}
use Rattle.soc_hall.specs.Log.{pieces}
use Rattle.std.specs.Prelude.{Some}
use Rattle.soc_hall.specs.inner.Rule.{Sits, tickets, HasTicket, HasTurn, total, starting, IsMine, FitsStage, Fits, IsHome, IsOut, Kept}
use Rattle.soc_hall.specs.inner.Steps.{keeping, given, numbered_as, numbered, counted}
use Rattle.soc_hall.proofs.Views.{fresh_away, only_one, seats_stay, apart_set, at_end, away_set, owners_set, away_snoc, owners_snoc}
use Rattle.soc_hall.proofs.Logs.{none_seen, total_set, total_snoc}
use Rattle.soc_hall.proofs.Kept.{place_stays, few_stays}

module _ {T B X C P : Type 0} (log_of : T → List X) (basis_of : T → B) (answers : B → List X → C → P → List X → Type 0) (basis : B) (opening : List X) (seats : ℕ) where
  abbrev V : Type 0
  V = View B X C P

  abbrev S : Type 0
  S = Place T C P

  abbrev St : Type 0
  St = State S V

  abbrev Rule : St → Type 0
  Rule = Kept log_of basis_of answers basis opening seats

  abbrev Fit : List (Entry X) → ℕ → ℕ → ℕ → V → Type 0
  Fit = Fits answers basis opening

  pub splits : (id : ℕ) (v : V) → v.stage ≡ Idle → 1 < v.parts → Splits Rule id v (keeping v) (given v)
  splits id v idle more s r at =
      let f : Fit r.log r.drawn r.served id v = r.each_seat id v at in
      let mine : IsMine basis opening r.log id v = subst (λ (st : Stage). FitsStage basis opening r.log r.drawn r.served id v st) idle f.stage in
      let l : V = keeping v in
      let n : V = given v in
      let vs : List V = set s.views id (keeping v) in
      let same : length vs ≡ length s.views = length-set s.views id l in record {
        log = r.log;
        drawn = r.drawn;
        served = r.served;
        words = r.words;
        few = let a : total (λ (u : V). u.parts) (vs ++ n ∷ []) ≡ total (λ (u : V). u.parts) vs + 1 = total_snoc (λ (u : V). u.parts) vs n in
            let e : total (λ (u : V). u.parts) vs + v.parts ≡ total (λ (u : V). u.parts) s.views + (v.parts - 1) = total_set (λ (u : V). u.parts) s.views id v l at in let o = r.few in omega arith;
        at_most = r.at_most;
        out = let a : total (λ (u : V). tickets u.stage) (vs ++ n ∷ []) ≡ total (λ (u : V). tickets u.stage) vs + 0 = total_snoc (λ (u : V). tickets u.stage) vs n in
            let e : total (λ (u : V). tickets u.stage) vs + tickets v.stage ≡ total (λ (u : V). tickets u.stage) s.views + tickets v.stage = total_set (λ (u : V). tickets u.stage) s.views id v l at in let o = r.out in omega arith;
        each_seat = λ j d e. ⊎_elim
            (λ (old : get_elem? vs j ≡ some d). seats_stay (Fit r.log r.drawn r.served) s.views id l
            record { seen = f.seen; told = f.told; stage = subst (λ (st : Stage). FitsStage basis opening r.log r.drawn r.served id l st) (sym idle) record { basis_is = mine.basis_is; opening_is = mine.opening_is; some_part = omega arith; number_is = mine.number_is; in_log = mine.in_log; in_seen = mine.in_seen }; stands = f.stands; gone = f.gone; distinct = f.distinct }
            (λ i u ne at'. r.each_seat i u at') j d old)
            (λ (new : (j ≡ length vs) × (n ≡ d)). subst (λ (z : V). Fit r.log r.drawn r.served j z) new.1
            record { seen = f.seen; told = f.told; stage = (mine.basis_is, mine.opening_is, omega arith, r.unused j (let k = new.0 in omega arith), refl); stands = λ i u none_there. absurd (some-ne-none u (sym none_there)); gone = λ i u none_there. absurd (some-ne-none u (sym none_there)); distinct = λ i k u h none_there. absurd (some-ne-none u (sym none_there)) })
            (at_end vs n d j e);
        apart = λ i j t a b ei ej ha hb. ⊎_elim
            (λ (oi : get_elem? vs i ≡ some a). ⊎_elim
            (λ (oj : get_elem? vs j ≡ some b). apart_set s.views id l r.apart (λ q u d ne e hw hd. ne (r.apart q id u d v e at hd hw)) i j t a b oi oj ha hb)
            (λ (nj : (j ≡ length vs) × (n ≡ b)). absurd (subst (λ (z : V). HasTicket t z.stage) (sym nj.1) hb))
            (at_end vs n b j ej))
            (λ (ni : (i ≡ length vs) × (n ≡ a)). absurd (subst (λ (z : V). HasTicket t z.stage) (sym ni.1) ha))
            (at_end vs n a i ei);
        unused = λ j long. r.unused j (let e : length (vs ++ n ∷ []) ≡ length vs + 1 = length-append vs (n ∷ []) in omega arith);
        away = away_snoc vs n refl (away_set s.views id v l at refl (λ a. a) r.away);
        owners = owners_snoc vs n r.log (owners_set s.views id v l r.log r.log at (λ z. (z, refl, refl)) (λ j. inl refl) r.owners);
        place = ⊎_elim
            (λ (h : IsHome log_of basis_of basis opening r.log s). inl (
              h.0,
              h.1,
              h.2,
              λ j d e turn. ⊎_elim
                  (λ (old : get_elem? vs j ≡ some d). seats_stay (λ i u. HasTurn u.stage → ⊥) s.views id l (λ z. subst HasTurn idle z) (λ i u ne at' z. h.3 i u at' z) j d old turn)
                  (λ (new : (j ≡ length vs) × (n ≡ d)). subst (λ (z : V). HasTurn z.stage) (sym new.1) turn)
                  (at_end vs n d j e),
            ))
            (λ (o : IsOut s). inr (
              o.0,
              o.1,
              o.2,
              at_longer vs (n ∷ []) o.0 o.1 (set_else s.views id o.0 l (λ (e : o.0 ≡ id).
                  subst HasTurn (ap (λ (z : V). z.stage) (some-injective o.1 v (sym o.3 ∙ (ap (λ (k : ℕ). get_elem? s.views k) e ∙ at))) ∙ idle) o.4) ∙ o.3),
              o.4,
            ))
            r.place;
      }

  pub numbers : (slots id : ℕ) (me : Me S V) → me.0.stage ≡ Fresh → Allows Rule slots id me 0 (λ n. n) (numbered (step slots 0 0 0 none) me)
  numbers slots id me fresh s r _ at _ =
      let v : V = me.0 in
      let w : V = numbered_as id me.0 in
      let f : Fit r.log r.drawn r.served id v = r.each_seat id v at in
      let fs : FitsStage basis opening r.log r.drawn r.served id v Fresh = subst (λ (st : Stage). FitsStage basis opening r.log r.drawn r.served id v st) fresh f.stage in (
        w,
        keeps,
        tt,
        record {
          log = r.log;
          drawn = r.drawn;
          served = r.served;
          words = set-get_or s.words 0 0 ∙ r.words;
          few = few_stays log_of basis_of answers basis opening seats s r id v w at refl;
          at_most = r.at_most;
          out = let e : total (λ (u : V). tickets u.stage) (set s.views id w) + tickets v.stage ≡ total (λ (u : V). tickets u.stage) s.views + 0 = total_set (λ (u : V). tickets u.stage) s.views id v w at in
              let z : tickets v.stage ≡ 0 = ap tickets fresh in let o = r.out in omega arith;
          each_seat = seats_stay (Fit r.log r.drawn r.served) s.views id w
              record {
                seen = f.seen;
                told = f.told;
                stage = record { basis_is = fs.0; opening_is = fs.1; some_part = fs.2; number_is = refl; in_log = fs.3 ∙ sym (ap pieces fs.4); in_seen = none_seen id v.seen r.log f.seen fs.3 ∙ sym (ap pieces fs.4) };
                stands = λ i u e. absurd (some-ne-none u (sym e ∙ ap (λ (ts : List (Turn X C P)). get_elem? ts i) fs.4));
                gone = f.gone;
                distinct = f.distinct;
              }
              (λ j d ne e. r.each_seat j d e);
          apart = apart_set s.views id w r.apart (λ j t d ne e hw hd. hw);
          unused = λ j l. r.unused j (let e : length (set s.views id w) ≡ length s.views = length-set s.views id w in omega arith);
          away = away_set s.views id v w at refl (λ a. absurd (fresh_away fresh a)) r.away;
          owners = owners_set s.views id v w r.log r.log at (λ z. absurd (subst Sits fresh z)) (λ j. inl refl) r.owners;
          place = place_stays log_of basis_of answers basis opening seats r.log s (set s.words 0 (get_or s.words 0 0)) id v w at (λ h. subst HasTurn fresh h) (λ h. h) r.place;
        },
        (id, refl),
      )

  pub starts : (n : ℕ) (x : T) → 0 < seats → seats ≤ 64 → n ≡ length (log_of x) → log_of x ≡ opening → basis_of x ≡ basis → Rule (table_opens (n ∷ 0 ∷ 0 ∷ []) (Rest x ∷ []) (starting basis opening seats))
  starts n x some_seat few is log_is basis_is =
      let v : V = starting basis opening seats in
      let only : (j : ℕ) (d : V) → get_elem? (v ∷ []) j ≡ some d → (j ≡ 0) × (v ≡ d) = only_one v in record {
        log = [];
        drawn = 0;
        served = 0;
        words = ap (λ (k : ℕ). k ∷ 0 ∷ 0 ∷ []) (is ∙ (ap length log_is ∙ sym (add-zero (length opening))));
        few = omega arith;
        at_most = few;
        out = refl;
        each_seat = λ j d e. let o = only j d e in subst (λ (z : ℕ × V). Fit [] 0 0 z.0 z.1) (λ k. (sym o.0 k, o.1 k))
            record { seen = ([], refl); told = ([], refl); stage = record { basis_is = refl; opening_is = refl; some_part = omega arith; number_is = refl; in_log = refl; in_seen = refl }; stands = λ i u none_there. absurd (some-ne-none u (sym none_there)); gone = λ i u none_there. absurd (some-ne-none u (sym none_there)); distinct = λ i k u h none_there. absurd (some-ne-none u (sym none_there)) };
        apart = λ i j t a b ei ej ha hb. (only i a ei).0 ∙ sym (only j b ej).0;
        unused = λ j l. refl;
        away = λ j k d g e h. absurd (some-ne-none g (sym h ∙ ap (λ (z : V). get_elem? z.gone k) (sym (only j d e).1)));
        owners = λ j. inl refl;
        place = inl (Rest x, refl, (log_is ∙ sym (append-nil opening), ap (λ (z : B). Some z) (sym basis_is)), λ j d e turn. subst (λ (z : V). HasTurn z.stage) (sym (only j d e).1) turn);
      }

module _ {T B X C P : Type 0} (log_of : T → List X) (basis_of : T → B) (answers : B → List X → C → P → List X → Type 0) where
  -- of a key that is what the hall is made of
  pub starts_with : (n : ℕ) (x : T) (seats : ℕ) (key : Start T) (slots : List (Place T C P)) → 0 < seats → seats ≤ 64 → n ≡ length (log_of x) → key.state.value ≡ x → key.seats ≡ seats → slots ≡ Rest x ∷ []
      → Kept log_of basis_of answers (basis_of key.state.value) (log_of key.state.value) key.seats (table_opens (n ∷ 0 ∷ 0 ∷ []) slots (starting (basis_of key.state.value) (log_of key.state.value) key.seats))
  starts_with n x seats key slots some_seat few is same counted slots_is = subst
      (λ (z : T × ℕ × List (Place T C P)). Kept log_of basis_of answers (basis_of z.0) (log_of z.0) z.1 (table_opens (n ∷ 0 ∷ 0 ∷ []) z.2 (starting (basis_of z.0) (log_of z.0) z.1)))
      (λ k. (sym same k, sym counted k, sym slots_is k)) (starts log_of basis_of answers (basis_of x) (log_of x) seats n x some_seat few is refl refl)
