-- Each step of a turn keeps the hall's rule.
use Rattle.std.proofs.Common.{◌≡◌, ◌≢◌, ◌⊎◌, ℕ, ◌+◌, ◌%◌, ◌^◌, ◌<◌, ◌≤◌, List, [], ◌∷◌, ◌++◌, length, get_or, drop, set, sym, refl, ap, ◌∙◌, subst, inl, inr, ⊎_elim, arith, length-set, length-append, append_assoc}
use Rattle.std.proofs.Math.Nat.{mod-add-mod, mod-eq_of_lt}
use mathlib.Core.Option.{Option, some, none, some-injective}
use mathlib.Core.List.{IsPrefix, append-nil}
use mathlib.Core.Logic.{dite}
use native.Mathlib.Decide.{ℕ_discrete}
use lib.ListN.{get_elem?}
use lib.Seq.{set-get_or}
use Rattle.atomic_table.specs.Table.{State, Me, Act, keeps, takes, gives, step, stepped, Allows, Valid, carried_after, rest, put_back}
use Rattle.atomic_table.proofs.Lists.{at_set, set_here, set_else, set_again, one_turn}
use Rattle.soc_hall.specs.declared.view.Place.{Place}
use Rattle.soc_hall.specs.declared.view.Place.TheVariants.{Empty, Rest, Done}
use Rattle.soc_hall.specs.declared.view.Entry.{Entry}
use Rattle.soc_hall.specs.declared.view.Turn.{Turn}
use Rattle.soc_hall.specs.declared.view.Stage.{Stage}
use Rattle.soc_hall.specs.declared.view.Stage.TheVariants.{Fresh, Idle, Waits, Turns, Away}
use Rattle.soc_hall.specs.declared.view.Known.{Known}
use Rattle.soc_hall.specs.declared.view.View.{View}
use Rattle.soc_hall.specs.Log.{tagged, changes_by, whole, pieces}
use Rattle.std.specs.Prelude.{Some}
use Rattle.std.specs.Prelude as maybe
use Rattle.soc_hall.specs.Seats.{known}
use Rattle.soc_hall.specs.Asked.{turn_of, Right, Stands, HasPart, IsState}
use Rattle.soc_hall.specs.inner.Rule.{Sits, tickets, HasTicket, HasTurn, total, Holds, IsMine, FitsStage, Fits, IsHome, IsOut, Kept}
use Rattle.soc_hall.specs.inner.Steps.{staged, front_of, turned_by, drew, fronted, passed, Takes, looked, counted, IsDone}
use Rattle.soc_hall.proofs.Views.{ticket_no, idle_away, waits_away, turns_away, seats_stay, apart_set, at_below, at_end, away_set, owners_set}
use Rattle.soc_hall.proofs.Logs.{whole_append, changes_tagged, length_tagged, length_whole, by_append, by_same, by_other, prefix_drop, pieces_snoc, prefix_refl, total_set, total_below}

module _ {T B X C P : Type 0} (log_of : T → List X) (basis_of : T → B) (answers : B → List X → C → P → List X → Type 0) (basis : B) (opening : List X) (seats : ℕ) where
  abbrev V : Type 0
  V = View B X C P

  abbrev S : Type 0
  S = Place T C P

  abbrev St : Type 0
  St = State S V

  abbrev Rule : St → Type 0
  Rule = Kept log_of basis_of answers basis opening seats

  abbrev Fit : List (Entry X) → ℕ → ℕ → ℕ → V → Type 0
  Fit = Fits answers basis opening

  -- a ticket that is out lies between those served and those drawn
  ticket_between : (log : List (Entry X)) (drawn served j : ℕ) (v : V) (st : Stage) (t : ℕ) → FitsStage basis opening log drawn served j v st → HasTicket t st → (served ≤ t) × (t < drawn)
  ticket_between log drawn served j v Fresh t f h = absurd h
  ticket_between log drawn served j v Idle t f h = absurd h
  ticket_between log drawn served j v (Waits u) t f h = let a = f.1 in let b = f.2 in (omega arith, omega arith)
  ticket_between log drawn served j v (Turns u) t f h = let a = f.1 in let b = f.2 in (omega arith, omega arith)
  ticket_between log drawn served j v Away t f h = absurd h

  turn_served : (log : List (Entry X)) (drawn served j : ℕ) (v : V) (st : Stage) (t : ℕ) → FitsStage basis opening log drawn served j v st → HasTurn st → HasTicket served st
  turn_served log drawn served j v Fresh t f h = absurd h
  turn_served log drawn served j v Idle t f h = absurd h
  turn_served log drawn served j v (Waits u) t f h = absurd h
  turn_served log drawn served j v (Turns u) t f h = f.1
  turn_served log drawn served j v Away t f h = absurd h

  mine_stays : (log log' : List (Entry X)) (j : ℕ) (v : V) → changes_by j log' ≡ changes_by j log → IsMine basis opening log j v → IsMine basis opening log' j v
  mine_stays log log' j v by m = record { basis_is = m.basis_is; opening_is = m.opening_is; some_part = m.some_part; number_is = m.number_is; in_log = by ∙ m.in_log; in_seen = m.in_seen }

  -- the same of a view that has now seen the whole log
  mine_seen : (log : List (Entry X)) (j : ℕ) (v w : V) → IsMine basis opening log j v → w.basis ≡ v.basis → w.opening ≡ v.opening → w.parts ≡ v.parts → w.number ≡ v.number → w.turns ≡ v.turns → w.seen ≡ log → IsMine basis opening log j w
  mine_seen log j v w m b o p n t s = record {
    basis_is = b ∙ m.basis_is;
    opening_is = o ∙ m.opening_is;
    some_part = let q = m.some_part in omega arith;
    number_is = n ∙ m.number_is;
    in_log = m.in_log ∙ ap pieces (sym t);
    in_seen = ap (changes_by j) s ∙ (m.in_log ∙ ap pieces (sym t));
  }

  -- the same of a view that differs in its stage alone
  mine_as : (log : List (Entry X)) (j n : ℕ) (v : V) (st : Stage) → n ≡ v.parts → IsMine basis opening log j v → IsMine basis opening log j (record v { stage = st })
  mine_as log j n v st is m = record { basis_is = m.basis_is; opening_is = m.opening_is; some_part = m.some_part; number_is = m.number_is; in_log = m.in_log; in_seen = m.in_seen }

  -- what a seat knows stays so in another's step
  stage_stays : (log log' : List (Entry X)) (drawn drawn' served served' j : ℕ) (v : V) (st : Stage) → changes_by j log' ≡ changes_by j log → drawn ≤ drawn'
      → ((t : ℕ) → HasTicket t st → served ≤ t → served' ≤ t) → (HasTurn st → (log' ≡ log) × (served' ≡ served)) → FitsStage basis opening log drawn served j v st → FitsStage basis opening log' drawn' served' j v st
  stage_stays log log' drawn drawn' served served' j v Fresh by more low same f = (f.0, f.1, f.2, by ∙ f.3, f.4)
  stage_stays log log' drawn drawn' served served' j v Idle by more low same f = mine_stays log log' j v by f
  stage_stays log log' drawn drawn' served served' j v (Waits t) by more low same f = let b = f.2 in (mine_stays log log' j v by f.0, low t refl f.1, omega arith)
  stage_stays log log' drawn drawn' served served' j v (Turns t) by more low same f = let b = f.2 in let k = same tt in (mine_stays log log' j v by f.0, f.1 ∙ sym k.1, omega arith, f.3 ∙ sym k.0)
  stage_stays log log' drawn drawn' served served' j v Away by more low same f = f

  prefix_further : (xs ys zs : List (Entry X)) → IsPrefix xs ys → IsPrefix ys zs → IsPrefix xs zs
  prefix_further xs ys zs p q = (p.0 ++ q.0, sym (append_assoc xs p.0 q.0) ∙ (ap (λ (z : List (Entry X)). z ++ q.0) p.1 ∙ q.1))

  part_stays : (log log' : List (Entry X)) (g : Known B X C P) → IsPrefix log log' → changes_by g.number log' ≡ changes_by g.number log → HasPart answers basis opening log g → HasPart answers basis opening log' g
  part_stays log log' g longer by p = record { basis_is = p.basis_is; opening_is = p.opening_is; seen = prefix_further g.seen log log' p.seen longer; mine = by ∙ p.mine; turns = p.turns }

  fits_stays : (log log' : List (Entry X)) (drawn drawn' served served' j : ℕ) (v : V) → IsPrefix log log' → changes_by j log' ≡ changes_by j log → drawn ≤ drawn'
      → ((t : ℕ) → HasTicket t v.stage → served ≤ t → served' ≤ t) → (HasTurn v.stage → (log' ≡ log) × (served' ≡ served)) → ((k : ℕ) (g : Known B X C P) → get_elem? v.gone k ≡ some g → changes_by g.number log' ≡ changes_by g.number log) → Fit log drawn served j v → Fit log' drawn' served' j v
  fits_stays log log' drawn drawn' served served' j v longer by more low same quiet f = record {
    seen = prefix_further v.seen log log' f.seen longer;
    told = prefix_further v.told log log' f.told longer;
    stage = stage_stays log log' drawn drawn' served served' j v v.stage by more low same f.stage;
    stands = f.stands;
    gone = λ k g e. part_stays log log' g longer (quiet k g e) (f.gone k g e);
    distinct = f.distinct;
  }

  ticket_part : (log : List (Entry X)) (drawn served j : ℕ) (v : V) (st : Stage) → FitsStage basis opening log drawn served j v st → tickets st ≤ v.parts
  ticket_part log drawn served j v Fresh f = omega arith
  ticket_part log drawn served j v Idle f = omega arith
  ticket_part log drawn served j v (Waits u) f = let a = f.0.some_part in omega arith
  ticket_part log drawn served j v (Turns u) f = let a = f.0.some_part in omega arith
  ticket_part log drawn served j v Away f = omega arith

  few_out : (s : St) (r : Rule s) → r.drawn ≤ r.served + 64
  few_out s r = let a : total (λ (v : V). tickets v.stage) s.views ≤ total (λ (v : V). v.parts) s.views = total_below (λ (v : V). tickets v.stage) (λ (v : V). v.parts) s.views
      (λ j v e. let f = r.each_seat j v e in ticket_part r.log r.drawn r.served j v v.stage f.stage) in let b = r.few in let c = r.out in let d = r.at_most in omega arith

  pub few_stays : (s : St) (r : Rule s) (id : ℕ) (v w : V) → get_elem? s.views id ≡ some v → w.parts ≡ v.parts → total (λ (u : V). u.parts) (set s.views id w) ≡ seats
  few_stays s r id v w at same = let e : total (λ (u : V). u.parts) (set s.views id w) + v.parts ≡ total (λ (u : V). u.parts) s.views + w.parts = total_set (λ (u : V). u.parts) s.views id v w at in let o = r.few in omega arith

  -- the state stays where it is in a step of a seat that has no turn before or after
  pub place_stays : (log : List (Entry X)) (s : St) (ws : List ℕ) (id : ℕ) (v w : V) → get_elem? s.views id ≡ some v → (HasTurn v.stage → ⊥) → (HasTurn w.stage → ⊥)
      → IsHome log_of basis_of basis opening log s ⊎ IsOut s
      → IsHome log_of basis_of basis opening log record { words = ws; homes = s.homes; views = set s.views id w } ⊎ IsOut record { words = ws; homes = s.homes; views = set s.views id w }
  place_stays log s ws id v w at nv nw p = ⊎_elim
      (λ (h : IsHome log_of basis_of basis opening log s). inl (
        h.0,
        h.1,
        h.2,
        λ j d e turn. ⊎_elim
            (λ (t : (j ≡ id) × (w ≡ d)). nw (subst (λ (z : V). HasTurn z.stage) (sym t.1) turn))
            (λ (t : (j ≢ id) × (get_elem? s.views j ≡ some d)). h.3 j d t.1 turn)
            (at_set s.views id j w d e),
      ))
      (λ (o : IsOut s). inr (o.0, o.1, o.2, set_else s.views id o.0 w (λ (e : o.0 ≡ id). nv (subst (λ (z : V). HasTurn z.stage) (some-injective o.1 v (sym o.3 ∙ (ap (λ (k : ℕ). get_elem? s.views k) e ∙ at))) o.4)) ∙ o.3, o.4))
      p

  pub draws : (slots id : ℕ) (me : Me S V) → me.0.stage ≡ Idle → Allows Rule slots id me 1 (λ n. (n + 1) % 2 ^ 64) (drew (step slots 1 1 0 none) me)
  draws slots id me idle s r _ at _ =
      let v : V = me.0 in
      let w : V = staged (Waits r.drawn) me.0 in
      let f : Fit r.log r.drawn r.served id v = r.each_seat id v at in
      let mine : IsMine basis opening r.log id v = subst (λ (st : Stage). FitsStage basis opening r.log r.drawn r.served id v st) idle f.stage in
      let before : r.served ≤ r.drawn = let o = r.out in omega arith in (
        w,
        keeps,
        tt,
        record {
          log = r.log;
          drawn = r.drawn + 1;
          served = r.served;
          words = ap (λ (ws : List ℕ). set ws 1 ((get_or ws 1 0 + 1) % 2 ^ 64)) r.words ∙ ap (λ (n : ℕ). (length opening + length r.log) ∷ n ∷ (r.served % 2 ^ 64) ∷ []) (mod-add-mod r.drawn (2 ^ 64) 1);
          few = few_stays s r id v w at refl;
          at_most = r.at_most;
          out = let e : total (λ (u : V). tickets u.stage) (set s.views id w) + tickets v.stage ≡ total (λ (u : V). tickets u.stage) s.views + 1 = total_set (λ (u : V). tickets u.stage) s.views id v w at in
              let z : tickets v.stage ≡ 0 = ap tickets idle in let o = r.out in omega arith;
          each_seat = seats_stay (Fit r.log (r.drawn + 1) r.served) s.views id w
              record { seen = f.seen; told = f.told; stage = (mine_as r.log id v.parts v (Waits r.drawn) refl mine, before, omega arith); stands = f.stands; gone = f.gone; distinct = f.distinct }
              (λ j d ne e. fits_stays r.log r.log r.drawn (r.drawn + 1) r.served r.served j d (prefix_refl r.log) refl (omega arith) (λ t h l. l) (λ h. (refl, refl)) (λ k g h. refl) (r.each_seat j d e));
          apart = apart_set s.views id w r.apart (λ j t d ne e hw hd. let b = ticket_between r.log r.drawn r.served j d d.stage t (r.each_seat j d e).stage hd in let c = b.1 in let k : r.drawn ≡ t = hw in absurd (omega arith));
          unused = λ j l. r.unused j (let e : length (set s.views id w) ≡ length s.views = length-set s.views id w in omega arith);
          away = away_set s.views id v w at refl (λ a. absurd (idle_away idle a)) r.away;
          owners = owners_set s.views id v w r.log r.log at (λ _. (tt, refl, refl)) (λ j. inl refl) r.owners;
          place = place_stays r.log s (set s.words 1 ((get_or s.words 1 0 + 1) % 2 ^ 64)) id v w at (λ h. subst HasTurn idle h) (λ h. h) r.place;
        },
        (r.drawn, ap (λ (ws : List ℕ). get_or ws 1 0) r.words, refl),
      )

  -- a step that changes nothing
  unmoved : (s : St) (i id : ℕ) (v : V) (cs : List (ℕ × S)) → Rule s → get_elem? s.views id ≡ some v → Rule (stepped s i (get_or s.words i 0) id cs v keeps)
  unmoved s i id v cs r at = subst (λ (z : List ℕ × List V). Rule record { words = z.0; homes = s.homes; views = z.1 }) (λ k. (sym (set-get_or s.words i 0) k, sym (set_again s.views id v at) k)) r

  -- a turn stands in all that is seen later
  pub stands_more : (v : V) (st : Stage) (more : List (Entry X)) (ts : List (Turn X C P)) (u : Turn X C P) → Stands answers (known v) u → Stands answers (known (record v { stage = st; seen = v.seen ++ more; turns = ts })) u
  stands_more v st more ts u h = record { before = h.before; after = h.after ++ more; there = ap (λ (z : List (Entry X)). z ++ more) h.there ∙ append_assoc (h.before ++ tagged v.number u.piece) h.after more; start_is = h.start_is; front_is = h.front_is; right = h.right }

  -- who waits with the ticket that is served finds the state at home
  home_is : (s : St) (r : Rule s) (id t : ℕ) (v : V) → get_elem? s.views id ≡ some v → v.stage ≡ Waits t → r.served ≡ t → IsHome log_of basis_of basis opening r.log s
  home_is s r id t v at waits is = ⊎_elim
      (λ (h : IsHome log_of basis_of basis opening r.log s). h)
      (λ (o : IsOut s).
      let theirs : HasTicket r.served o.1.stage = turn_served r.log r.drawn r.served o.0 o.1 o.1.stage 0 (r.each_seat o.0 o.1 o.3).stage o.4 in
      let mine : HasTicket r.served v.stage = subst (HasTicket r.served) (sym waits) (sym is) in
      let same : o.0 ≡ id = r.apart o.0 id r.served o.1 v o.3 at theirs mine in
      let one : o.1 ≡ v = some-injective o.1 v (sym o.3 ∙ (ap (λ (k : ℕ). get_elem? s.views k) same ∙ at)) in
      absurd (subst HasTurn (ap (λ (z : V). z.stage) one ∙ waits) o.4))
      r.place

  looks_hit : (slots id t : ℕ) (me : Me S V) (s : St) (r : Rule s) → get_elem? s.views id ≡ some me.0 → me.0.stage ≡ Waits t → r.served ≡ t
      → (w : V) × (a : Act S) × Valid s.homes me.1 a × Rule (stepped s 2 (get_or s.words 2 0) id me.1 w a) × Takes log_of basis_of me.0 t me.1 w (carried_after me.1 a)
  looks_hit slots id t me s r at waits is =
      let v : V = me.0 in
      let f : Fit r.log r.drawn r.served id v = r.each_seat id v at in
      let fs : FitsStage basis opening r.log r.drawn r.served id v (Waits t) = subst (λ (st : Stage). FitsStage basis opening r.log r.drawn r.served id v st) waits f.stage in
      let home : IsHome log_of basis_of basis opening r.log s = home_is s r id t v at waits is in
      let w : V = record v { stage = Turns t; seen = v.seen ++ f.seen.0 } in
      let whole_seen : v.seen ++ f.seen.0 ≡ r.log = f.seen.1 in (
        w,
        takes 0 home.0,
        ap (λ (hs : List (Option S)). get_elem? hs 0) home.1,
        record {
          log = r.log;
          drawn = r.drawn;
          served = r.served;
          words = set-get_or s.words 2 0 ∙ r.words;
          few = few_stays s r id v w at refl;
          at_most = r.at_most;
          out = let e : total (λ (u : V). tickets u.stage) (set s.views id w) + tickets v.stage ≡ total (λ (u : V). tickets u.stage) s.views + 1 = total_set (λ (u : V). tickets u.stage) s.views id v w at in
              let z : tickets v.stage ≡ 1 = ap tickets waits in let o = r.out in omega arith;
          each_seat = seats_stay (Fit r.log r.drawn r.served) s.views id w
              record { seen = ([], append-nil (v.seen ++ f.seen.0) ∙ whole_seen); told = f.told; stage = (mine_seen r.log id v w (fs.0) refl refl refl refl refl whole_seen, sym is, fs.2, whole_seen); stands = λ k u e. stands_more v (Turns t) f.seen.0 v.turns u (f.stands k u e); gone = f.gone; distinct = f.distinct }
              (λ j d ne e. r.each_seat j d e);
          apart = apart_set s.views id w r.apart (λ j u d ne e hw hd. ne (r.apart j id u d v e at hd (subst (HasTicket u) (sym waits) hw)));
          unused = λ j l. r.unused j (let e : length (set s.views id w) ≡ length s.views = length-set s.views id w in omega arith);
          away = away_set s.views id v w at refl (λ a. absurd (waits_away waits a)) r.away;
          owners = owners_set s.views id v w r.log r.log at (λ _. (tt, refl, refl)) (λ j. inl refl) r.owners;
          place = inr (id, w, ap (λ (hs : List (Option S)). set hs 0 none) home.1, set_here s.views id w (at_below s.views id v at), tt);
        },
        (f.seen.0, home.0, refl, refl, subst (λ (z : maybe.Option B × List X × List (Entry X)). Holds (IsState log_of basis_of z.0 z.1 z.2) home.0) (λ k. (sym fs.0.basis_is k, sym fs.0.opening_is k, sym whole_seen k)) home.2),
      )

  pub looks : (slots id : ℕ) (me : Me S V) (t : ℕ) → me.0.stage ≡ Waits t → Allows Rule slots id me 2 (λ n. n) (looked log_of basis_of (step slots 2 0 0 none) me)
  looks slots id me t waits s r _ at _ =
      let word : get_or s.words 2 0 ≡ r.served % 2 ^ 64 = ap (λ (ws : List ℕ). get_or ws 2 0) r.words in
      let fs : FitsStage basis opening r.log r.drawn r.served id me.0 (Waits t) = subst (λ (st : Stage). FitsStage basis opening r.log r.drawn r.served id me.0 st) waits (r.each_seat id me.0 at).stage in
      let near : t < r.served + 2 ^ 64 = let a = fs.2 in let b = few_out s r in omega arith in
      let only : (u : ℕ) → me.0.stage ≡ Waits u → t ≡ u = λ u e. ap ticket_no (sym waits ∙ e) in
      dite (ℕ_discrete (get_or s.words 2 0) (t % 2 ^ 64))
      (λ hit. let go = looks_hit slots id t me s r at waits (one_turn r.served t (2 ^ 64) fs.1 near (sym word ∙ hit)) in (
        go.0,
        go.1,
        go.2,
        go.3,
        λ u e. ((λ _. subst (λ (k : ℕ). Takes log_of basis_of me.0 k me.1 go.0 (carried_after me.1 go.1)) (only u e) go.4), λ ne. absurd (ne (hit ∙ ap (λ (k : ℕ). k % 2 ^ 64) (only u e)))),
      ))
      (λ miss. (
        me.0,
        keeps,
        tt,
        unmoved s 2 id me.0 me.1 r at,
        λ u e. ((λ hit. absurd (miss (hit ∙ ap (λ (k : ℕ). k % 2 ^ 64) (sym (only u e))))), λ _. refl),
      ))

  pub fronts : (slots id : ℕ) (me : Me S V) (t : ℕ) → me.0.stage ≡ Turns t → Allows Rule slots id me 0 (λ n. n) (fronted (step slots 0 0 0 none) me)
  fronts slots id me t turns s r _ at _ =
      let f : Fit r.log r.drawn r.served id me.0 = r.each_seat id me.0 at in
      let fs : FitsStage basis opening r.log r.drawn r.served id me.0 (Turns t) = subst (λ (st : Stage). FitsStage basis opening r.log r.drawn r.served id me.0 st) turns f.stage in (
        me.0,
        keeps,
        tt,
        unmoved s 0 id me.0 me.1 r at,
        (refl, ap (λ (ws : List ℕ). get_or ws 0 0) r.words ∙ (sym (length_whole opening r.log) ∙ subst (λ (z : List X × List (Entry X)). length (whole opening r.log) ≡ length (whole z.0 z.1)) (λ k. (sym fs.0.opening_is k, sym fs.3 k)) refl)),
      )

  abbrev pub after_one : V → S → V
  after_one v Empty = v
  after_one v (Rest x) = v
  after_one v (Done x c p) = turned_by v (drop (front_of v) (log_of x)) c.value p.value

  abbrev pub after_held : V → List (ℕ × S) → V
  after_held v [] = v
  after_held v (y ∷ ys) = after_one v y.1

  -- who has the turn finds that nobody has the state at home
  out_is : (s : St) (r : Rule s) (id t : ℕ) (v : V) → get_elem? s.views id ≡ some v → v.stage ≡ Turns t → s.homes ≡ none ∷ []
  out_is s r id t v at turns = ⊎_elim
      (λ (h : IsHome log_of basis_of basis opening r.log s). absurd (h.3 id v at (subst HasTurn (sym turns) tt)))
      (λ (o : IsOut s). o.2)
      r.place

  -- nobody else has the ticket of who has the turn
  alone : (s : St) (r : Rule s) (id t : ℕ) (v : V) → get_elem? s.views id ≡ some v → v.stage ≡ Turns t → t ≡ r.served → (j : ℕ) (d : V) → j ≢ id → get_elem? s.views j ≡ some d → HasTicket r.served d.stage → ⊥
  alone s r id t v at turns is j d ne e theirs = ne (r.apart j id r.served d v e at theirs (subst (HasTicket r.served) (sym turns) is))

  turn_stands : (v : V) (piece : List X) (c : C) (p : P) (after : List X) → whole v.opening v.seen ++ piece ≡ after → Right answers v.basis (whole v.opening v.seen) c p after → Stands answers (known (turned_by v piece c p)) (turn_of (known v) piece c p)
  turn_stands v piece c p after is ans =
      let longer : whole v.opening (v.seen ++ tagged v.number piece) ≡ whole v.opening v.seen ++ piece = whole_append v.opening v.seen (tagged v.number piece) ∙ ap (λ (z : List X). whole v.opening v.seen ++ z) (changes_tagged v.number piece) in
      record { before = v.seen; after = []; there = sym (append-nil (v.seen ++ tagged v.number piece)); start_is = refl; front_is = refl; right = subst (λ (z : List X). Right answers v.basis (whole v.opening v.seen) c p z) (sym is ∙ sym longer) ans }

  counted_rule : (id t k : ℕ) (me : Me S V) (s : St) (r : Rule s) → get_elem? s.views id ≡ some me.0 → me.0.stage ≡ Turns t
      → (piece : List X) (c : C) (p : P) (after : List X) → whole me.0.opening me.0.seen ++ piece ≡ after → front_of me.0 + k ≡ length after → front_of me.0 + k < 2 ^ 64 → Right answers me.0.basis (whole me.0.opening me.0.seen) c p after
      → Rule (stepped s 0 ((get_or s.words 0 0 + k) % 2 ^ 64) id me.1 (turned_by me.0 piece c p) keeps)
  counted_rule id t k me s r at turns piece c p after is long small ans =
      let v : V = me.0 in
      let w : V = turned_by me.0 piece c p in
      let f : Fit r.log r.drawn r.served id v = r.each_seat id v at in
      let fs : FitsStage basis opening r.log r.drawn r.served id v (Turns t) = subst (λ (st : Stage). FitsStage basis opening r.log r.drawn r.served id v st) turns f.stage in
      let mine : IsMine basis opening r.log id v = fs.0 in
      let log' : List (Entry X) = r.log ++ tagged v.number piece in
      let more : IsPrefix r.log log' = (tagged v.number piece, refl) in
      let size : length piece ≡ k = let e : length (whole v.opening v.seen ++ piece) ≡ length after = ap length is in let d : length (whole v.opening v.seen ++ piece) ≡ front_of v + length piece = length-append (whole v.opening v.seen) piece in omega arith in
      let front : front_of v ≡ length opening + length r.log = length_whole v.opening v.seen ∙ subst (λ (z : List X × List (Entry X)). length z.0 + length z.1 ≡ length opening + length r.log) (λ i. (sym mine.opening_is i, sym fs.3 i)) refl in
      let word : get_or s.words 0 0 ≡ length opening + length r.log = ap (λ (ws : List ℕ). get_or ws 0 0) r.words in
      let longer : length log' ≡ length r.log + k = length-append r.log (tagged v.number piece) ∙ ap (λ (z : ℕ). length r.log + z) (length_tagged v.number piece ∙ size) in
      let fits : (get_or s.words 0 0 + k) % 2 ^ 64 ≡ length opening + length log' = let a : get_or s.words 0 0 + k < 2 ^ 64 = omega arith in mod-eq_of_lt a ∙ (let b : get_or s.words 0 0 + k ≡ length opening + length log' = omega arith in b) in
      let seen_all : w.seen ≡ log' = ap (λ (z : List (Entry X)). z ++ tagged v.number piece) fs.3 in
      let by_me : changes_by id log' ≡ pieces w.turns =
      by_append id r.log (tagged v.number piece)
      ∙ (ap (λ (z : List X). z ++ changes_by id (tagged v.number piece)) mine.in_log
      ∙ (ap (λ (n : ℕ). pieces v.turns ++ changes_by id (tagged n piece)) mine.number_is
      ∙ (ap (λ (z : List X). pieces v.turns ++ z) (by_same id piece) ∙ sym (pieces_snoc v.turns (turn_of (known v) piece c p))))) in
      let by_others : (j : ℕ) → j ≢ id → changes_by j log' ≡ changes_by j r.log = λ j ne.
      by_append j r.log (tagged v.number piece) ∙ (ap (λ (z : List X). changes_by j r.log ++ z) (by_other v.number j piece (λ e. ne (sym e ∙ mine.number_is))) ∙ append-nil (changes_by j r.log)) in
      record {
        log = log';
        drawn = r.drawn;
        served = r.served;
        words = ap (λ (ws : List ℕ). set ws 0 ((get_or s.words 0 0 + k) % 2 ^ 64)) r.words ∙ ap (λ (n : ℕ). n ∷ (r.drawn % 2 ^ 64) ∷ (r.served % 2 ^ 64) ∷ []) fits;
        few = few_stays s r id v w at refl;
        at_most = r.at_most;
        out = let e : total (λ (u : V). tickets u.stage) (set s.views id w) + tickets v.stage ≡ total (λ (u : V). tickets u.stage) s.views + tickets v.stage = total_set (λ (u : V). tickets u.stage) s.views id v w at in let o = r.out in omega arith;
        each_seat = seats_stay (Fit log' r.drawn r.served) s.views id w
            record {
              seen = ([], append-nil w.seen ∙ seen_all);
              told = prefix_further v.told r.log log' f.told more;
              stage = subst (λ (st : Stage). FitsStage basis opening log' r.drawn r.served id w st) (sym turns) (record { basis_is = mine.basis_is; opening_is = mine.opening_is; some_part = mine.some_part; number_is = mine.number_is; in_log = by_me; in_seen = ap (changes_by id) seen_all ∙ by_me }, fs.1, fs.2, seen_all);
              stands = λ i u e. ⊎_elim
                  (λ (o : get_elem? v.turns i ≡ some u). stands_more v v.stage (tagged v.number piece) w.turns u (f.stands i u o))
                  (λ (n : (i ≡ length v.turns) × (turn_of (known v) piece c p ≡ u)). subst (Stands answers (known w)) n.1 (turn_stands v piece c p after is ans))
                  (at_end v.turns (turn_of (known v) piece c p) u i e);
              gone = λ k g h. let a = r.away id k v g at h in part_stays r.log log' g more (by_others g.number (λ i. turns_away turns (ap (λ (z : V). z.stage) (some-injective v a.0 (sym at ∙ (ap (λ (n : ℕ). get_elem? s.views n) (sym i) ∙ a.1))) ∙ a.2))) (f.gone k g h);
              distinct = f.distinct;
            }
            (λ j d ne e. fits_stays r.log log' r.drawn r.drawn r.served r.served j d more (by_others j ne) (omega arith) (λ u h l. l)
            (λ h. absurd (alone s r id t v at turns fs.1 j d ne e (turn_served r.log r.drawn r.served j d d.stage 0 (r.each_seat j d e).stage h)))
            (λ k g h. let a = r.away j k d g e h in by_others g.number (λ i. turns_away turns (ap (λ (z : V). z.stage) (some-injective v a.0 (sym at ∙ (ap (λ (n : ℕ). get_elem? s.views n) (sym i) ∙ a.1))) ∙ a.2)))
            (r.each_seat j d e));
        apart = apart_set s.views id w r.apart (λ j u d ne e hw hd. ne (r.apart j id u d v e at hd hw));
        unused = λ j l. let e : length (set s.views id w) ≡ length s.views = length-set s.views id w in let b = at_below s.views id v at in by_others j (λ i. omega arith) ∙ r.unused j (omega arith);
        away = away_set s.views id v w at refl (λ a. a) r.away;
        owners = owners_set s.views id v w r.log log' at (λ z. (z, refl, refl)) (λ j. dite (ℕ_discrete j id) (λ e. inr (mine.number_is ∙ sym e, subst Sits (sym turns) tt)) (λ ne. inl (by_others j ne))) r.owners;
        place = inr (id, w, out_is s r id t v at turns, set_here s.views id w (at_below s.views id v at), subst HasTurn (sym turns) tt);
      }

  pub counts : (slots id : ℕ) (me : Me S V) (t k : ℕ) → me.0.stage ≡ Turns t → IsDone log_of basis_of answers me k → Allows Rule slots id me 0 (λ n. (n + k) % 2 ^ 64) (counted log_of (step slots 0 k 0 none) me)
  counts slots id me t k turns done s r _ at _ =
      let x = done.0 in
      let piece : List X = drop (front_of me.0) (log_of x) in (
        turned_by me.0 piece done.1.value done.2.value,
        keeps,
        tt,
        counted_rule id t k me s r at turns piece done.1.value done.2.value (log_of x) (prefix_drop (whole me.0.opening me.0.seen) (log_of x) done.4.longer) done.4.length_is done.4.small done.4.right,
        λ x' c' p' e. ap (λ (l : List (ℕ × S)). (after_held me.0 l, me.1)) (sym done.3 ∙ e),
      )

  pub passes : (slots id : ℕ) (me : Me S V) (t : ℕ) → me.0.stage ≡ Turns t → (x : S) → me.1 ≡ (0, x) ∷ [] → Holds (IsState log_of basis_of me.0.basis me.0.opening me.0.seen) x
      → Allows Rule slots id me 2 (λ n. (n + 1) % 2 ^ 64) (passed answers (step slots 2 1 0 none) me)
  passes slots id me t turns x carried state s r _ at _ =
      let v : V = me.0 in
      let w : V = staged Idle me.0 in
      let f : Fit r.log r.drawn r.served id v = r.each_seat id v at in
      let fs : FitsStage basis opening r.log r.drawn r.served id v (Turns t) = subst (λ (st : Stage). FitsStage basis opening r.log r.drawn r.served id v st) turns f.stage in
      let others : (j : ℕ) (d : V) → j ≢ id → get_elem? s.views j ≡ some d → HasTicket r.served d.stage → ⊥ = alone s r id t v at turns fs.1 in
      let no_turn : (j : ℕ) (d : V) → j ≢ id → get_elem? s.views j ≡ some d → HasTurn d.stage → ⊥ = λ j d ne e h. others j d ne e (turn_served r.log r.drawn r.served j d d.stage 0 (r.each_seat j d e).stage h) in (
        w,
        gives,
        tt,
        record {
          log = r.log;
          drawn = r.drawn;
          served = r.served + 1;
          words = ap (λ (ws : List ℕ). set ws 2 ((get_or ws 2 0 + 1) % 2 ^ 64)) r.words ∙ ap (λ (n : ℕ). (length opening + length r.log) ∷ (r.drawn % 2 ^ 64) ∷ n ∷ []) (mod-add-mod r.served (2 ^ 64) 1);
          few = few_stays s r id v w at refl;
          at_most = r.at_most;
          out = let e : total (λ (u : V). tickets u.stage) (set s.views id w) + tickets v.stage ≡ total (λ (u : V). tickets u.stage) s.views + 0 = total_set (λ (u : V). tickets u.stage) s.views id v w at in
              let z : tickets v.stage ≡ 1 = ap tickets turns in let o = r.out in omega arith;
          each_seat = seats_stay (Fit r.log r.drawn (r.served + 1)) s.views id w
              record { seen = f.seen; told = f.told; stage = mine_as r.log id v.parts v Idle refl fs.0; stands = f.stands; gone = f.gone; distinct = f.distinct }
              (λ j d ne e. fits_stays r.log r.log r.drawn r.drawn r.served (r.served + 1) j d (prefix_refl r.log) refl (omega arith)
              (λ u h l. let differ : u ≢ r.served = λ i. others j d ne e (subst (λ (z : ℕ). HasTicket z d.stage) i h) in omega arith)
              (λ h. absurd (no_turn j d ne e h)) (λ k g h. refl) (r.each_seat j d e));
          apart = apart_set s.views id w r.apart (λ j u d ne e hw hd. hw);
          unused = λ j l. r.unused j (let e : length (set s.views id w) ≡ length s.views = length-set s.views id w in omega arith);
          away = away_set s.views id v w at refl (λ a. absurd (turns_away turns a)) r.away;
          owners = owners_set s.views id v w r.log r.log at (λ _. (tt, refl, refl)) (λ j. inl refl) r.owners;
          place = inl (
            x,
            ap (put_back s.homes) carried ∙ ap (λ (hs : List (Option S)). set hs 0 (some x)) (out_is s r id t v at turns),
            subst (λ (z : maybe.Option B × List X × List (Entry X)). Holds (IsState log_of basis_of z.0 z.1 z.2) x) (λ k. (fs.0.basis_is k, fs.0.opening_is k, fs.3 k)) state,
            seats_stay (λ j d. HasTurn d.stage → ⊥) s.views id w (λ h. h) no_turn,
          );
        },
        (ap (λ (l : List (ℕ × S)). (w, rest l)) carried, record { mine = subst (λ (z : ℕ). changes_by z v.seen ≡ pieces v.turns) (sym fs.0.number_is) fs.0.in_seen; turns = f.stands }),
      )
