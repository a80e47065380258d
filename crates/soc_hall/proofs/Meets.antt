-- The steps by which one seat tells another what it has seen keep the rule.
use Rattle.std.proofs.Common.{◌≡◌, ◌⊎◌, ℕ, suc, ◌+◌, List, [], ◌∷◌, ◌++◌, length, get_or, set, sym, refl, ap, ◌∙◌, subst, inl, inr, ⊎_elim, arith, length-set, length-append, append_assoc}
use mathlib.Core.Option.{some, none, some-injective, some-ne-none}
use mathlib.Core.List.{IsPrefix, append-nil}
use mathlib.Core.Logic.{dite}
use native.Mathlib.Decide.{ℕ_discrete}
use lib.ListN.{get_elem?}
use lib.Seq.{set-get_or}
use Rattle.atomic_table.specs.Table.{State, Me, Act, keeps, step, stepped, Allows, Splits, Joins}
use Rattle.atomic_table.proofs.Lists.{set_here, set_else, set_again, at_longer}
use Rattle.soc_hall.specs.declared.view.Place.{Place}
use Rattle.soc_hall.specs.declared.view.Entry.{Entry}
use Rattle.soc_hall.specs.declared.view.Turn.{Turn}
use Rattle.soc_hall.specs.declared.view.Stage.{Stage}
use Rattle.soc_hall.specs.declared.view.Stage.TheVariants.{Idle, Away}
use Rattle.soc_hall.specs.declared.view.View.{View}
use Rattle.soc_hall.specs.Log.{changes_by, pieces, IsLonger}
use Rattle.soc_hall.specs.Seats.{known}
use Rattle.soc_hall.specs.Asked.{Stands, Owns, Meets}
use Rattle.soc_hall.specs.inner.Rule.{Sits, tickets, HasTicket, HasTurn, total, IsMine, FitsStage, Fits, IsHome, IsOut, Kept}
use Rattle.soc_hall.specs.inner.Steps.{spent, note_of, hearing, seeing, compared}
use Rattle.soc_hall.proofs.Logs.{by_append, total_set, total_snoc}
use Rattle.soc_hall.proofs.Views.{away_set, owners_set, away_snoc, owners_snoc, seats_stay, apart_set, at_end, at_below}
use Rattle.soc_hall.proofs.Kept.{few_stays, stands_more}

module _ {A : Type 0} where
  -- two beginnings of one list lie in line
  pub in_line : (a b l : List A) → IsPrefix a l → IsPrefix b l → IsPrefix a b ⊎ IsPrefix b a
  in_line [] b l p q = inl (b, refl)
  in_line (x ∷ a) [] l p q = inr (x ∷ a, refl)
  in_line (x ∷ a) (y ∷ b) [] p q = absurd (let e : length ((x ∷ a) ++ p.0) ≡ 0 = ap length p.1 in let f : length ((x ∷ a) ++ p.0) ≡ suc (length (a ++ p.0)) = refl in omega arith)
  in_line (x ∷ a) (y ∷ b) (z ∷ l) p q =
      let e : (x ∷ (a ++ p.0)) ≡ z ∷ l = p.1 in
      let f : (y ∷ (b ++ q.0)) ≡ z ∷ l = q.1 in
      let xz : x ≡ z = cc in
      let yz : y ≡ z = cc in
      let ea : a ++ p.0 ≡ l = cc in
      let eb : b ++ q.0 ≡ l = cc in
      let xy : x ≡ y = xz ∙ sym yz in
      ⊎_elim (λ (h : IsPrefix a b). inl (h.0, λ k. xy k ∷ h.1 k)) (λ (h : IsPrefix b a). inr (h.0, λ k. sym xy k ∷ h.1 k)) (in_line a b l (p.0, ea) (q.0, eb))

  nil_of : (xs : List A) → length xs ≡ 0 → xs ≡ []
  nil_of [] e = refl
  nil_of (x ∷ xs) e = absurd (omega arith)

  -- two lists that begin one another are one
  pub same_of : (a b : List A) → IsPrefix a b → IsPrefix b a → a ≡ b
  same_of a b p q =
      let e : length (a ++ p.0) ≡ length b = ap length p.1 in
      let f : length (b ++ q.0) ≡ length a = ap length q.1 in
      let none_more : p.0 ≡ [] = nil_of p.0 (omega (arith, length-append a p.0, length-append b q.0)) in
      sym (append-nil a) ∙ (ap (λ (z : List A). a ++ z) (sym none_more) ∙ p.1)

  pub prefix_prefix : (a b c : List A) → IsPrefix a b → IsPrefix b c → IsPrefix a c
  prefix_prefix a b c p q = (p.0 ++ q.0, sym (append_assoc a p.0 q.0) ∙ (ap (λ (z : List A). z ++ q.0) p.1 ∙ q.1))

module _ {X : Type 0} where
  -- what lies between two beginnings with the same changes of a number has no more of them
  pub squeezed : (n : ℕ) (a b l : List (Entry X)) (xs : List X) → IsPrefix a b → IsPrefix b l → changes_by n a ≡ xs → changes_by n l ≡ xs → changes_by n b ≡ xs
  squeezed n a b l xs p q ea el =
      let pa : IsPrefix (changes_by n a) (changes_by n b) = (changes_by n p.0, sym (by_append n a p.0) ∙ ap (changes_by n) p.1) in
      let pb : IsPrefix (changes_by n b) (changes_by n l) = (changes_by n q.0, sym (by_append n b q.0) ∙ ap (changes_by n) q.1) in
      same_of (changes_by n b) xs (subst (IsPrefix (changes_by n b)) el pb) (subst (λ (z : List X). IsPrefix z (changes_by n b)) ea pa)

  -- both have the longer in the end
  pub one_longer : (a b s t : List (Entry X)) → IsLonger s b a → IsLonger t a s → t ≡ s
  one_longer a b s t h k = ⊎_elim
      (λ (u : (t ≡ a) × IsPrefix s t). ⊎_elim
      (λ (w : (s ≡ b) × IsPrefix a s). same_of t s (subst (λ (z : List (Entry X)). IsPrefix z s) (sym u.0) w.1) u.1)
      (λ (w : (s ≡ a) × IsPrefix b s). u.0 ∙ sym w.0)
      h)
      (λ (u : (t ≡ s) × IsPrefix a t). u.0)
      k

module _ {T B X C P : Type 0} (log_of : T → List X) (basis_of : T → B) (answers : B → List X → C → P → List X → Type 0) (basis : B) (opening : List X) (seats : ℕ) where
  abbrev V : Type 0
  V = View B X C P

  abbrev S : Type 0
  S = Place T C P

  abbrev St : Type 0
  St = State S V

  abbrev Rule : St → Type 0
  Rule = Kept log_of basis_of answers basis opening seats

  abbrev Fit : List (Entry X) → ℕ → ℕ → ℕ → V → Type 0
  Fit = Fits answers basis opening

  -- a view changes, and neither its stage nor its parts
  quiet : (s : St) (r : Rule s) (id : ℕ) (v w : V) → get_elem? s.views id ≡ some v → w.stage ≡ v.stage → w.parts ≡ v.parts → w.gone ≡ v.gone → (Sits v.stage → w.number ≡ v.number) → Fit r.log r.drawn r.served id w → Rule record { words = s.words; homes = s.homes; views = set s.views id w }
  quiet s r id v w at same parts gone number fit = record {
    log = r.log;
    drawn = r.drawn;
    served = r.served;
    words = r.words;
    few = few_stays log_of basis_of answers basis opening seats s r id v w at parts;
    at_most = r.at_most;
    out = let e : total (λ (u : V). tickets u.stage) (set s.views id w) + tickets v.stage ≡ total (λ (u : V). tickets u.stage) s.views + tickets w.stage = total_set (λ (u : V). tickets u.stage) s.views id v w at in
        let z : tickets w.stage ≡ tickets v.stage = ap tickets same in let o = r.out in omega arith;
    each_seat = seats_stay (Fit r.log r.drawn r.served) s.views id w fit (λ j d ne e. r.each_seat j d e);
    apart = apart_set s.views id w r.apart (λ j t d ne e hw hd. ne (r.apart j id t d v e at hd (subst (HasTicket t) same hw)));
    unused = λ j l. r.unused j (let e : length (set s.views id w) ≡ length s.views = length-set s.views id w in omega arith);
    away = away_set s.views id v w at gone (λ a. same ∙ a) r.away;
    owners = owners_set s.views id v w r.log r.log at (λ z. (subst Sits (sym same) z, number z, gone)) (λ j. inl refl) r.owners;
    place = ⊎_elim
        (λ (h : IsHome log_of basis_of basis opening r.log s). inl (h.0, h.1, h.2, seats_stay (λ j d. HasTurn d.stage → ⊥) s.views id w (λ z. h.3 id v at (subst HasTurn same z)) (λ j d ne e. h.3 j d e)))
        (λ (o : IsOut s). dite (ℕ_discrete o.0 id)
        (λ here. let one : o.1 ≡ v = some-injective o.1 v (sym o.3 ∙ (ap (λ (k : ℕ). get_elem? s.views k) here ∙ at)) in
        inr (id, w, o.2, set_here s.views id w (at_below s.views id v at), subst HasTurn (ap (λ (z : V). z.stage) one ∙ sym same) o.4))
        (λ other. inr (o.0, o.1, o.2, set_else s.views id o.0 w other ∙ o.3, o.4)))
        r.place;
  }

  pub blank_fits : (log : List (Entry X)) (drawn served j : ℕ) (told : List (Entry X)) → IsPrefix told log → Fit log drawn served j (record spent { told = told })
  blank_fits log drawn served j told p = record { seen = (log, refl); told = p; stage = refl; stands = λ i u none_there. absurd (some-ne-none u (sym none_there)); gone = λ i u none_there. absurd (some-ne-none u (sym none_there)); distinct = λ i k u h none_there. absurd (some-ne-none u (sym none_there)) }

  pub notes : (id : ℕ) (v : V) → Splits Rule id v v (note_of v)
  notes id v s r at =
      let n : V = note_of v in
      let seen : IsPrefix v.seen r.log = (r.each_seat id v at).seen in
      subst (λ (vs : List V). Rule record { words = s.words; homes = s.homes; views = vs ++ note_of v ∷ [] }) (sym (set_again s.views id v at)) record {
        log = r.log;
        drawn = r.drawn;
        served = r.served;
        words = r.words;
        few = let a : total (λ (u : V). u.parts) (s.views ++ n ∷ []) ≡ total (λ (u : V). u.parts) s.views + 0 = total_snoc (λ (u : V). u.parts) s.views n in let o = r.few in omega arith;
        at_most = r.at_most;
        out = let a : total (λ (u : V). tickets u.stage) (s.views ++ n ∷ []) ≡ total (λ (u : V). tickets u.stage) s.views + 0 = total_snoc (λ (u : V). tickets u.stage) s.views n in let o = r.out in omega arith;
        each_seat = λ j d e. ⊎_elim (r.each_seat j d)
            (λ (new : (j ≡ length s.views) × (n ≡ d)). subst (λ (z : V). Fit r.log r.drawn r.served j z) new.1 (blank_fits r.log r.drawn r.served j v.seen seen))
            (at_end s.views n d j e);
        apart = λ i j t a b ei ej ha hb. ⊎_elim
            (λ (oi : get_elem? s.views i ≡ some a). ⊎_elim
            (λ (oj : get_elem? s.views j ≡ some b). r.apart i j t a b oi oj ha hb)
            (λ (nj : (j ≡ length s.views) × (n ≡ b)). absurd (subst (λ (z : V). HasTicket t z.stage) (sym nj.1) hb))
            (at_end s.views n b j ej))
            (λ (ni : (i ≡ length s.views) × (n ≡ a)). absurd (subst (λ (z : V). HasTicket t z.stage) (sym ni.1) ha))
            (at_end s.views n a i ei);
        unused = λ j long. r.unused j (let e : length (s.views ++ n ∷ []) ≡ length s.views + 1 = length-append s.views (n ∷ []) in omega arith);
        away = away_snoc s.views n refl r.away;
        owners = owners_snoc s.views n r.log r.owners;
        place = ⊎_elim
            (λ (h : IsHome log_of basis_of basis opening r.log s). inl (
              h.0,
              h.1,
              h.2,
              λ j d e turn. ⊎_elim
                  (λ (old : get_elem? s.views j ≡ some d). h.3 j d old turn)
                  (λ (new : (j ≡ length s.views) × (n ≡ d)). subst (λ (z : V). HasTurn z.stage) (sym new.1) turn)
                  (at_end s.views n d j e),
            ))
            (λ (o : IsOut s). inr (o.0, o.1, o.2, at_longer s.views (n ∷ []) o.0 o.1 o.3, o.4))
            r.place;
      }

  pub hears : (id : ℕ) (v : V) (other : ℕ) (w : V) → v.stage ≡ Idle → w.stage ≡ Away → w.parts ≡ 0 → w.gone ≡ [] → Joins Rule id v other w (hearing v w) spent
  hears id v other w idle away none_left none_gone s r at ne there =
      let f : Fit r.log r.drawn r.served id v = r.each_seat id v at in
      let theirs : get_elem? s.views other ≡ some w = sym (set_else s.views id other (hearing v w) ne) ∙ there in
      let told : IsPrefix w.told r.log = (r.each_seat other w theirs).told in
      let mine : IsMine basis opening r.log id v = subst (λ (st : Stage). FitsStage basis opening r.log r.drawn r.served id v st) idle f.stage in
      let heard : Fit r.log r.drawn r.served id (hearing v w) = record {
        seen = f.seen;
        told = told;
        stage = subst (λ (st : Stage). FitsStage basis opening r.log r.drawn r.served id (hearing v w) st) (sym idle)
            record { basis_is = mine.basis_is; opening_is = mine.opening_is; some_part = mine.some_part; number_is = mine.number_is; in_log = mine.in_log; in_seen = mine.in_seen };
        stands = f.stands;
        gone = f.gone;
        distinct = f.distinct;
      } in
      let r' = quiet s r id v (hearing v w) at refl refl refl (λ _. refl) heard in
      quiet record { words = s.words; homes = s.homes; views = set s.views id (hearing v w) } r' other w spent there (sym away) (sym none_left) (sym none_gone) (λ z. absurd (subst Sits away z)) (blank_fits r'.log r'.drawn r'.served other [] (r'.log, refl))

  -- the seat's view with a longer beginning of the log
  longer_fits : (log : List (Entry X)) (drawn served id : ℕ) (v : V) (l : List (Entry X)) → v.stage ≡ Idle → Fit log drawn served id v → IsPrefix v.seen l → IsPrefix l log → Fit log drawn served id (seeing l v) × Owns answers (known (seeing l v))
  longer_fits log drawn served id v l idle f p q =
      let mine : IsMine basis opening log id v = subst (λ (st : Stage). FitsStage basis opening log drawn served id v st) idle f.stage in
      let own : changes_by id l ≡ pieces v.turns = squeezed id v.seen l log (pieces v.turns) p q mine.in_seen mine.in_log in
      let stand : (k : ℕ) (t : Turn X C P) → get_elem? v.turns k ≡ some t → Stands answers (known (seeing l v)) t = λ k t e.
      subst (λ (z : List (Entry X)). Stands answers (known (record v { seen = z; told = [] })) t) p.1 (stands_more log_of basis_of answers basis opening seats v v.stage p.0 v.turns t (f.stands k t e)) in (
        record {
          seen = q;
          told = (log, refl);
          stage = subst (λ (st : Stage). FitsStage basis opening log drawn served id (seeing l v) st) (sym idle)
              record { basis_is = mine.basis_is; opening_is = mine.opening_is; some_part = mine.some_part; number_is = mine.number_is; in_log = mine.in_log; in_seen = own };
          stands = stand;
          gone = f.gone;
          distinct = f.distinct;
        },
        record { mine = subst (λ (n : ℕ). changes_by n l ≡ pieces v.turns) (sym mine.number_is) own; turns = stand },
      )

  compares_to : (s : St) (r : Rule s) (id : ℕ) (me : Me S V) (l : List (Entry X)) → get_elem? s.views id ≡ some me.0 → me.0.stage ≡ Idle → IsPrefix me.0.seen l → IsPrefix l r.log → IsLonger l me.0.seen me.0.told
      → (w : V) × (a : Act S) × Unit {0} × Rule (stepped s 0 (get_or s.words 0 0) id me.1 w keeps) × compared answers (step 0 0 0 0 none) me 0 (w, me.1)
  compares_to s r id me l at idle p q longer =
      let t = longer_fits r.log r.drawn r.served id me.0 l idle (r.each_seat id me.0 at) p q in (
        seeing l me.0,
        keeps,
        tt,
        subst (λ (ws : List ℕ). Rule record { words = ws; homes = s.homes; views = set s.views id (seeing l me.0) }) (sym (set-get_or s.words 0 0)) (quiet s r id me.0 (seeing l me.0) at refl refl refl (λ _. refl) t.0),
        (l, refl, longer, t.1),
      )

  pub compares : (slots id : ℕ) (me : Me S V) → me.0.stage ≡ Idle → Allows Rule slots id me 0 (λ n. n) (compared answers (step slots 0 0 0 none) me)
  compares slots id me idle s r _ at _ =
      let f : Fit r.log r.drawn r.served id me.0 = r.each_seat id me.0 at in ⊎_elim
      (λ (p : IsPrefix me.0.seen me.0.told). let t = compares_to s r id me me.0.told at idle p f.told (inr (refl, p)) in (t.0, keeps, tt, t.3, t.4))
      (λ (p : IsPrefix me.0.told me.0.seen). let t = compares_to s r id me me.0.seen at idle ([], append-nil me.0.seen) f.seen (inl (refl, p)) in (t.0, keeps, tt, t.3, t.4))
      (in_line me.0.seen me.0.told r.log f.seen f.told)

module _ {B X C P : Type 0} where
  -- b hears a, and then a hears b
  pub meets : (a b a' b' a'' b'' : View B X C P) → a' ≡ a → ((s : List (Entry X)) × (b' ≡ seeing s b) × IsLonger s b.seen a.seen) → b'' ≡ b' → ((t : List (Entry X)) × (a'' ≡ seeing t a') × IsLonger t a'.seen b'.seen) → Meets (known a) (known b) (known a'') (known b'')
  meets a b a' b' a'' b'' same h stays k =
      let s : List (Entry X) = h.0 in
      let second : IsLonger k.0 a.seen h.0 = subst (λ (z : List (Entry X) × List (Entry X)). IsLonger k.0 z.0 z.1) (λ i. ((same i).seen, (h.1 i).seen)) k.2 in
      let one : k.0 ≡ h.0 = one_longer a.seen b.seen h.0 k.0 h.2 second in (
        h.0,
        ap known (k.1 ∙ (ap (λ (z : View B X C P). seeing k.0 z) same ∙ ap (λ (z : List (Entry X)). seeing z a) one)),
        ap known (stays ∙ h.1),
        ⊎_elim inr inl h.2,
      )
