-- The steps of one turn, put together.
use Rattle.std.proofs.Common.{◌≡◌, ℕ, ◌+◌, ◌-◌, ◌%◌, ◌^◌, ◌<◌, ◌≤◌, List, [], ◌∷◌, ◌++◌, length, drop, refl, sym, ap, ◌∙◌, subst, arith, length-append}
use mathlib.Core.List.{IsPrefix}
use Rattle.std.specs.declared.snapshot.Snapshot.{Snapshot}
use Rattle.atomic_table.specs.Table.{Me}
use Rattle.soc_hall.specs.declared.view.Place.{Place}
use Rattle.soc_hall.specs.declared.view.Place.TheVariants.{Empty, Done}
use Rattle.soc_hall.specs.declared.view.Entry.{Entry}
use Rattle.soc_hall.specs.declared.view.Stage.TheVariants.{Idle, Waits, Turns}
use Rattle.soc_hall.specs.declared.view.Known.{Known}
use Rattle.soc_hall.specs.declared.view.View.{View}
use Rattle.soc_hall.specs.declared.hall.HallReceipt.{HallReceipt}
use Rattle.soc_hall.specs.Log.{tagged, changes, whole}
use Rattle.std.specs.Prelude.{Some}
use Rattle.soc_hall.specs.Seats.{known, seen_of, MayAsk}
use Rattle.soc_hall.specs.Asked.{sees, with_turn, Right, IsState, Asks}
use Rattle.soc_hall.specs.inner.Rule.{Holds}
use Rattle.soc_hall.specs.inner.Steps.{staged, front_of, taken, turned_by, Takes, IsAfter, IsDone}
use Rattle.soc_hall.proofs.Logs.{whole_append, changes_tagged, prefix_drop}

abbrev Sat : Type 0 → Type 0 → Type 0 → Type 0 → Type 0 → Type 0
Sat T B X C P = Me (Place T C P) (View B X C P)

prefix_long : {X : Type 0} → (xs ys : List X) → IsPrefix xs ys → length xs ≤ length ys
prefix_long xs ys p = let e : length (xs ++ p.0) ≡ length ys = ap length p.1 in let d : length (xs ++ p.0) ≡ length xs + length p.0 = length-append xs p.0 in omega arith

module _ {T B X C P : Type 0} (log_of : T → List X) (basis_of : T → B) where
  -- a seat has its turn and the state: of the seat m0 at first, m1 with its ticket, m2 at its turn, m3 with the front and m4 with the state moved out
  pub enters : (m0 m1 m2 m3 m4 : Sat T B X C P) (n : ℕ) → (t : ℕ) × (n ≡ t % 2 ^ 64) × (m1 ≡ (staged (Waits t) m0.0, [])) → (t : ℕ) × Takes log_of basis_of m1.0 t [] m2.0 m2.1 → m3 ≡ m2 → m4 ≡ (m3.0, (0, Empty) ∷ [])
      → (t : ℕ) × (between : List (Entry X)) × (m4 ≡ (taken m0.0 t between, (0, Empty) ∷ []))
  enters m0 m1 m2 m3 m4 n drew took same moved = (
    took.0,
    took.1.0,
    moved ∙ ap (λ (v : View B X C P). (v, (0, Empty) ∷ [])) (ap (λ (m : Sat T B X C P). m.0) same ∙ (took.1.2 ∙ ap (λ (m : Sat T B X C P). taken m.0 took.0 took.1.0) drew.2)),
  )

  -- what a seat may ask by what it has seen it may ask at its turn
  pub may_turn : (may : B → List X → C → Type 0) → ((b : B) (xs ys : List X) (c : C) → may b xs c → may b (xs ++ ys) c)
      → (m m' : Sat T B X C P) (x : T) (c : C) → (t : ℕ) × (between : List (Entry X)) × (m' ≡ (taken m.0 t between, (0, Empty) ∷ [])) → IsState log_of basis_of m'.0.basis m'.0.opening m'.0.seen x → MayAsk may (known m.0) c → may (basis_of x) (log_of x) c
  may_turn may still m m' x c entered state asked =
      let v : View B X C P = m.0 in
      let between : List (Entry X) = entered.1 in
      let st : IsState log_of basis_of v.basis v.opening (v.seen ++ between) x = subst (λ (z : Sat T B X C P). IsState log_of basis_of z.0.basis z.0.opening z.0.seen x) entered.2 state in
      subst (λ (z : List X). may (basis_of x) z c) (sym (st.0 ∙ whole_append v.opening v.seen between)) (still (basis_of x) (whole v.opening v.seen) (changes between) c (asked (basis_of x) st.1))

module _ {T B X C P : Type 0} (log_of : T → List X) (basis_of : T → B) (answers : B → List X → C → P → List X → Type 0) where
  -- the state after the command's turn
  pub after_turn : (v : View B X C P) (x x' : T) (c c' : C) (p p' : P) (start front : ℕ) → IsState log_of basis_of v.basis v.opening v.seen x → IsPrefix (log_of x) (log_of x') → basis_of x' ≡ basis_of x
      → start ≡ front_of v → front ≡ length (log_of x') → front < 2 ^ 64 → c' ≡ c → p' ≡ p → answers (basis_of x) (log_of x) c p (log_of x') → IsAfter log_of basis_of answers v (front - start) x' c' p'
  after_turn v x x' c c' p p' start front state longer same s f small ec ep ans =
      let l : IsPrefix (whole v.opening v.seen) (log_of x') = subst (λ (z : List X). IsPrefix z (log_of x')) state.0 longer in
      let long : length (whole v.opening v.seen) ≤ length (log_of x') = prefix_long (whole v.opening v.seen) (log_of x') l in record {
        longer = l;
        basis_is = state.1 ∙ ap (λ (z : B). Some z) (sym same);
        length_is = omega arith;
        small = omega arith;
        right = (basis_of x, state.1, subst (λ (z : List X × C × P). answers (basis_of x) z.0 z.1 z.2 (log_of x')) (λ i. (state.0 i, sym ec i, sym ep i)) ans);
      }

  -- the state's log is what the seat has seen, with its piece
  piece_is : (v : View B X C P) (k : ℕ) (x : T) (c : C) (p : P) → IsAfter log_of basis_of answers v k x c p → log_of x ≡ whole v.opening (v.seen ++ tagged v.number (drop (front_of v) (log_of x)))
  piece_is v k x c p a = let piece : List X = drop (front_of v) (log_of x) in
      sym (prefix_drop (whole v.opening v.seen) (log_of x) a.longer) ∙ sym (whole_append v.opening v.seen (tagged v.number piece) ∙ ap (λ (z : List X). whole v.opening v.seen ++ z) (changes_tagged v.number piece))

  module _ (m : Sat T B X C P) (k : ℕ) (x : T) (sc : Snapshot C) (sp : Snapshot P) where
    abbrev pub Gave : Sat T B X C P → Type 0
    Gave m5 = m5 ≡ (m.0, (0, Done x sc sp) ∷ [])

    abbrev pub Counted : Sat T B X C P → Sat T B X C P → Type 0
    Counted m5 m6 = (y : T) (yc : Snapshot C) (yp : Snapshot P) → m5.1 ≡ (0, Done y yc yp) ∷ [] → m6 ≡ (turned_by m5.0 (drop (front_of m5.0) (log_of y)) yc.value yp.value, m5.1)

    abbrev piece : List X
    piece = drop (front_of m.0) (log_of x)

    pub is_done : (m5 : Sat T B X C P) → Gave m5 → IsAfter log_of basis_of answers m.0 k x sc.value sp.value → IsDone log_of basis_of answers m5 k
    is_done m5 gave after = subst (λ (z : Sat T B X C P). IsDone log_of basis_of answers z k) (sym gave) (x, sc, sp, refl, after)

    pub counted_is : (m5 m6 : Sat T B X C P) → Gave m5 → Counted m5 m6 → m6 ≡ (turned_by m.0 piece sc.value sp.value, (0, Done x sc sp) ∷ [])
    counted_is m5 m6 gave counted = counted x sc sp (ap (λ (z : Sat T B X C P). z.1) gave) ∙ ap (λ (z : Sat T B X C P). (turned_by z.0 (drop (front_of z.0) (log_of x)) sc.value sp.value, z.1)) gave

    pub counted_turn : (m5 m6 : Sat T B X C P) → Gave m5 → Counted m5 m6 → (t : ℕ) × (m.0.stage ≡ Turns t) → (t : ℕ) × (m6.0.stage ≡ Turns t)
    counted_turn m5 m6 gave counted turn = (turn.0, ap (λ (z : Sat T B X C P). z.0.stage) (counted_is m5 m6 gave counted) ∙ turn.1)

    pub counted_state : (m5 m6 : Sat T B X C P) → Gave m5 → Counted m5 m6 → IsAfter log_of basis_of answers m.0 k x sc.value sp.value
        → (y : Place T C P) × (m6.1 ≡ (0, y) ∷ []) × Holds (IsState log_of basis_of m6.0.basis m6.0.opening m6.0.seen) y
    counted_state m5 m6 gave counted after = subst (λ (z : Sat T B X C P). (y : Place T C P) × (z.1 ≡ (0, y) ∷ []) × Holds (IsState log_of basis_of z.0.basis z.0.opening z.0.seen) y)
        (sym (counted_is m5 m6 gave counted)) (Done x sc sp, refl, (piece_is m.0 k x sc.value sp.value after, after.basis_is))

    pub left : (m5 m6 m7 : Sat T B X C P) → Gave m5 → Counted m5 m6 → m7 ≡ (staged Idle m6.0, []) → m7 ≡ (staged Idle (turned_by m.0 piece sc.value sp.value), [])
    left m5 m6 m7 gave counted passed = passed ∙ ap (λ (z : Sat T B X C P). (staged Idle z.0, [])) (counted_is m5 m6 gave counted)

  -- what the turn gives its seat: of the seat m at first, m' at its turn and m'' after it
  pub asked : (asks : T → C → P → T → Type 0) (m m' m'' : Sat T B X C P) (k : ℕ) (x x' : T) (c c' : C) (p p' : P) (r : HallReceipt P)
      → (t : ℕ) × (between : List (Entry X)) × (m' ≡ (taken m.0 t between, (0, Empty) ∷ [])) → IsState log_of basis_of m'.0.basis m'.0.opening m'.0.seen x
      → IsAfter log_of basis_of answers m'.0 k x' c' p' → m'' ≡ (staged Idle (turned_by m'.0 (drop (front_of m'.0) (log_of x')) c' p'), []) → asks x c p x'
      → c' ≡ c → p' ≡ p → r.start ≡ front_of m'.0 → r.front ≡ length (log_of x') → r.reply ≡ p → Asks log_of basis_of asks answers (known m.0) c r (known m''.0)
  asked asks m m' m'' k x x' c c' p p' r entered state after gone did ec ep start front said =
      let between : List (Entry X) = entered.1 in
      let w : View B X C P = taken m.0 entered.0 between in
      let is : m'.0 ≡ w = ap (λ (z : Sat T B X C P). z.0) entered.2 in
      let a : IsAfter log_of basis_of answers w k x' c r.reply = subst (λ (z : View B X C P × C × P). IsAfter log_of basis_of answers z.0 k x' z.1 z.2) (λ i. (is i, ec i, (ep ∙ sym said) i)) after in
      let piece : List X = drop (front_of w) (log_of x') in
      let end : known m''.0 ≡ with_turn (sees between (known m.0)) piece c r.reply =
      ap (λ (z : Sat T B X C P). known z.0) gone ∙ ap (λ (z : View B X C P × C × P). known (turned_by z.0 (drop (front_of z.0) (log_of x')) z.1 z.2)) (λ i. (is i, ec i, (ep ∙ sym said) i)) in
      let log_is : log_of x' ≡ whole w.opening (w.seen ++ tagged w.number piece) = piece_is w k x' c r.reply a in
      record {
        between = between;
        piece = piece;
        knows = end;
        start_is = start ∙ ap front_of is;
        front_is = front ∙ (ap length log_is ∙ ap (λ (z : Known B X C P). length (seen_of z)) (sym end));
        right = subst (λ (z : List X). Right answers w.basis (whole w.opening w.seen) c r.reply z) (log_is ∙ ap seen_of (sym end)) a.right;
        before = x;
        after = x';
        was = subst (λ (z : View B X C P). IsState log_of basis_of z.basis z.opening z.seen x) is state;
        is_now = subst (λ (z : Known B X C P). IsState log_of basis_of z.basis z.opening z.seen x') (sym end) (log_is, a.basis_is);
        stepped = subst (λ (z : P). asks x c z x') (sym said) did;
      }
