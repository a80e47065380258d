-- Each step of the ring keeps its rule.
use Rattle.std.proofs.Common.{◌≡◌, ◌≢◌, ℕ, zero, suc, ◌+◌, ◌<◌, ◌≤◌, Bool, true, false, eqb, eq-eqb, ne_eqb, cond, List, [], ◌∷◌, ◌++◌, length, set, sym, refl, ap, ◌∙◌, subst, ◌⊎◌, inl, inr, ⊎_elim, arith, append_assoc, map, add-one, length-append}
use Rattle.std.specs.Prelude.{All}
use Rattle.std.proofs.lemmas.Bool.{cases_lt}
use Rattle.std.proofs.lemmas.List.{map-append}
use mathlib.Core.Option.{some, some-injective, some-ne-none}
use mathlib.Core.List.{IsPrefix, append-nil}
use mathlib.Core.Logic.{dite}
use native.Mathlib.Decide.{ℕ_discrete}
use lib.ListN.{get_elem?}
use Rattle.crossbeam_queue.specs.Fifo.{Pushes, PushesAfter, Pops, PopsFrom, Forks, Merges, Learns}
use Rattle.crossbeam_queue.proofs.Lists.{at_set, at_longer, at_last, set_here, set_else}
use Rattle.soc_pool.specs.declared.jobs.Job.{Job}
use Rattle.soc_pool.specs.declared.jobs.TheConstants.{PLACES}
use Rattle.soc_pool.specs.declared.rule.Entry.{Entry}
use Rattle.soc_pool.specs.declared.rule.Role.{Role}
use Rattle.soc_pool.specs.declared.rule.Role.TheVariants.{Makes, Works, Spent}
use Rattle.soc_pool.specs.declared.rule.Seen.{Seen}
use Rattle.soc_pool.specs.declared.rule.View.{View}
use Rattle.soc_pool.specs.Passes.{numbers_below}
use Rattle.soc_pool.specs.Ring.{entry, jobs, jobs_by, HasPart, Closes}
use Rattle.soc_pool.specs.inner.Rule.{maker, next_maker, newcomer, gathering, spent, puts_in, takes_in, takes_from_full, has_nothing, has_closed, Lives, works, total, Fits, IsRing}

-- ---- lists of entries

jobs_append : (xs ys : List Entry) → jobs (xs ++ ys) ≡ jobs xs ++ jobs ys
jobs_append [] ys = refl
jobs_append (e ∷ es) ys = ap (λ (z : List Job). e.job ∷ z) (jobs_append es ys)

by_cons : (e : Entry) (b : Bool) (xs ys : List Job) → cond b (e.job ∷ (xs ++ ys)) (xs ++ ys) ≡ cond b (e.job ∷ xs) xs ++ ys
by_cons e true xs ys = refl
by_cons e false xs ys = refl

by_append : (n : ℕ) (xs ys : List Entry) → jobs_by n (xs ++ ys) ≡ jobs_by n xs ++ jobs_by n ys
by_append n [] ys = refl
by_append n (e ∷ es) ys = ap (λ (z : List Job). cond (eqb e.by n) (e.job ∷ z) z) (by_append n es ys) ∙ by_cons e (eqb e.by n) (jobs_by n es) (jobs_by n ys)

-- one entry more at the end
by_mine : (n : ℕ) (xs : List Entry) (job : Job) (own : List Job) → jobs_by n xs ≡ own → jobs_by n (xs ++ entry n job ∷ []) ≡ own ++ job ∷ []
by_mine n xs job own is = by_append n xs (entry n job ∷ []) ∙ (ap (λ (z : List Job). z ++ jobs_by n (entry n job ∷ [])) is ∙ ap (λ b. own ++ cond b (job ∷ []) []) (eq-eqb n n refl))

by_other : (n m : ℕ) (xs : List Entry) (job : Job) → n ≢ m → jobs_by m (xs ++ entry n job ∷ []) ≡ jobs_by m xs
by_other n m xs job ne = by_append m xs (entry n job ∷ []) ∙ (ap (λ b. jobs_by m xs ++ cond b (job ∷ []) []) (ne_eqb n m ne) ∙ append-nil (jobs_by m xs))

further : {A : Type 0} → (xs ys zs : List A) → IsPrefix xs ys → IsPrefix xs (ys ++ zs)
further xs ys zs p = (p.0 ++ zs, sym (append_assoc xs p.0 zs) ∙ ap (λ (z : List _). z ++ zs) p.1)

whole : {A : Type 0} → (xs : List A) → IsPrefix xs xs
whole xs = ([], append-nil xs)

-- ---- lists of views

module _ {A : Type 0} where
  at_end : (l : List A) (a b : A) (j : ℕ) → get_elem? (l ++ a ∷ []) j ≡ some b → (get_elem? l j ≡ some b) ⊎ ((j ≡ length l) × (a ≡ b))
  at_end [] a b zero e = inr (refl, some-injective a b e)
  at_end [] a b (suc j) e = absurd (some-ne-none b (sym e))
  at_end (x ∷ xs) a b zero e = inl e
  at_end (x ∷ xs) a b (suc j) e = ⊎_elim inl (λ t. inr (ap suc t.0, t.1)) (at_end xs a b j e)

  at_below : (vs : List A) (j : ℕ) (v : A) → get_elem? vs j ≡ some v → j < length vs
  at_below [] j v e = absurd (some-ne-none v (sym e))
  at_below (x ∷ xs) zero v e = omega arith
  at_below (x ∷ xs) (suc j) v e = let r = at_below xs j v e in omega arith

  -- the two at one place are one
  one_at : (vs : List A) (i j : ℕ) (u v : A) → i ≡ j → get_elem? vs i ≡ some u → get_elem? vs j ≡ some v → u ≡ v
  one_at vs i j u v same eu ev = some-injective u v (sym eu ∙ (ap (λ (k : ℕ). get_elem? vs k) same ∙ ev))

  all_at : (Q : A → Type 0) (xs : List A) → ((k : ℕ) (x : A) → get_elem? xs k ≡ some x → Q x) → All Q xs
  all_at Q [] each k d l = absurd (omega arith)
  all_at Q (x ∷ xs) each zero d l = each 0 x refl
  all_at Q (x ∷ xs) each (suc k) d l = all_at Q xs (λ j y e. each (suc j) y e) k d (omega arith)

  module _ (f : A → ℕ) where
    total_set : (vs : List A) (j : ℕ) (v w : A) → get_elem? vs j ≡ some v → total f (set vs j w) + f v ≡ total f vs + f w
    total_set [] j v w e = absurd (some-ne-none v (sym e))
    total_set (x ∷ xs) zero v w e = let is : f x ≡ f v = ap f (some-injective x v e) in omega arith
    total_set (x ∷ xs) (suc j) v w e = let r = total_set xs j v w e in omega arith

    total_snoc : (vs : List A) (w : A) → total f (vs ++ w ∷ []) ≡ total f vs + f w
    total_snoc [] w = omega arith
    total_snoc (x ∷ xs) w = let r = total_snoc xs w in omega arith

    total_at : (vs : List A) (j : ℕ) (v : A) → get_elem? vs j ≡ some v → f v ≤ total f vs
    total_at [] j v e = absurd (some-ne-none v (sym e))
    total_at (x ∷ xs) zero v e = let is : f x ≡ f v = ap f (some-injective x v e) in omega arith
    total_at (x ∷ xs) (suc j) v e = let r = total_at xs j v e in omega arith

-- ---- roles

works_lives : {role : Role} → role ≡ Works → Lives role
works_lives is = subst Lives (sym is) tt

makes_lives : {role : Role} → role ≡ Makes → Lives role
makes_lives is = subst Lives (sym is) tt

zero_one : (n m : ℕ) → n ≡ m → n ≡ 0 → m ≡ 1 → ⊥
zero_one n m is none one = omega arith

no_maker_works : {role : Role} → role ≡ Makes → role ≡ Works → ⊥
no_maker_works makes works' = zero_one (works Makes) (works Works) (ap works (sym makes ∙ works')) refl refl

-- a pass's part where others put and take, and it doesn't
fits_map : (put taken put' taken' : List Entry) (next : ℕ) (gone : List Seen) (v : View) (role : Role) → (Lives role → HasPart put taken v.seen → HasPart put' taken' v.seen) → Fits put taken next gone v role → Fits put' taken' next gone v role
fits_map put taken put' taken' next gone v Makes f h = h
fits_map put taken put' taken' next gone v Works f h = (h.0, f tt h.1)
fits_map put taken put' taken' next gone v Spent f h = tt

-- where there is one pass more, for all but the maker
fits_more : (put taken : List Entry) (next : ℕ) (gone : List Seen) (v : View) (role : Role) → (Lives role → v.seen.number < next) → Fits put taken next gone v role → Fits put taken (next + 1) gone v role
fits_more put taken next gone v Makes low h = absurd (let below : v.seen.number < next = low tt in let is : v.seen.number ≡ next = h.0 in omega arith)
fits_more put taken next gone v Works low h = (let below : v.seen.number < next = h.0 in omega arith, h.1)
fits_more put taken next gone v Spent low h = tt

-- where a pass was taken back, for all but the maker
fits_gone : (put taken : List Entry) (next : ℕ) (gone gone' : List Seen) (v : View) (role : Role) → (Lives role → v.seen.number ≢ next) → Fits put taken next gone v role → Fits put taken next gone' v role
fits_gone put taken next gone gone' v Makes other h = absurd (other tt h.0)
fits_gone put taken next gone gone' v Works other h = h
fits_gone put taken next gone gone' v Spent other h = tt

at_most : (put taken : List Entry) (next : ℕ) (gone : List Seen) (v : View) (role : Role) → Lives role → Fits put taken next gone v role → v.seen.number ≤ next
at_most put taken next gone v Makes lives h = let is : v.seen.number ≡ next = h.0 in omega arith
at_most put taken next gone v Works lives h = let below : v.seen.number < next = h.0 in omega arith
at_most put taken next gone v Spent lives h = absurd lives

abbrev Apart : List View → Type 0
Apart views = (i j : ℕ) (v w : View) → get_elem? views i ≡ some v → get_elem? views j ≡ some w → Lives v.role → Lives w.role → v.seen.number ≡ w.seen.number → i ≡ j

-- a view changes, and not its number
apart_set : (views : List View) (me : ℕ) (v w : View) → get_elem? views me ≡ some v → (Lives w.role → Lives v.role × (w.seen.number ≡ v.seen.number)) → Apart views → Apart (set views me w)
apart_set views me v w at kept old i j a b ei ej la lb same =
    let number : (c : View) → w ≡ c → Lives c.role → Lives v.role × (v.seen.number ≡ c.seen.number) = λ c is lc.
    let k = kept (subst (λ (z : View). Lives z.role) (sym is) lc) in (k.0, sym k.1 ∙ ap (λ (z : View). z.seen.number) is) in ⊎_elim
    (λ (s : (i ≡ me) × (w ≡ a)). ⊎_elim
    (λ (t : (j ≡ me) × (w ≡ b)). s.0 ∙ sym t.0)
    (λ (t : (j ≢ me) × (get_elem? views j ≡ some b)). let n = number a s.1 la in s.0 ∙ old me j v b at t.1 n.0 lb (n.1 ∙ same))
    (at_set views me j w b ej))
    (λ (s : (i ≢ me) × (get_elem? views i ≡ some a)). ⊎_elim
    (λ (t : (j ≡ me) × (w ≡ b)). let n = number b t.1 lb in old i me a v s.1 at la n.0 (same ∙ sym n.1) ∙ sym t.0)
    (λ (t : (j ≢ me) × (get_elem? views j ≡ some b)). old i j a b s.1 t.1 la lb same)
    (at_set views me j w b ej))
    (at_set views me i w a ei)

-- ---- puts and takes

-- a pass puts or takes, by which the others' parts stay
steps : (pass : ℕ) (v w : View) (put taken : List Entry) (held held' : List Job) (views : List View) (r : IsRing held views) → get_elem? views pass ≡ some v → v.role ≡ Works → w.role ≡ v.role → w.seen.number ≡ v.seen.number
    → jobs taken ++ held' ≡ jobs put → HasPart put taken w.seen
    → ((u : Seen) → u.number ≢ v.seen.number → HasPart r.put r.taken u → HasPart put taken u)
    → ((n : ℕ) → n ≢ v.seen.number → (jobs_by n r.put ≡ []) × (jobs_by n r.taken ≡ []) → (jobs_by n put ≡ []) × (jobs_by n taken ≡ []))
    → IsRing held' (set views pass w)
steps pass v w put taken held held' views r at is role number content mine others unused =
    let lives : Lives v.role = works_lives is in
    let f : (v.seen.number < r.next) × HasPart r.put r.taken v.seen = subst (Fits r.put r.taken r.next r.gone v) is (r.each pass v at) in
    let here : get_elem? (set views pass w) pass ≡ some w = set_here views pass w (at_below views pass v at) in record {
      put = put;
      taken = taken;
      next = r.next;
      gone = r.gone;
      content = content;
      each = λ j u e. ⊎_elim
          (λ (t : (j ≡ pass) × (w ≡ u)). subst (λ (z : View). Fits put taken r.next r.gone z z.role) t.1
          (subst (Fits put taken r.next r.gone w) (sym (role ∙ is)) (subst (λ (n : ℕ). n < r.next) (sym number) f.0, mine)))
          (λ (t : (j ≢ pass) × (get_elem? views j ≡ some u)).
          fits_map r.put r.taken put taken r.next r.gone u u.role (λ lu. others u.seen (λ same. t.0 (r.apart j pass u v t.1 at lu lives same))) (r.each j u t.1))
          (at_set views pass j w u e);
      apart = apart_set views pass v w at (λ _. (lives, number)) r.apart;
      gone_each = λ k g e. let h = r.gone_each k g e in (h.0, others g (r.gone_away k pass g v e at lives) h.1);
      gone_apart = r.gone_apart;
      gone_away = λ k j g u eg eu lu. ⊎_elim
          (λ (t : (j ≡ pass) × (w ≡ u)). λ same. r.gone_away k pass g v eg at lives (same ∙ (ap (λ (z : View). z.seen.number) (sym t.1) ∙ number)))
          (λ (t : (j ≢ pass) × (get_elem? views j ≡ some u)). r.gone_away k j g u eg t.1 lu)
          (at_set views pass j w u eu);
      owners = λ n below. ⊎_elim
          (λ (o : (j : ℕ) × (u : View) × (get_elem? views j ≡ some u) × (u.role ≡ Works) × (u.seen.number ≡ n)). dite (ℕ_discrete o.0 pass)
          (λ same. inl (pass, w, here, role ∙ is, number ∙ (ap (λ (z : View). z.seen.number) (one_at views pass o.0 v o.1 (sym same) at o.2) ∙ o.4)))
          (λ other. inl (o.0, o.1, set_else views pass o.0 w other ∙ o.2, o.3, o.4)))
          inr
          (r.owners n below);
      count = let e : total (λ (u : View). works u.role) (set views pass w) + works v.role ≡ total (λ (u : View). works u.role) views + works w.role = total_set (λ (u : View). works u.role) views pass v w at in
          let q : works w.role ≡ works v.role = ap works role in let o = r.count in omega arith;
      unused = λ n past. unused n (λ same. absurd (let below : v.seen.number < r.next = f.0 in omega arith)) (r.unused n past);
    }

pub puts : (n pass : ℕ) (v : View) (job : Job) → v.role ≡ Works → Pushes IsRing n pass v job (puts_in v job)
puts n pass v job is held views short r at =
    let s : Seen = v.seen in
    let f : (s.number < r.next) × HasPart r.put r.taken s = subst (Fits r.put r.taken r.next r.gone v) is (r.each pass v at) in
    let put : List Entry = r.put ++ entry s.number job ∷ [] in
    let w : View = record v { seen = record s { put = put; taken = r.taken; puts = s.puts ++ job ∷ [] } } in
    let mine : jobs_by s.number put ≡ s.puts ++ job ∷ [] = by_mine s.number r.put job s.puts f.1.puts in
    let content : jobs r.taken ++ (held ++ job ∷ []) ≡ jobs put = sym (append_assoc (jobs r.taken) held (job ∷ [])) ∙ (ap (λ (z : List Job). z ++ job ∷ []) r.content ∙ sym (jobs_append r.put (entry s.number job ∷ []))) in
    let other : (m : ℕ) → m ≢ s.number → jobs_by m put ≡ jobs_by m r.put = λ m ne. by_other s.number m r.put job (λ same. ne (sym same)) in (
      w,
      steps pass v w put r.taken held (held ++ job ∷ []) views r at is refl refl content
          record { begins = (whole put, whole r.taken); puts = mine; takes = f.1.takes }
          (λ u ne p. record { begins = (further u.put r.put (entry s.number job ∷ []) p.begins.0, p.begins.1); puts = other u.number ne ∙ p.puts; takes = p.takes })
          (λ m ne none. (other m ne ∙ none.0, none.1)),
      (record { put = r.put; taken = r.taken; begins = f.1.begins; is_now = refl; owns = record { in_order = (held ++ job ∷ [], content); puts = mine; takes = f.1.takes } }, refl),
    )

-- how many jobs are left is known then
takes_one : (pass : ℕ) (v : View) → v.role ≡ Works → (job : Job) (held : List Job) (views : List View) → IsRing (job ∷ held) views → get_elem? views pass ≡ some v
    → (w : View) × IsRing held (set views pass w) × takes_in v job w × (jobs w.seen.taken ++ held ≡ jobs w.seen.put)
takes_one pass v is job held views r at =
    let s : Seen = v.seen in
    let f : (s.number < r.next) × HasPart r.put r.taken s = subst (Fits r.put r.taken r.next r.gone v) is (r.each pass v at) in
    let taken : List Entry = r.taken ++ entry s.number job ∷ [] in
    let w : View = record v { seen = record s { put = r.put; taken = taken; takes = s.takes ++ job ∷ [] } } in
    let mine : jobs_by s.number taken ≡ s.takes ++ job ∷ [] = by_mine s.number r.taken job s.takes f.1.takes in
    let content : jobs taken ++ held ≡ jobs r.put = ap (λ (z : List Job). z ++ held) (jobs_append r.taken (entry s.number job ∷ [])) ∙ (append_assoc (jobs r.taken) (job ∷ []) held ∙ r.content) in
    let other : (m : ℕ) → m ≢ s.number → jobs_by m taken ≡ jobs_by m r.taken = λ m ne. by_other s.number m r.taken job (λ same. ne (sym same)) in (
      w,
      steps pass v w r.put taken (job ∷ held) held views r at is refl refl content
          record { begins = (whole r.put, whole taken); puts = f.1.puts; takes = mine }
          (λ u ne p. record { begins = (p.begins.0, further u.taken r.taken (entry s.number job ∷ []) p.begins.1); puts = p.puts; takes = other u.number ne ∙ p.takes })
          (λ m ne none. (none.0, other m ne ∙ none.1)),
      (record { put = r.put; taken = r.taken; begins = f.1.begins; is_now = refl; owns = record { in_order = (held, content); puts = f.1.puts; takes = mine } }, refl),
      content,
    )

pub takes : (pass : ℕ) (v : View) → v.role ≡ Works → Pops IsRing pass v (takes_in v)
takes pass v is job held views r at = let one = takes_one pass v is job held views r at in (one.0, one.1, one.2)

jobs_length : (xs : List Entry) → length (jobs xs) ≡ length xs
jobs_length [] = refl
jobs_length (e ∷ es) = ap suc (jobs_length es)

-- a job more than a ring has places is put, and room was made before
pub takes_full : (pass : ℕ) (v : View) → v.role ≡ Works → PopsFrom IsRing PLACES pass v (takes_from_full v)
takes_full pass v is job held views full r at =
    let one = takes_one pass v is job held views r at in
    let w : View = one.0 in
    let both : length (jobs w.seen.taken) + length held ≡ length (jobs w.seen.put) = sym (length-append (jobs w.seen.taken) held) ∙ ap length one.3 in
    let put = jobs_length w.seen.put in
    let taken = jobs_length w.seen.taken in
    (w, one.1, ((one.2.0, omega arith), one.2.1))

pub puts_after : (n pass : ℕ) (v : View) (job : Job) → v.role ≡ Works → PushesAfter IsRing n pass (takes_from_full v) job puts_in
puts_after n pass v job is out w taken = puts n pass w job (taken.1 ∙ is)

pub learns : (pass : ℕ) (v : View) → Learns IsRing pass v (has_nothing v)
learns pass v held views r at = tt

-- ---- the maker

only_one : (j : ℕ) (v : View) → get_elem? (maker ∷ []) j ≡ some v → (j ≡ 0) × (maker ≡ v)
only_one zero v e = (refl, some-injective maker v e)
only_one (suc j) v e = absurd (some-ne-none v (sym e))

pub begins : IsRing [] (maker ∷ [])
begins = record {
  put = [];
  taken = [];
  next = 0;
  gone = [];
  content = refl;
  each = λ j v e. subst (λ (z : View). Fits [] [] 0 [] z z.role) (only_one j v e).1 (refl, refl);
  apart = λ i j v w ei ej lv lw same. (only_one i v ei).0 ∙ sym (only_one j w ej).0;
  gone_each = λ k g e. absurd (some-ne-none g (sym e));
  gone_apart = λ k l g h e. absurd (some-ne-none g (sym e));
  gone_away = λ k j g v e. absurd (some-ne-none g (sym e));
  owners = λ n below. absurd (omega (arith, below));
  count = refl;
  unused = λ n past. (refl, refl);
}

-- another pass than the maker has a lower number
lower : (held : List Job) (views : List View) (r : IsRing held views) (pass : ℕ) (v : View) → get_elem? views pass ≡ some v → v.role ≡ Makes → v.seen.number ≡ r.next → (j : ℕ) (u : View) → j ≢ pass → get_elem? views j ≡ some u → Lives u.role → u.seen.number < r.next
lower held views r pass v at is number j u ne e lu =
    let most : u.seen.number ≤ r.next = at_most r.put r.taken r.next r.gone u u.role lu (r.each j u e) in
    let other : u.seen.number ≢ r.next = λ same. ne (r.apart j pass u v e at lu (makes_lives is) (same ∙ sym number)) in omega arith

-- a new pass has the number that the maker had
pub forks : (pass : ℕ) (v : View) → v.role ≡ Makes → Forks IsRing pass v (next_maker v) (newcomer v)
forks pass v is held views r at =
    let n : ℕ = v.seen.number in
    let left : View = next_maker v in
    let right : View = newcomer v in
    let vs : List View = set views pass left in
    let f : (n ≡ r.next) × (v.gone ≡ r.gone) = subst (Fits r.put r.taken r.next r.gone v) is (r.each pass v at) in
    let low : (j : ℕ) (u : View) → j ≢ pass → get_elem? views j ≡ some u → Lives u.role → u.seen.number < r.next = lower held views r pass v at is f.0 in
    let none : (jobs_by n r.put ≡ []) × (jobs_by n r.taken ≡ []) = r.unused n (let e = f.0 in omega arith) in
    let known : (j : ℕ) (u : View) → get_elem? (vs ++ right ∷ []) j ≡ some u → ((j ≡ pass) × (left ≡ u)) ⊎ (((j ≢ pass) × (get_elem? views j ≡ some u)) ⊎ ((j ≡ length vs) × (right ≡ u))) = λ j u e. ⊎_elim
    (λ o. ⊎_elim (λ t. inl t) (λ t. inr (inl t)) (at_set views pass j left u o))
    (λ t. inr (inr t))
    (at_end vs right u j e) in
    -- whose number is it
    let number_of : (j : ℕ) (u : View) → get_elem? (vs ++ right ∷ []) j ≡ some u → Lives u.role → ((j ≡ pass) × (u.seen.number ≡ r.next + 1)) ⊎ (((get_elem? views j ≡ some u) × (u.seen.number < r.next)) ⊎ ((j ≡ length vs) × (u.seen.number ≡ r.next))) = λ j u e lu. ⊎_elim
    (λ t. inl (t.0, ap (λ (z : View). z.seen.number) (sym t.1) ∙ ap (λ (k : ℕ). k + 1) f.0))
    (λ t. inr (⊎_elim (λ o. inl (o.1, low j u o.0 o.1 lu)) (λ o. inr (o.0, ap (λ (z : View). z.seen.number) (sym o.1) ∙ f.0)) t))
    (known j u e) in
    record {
      put = r.put;
      taken = r.taken;
      next = r.next + 1;
      gone = r.gone;
      content = r.content;
      each = λ j u e. ⊎_elim
          (λ (t : (j ≡ pass) × (left ≡ u)). subst (λ (z : View). Fits r.put r.taken (r.next + 1) r.gone z z.role) t.1
          (subst (Fits r.put r.taken (r.next + 1) r.gone left) (sym is) (ap (λ (k : ℕ). k + 1) f.0, f.1)))
          (λ t. ⊎_elim
          (λ (o : (j ≢ pass) × (get_elem? views j ≡ some u)). fits_more r.put r.taken r.next r.gone u u.role (low j u o.0 o.1) (r.each j u o.1))
          (λ (o : (j ≡ length vs) × (right ≡ u)). subst (λ (z : View). Fits r.put r.taken (r.next + 1) r.gone z z.role) o.1
          (let e = f.0 in omega arith, record { begins = ((r.put, refl), (r.taken, refl)); puts = none.0; takes = none.1 }))
          t)
          (known j u e);
      apart = λ i j a b ei ej la lb same. ⊎_elim
          (λ (s : (i ≡ pass) × (a.seen.number ≡ r.next + 1)). ⊎_elim
          (λ (t : (j ≡ pass) × (b.seen.number ≡ r.next + 1)). s.0 ∙ sym t.0)
          (λ t. absurd (⊎_elim (λ (o : (get_elem? views j ≡ some b) × (b.seen.number < r.next)). omega arith) (λ (o : (j ≡ length vs) × (b.seen.number ≡ r.next)). omega arith) t))
          (number_of j b ej lb))
          (λ s. ⊎_elim
          (λ (t : (j ≡ pass) × (b.seen.number ≡ r.next + 1)). absurd (⊎_elim (λ (o : (get_elem? views i ≡ some a) × (a.seen.number < r.next)). omega arith) (λ (o : (i ≡ length vs) × (a.seen.number ≡ r.next)). omega arith) s))
          (λ t. ⊎_elim
          (λ (o : (get_elem? views i ≡ some a) × (a.seen.number < r.next)). ⊎_elim (λ (q : (get_elem? views j ≡ some b) × (b.seen.number < r.next)). r.apart i j a b o.0 q.0 la lb same) (λ (q : (j ≡ length vs) × (b.seen.number ≡ r.next)). absurd (omega arith)) t)
          (λ (o : (i ≡ length vs) × (a.seen.number ≡ r.next)). ⊎_elim (λ (q : (get_elem? views j ≡ some b) × (b.seen.number < r.next)). absurd (omega arith)) (λ (q : (j ≡ length vs) × (b.seen.number ≡ r.next)). o.0 ∙ sym q.0) t)
          s)
          (number_of j b ej lb))
          (number_of i a ei la);
      gone_each = λ k g e. let h = r.gone_each k g e in (let below : g.number < r.next = h.0 in omega arith, h.1);
      gone_apart = r.gone_apart;
      gone_away = λ k j g u eg eu lu.
          let below : g.number < r.next = (r.gone_each k g eg).0 in ⊎_elim
          (λ (t : (j ≡ pass) × (u.seen.number ≡ r.next + 1)). λ same. absurd (omega arith))
          (λ t. ⊎_elim
          (λ (o : (get_elem? views j ≡ some u) × (u.seen.number < r.next)). r.gone_away k j g u eg o.0 lu)
          (λ (o : (j ≡ length vs) × (u.seen.number ≡ r.next)). λ same. absurd (omega arith))
          t)
          (number_of j u eu lu);
      owners = λ m below. ⊎_elim
          (λ (old : m < r.next). ⊎_elim
          (λ (o : (j : ℕ) × (u : View) × (get_elem? views j ≡ some u) × (u.role ≡ Works) × (u.seen.number ≡ m)). inl (
            o.0,
            o.1,
            at_longer vs (right ∷ []) o.0 o.1 (set_else views pass o.0 left (λ same. no_maker_works is (ap (λ (z : View). z.role) (one_at views pass o.0 v o.1 (sym same) at o.2) ∙ o.3)) ∙ o.2),
            o.3,
            o.4,
          ))
          inr
          (r.owners m old))
          (λ (new : r.next ≤ m). inl (length vs, right, at_last vs right (length vs) refl, refl, let e = f.0 in omega arith))
          (cases_lt m r.next);
      count = let a : total (λ (u : View). works u.role) vs + works v.role ≡ total (λ (u : View). works u.role) views + works v.role = total_set (λ (u : View). works u.role) views pass v left at in
          let b : total (λ (u : View). works u.role) (vs ++ right ∷ []) ≡ total (λ (u : View). works u.role) vs + 1 = total_snoc (λ (u : View). works u.role) vs right in
          let o = r.count in omega arith;
      unused = λ m past. r.unused m (omega arith);
    }

-- the maker takes a pass back
pub gathers : (pass : ℕ) (v : View) (other : ℕ) (w : View) → v.role ≡ Makes → w.role ≡ Works → Merges IsRing pass v other w (gathering v w) spent
gathers pass v other w is is' held views r at ne there =
    let both : View = gathering v w in
    let vs : List View = set views pass (gathering v w) in
    let theirs : get_elem? views other ≡ some w = sym (set_else views pass other both ne) ∙ there in
    let lv : Lives v.role = makes_lives is in
    let lw : Lives w.role = works_lives is' in
    let gone : List Seen = r.gone ++ w.seen ∷ [] in
    let f : (v.seen.number ≡ r.next) × (v.gone ≡ r.gone) = subst (Fits r.put r.taken r.next r.gone v) is (r.each pass v at) in
    let fw : (w.seen.number < r.next) × HasPart r.put r.taken w.seen = subst (Fits r.put r.taken r.next r.gone w) is' (r.each other w theirs) in
    let away : (k : ℕ) (g : Seen) → get_elem? r.gone k ≡ some g → g.number ≢ w.seen.number = λ k g e. r.gone_away k other g w e theirs lw in
    -- whoever is there still: the maker, or one that was there before
    let known : (j : ℕ) (u : View) → get_elem? (set vs other spent) j ≡ some u → Lives u.role → ((j ≡ pass) × (both ≡ u)) ⊎ ((j ≢ other) × (j ≢ pass) × (get_elem? views j ≡ some u)) = λ j u e lu. ⊎_elim
    (λ (t : (j ≡ other) × (spent ≡ u)). absurd (subst (λ (z : View). Lives z.role) (sym t.1) lu))
    (λ (t : (j ≢ other) × (get_elem? vs j ≡ some u)). ⊎_elim inl (λ (q : (j ≢ pass) × (get_elem? views j ≡ some u)). inr (t.0, q.0, q.1)) (at_set views pass j both u t.1))
    (at_set vs other j spent u e) in
    -- none of them has the number of one that was taken back
    let elsewhere : (j : ℕ) (u : View) (g : Seen) → get_elem? (set vs other spent) j ≡ some u → Lives u.role → ((i : ℕ) (z : View) → i ≢ other → get_elem? views i ≡ some z → Lives z.role → g.number ≢ z.seen.number) → g.number ≢ u.seen.number = λ j u g e lu each. ⊎_elim
    (λ (t : (j ≡ pass) × (both ≡ u)). λ same. each pass v (λ q. ne (sym q)) at lv (same ∙ ap (λ (z : View). z.seen.number) (sym t.1)))
    (λ (t : (j ≢ other) × (j ≢ pass) × (get_elem? views j ≡ some u)). each j u t.0 t.2 lu)
    (known j u e lu) in
    record {
      put = r.put;
      taken = r.taken;
      next = r.next;
      gone = gone;
      content = r.content;
      each = λ j u e. ⊎_elim
          (λ (t : (j ≡ other) × (spent ≡ u)). subst (λ (z : View). Fits r.put r.taken r.next gone z z.role) t.1 tt)
          (λ (t : (j ≢ other) × (get_elem? vs j ≡ some u)). ⊎_elim
          (λ (q : (j ≡ pass) × (both ≡ u)). subst (λ (z : View). Fits r.put r.taken r.next gone z z.role) q.1
          (subst (Fits r.put r.taken r.next gone both) (sym is) (f.0, ap (λ (z : List Seen). z ++ w.seen ∷ []) f.1)))
          (λ (q : (j ≢ pass) × (get_elem? views j ≡ some u)). fits_gone r.put r.taken r.next r.gone gone u u.role
          (λ lu same. let l = lower held views r pass v at is f.0 j u q.0 q.1 lu in absurd (omega arith)) (r.each j u q.1))
          (at_set views pass j both u t.1))
          (at_set vs other j spent u e);
      apart = apart_set vs other w spent there (λ never. absurd never) (apart_set views pass v both at (λ _. (lv, refl)) r.apart);
      gone_each = λ k g e. ⊎_elim (r.gone_each k g) (λ (n : (k ≡ length r.gone) × (w.seen ≡ g)). subst (λ (z : Seen). (z.number < r.next) × HasPart r.put r.taken z) n.1 fw) (at_end r.gone w.seen g k e);
      gone_apart = λ k l g h eg eh same. ⊎_elim
          (λ (a : get_elem? r.gone k ≡ some g). ⊎_elim
          (λ (b : get_elem? r.gone l ≡ some h). r.gone_apart k l g h a b same)
          (λ (b : (l ≡ length r.gone) × (w.seen ≡ h)). absurd (away k g a (same ∙ ap (λ (z : Seen). z.number) (sym b.1))))
          (at_end r.gone w.seen h l eh))
          (λ (a : (k ≡ length r.gone) × (w.seen ≡ g)). ⊎_elim
          (λ (b : get_elem? r.gone l ≡ some h). absurd (away l h b (sym same ∙ ap (λ (z : Seen). z.number) (sym a.1))))
          (λ (b : (l ≡ length r.gone) × (w.seen ≡ h)). a.0 ∙ sym b.0)
          (at_end r.gone w.seen h l eh))
          (at_end r.gone w.seen g k eg);
      gone_away = λ k j g u eg eu lu. elsewhere j u g eu lu (λ i z ni ez lz. ⊎_elim
          (λ (a : get_elem? r.gone k ≡ some g). r.gone_away k i g z a ez lz)
          (λ (a : (k ≡ length r.gone) × (w.seen ≡ g)). λ same. ni (r.apart i other z w ez theirs lz lw (sym same ∙ ap (λ (x : Seen). x.number) (sym a.1))))
          (at_end r.gone w.seen g k eg));
      owners = λ n below. ⊎_elim
          (λ (o : (j : ℕ) × (u : View) × (get_elem? views j ≡ some u) × (u.role ≡ Works) × (u.seen.number ≡ n)). dite (ℕ_discrete o.0 other)
          (λ same. inr (length r.gone, w.seen, at_last r.gone w.seen (length r.gone) refl, ap (λ (z : View). z.seen.number) (one_at views other o.0 w o.1 (sym same) theirs o.2) ∙ o.4))
          (λ differs. inl (
            o.0,
            o.1,
            set_else vs other o.0 spent differs ∙ (set_else views pass o.0 both (λ same. no_maker_works is (ap (λ (z : View). z.role) (one_at views pass o.0 v o.1 (sym same) at o.2) ∙ o.3)) ∙ o.2),
            o.3,
            o.4,
          )))
          (λ (o : (k : ℕ) × (g : Seen) × (get_elem? r.gone k ≡ some g) × (g.number ≡ n)). inr (o.0, o.1, at_longer r.gone (w.seen ∷ []) o.0 o.1 o.2, o.3))
          (r.owners n below);
      count = let a : total (λ (u : View). works u.role) vs + works v.role ≡ total (λ (u : View). works u.role) views + works v.role = total_set (λ (u : View). works u.role) views pass v both at in
          let b : total (λ (u : View). works u.role) (set vs other spent) + works w.role ≡ total (λ (u : View). works u.role) vs + 0 = total_set (λ (u : View). works u.role) vs other w spent there in
          let one : works w.role ≡ 1 = ap works is' in let long : length gone ≡ length r.gone + 1 = length-append r.gone (w.seen ∷ []) in let o = r.count in omega arith;
      unused = r.unused;
    }

-- the maker that has taken back all passes knows all that was put and taken
pub closes : (pass : ℕ) (v : View) → v.role ≡ Makes → Learns IsRing pass v (has_closed v)
closes pass v is held views r at all =
    let f : (v.seen.number ≡ r.next) × (v.gone ≡ r.gone) = subst (Fits r.put r.taken r.next r.gone v) is (r.each pass v at) in
    let long : length r.gone ≡ r.next = ap length (sym f.1) ∙ (all ∙ f.0) in
    subst Closes (sym f.1) record {
      put = r.put;
      taken = r.taken;
      left = held;
      in_order = sym r.content;
      parts = all_at (HasPart r.put r.taken) r.gone (λ k g e. (r.gone_each k g e).1);
      owners = λ n. ⊎_elim
          (λ (below : n < r.next). ⊎_elim
          (λ (o : (j : ℕ) × (u : View) × (get_elem? views j ≡ some u) × (u.role ≡ Works) × (u.seen.number ≡ n)). absurd
          (let some_left : works o.1.role ≤ total (λ (u : View). works u.role) views = total_at (λ (u : View). works u.role) views o.0 o.1 o.2 in
          let one : works o.1.role ≡ 1 = ap works o.3 in let c = r.count in omega arith))
          inr
          (r.owners n below))
          (λ (past : r.next ≤ n). inl (r.unused n past))
          (cases_lt n r.next);
      distinct = r.gone_apart;
    }

-- one number more
pub numbered : {A : Type 0} → (f : A → ℕ) (l l' : List A) (x : A) (n : ℕ) → l' ≡ l ++ x ∷ [] → map f l ≡ numbers_below n → f x ≡ n → map f l' ≡ numbers_below (n + 1)
numbered f l l' x n is old new = ap (map f) is ∙ (map-append f l (x ∷ []) ∙ ((λ i. old i ++ new i ∷ []) ∙ sym (ap numbers_below (add-one n))))
