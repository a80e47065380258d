-- Parts that tell their ends.
use Rattle.std.proofs.Common.{◌≡◌, ℕ, zero, suc, ◌+◌, ◌-◌, ◌^◌, ◌<◌, ◌≤◌, List, [], ◌∷◌, ◌++◌, length, get_or, set, take, sym, ap, subst, ◌∙◌, refl, arith, length-append}
use Rattle.std.specs.Prelude.{slice_get}
use Rattle.std.proofs.lemmas.List.{get_or_default, take_more_set}
use Rattle.soc_store.specs.declared.parts.Part.{Part}
use Rattle.soc_store.specs.inner.Postings.{Posting}
use Rattle.soc_store.specs.inner.Parts.{joined, blocks_of, postings_in, AreCounted}

get_front : {E : Type 0} (xs ys : List E) (i : ℕ) → i < length xs → slice_get (xs ++ ys) i ≡ slice_get xs i
get_front [] ys i lt = absurd (omega arith)
get_front (x ∷ xs) ys zero lt = refl
get_front (x ∷ xs) ys (suc i) lt = get_front xs ys i (omega arith)

get_back : {E : Type 0} (xs ys : List E) (i : ℕ) → slice_get (xs ++ ys) (length xs + i) ≡ slice_get ys i
get_back [] ys i = let e : 0 + i ≡ i = omega arith in ap (slice_get ys) e
get_back (x ∷ xs) ys i = let e : length (x ∷ xs) + i ≡ suc (length xs + i) = omega arith in ap (slice_get (x ∷ (xs ++ ys))) e ∙ get_back xs ys i

-- the last end is their number
pub last_end : (n : ℕ) (ps : List Part) (d : Part) → AreCounted n ps → 0 < length ps → (get_or ps (length ps - 1) d).end ≡ n + length (postings_in ps)
last_end n [] d counted some = absurd (omega arith)
last_end n (p ∷ []) d counted some = counted.0 ∙ (let e : n + length p.block ≡ n + length (p.block ++ []) = omega (arith, length-append p.block []) in e)
last_end n (p ∷ q ∷ ps) d counted some =
    let at : length (p ∷ q ∷ ps) - 1 ≡ suc (length (q ∷ ps) - 1) = omega arith in
    ap (λ (k : ℕ). (get_or (p ∷ q ∷ ps) k d).end) at ∙ last_end (n + length p.block) (q ∷ ps) d counted.1 (omega arith)
    ∙ (let e : n + length p.block + length (postings_in (q ∷ ps)) ≡ n + length (p.block ++ postings_in (q ∷ ps)) = omega (arith, length-append p.block (postings_in (q ∷ ps))) in e)

least_end : (n : ℕ) (ps : List Part) (k : ℕ) (d : Part) → AreCounted n ps → k < length ps → n ≤ (get_or ps k d).end
least_end n [] k d counted lt = absurd (omega arith)
least_end n (p ∷ ps) zero d counted lt = let e : p.end ≡ n + length p.block = counted.0 in omega arith
least_end n (p ∷ ps) (suc k) d counted lt = let later = least_end (n + length p.block) ps k d counted.1 (omega arith) in omega arith

-- ends rise
pub ends_rise : (n : ℕ) (ps : List Part) (j k : ℕ) (d : Part) → AreCounted n ps → j ≤ k → k < length ps → (get_or ps j d).end ≤ (get_or ps k d).end
ends_rise n [] j k d counted le lt = absurd (omega arith)
ends_rise n (p ∷ ps) zero zero d counted le lt = omega arith
ends_rise n (p ∷ ps) zero (suc k) d counted le lt =
    let e : p.end ≡ n + length p.block = counted.0 in
    let later = least_end (n + length p.block) ps k d counted.1 (omega arith) in
    omega arith
ends_rise n (p ∷ ps) (suc j) zero d counted le lt = absurd (omega arith)
ends_rise n (p ∷ ps) (suc j) (suc k) d counted le lt = ends_rise (n + length p.block) ps j k d counted.1 (omega arith) (omega arith)

pub ends_before : (ps : List Part) (j k : ℕ) (d e : Part) (i : ℕ) → AreCounted 0 ps → j ≤ k → k < length ps → (get_or ps k e).end ≤ i → (get_or ps j d).end ≤ i
ends_before ps j k d e i counted le lt least =
    let rise = ends_rise 0 ps j k e counted le lt in
    let same : (get_or ps j d).end ≡ (get_or ps j e).end = ap (λ (p : Part). p.end) (get_or_default ps j d e (omega arith)) in
    omega arith

start_least : (n : ℕ) (ps : List Part) (k : ℕ) (d : Part) → AreCounted n ps → k < length ps → n + length (get_or ps k d).block ≤ (get_or ps k d).end
start_least n [] k d counted lt = absurd (omega arith)
start_least n (p ∷ ps) zero d counted lt = let e : p.end ≡ n + length p.block = counted.0 in omega arith
start_least n (p ∷ ps) (suc k) d counted lt = let later = start_least (n + length p.block) ps k d counted.1 (omega arith) in omega arith

before_start : (n : ℕ) (ps : List Part) (j k : ℕ) (d : Part) → AreCounted n ps → j < k → k < length ps → (get_or ps j d).end + length (get_or ps k d).block ≤ (get_or ps k d).end
before_start n [] j k d counted less lt = absurd (omega arith)
before_start n (p ∷ ps) j zero d counted less lt = absurd (omega arith)
before_start n (p ∷ ps) zero (suc k) d counted less lt =
    let e : p.end ≡ n + length p.block = counted.0 in
    let later = start_least (n + length p.block) ps k d counted.1 (omega arith) in
    omega arith
before_start n (p ∷ ps) (suc j) (suc k) d counted less lt = before_start (n + length p.block) ps j k d counted.1 (omega arith) (omega arith)

-- the ends before a part that begins no later than at i
pub ends_near : (ps : List Part) (k : ℕ) (p : Part) (i : ℕ) → AreCounted 0 ps → k < length ps → p ≡ get_or ps k p → p.end ≤ i + length p.block → (d : Part) → (j : ℕ) → j < k → (get_or ps j d).end ≤ i
ends_near ps k p i counted lt is start d j less =
    let room = before_start 0 ps j k p counted less lt in
    let end : p.end ≡ (get_or ps k p).end = ap (λ (q : Part). q.end) is in
    let long : length p.block ≡ length (get_or ps k p).block = ap (λ (q : Part). length q.block) is in
    let same : (get_or ps j d).end ≡ (get_or ps j p).end = ap (λ (q : Part). q.end) (get_or_default ps j d p (omega arith)) in
    omega arith

pub end_near : (ps : List Part) (k : ℕ) (p : Part) (i : ℕ) → k < length ps → p ≡ get_or ps k p → i < p.end → (d : Part) → i < (get_or ps k d).end
end_near ps k p i lt is within d = subst (λ (n : ℕ). i < n) (ap (λ (q : Part). q.end) (is ∙ get_or_default ps k p d lt)) within

pub record InPart (whole block : List Posting) (i end : ℕ) : Type 0 where
  pub fits : length block ≤ end
  pub starts : end - length block ≤ i
  pub within : i - (end - length block) < length block
  pub there : slice_get whole i ≡ slice_get block (i - (end - length block))

-- the posting at i is in the part whose end is the first above i
in_part_from : (n : ℕ) (ps : List Part) (i k : ℕ) (d : Part) → AreCounted n ps → k < length ps → n + i < (get_or ps k d).end → ((m : ℕ) → m < k → (get_or ps m d).end ≤ n + i)
    → (length (get_or ps k d).block ≤ (get_or ps k d).end) × ((get_or ps k d).end - length (get_or ps k d).block ≤ n + i)
    × (n + i - ((get_or ps k d).end - length (get_or ps k d).block) < length (get_or ps k d).block)
    × (slice_get (postings_in ps) i ≡ slice_get (get_or ps k d).block (n + i - ((get_or ps k d).end - length (get_or ps k d).block)))
in_part_from n [] i k d counted lt end start = absurd (omega arith)
in_part_from n (p ∷ ps) i zero d counted lt end start =
    let e : p.end ≡ n + length p.block = counted.0 in
    let at : i ≡ n + i - (p.end - length p.block) = omega arith in
    (omega arith, omega arith, omega arith, get_front p.block (postings_in ps) i (omega arith) ∙ ap (slice_get p.block) at)
in_part_from n (p ∷ ps) i (suc k) d counted lt end start =
    let e : p.end ≡ n + length p.block = counted.0 in
    let first : p.end ≤ n + i = start 0 (omega arith) in
    let rest : n + length p.block + (i - length p.block) ≡ n + i = omega arith in
    let at : i ≡ length p.block + (i - length p.block) = omega arith in
    let later = in_part_from (n + length p.block) ps (i - length p.block) k d counted.1 (omega arith) (rw rest end) (λ m h. rw rest (start (suc m) (omega arith))) in
    let q = get_or ps k d in
    let moved = subst (λ u. (length q.block ≤ q.end) × (q.end - length q.block ≤ u) × (u - (q.end - length q.block) < length q.block) × (slice_get (postings_in ps) (i - length p.block) ≡ slice_get q.block (u - (q.end - length q.block)))) rest later in
    (moved.0, moved.1, moved.2, ap (slice_get (p.block ++ postings_in ps)) at ∙ get_back p.block (postings_in ps) (i - length p.block) ∙ moved.3)

pub in_part : (ps : List Part) (i k : ℕ) (p : Part) → AreCounted 0 ps → k < length ps → p ≡ get_or ps k p → ((d : Part) → i < (get_or ps k d).end) → ((d : Part) → (m : ℕ) → m < k → (get_or ps m d).end ≤ i) → InPart (postings_in ps) p.block i p.end
in_part ps i k p counted lt is end start =
    let zero_more : 0 + i ≡ i = omega arith in
    let found = in_part_from 0 ps i k p counted lt (rw zero_more (end p)) (λ m h. rw zero_more (start p m h)) in
    let q = get_or ps k p in
    let moved = subst (λ u. (length q.block ≤ q.end) × (q.end - length q.block ≤ u) × (u - (q.end - length q.block) < length q.block) × (slice_get (postings_in ps) i ≡ slice_get q.block (u - (q.end - length q.block)))) zero_more found in
    subst (λ (r : Part). InPart (postings_in ps) r.block i r.end) (sym is) (record { fits = moved.0; starts = moved.1; within = moved.2; there = moved.3 })

-- one part more
pub counted_more : (n : ℕ) (ps : List Part) (p : Part) → AreCounted n ps → p.end ≡ n + length (postings_in ps) + length p.block → AreCounted n (ps ++ p ∷ [])
counted_more n [] p counted is = (is ∙ (let e : n + length (postings_in []) + length p.block ≡ n + length p.block = omega arith in e), tt)
counted_more n (q ∷ qs) p counted is =
    (counted.0, counted_more (n + length q.block) qs p counted.1 (is ∙ (let e : n + length (q.block ++ postings_in qs) + length p.block ≡ n + length q.block + length (postings_in qs) + length p.block = omega (arith, length-append q.block (postings_in qs)) in e)))

pub some_part : (ps : List Part) (i : ℕ) → i < length (postings_in ps) → 0 < length ps
some_part [] i lt = absurd (omega arith)
some_part (p ∷ ps) i lt = omega arith

taken : (ps : List Part) (i : ℕ) (p : Part) → i < length ps → length (postings_in (take i ps)) + length (get_or ps i p).block ≤ length (postings_in ps)
taken [] i p lt = absurd (omega arith)
taken (q ∷ ps) zero p lt = omega (arith, length-append q.block (postings_in ps))
taken (q ∷ ps) (suc i) p lt = let later = taken ps i p (omega arith) in omega (arith, length-append q.block (postings_in ps), length-append q.block (postings_in (take i ps)))

-- the count fits
pub count_fits : (ps qs : List Part) (i : ℕ) (p : Part) (count len : ℕ) → i < length ps → count ≡ length (postings_in (take i ps)) → len ≡ length (get_or ps i p).block → blocks_of ps ≡ blocks_of qs → length (postings_in qs) < 2 ^ 64 → count + len < 2 ^ 64
count_fits ps qs i p count len lt counted long same few =
    let all : length (postings_in ps) ≡ length (postings_in qs) = ap (λ bs. length (joined bs)) same in
    let most = taken ps i p lt in
    omega arith

blocks_kept : (ps : List Part) (i : ℕ) (q : Part) → q.block ≡ (get_or ps i q).block → i < length ps → blocks_of (set ps i q) ≡ blocks_of ps
blocks_kept [] i q is lt = refl
blocks_kept (p ∷ ps) zero q is lt = ap (λ b. b ∷ blocks_of ps) is
blocks_kept (p ∷ ps) (suc i) q is lt = ap (λ t. p.block ∷ t) (blocks_kept ps i q is (omega arith))

postings_more : (ps : List Part) (q : Part) → length (postings_in (ps ++ q ∷ [])) ≡ length (postings_in ps) + length q.block
postings_more [] q = omega (arith, length-append q.block [])
postings_more (p ∷ ps) q = let later = postings_more ps q in omega (arith, length-append p.block (postings_in ps), length-append p.block (postings_in (ps ++ q ∷ [])))

-- one part more is counted
pub counted_step : (ps : List Part) (i : ℕ) (p q : Part) (count len : ℕ) → i < length ps → count ≡ length (postings_in (take i ps)) → len ≡ length (get_or ps i p).block → AreCounted 0 (take i ps) → q.block ≡ (get_or ps i p).block → q.end ≡ count + len
    → (count + len ≡ length (postings_in (take (i + 1) (set ps i q)))) × (blocks_of (set ps i q) ≡ blocks_of ps) × AreCounted 0 (take (i + 1) (set ps i q))
counted_step ps i p q count len lt counted long so_far same end =
    let front : take (i + 1) (set ps i q) ≡ take i ps ++ q ∷ [] = take_more_set ps i q lt in
    let here : length q.block ≡ length (get_or ps i p).block = ap length same in
    let there : q.block ≡ (get_or ps i q).block = same ∙ ap (λ (r : Part). r.block) (get_or_default ps i p q lt) in
    let total : length (postings_in (take (i + 1) (set ps i q))) ≡ length (postings_in (take i ps)) + length q.block = ap (λ l. length (postings_in l)) front ∙ postings_more (take i ps) q in
    (omega arith, blocks_kept ps i q there lt, rw front (counted_more 0 (take i ps) q so_far (omega arith)))
