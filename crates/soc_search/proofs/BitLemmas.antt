-- Bits of words that meet.
use Rattle.std.proofs.Common.{◌++◌, ◌∷◌, take, replicate, ◌*◌, ◌≡◌, ◌≢◌, set, subst, ℕ, zero, suc, ◌+◌, ◌-◌, ◌<◌, ◌≤◌, ◌/◌, ◌%◌, ◌^◌, min, eqb, Bool, true, false, List, [], length, get_or, ap, sym, ◌∙◌, refl, arith, ⊎_elim}
use Rattle.std.specs.Prelude.{◌&&◌, ◌||◌, not, bit_and, bit_or}
use Rattle.std.specs.Int.{w64, bit_at, bit_not}
use Rattle.std.proofs.lemmas.Bool.{cases_lt, cases_eq, eq-eqb, ne_eqb}
use Rattle.std.specs.List.{list_any}
use Rattle.std.proofs.lemmas.List.Folds.{list_any_more}
use Rattle.std.proofs.lemmas.Nat.Bits.{bit_at_and, bit_at_not, bit_at-lt, bit_at-zero, bit_at_set_same, bit_at_set_other}
use Rattle.std.proofs.lemmas.List.{get_or_past, get_or_default, get_or-set_same, get_or-set_other}
use Rattle.soc_base.proofs.Folk.{or_true, or_false, or_assoc}
use Rattle.soc_search.specs.declared.places.Meeting.{Meeting}
use Rattle.soc_search.specs.declared.places.Meeting.TheVariants.{And, Without}
use Rattle.soc_search.specs.inner.Places.{bit, met, word_has, has}

min_one : (x y : ℕ) → x < 2 → y < 2 → eqb (min x y) 1 ≡ (eqb x 1 && eqb y 1)
min_one zero zero g h = refl
min_one zero (suc zero) g h = refl
min_one zero (suc (suc y)) g h = absurd (omega arith)
min_one (suc zero) zero g h = refl
min_one (suc zero) (suc zero) g h = refl
min_one (suc zero) (suc (suc y)) g h = absurd (omega arith)
min_one (suc (suc x)) y g h = absurd (omega arith)

less_one : (y : ℕ) → y < 2 → eqb (1 - y) 1 ≡ not (eqb y 1)
less_one zero h = refl
less_one (suc zero) h = refl
less_one (suc (suc y)) h = absurd (omega arith)

pub bit_and_is : (a b k : ℕ) → bit (bit_and a b) k ≡ (bit a k && bit b k)
bit_and_is a b k = ap (λ n. eqb n 1) (bit_at_and a b k) ∙ min_one (bit_at a k) (bit_at b k) (bit_at-lt a k) (bit_at-lt b k)

pub bit_without_is : (a b k : ℕ) → b < 2 ^ 64 → k < 64 → bit (bit_and a (bit_not w64 b)) k ≡ (bit a k && not (bit b k))
bit_without_is a b k fits lt = bit_and_is a (bit_not w64 b) k ∙ ap (λ t. bit a k && t) (ap (λ n. eqb n 1) (bit_at_not w64 b k fits lt) ∙ less_one (bit_at b k) (bit_at-lt b k))

pub no_bit : (k : ℕ) → bit 0 k ≡ false
no_bit k = ap (λ n. eqb n 1) (bit_at-zero k)

-- what isn't there meets nothing
narrow : (how : Meeting) (b : Bool) → met how false b ≡ false
narrow And b = refl
narrow Without b = refl

-- words that meet one by one
pub words_met : (how : Meeting) (old new other : List ℕ) → length new ≡ length old
    → ((j : ℕ) → j < length old → (k : ℕ) → k < 64 → bit (get_or new j 0) k ≡ met how (bit (get_or old j 0) k) (bit (get_or other j 0) k))
    → (k : ℕ) → word_has new k ≡ met how (word_has old k) (word_has other k)
words_met how old new other same each k =
    let small : k % 64 < 64 = omega arith in
    ⊎_elim
    (λ (lt : k / 64 < length old). each (k / 64) lt (k % 64) small)
    (λ (le : length old ≤ k / 64).
    let new_none : get_or new (k / 64) 0 ≡ 0 = get_or_past new (k / 64) 0 (omega arith) in
    let old_none : get_or old (k / 64) 0 ≡ 0 = get_or_past old (k / 64) 0 le in
    ap (λ n. bit n (k % 64)) new_none ∙ no_bit (k % 64) ∙ sym (narrow how (bit (get_or other (k / 64) 0) (k % 64)))
    ∙ ap (λ b. met how b (bit (get_or other (k / 64) 0) (k % 64))) (sym (ap (λ n. bit n (k % 64)) old_none ∙ no_bit (k % 64))))
    (cases_lt (k / 64) (length old))

pub none_there : (k : ℕ) → word_has [] k ≡ false
none_there k = no_bit (k % 64)

-- pages that meet one by one
pub pages_met : (how : Meeting) (old new other : List (List ℕ)) → length new ≡ length old
    → ((j : ℕ) → j < length old → (k : ℕ) → word_has (get_or new j []) k ≡ met how (word_has (get_or old j []) k) (word_has (get_or other j []) k))
    → (p : ℕ) → has new p ≡ met how (has old p) (has other p)
pages_met how old new other same each p =
    ⊎_elim
    (λ (lt : p / 65536 < length old). each (p / 65536) lt (p % 65536))
    (λ (le : length old ≤ p / 65536).
    let new_none : get_or new (p / 65536) [] ≡ [] = get_or_past new (p / 65536) [] (omega arith) in
    let old_none : get_or old (p / 65536) [] ≡ [] = get_or_past old (p / 65536) [] le in
    ap (λ ws. word_has ws (p % 65536)) new_none ∙ none_there (p % 65536) ∙ sym (narrow how (word_has (get_or other (p / 65536) []) (p % 65536)))
    ∙ ap (λ b. met how b (word_has (get_or other (p / 65536) []) (p % 65536))) (sym (ap (λ ws. word_has ws (p % 65536)) old_none ∙ none_there (p % 65536))))
    (cases_lt (p / 65536) (length old))

-- one page more
pub page_step : (how : Meeting) (pages old other : List (List ℕ)) (i : ℕ) (page new words : List ℕ) → i < length pages
    → ((j : ℕ) → j < i → (k : ℕ) → word_has (get_or pages j []) k ≡ met how (word_has (get_or old j []) k) (word_has (get_or other j []) k))
    → ((j : ℕ) → i ≤ j → get_or pages j [] ≡ get_or old j []) → words ≡ get_or other i []
    → ((k : ℕ) → word_has new k ≡ met how (word_has (get_or pages i page) k) (word_has words k))
    → ((j : ℕ) → j < i + 1 → (k : ℕ) → word_has (get_or (set pages i new) j []) k ≡ met how (word_has (get_or old j []) k) (word_has (get_or other j []) k))
    × ((j : ℕ) → i + 1 ≤ j → get_or (set pages i new) j [] ≡ get_or old j [])
page_step how pages old other i page new words lt so_far rest are is = (
  (λ j h k. ⊎_elim
      (λ (e : j ≡ i). subst (λ u. word_has (get_or (set pages i new) u []) k ≡ met how (word_has (get_or old u []) k) (word_has (get_or other u []) k)) (sym e)
      (ap (λ ws. word_has ws k) (get_or-set_same pages i new [] lt) ∙ is k
      ∙ ap (λ ws. met how (word_has ws k) (word_has words k)) (get_or_default pages i page [] lt ∙ rest i (omega arith))
      ∙ ap (λ ws. met how (word_has (get_or old i []) k) (word_has ws k)) are))
      (λ (ne : j ≢ i). ap (λ ws. word_has ws k) (get_or-set_other pages i j new [] ne) ∙ so_far j (omega arith) k)
      (cases_eq j i)),
  (λ j h. let ne : j ≢ i = omega arith in get_or-set_other pages i j new [] ne ∙ rest j (omega arith)),
)

-- one bit is set
set_same : (word k : ℕ) → k < 64 → bit (bit_or word (1 * 2 ^ k % 2 ^ 64)) k ≡ true
set_same word k within = ap (λ n. eqb n 1) (bit_at_set_same w64 word k within)

set_other : (word k j : ℕ) → k < 64 → j ≢ k → bit (bit_or word (1 * 2 ^ k % 2 ^ 64)) j ≡ bit word j
set_other word k j within ne = ap (λ n. eqb n 1) (bit_at_set_other w64 word k within j ne)

pub bit_set : (word k j : ℕ) → k < 64 → bit (bit_or word (1 * 2 ^ k % 2 ^ 64)) j ≡ (bit word j || eqb j k)
bit_set word k j within =
    ⊎_elim
    (λ (e : j ≡ k). subst (λ i. bit (bit_or word (1 * 2 ^ k % 2 ^ 64)) i ≡ (bit word i || eqb i k)) (sym e)
    (set_same word k within ∙ sym (ap (λ b. bit word k || b) (eq-eqb k k refl) ∙ or_true (bit word k))))
    (λ (ne : j ≢ k). set_other word k j within ne ∙ sym (ap (λ b. bit word j || b) (ne_eqb j k ne) ∙ or_false (bit word j)))
    (cases_eq j k)

-- the place j is the place k where the words and the bits in them are the same
same_place : (j k : ℕ) → eqb j k ≡ (eqb (j / 64) (k / 64) && eqb (j % 64) (k % 64))
same_place j k =
    ⊎_elim
    (λ (e : j ≡ k). rw (eq-eqb j k e, eq-eqb (j / 64) (k / 64) (ap (λ i. i / 64) e), eq-eqb (j % 64) (k % 64) (ap (λ i. i % 64) e)) refl)
    (λ (ne : j ≢ k).
    ⊎_elim
    (λ (same : j / 64 ≡ k / 64). let other : j % 64 ≢ k % 64 = λ e. ne (omega (arith, same, e)) in
    rw (ne_eqb j k ne, eq-eqb (j / 64) (k / 64) same, ne_eqb (j % 64) (k % 64) other) refl)
    (λ (other : j / 64 ≢ k / 64). rw (ne_eqb j k ne, ne_eqb (j / 64) (k / 64) other) refl)
    (cases_eq (j / 64) (k / 64)))
    (cases_eq j k)

-- a word with a bit more, among words that are those of before
pub word_set : (old grown : List ℕ) (word d new k : ℕ) → k < 65536 → word ≡ k / 64 → word < length grown → ((i : ℕ) → get_or grown i 0 ≡ get_or old i 0)
    → ((j : ℕ) → j < 64 → bit new j ≡ (bit (get_or grown word d) j || eqb j (k % 64)))
    → (j : ℕ) → word_has (set grown word new) j ≡ (word_has old j || eqb j k)
word_set old grown word d new k small at within same more j =
    let low : j % 64 < 64 = omega arith in
    ⊎_elim
    (λ (e : j / 64 ≡ word).
    ap (λ w. bit w (j % 64)) (ap (λ i. get_or (set grown word new) i 0) e ∙ get_or-set_same grown word new 0 within) ∙ more (j % 64) low
    ∙ ap (λ w. bit w (j % 64) || eqb (j % 64) (k % 64)) (get_or_default grown word d 0 within ∙ same word ∙ ap (λ i. get_or old i 0) (sym e))
    ∙ ap (λ b. bit (get_or old (j / 64) 0) (j % 64) || b) (sym (same_place j k ∙ ap (λ b. b && eqb (j % 64) (k % 64)) (eq-eqb (j / 64) (k / 64) (e ∙ at)))))
    (λ (ne : j / 64 ≢ word).
    ap (λ w. bit w (j % 64)) (get_or-set_other grown word (j / 64) new 0 ne ∙ same (j / 64))
    ∙ sym (ap (λ b. bit (get_or old (j / 64) 0) (j % 64) || b) (same_place j k ∙ ap (λ b. b && eqb (j % 64) (k % 64)) (ne_eqb (j / 64) (k / 64) (λ e. ne (e ∙ sym at)))) ∙ or_false (word_has old j)))
    (cases_eq (j / 64) word)

same_page : (p q : ℕ) → eqb p q ≡ (eqb (p / 65536) (q / 65536) && eqb (p % 65536) (q % 65536))
same_page p q =
    ⊎_elim
    (λ (e : p ≡ q). rw (eq-eqb p q e, eq-eqb (p / 65536) (q / 65536) (ap (λ i. i / 65536) e), eq-eqb (p % 65536) (q % 65536) (ap (λ i. i % 65536) e)) refl)
    (λ (ne : p ≢ q).
    ⊎_elim
    (λ (same : p / 65536 ≡ q / 65536). let other : p % 65536 ≢ q % 65536 = λ e. ne (omega (arith, same, e)) in
    rw (ne_eqb p q ne, eq-eqb (p / 65536) (q / 65536) same, ne_eqb (p % 65536) (q % 65536) other) refl)
    (λ (other : p / 65536 ≢ q / 65536). rw (ne_eqb p q ne, ne_eqb (p / 65536) (q / 65536) other) refl)
    (cases_eq (p / 65536) (q / 65536)))
    (cases_eq p q)

-- a page with a place more, among pages that are those of before
pub page_set : (old grown : List (List ℕ)) (page : ℕ) (d new : List ℕ) (q : ℕ) → page ≡ q / 65536 → page < length grown → ((i : ℕ) → get_or grown i [] ≡ get_or old i [])
    → ((j : ℕ) → word_has new j ≡ (word_has (get_or grown page d) j || eqb j (q % 65536)))
    → (p : ℕ) → has (set grown page new) p ≡ (has old p || eqb p q)
page_set old grown page d new q at within same more p =
    ⊎_elim
    (λ (e : p / 65536 ≡ page).
    ap (λ ws. word_has ws (p % 65536)) (ap (λ i. get_or (set grown page new) i []) e ∙ get_or-set_same grown page new [] within) ∙ more (p % 65536)
    ∙ ap (λ ws. word_has ws (p % 65536) || eqb (p % 65536) (q % 65536)) (get_or_default grown page d [] within ∙ same page ∙ ap (λ i. get_or old i []) (sym e))
    ∙ ap (λ b. has old p || b) (sym (same_page p q ∙ ap (λ b. b && eqb (p % 65536) (q % 65536)) (eq-eqb (p / 65536) (q / 65536) (e ∙ at)))))
    (λ (ne : p / 65536 ≢ page).
    ap (λ ws. word_has ws (p % 65536)) (get_or-set_other grown page (p / 65536) new [] ne ∙ same (p / 65536))
    ∙ sym (ap (λ b. has old p || b) (same_page p q ∙ ap (λ b. b && eqb (p % 65536) (q % 65536)) (ne_eqb (p / 65536) (q / 65536) (λ e. ne (e ∙ sym at)))) ∙ or_false (has old p)))
    (cases_eq (p / 65536) page)

-- a further page without places changes nothing
pub page_pushed : (pages : List (List ℕ)) (i : ℕ) → get_or (pages ++ [] ∷ []) i [] ≡ get_or pages i []
page_pushed [] zero = refl
page_pushed [] (suc i) = refl
page_pushed (w ∷ ws) zero = refl
page_pushed (w ∷ ws) (suc i) = page_pushed ws i

none_among : (n i : ℕ) → get_or (replicate n zero) i zero ≡ zero
none_among zero i = refl
none_among (suc n) zero = refl
none_among (suc n) (suc i) = none_among n i

-- nor do further words without bits
pub words_grown : (words : List ℕ) (n i : ℕ) → get_or (words ++ replicate n 0) i 0 ≡ get_or words i 0
words_grown [] n i = none_among n i
words_grown (w ∷ ws) n zero = refl
words_grown (w ∷ ws) n (suc i) = words_grown ws n i

-- one place more of those that were put in
pub places_more : (old now then : List (List ℕ)) (places : List ℕ) (i d : ℕ) → i < length places → ((p : ℕ) → has now p ≡ (has old p || list_any (λ q. eqb p q) (take i places)))
    → ((p : ℕ) → has then p ≡ (has now p || eqb p (get_or places i d))) → (p : ℕ) → has then p ≡ (has old p || list_any (λ q. eqb p q) (take (i + 1) places))
places_more old now then places i d within so_far more p =
    more p ∙ ap (λ b. b || eqb p (get_or places i d)) (so_far p) ∙ or_assoc (has old p) (list_any (λ q. eqb p q) (take i places)) (eqb p (get_or places i d))
    ∙ ap (λ b. has old p || b) (sym (list_any_more (λ q. eqb p q) places i d within))
