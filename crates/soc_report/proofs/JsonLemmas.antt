-- Pieces of JSON, one behind another.
use Rattle.std.proofs.Common.{◌≡◌, ℕ, ◌+◌, ◌<◌, ◌≤◌, List, ◌++◌, length, map, take, get_or, ap, ◌∙◌, arith, append_assoc}
use Rattle.std.specs.List.{enumerate_from}
use Rattle.std.proofs.lemmas.List.{get_or-map, length-map, take_all}
use Rattle.std.proofs.lemmas.List.FromFn.{get_or-enumerate_from, length-enumerate_from}
use Rattle.soc_schema.specs.Commas.{comma_after, joined}
use Rattle.soc_schema.proofs.CommaLemmas.{joined_step}

-- what comes behind a piece comes behind what stood before it, with the piece in front
pub follows : (before piece rest : List ℕ) {after now : List ℕ} → after ≡ before ++ piece → now ≡ after ++ rest → now ≡ before ++ (piece ++ rest)
follows before piece rest put more = more ∙ ap (λ l. l ++ rest) put ∙ append_assoc before piece rest

-- all texts of a list
pub joined_all : {A : Type 0} (text : A → List ℕ) (xs : List A) (i : ℕ) (front now : List ℕ) → length xs ≤ i → now ≡ front ++ joined text (take i xs) → now ≡ front ++ joined text xs
joined_all text xs i front now within so_far = so_far ∙ ap (λ l. front ++ joined text l) (take_all i xs within)

-- one more copy of an item, with the comma before it
pub copied_step : {A B : Type 0} (text : B → List ℕ) (copy : A → B) (xs : List A) (i : ℕ) (d : A) (front done comma now : List ℕ) → i < length xs
    → done ≡ front ++ joined text (take i (map copy xs)) → comma ≡ done ++ comma_after i → now ≡ comma ++ text (copy (get_or xs i d))
    → now ≡ front ++ joined text (take (i + 1) (map copy xs))
copied_step text copy xs i d front done comma now within so_far between put =
    let x = copy (get_or xs i d) in
    joined_step text (map copy xs) i x front done comma now (omega (arith, within, length-map xs copy)) (get_or-map copy xs i d x within) so_far between put

from_zero : (i : ℕ) → 0 + i ≡ i
from_zero i = omega arith

-- a copy of an item, at its place
at_place : {A B : Type 0} (copy : A → B) (xs : List A) (i : ℕ) (d : A) → i < length xs → get_or (enumerate_from 0 (map copy xs)) i (i, copy (get_or xs i d)) ≡ (i, copy (get_or xs i d))
at_place copy xs i d within =
    let x = copy (get_or xs i d) in
    get_or-enumerate_from 0 (map copy xs) i (i, x) (omega (arith, within, length-map xs copy))
    ∙ ap (λ n. (n, get_or (map copy xs) i x)) (from_zero i)
    ∙ ap (λ b. (i, b)) (get_or-map copy xs i d x within)

-- the same with its place, and by lists that are still the same
pub placed_step : {A B S : Type 0} (text : S → ℕ → B → List ℕ) (lists still : S) (copy : A → B) (xs : List A) (i : ℕ) (d : A) (front done comma now : List ℕ) → still ≡ lists → i < length xs
    → done ≡ front ++ joined (λ p. text lists p.0 p.1) (take i (enumerate_from 0 (map copy xs))) → comma ≡ done ++ comma_after i → now ≡ comma ++ text still i (copy (get_or xs i d))
    → now ≡ front ++ joined (λ p. text lists p.0 p.1) (take (i + 1) (enumerate_from 0 (map copy xs)))
placed_step text lists still copy xs i d front done comma now same within so_far between put =
    joined_step (λ p. text lists p.0 p.1) (enumerate_from 0 (map copy xs)) i (i, copy (get_or xs i d)) front done comma now
    (omega (arith, within, length-map xs copy, length-enumerate_from 0 (map copy xs))) (at_place copy xs i d within) so_far between (put ∙ ap (λ s. comma ++ text s i (copy (get_or xs i d))) same)

-- all copies, each with its place
pub placed_all : {A B : Type 0} (text : ℕ → B → List ℕ) (copy : A → B) (xs : List A) (i : ℕ) (front now : List ℕ) → length xs ≤ i
    → now ≡ front ++ joined (λ p. text p.0 p.1) (take i (enumerate_from 0 (map copy xs))) → now ≡ front ++ joined (λ p. text p.0 p.1) (enumerate_from 0 (map copy xs))
placed_all text copy xs i front now within so_far =
    joined_all (λ p. text p.0 p.1) (enumerate_from 0 (map copy xs)) i front now (omega (arith, within, length-map xs copy, length-enumerate_from 0 (map copy xs))) so_far
