-- Of lists whose items threads work on.
use Rattle.std.proofs.Common.{◌≡◌, ℕ, suc, ◌<◌, List, [], ◌∷◌, ◌++◌, ◌+◌, length, Some, All, ◌∙◌, ap, subst, arith, length-append, Option, IsSomeAnd}
use Rattle.std.specs.Prelude.{slice_index_or}
use Rattle.std.specs.List.{AllZip}
use Rattle.std.specs.Fork.{ChangesAt, ChangesEach}
use Rattle.std.proofs.lemmas.List.Elements.{AllZip-get_or, All-pop, All-push, All-same}
use Rattle.std.proofs.lemmas.Slice.Zip.{AllZip-long}
use denote.Ref.{MutBor}
use denote.Param.Members.{Shared}

zip_from : {X : Type 0} (R : X → X → Type 0) (xs ys : List X) → length ys ≡ length xs → ((i : ℕ) (d : X) → i < length xs → R (slice_index_or xs i d) (slice_index_or ys i d)) → AllZip R xs ys
zip_from R [] [] long each = tt
zip_from R [] (y ∷ ys) long each = absurd (let never : ⊥ = omega (arith, long) in never)
zip_from R (x ∷ xs) [] long each = absurd (let never : ⊥ = omega (arith, long) in never)
zip_from R (x ∷ xs) (y ∷ ys) long each = (each 0 x (omega arith), zip_from R xs ys (omega (arith, long)) (λ i d less. each (suc i) d (omega (arith, less))))

module _ {F T : Type 0} (g : Shared F (ℕ × (MutBor T × Unit {0})) ((Unit {0}) × (MutBor T × Unit {0}))) (f : F) (did : T → T → Type 0) where
  by_change : (i : ℕ) (x y : T) → ((a b : MutBor T) → g.post f (i, (a, tt)) (tt, (b, tt)) → did a.now b.now) → ChangesAt g f i x y → did x y
  by_change i x y each change = subst (λ u. did x u) change.left (subst (λ u. did u change.after_call.now) change.argument_is (each change.argument change.after_call change.call))

  -- what each call does, each item has come to
  pub each_did : (xs ys : List T) → length ys ≡ length xs → ((i : ℕ) (a b : MutBor T) → g.post f (i, (a, tt)) (tt, (b, tt)) → did a.now b.now) → ChangesEach g f xs ys → AllZip did xs ys
  each_did xs ys long each changes = zip_from did xs ys long (λ i d less. by_change i _ _ (each i) (changes i d less).1)

-- what holds of each before, and what each has come to, say what holds of each after
pub all_through : {X : Type 0} {R : X → X → Type 0} (xs ys : List X) → AllZip R xs ys → (P : X → Type 0) → All P xs → (Q : X → Type 0) → ((x y : X) → P x → R x y → Q y) → All Q ys
all_through {X} {R} xs ys zip P all Q step k d less =
    let long = AllZip-long R xs ys zip in
    let within : k < length xs = omega (arith, less, long) in
    step _ _ (all k d within) (AllZip-get_or R xs ys k d d zip within)

module _ {X : Type 0} (xs ys : List X) (x : X) where
  -- a list whose last item was taken
  pub pop_all : xs ≡ ys ++ x ∷ [] → (P : X → Type 0) → All P xs → All P ys × P x
  pop_all is P all = All-pop P xs ys (Some x) is all

  pub one_more : xs ≡ ys ++ x ∷ [] → length xs ≡ length ys + 1
  one_more is = ap length is ∙ length-append ys (x ∷ [])

  -- a list to which one was added
  pub push_all : xs ≡ ys ++ x ∷ [] → (P : X → Type 0) → All P ys → P x → All P xs
  push_all is P all here = All-same P xs (ys ++ x ∷ []) is (All-push P ys x all here)

-- what holds of an optional value holds of the value that it is
pub at_some : {A : Type 0} (Q : A → Type 0) (o : Option A) (x : A) → o ≡ Some x → IsSomeAnd o Q → Q x
at_some Q o x is known = subst (λ p. IsSomeAnd p Q) is known
