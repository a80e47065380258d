-- Of optional values that are there, and of lists.
use Rattle.std.proofs.Common.{◌≡◌, List, [], ◌∷◌, length, Option, None, Some, IfSome, IsSomeAnd, MatchOption, map, refl, sym, ◌∙◌, ap, subst, arith}
use mathlib.Core.Path.{path_j}
use Rattle.std.proofs.Math.Logic.{∥∥₁_elim}

pub known_some : {A : Type 0} (Q : A → Type 0) (o : Option A) (x : A) → IsProp (Q x) → o ≡ Some x → ∥ IsSomeAnd o Q ∥₁ → Q x
known_some Q o x prop is known = ∥∥₁_elim known prop (λ h. subst (λ p. IsSomeAnd p Q) is h)

pub at_some : {A : Type 0} (Q : A → Type 0) (o : Option A) (x : A) → o ≡ Some x → IsSomeAnd o Q → Q x
at_some Q o x is known = subst (λ p. IsSomeAnd p Q) is known

pub of_some : {A : Type 0} (Q : A → Type 0) (o : Option A) (x : A) → o ≡ Some x → IfSome o Q → Q x
of_some Q o x is known = subst (λ p. IfSome p Q) is known

pub is_some_and : {A : Type 0} (Q : A → Type 0) (o : Option A) (x : A) → o ≡ Some x → Q x → IsSomeAnd o Q
is_some_and Q o x is known = subst (λ p. IsSomeAnd p Q) (sym is) known

cons_is_not_nil : {A : Type 0} (x : A) (xs : List A) → x ∷ xs ≡ [] → ⊥
cons_is_not_nil x xs is = cc

-- what maps to nothing is nothing
pub map_nil : {A B : Type 0} (f : A → B) (xs : List A) → map f xs ≡ [] → xs ≡ []
map_nil f [] is = refl
map_nil f (x ∷ xs) is = absurd (cons_is_not_nil (f x) (map f xs) is)

none_long : {A : Type 0} (xs : List A) → length xs ≡ 0 → xs ≡ []
none_long [] is = refl
none_long (x ∷ xs) is = absurd (let never : ⊥ = omega arith in never)

nil_is : {A : Type 0} (xs : List A) (p : [] ≡ xs) → p ≡ sym (none_long xs (ap length (sym p)))
unfolding none_long
nil_is {A} xs p = path_j (λ (ys : List A) (q : [] ≡ ys). q ≡ sym (none_long ys (ap length (sym q)))) refl p

-- a list is empty in one way at most
pub nil_prop : {A : Type 0} (xs : List A) → IsProp (xs ≡ [])
unfolding none_long
nil_prop [] p q = nil_is [] p ∙ sym (nil_is [] q)
nil_prop (x ∷ xs) p q = let l = ap length p in absurd (let never : ⊥ = omega arith in never)

pub if_some_on : {A : Type 0} (Q : A → Type 0) (o o' : Option A) → o' ≡ o → IfSome o Q → IfSome o' Q
if_some_on Q o o' is known = subst (λ p. IfSome p Q) (sym is) known

pub of_none : {A : Type 0} (P : Type 0) (Q : A → Type 0) (o : Option A) → o ≡ None → MatchOption o P Q → P
of_none P Q o is known = subst (λ p. MatchOption p P Q) is known

pub of_match : {A : Type 0} (P : Type 0) (Q : A → Type 0) (o : Option A) (x : A) → o ≡ Some x → MatchOption o P Q → Q x
of_match P Q o x is known = subst (λ p. MatchOption p P Q) is known
