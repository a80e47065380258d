-- What a clock and draws hand out, one after another.
use Rattle.std.proofs.Common.{◌≡◌, ℕ, ◌+◌, List, [], ◌∷◌, ◌++◌, Option, refl, ◌∙◌, subst}
use Rattle.std.specs.Prelude.{IfSome}
use Rattle.soc_edge.specs.Ahead.{HandsOut, HandsAll, SameAhead, Outlook, Hands}

-- nothing was handed out before
pub HandsAll-later : {A : Type 0} (before middle after : ℕ → Option A) (xs : List A) → SameAhead before middle → HandsAll middle after xs → HandsAll before after xs
HandsAll-later before middle after [] same all = λ k. all k ∙ same k
HandsAll-later {A} before middle after (x ∷ xs) same all = (
  let P : Option A → Type 0 = λ told. IfSome told (λ y. x ≡ y) in subst P (same 0) all.0,
  HandsAll-later (λ k. before (k + 1)) (λ k. middle (k + 1)) after xs (λ k. same (k + 1)) all.1,
)

-- one, and then these
pub HandsAll-cons : {A : Type 0} (before middle after : ℕ → Option A) (x : A) (xs : List A) → HandsOut before middle x → HandsAll middle after xs → HandsAll before after (x ∷ xs)
HandsAll-cons before middle after x xs one all =
    (one.first, HandsAll-later (λ k. before (k + 1)) middle after xs one.rest all)

-- these, and then those
pub HandsAll-append : {A : Type 0} (before middle after : ℕ → Option A) (xs ys : List A) → HandsAll before middle xs → HandsAll middle after ys → HandsAll before after (xs ++ ys)
HandsAll-append before middle after [] ys first then = HandsAll-later before middle after ys first then
HandsAll-append before middle after (x ∷ xs) ys first then =
    (first.0, HandsAll-append (λ k. before (k + 1)) middle after xs ys first.1 then)

-- one was handed out
pub HandsAll-one : {A : Type 0} (before after : ℕ → Option A) (x : A) → HandsOut before after x → HandsAll before after (x ∷ [])
HandsAll-one before after x one = (one.first, one.rest)

-- these, and then one more
pub HandsAll-push : {A : Type 0} (before middle after : ℕ → Option A) (xs : List A) (x : A) → HandsAll before middle xs → HandsOut middle after x → HandsAll before after (xs ++ x ∷ [])
HandsAll-push before middle after xs x first one =
    HandsAll-append before middle after xs (x ∷ []) first (HandsAll-one middle after x one)

-- a clock and draws that hand out nothing
pub Hands-none : (before : Outlook) → Hands before before [] [] []
Hands-none before = record { by_clock = λ k. refl; by_throttle = λ k. refl; by_id = λ k. refl }

-- some, and then more
pub Hands-append : (before middle after : Outlook) (moments more_moments throttles more_throttles : List ℕ) (ids more_ids : List (List ℕ))
    → Hands before middle moments throttles ids → Hands middle after more_moments more_throttles more_ids
    → Hands before after (moments ++ more_moments) (throttles ++ more_throttles) (ids ++ more_ids)
Hands-append before middle after moments more_moments throttles more_throttles ids more_ids first then = record {
  by_clock = HandsAll-append before.moments middle.moments after.moments moments more_moments first.by_clock then.by_clock;
  by_throttle = HandsAll-append before.throttles middle.throttles after.throttles throttles more_throttles first.by_throttle then.by_throttle;
  by_id = HandsAll-append before.ids middle.ids after.ids ids more_ids first.by_id then.by_id;
}
