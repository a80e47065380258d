-- What a clock and draws tell: what they hand out from here on, call by call, where they tell it. This project's own.
use Rattle.std.specs.Prelude.{◌≡◌, ℕ, ◌+◌, Option, IfSome, List, [], ◌∷◌}

-- what a clock tells: the moment that the k-th call from here on gives
pub record ClockTold : Type 0 where
  pub moments : ℕ → Option ℕ

-- what draws tell: the number and the sixteen bytes that the k-th call of each kind from here on gives
pub record DrawsTold : Type 0 where
  pub throttles : ℕ → Option ℕ
  pub ids : ℕ → Option (List ℕ)

-- the first of what was to come was handed out, and the rest has moved up by one.
-- What is to come is told number by number: the k-th call from here gives the k-th of it, where that is told.
pub record HandsOut {A : Type 0} (before after : ℕ → Option A) (given : A) : Type 0 where
  pub first : IfSome (before 0) (λ told. given ≡ told)
  pub rest : (k : ℕ) → after k ≡ before (k + 1)

-- nothing was handed out
abbrev pub SameAhead : {A : Type 0} → (ℕ → Option A) → (ℕ → Option A) → Type 0
SameAhead before after = (k : ℕ) → after k ≡ before k

-- a moment was handed out
abbrev pub HandsMoment : ClockTold → ClockTold → ℕ → Type 0
HandsMoment before after moment = HandsOut before.moments after.moments moment

-- a number for the throttle rules was handed out, and no id
pub record HandsThrottle (before after : DrawsTold) (throttle : ℕ) : Type 0 where
  pub gives : HandsOut before.throttles after.throttles throttle
  pub ids_stay : SameAhead before.ids after.ids

-- the bytes of an id were handed out, and no number for the throttle rules
pub record HandsId (before after : DrawsTold) (id : List ℕ) : Type 0 where
  pub gives : HandsOut before.ids after.ids id
  pub throttles_stay : SameAhead before.throttles after.throttles

-- ---- several calls

-- these were handed out in this order, and nothing else
abbrev pub HandsAll : {A : Type 0} → (ℕ → Option A) → (ℕ → Option A) → List A → Type 0
HandsAll before after [] = SameAhead before after
HandsAll before after (given ∷ more) =
    IfSome (before 0) (λ told. given ≡ told) × HandsAll (λ k. before (k + 1)) after more

-- what a clock and draws hand out from here on, as one
pub record Outlook : Type 0 where
  pub moments : ℕ → Option ℕ
  pub throttles : ℕ → Option ℕ
  pub ids : ℕ → Option (List ℕ)

abbrev pub outlook : ClockTold → DrawsTold → Outlook
outlook clock draws = record { moments = clock.moments; throttles = draws.throttles; ids = draws.ids }

-- these moments, throttle draws and id draws were handed out, each list in its order, and nothing else
pub record Hands (before after : Outlook) (moments throttles : List ℕ) (ids : List (List ℕ)) : Type 0 where
  pub by_clock : HandsAll before.moments after.moments moments
  pub by_throttle : HandsAll before.throttles after.throttles throttles
  pub by_id : HandsAll before.ids after.ids ids
