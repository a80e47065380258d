-- What a listener tells of itself. This project's own.
use Rattle.std.specs.Prelude.{◌≡◌, ℕ, ◌+◌, ◌<◌, ◌≤◌, Bool, true, false, List, [], ◌∷◌, Option, IfSome}
use Rattle.std.specs.Option.{option_map}
use Rattle.soc_edge.specs.Faults.{Rose, last_count}
use Rattle.soc_edge.specs.Told.{Told}

-- how many connections it has handed out, whether it has ended, what each connection that is still to come tells where it is
-- handed out, where the listener tells that, and how often a call has failed
pub record ListenerTold : Type 0 where
  pub handed : ℕ
  pub ended : Bool
  pub left : Option (List Told)
  pub faults : ℕ

-- this connection, and then those that are known to be left
abbrev pub conn_and : Told → Option (List Told) → Option (List Told)
conn_and conn left = option_map (λ more. conn ∷ more) left

-- no connection is left, where that is told
abbrev pub NoneLeft : ListenerTold → Type 0
NoneLeft told = IfSome told.left (λ left. left ≡ [])

-- no further connection comes, and none is left
abbrev pub HasEnded : ListenerTold → Type 0
HasEnded told = (told.ended ≡ true) × NoneLeft told

-- it hadn't ended, and hasn't now
pub record StaysOpen (before after : ListenerTold) : Type 0 where
  pub was_open : before.ended ≡ false
  pub is_open : after.ended ≡ false

-- the first connection of those that are left was handed out, and counted; never past the last count
pub record HandsOver (before after : ListenerTold) (conn : Told) : Type 0 where
  pub stays_open : StaysOpen before after
  pub room : before.handed < last_count
  pub counted : after.handed ≡ before.handed + 1
  pub first : before.left ≡ conn_and conn after.left
  pub faults_never_fall : before.faults ≤ after.faults

-- no connection was handed out
pub record HandsNone (before after : ListenerTold) : Type 0 where
  pub handed_stays : after.handed ≡ before.handed
  pub left_stays : after.left ≡ before.left
  pub faults_never_fall : before.faults ≤ after.faults

-- no further connection comes
pub record Ends (before after : ListenerTold) : Type 0 where
  pub none : HandsNone before after
  pub ended : after.ended ≡ true
  pub none_left : NoneLeft after

-- a call failed, which it doesn't once the listener has ended
pub record AcceptFailed (before after : ListenerTold) : Type 0 where
  pub none : HandsNone before after
  pub stays_open : StaysOpen before after
  pub rose : Rose before.faults after.faults
