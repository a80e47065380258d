-- What a door gives of its listener.
use Rattle.std.specs.Prelude.{◌≡◌, ◌⊎◌, Bool, true}
use Rattle.soc_edge.specs.Told.{Told}
use Rattle.soc_listen.specs.Told.{AcceptFailed, Ends, HandsOver, ListenerTold}

-- the listener has no further connection, or it failed, and then the door says so from now on
abbrev pub GivesNone : ListenerTold → ListenerTold → Bool → Bool → Type 0
GivesNone before after failed failed' = (Ends before after × (failed' ≡ failed)) ⊎ (AcceptFailed before after × (failed' ≡ true))

-- the listener handed out this connection
abbrev pub GivesConn : ListenerTold → ListenerTold → Bool → Bool → Told → Type 0
GivesConn before after failed failed' conn = HandsOver before after conn × (failed' ≡ failed)
