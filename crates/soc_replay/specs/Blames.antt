-- How many of a session's responses blame the disk. This project's profile.
use Rattle.std.specs.Prelude.{◌⊎◌, ℕ, ◌+◌, ◌≤◌, List, [], ◌∷◌}
use Rattle.std.specs.Option.{option_map_or}
use Rattle.soc_edge.specs.Faults.{last_count}
use Rattle.soc_desk.specs.declared.desk.Reply.{Reply}
use Rattle.soc_desk.specs.declared.desk.Reply.TheVariants as R
use Rattle.soc_desk.specs.declared.desk.Refusal.TheVariants as F
use Rattle.soc_session.specs.Session.{Response, met, refused}

abbrev pub store_fault : Reply → ℕ
store_fault (R.Refused F.StoreFault) = 1
store_fault _ = 0

-- how many of these responses blame the disk
abbrev pub store_faults : List Response → ℕ
store_faults [] = 0
store_faults (met exchange ∷ responses) = option_map_or (λ asking. store_fault asking.receipt.reply) exchange.asked 0 + store_faults responses
store_faults (refused error ∷ responses) = store_faults responses

-- the count rose by this number at least, or stands at its last value
abbrev pub RoseBy : ℕ → ℕ → ℕ → Type 0
RoseBy number before after = (before + number ≤ after) ⊎ (last_count ≤ after)
