-- What the link gave to a session behind its last message: nothing, the beginning of a message, or one that is refused.
use Rattle.std.specs.Prelude.{◌≡◌, ◌⊎◌, ℕ, List, [], Option}
use Rattle.std.specs.Io.KnownBytes.{IsAtEnd}
use Rattle.soc_http.specs.declared.head.HeadError.{HeadError}
use Rattle.soc_http.specs.declared.head.HeadError.TheVariants as H
use Rattle.soc_http.specs.Message.{RefusesMessage}

-- nothing stands at the text's front, or the beginning of a message that more bytes would finish
abbrev pub IsUnfinished : List ℕ → Type 0
IsUnfinished text = (text ≡ []) ⊎ RefusesMessage text H.CutShort

-- a refusal that the bytes give, where they end within a message only at the input's end
abbrev pub RefusedAt : List ℕ → Option (List ℕ) → HeadError → Type 0
RefusedAt text left H.CutShort = RefusesMessage text H.CutShort × IsAtEnd left
RefusedAt text left H.BadHead = RefusesMessage text H.BadHead
RefusedAt text left H.HeadTooLarge = RefusesMessage text H.HeadTooLarge
RefusedAt text left H.NoLength = RefusesMessage text H.NoLength
RefusedAt text left H.BodyTooLarge = RefusesMessage text H.BodyTooLarge
RefusedAt text left H.ReadFault = ⊥
RefusedAt text left H.NoMemory = ⊥
