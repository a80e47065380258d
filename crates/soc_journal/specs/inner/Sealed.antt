-- What contracts see of the text of an entry: its kind and its body, found by their places.
use Rattle.std.specs.Prelude.{◌≡◌, ℕ, ◌-◌, List, length, take, drop, slice_index}
use Rattle.soc_journal.specs.Entries.{Entry, IsEntryOf, second_version, head_size, beside_body, sealed}

-- where the kind stands, behind the gate
abbrev pub kind_place : ℕ
kind_place = 1

-- the entry of a text that is written as a whole
abbrev pub entry_in : List ℕ → Entry
entry_in text = record { kind = slice_index text kind_place; body = take (length text - beside_body) (drop head_size text) }

-- the text is that of an entry
pub record IsSealed (text : List ℕ) : Type 0 where
  pub whole : text ≡ sealed (entry_in text)
  pub legal : IsEntryOf second_version (entry_in text)
