-- Journals and entries as they are written, by computation.
use Rattle.std.specs.Prelude.{◌≡◌, true, false, [], ◌∷◌, ◌++◌, codes, refl}
use Rattle.soc_journal.specs.Entries.{Entry, has_kind, first_version, second_version, accept_kind, ask_kind, withdraw_kind, report_kind, entry_text, header, sealed, place_behind}
use Rattle.soc_journal.specs.Text.{version_of, empty_journal}

-- a journal without entries
empty : empty_journal ≡ codes "SOCJ0002" ++ 0 ∷ []
empty = refl

abbrev pub asked : Entry
asked = record { kind = ask_kind; body = codes "id" }

-- an entry, with the closed gate behind it
one_entry : sealed asked ≡ 1 ∷ 81 ∷ 2 ∷ 0 ∷ 0 ∷ 0 ∷ codes "id" ++ 0 ∷ []
unfolding entry_text
one_entry = refl

-- the gate behind two of them
two_entries : place_behind (asked ∷ asked ∷ []) ≡ 24
unfolding entry_text
two_entries = refl

-- the version byte of a journal that a later program wrote
later_version : version_of (header 57 ++ 0 ∷ []) ≡ 57
later_version = refl

-- only the second version has withdrawals and reports, and every other version byte says the second
first_has : has_kind first_version accept_kind ≡ true
first_has = refl

first_lacks : has_kind first_version withdraw_kind ≡ false
first_lacks = refl

second_has : has_kind second_version report_kind ≡ true
second_has = refl

torn_has : has_kind 206 withdraw_kind ≡ true
torn_has = refl

-- `B` is no kind
unknown : has_kind second_version 66 ≡ false
unknown = refl
