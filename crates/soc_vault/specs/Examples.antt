-- Worked journals: where an entry stands, and what a settled doubt leaves.
use Rattle.std.specs.Prelude.{◌≡◌, [], ◌∷◌, codes, refl}
use Rattle.soc_journal.specs.Entries.{Entry, ask_kind, withdraw_kind, entry_text}
use Rattle.soc_journal.specs.declared.settled.Settled.TheVariants.{Clean, Kept, Dropped}
use Rattle.soc_vault.specs.Vaults.{IsAt, settled_entries}

abbrev asked : Entry
asked = record { kind = ask_kind; body = codes "id" }

abbrev withdrawn : Entry
withdrawn = record { kind = withdraw_kind; body = codes "id" }

-- the second entry stands behind the header's 8 bytes and the 8 of the first
second_place : IsAt (asked ∷ withdrawn ∷ []) 16 withdrawn
unfolding entry_text
second_place = record { before = asked ∷ []; behind = []; whole = refl; place_is = refl }

kept : settled_entries (asked ∷ []) (withdrawn ∷ []) (Kept 16) ≡ asked ∷ withdrawn ∷ []
kept = refl

-- all entries in doubt are kept, or all are dropped
kept_all : settled_entries (asked ∷ []) (withdrawn ∷ asked ∷ []) (Kept 16) ≡ asked ∷ withdrawn ∷ asked ∷ []
kept_all = refl

dropped_all : settled_entries (asked ∷ []) (withdrawn ∷ asked ∷ []) Dropped ≡ asked ∷ []
dropped_all = refl

dropped : settled_entries (asked ∷ []) (withdrawn ∷ []) Dropped ≡ asked ∷ []
dropped = refl

clean : settled_entries (asked ∷ []) [] Clean ≡ asked ∷ []
clean = refl
