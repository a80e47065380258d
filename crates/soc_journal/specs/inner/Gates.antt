-- What stands where a gate is wanted: words of private contracts and proofs.
use Rattle.std.specs.Prelude.{◌≡◌, ◌≢◌, ℕ, ◌+◌, ◌^◌, ◌<◌, ◌≤◌, List, ◌∷◌, ◌++◌, length, ⊤}
use Rattle.std.specs.Int.{to_le_bytes, w32}
use Rattle.soc_journal.specs.Entries.{Entry, IsEntryOf, open_gate, head_size, entry_text}
use Rattle.soc_journal.specs.Openings.{Counts}
use Rattle.soc_journal.specs.declared.gate.Front.{Front}
use Rattle.soc_journal.specs.declared.gate.Front.TheVariants.{Shut, Cut, Head}
use Rattle.soc_journal.specs.declared.gate.AtGate.{AtGate}
use Rattle.soc_journal.specs.declared.gate.AtGate.TheVariants.{Open, Closed, Bad}

-- what an entry begins with, up to its body
abbrev pub entry_head : ℕ → ℕ → List ℕ
entry_head kind count = open_gate ∷ kind ∷ to_le_bytes w32 count

-- the bytes don't begin with a closed gate
abbrev pub HasNoGate : List ℕ → Type 0
HasNoGate bytes = (gate : ℕ) (more : List ℕ) → gate ≢ open_gate → bytes ≢ gate ∷ more

-- the bytes begin with a closed gate, or they don't and are fewer than an entry has before its body, or they begin with
-- an entry's bytes before its body
abbrev pub IsFront : List ℕ → Front → Type 0
IsFront bytes Shut = (gate : ℕ) × (more : List ℕ) × (bytes ≡ gate ∷ more) × (gate ≢ open_gate)
IsFront bytes Cut = (length bytes < head_size) × HasNoGate bytes
IsFront bytes (Head kind count) = (count < 2 ^ 32) × ((more : List ℕ) × (bytes ≡ entry_head kind count ++ more))

-- the bytes begin with such a head
pub record IsHead (version place end kind count : ℕ) (bytes : List ℕ) : Type 0 where
  pub more : List ℕ
  pub whole : bytes ≡ entry_head kind count ++ more
  pub counts : Counts version kind count place end

-- neither a closed gate nor an entry that ends at or before the end
pub record IsBad (version place end : ℕ) (bytes : List ℕ) : Type 0 where
  pub no_entry : (entry : Entry) (more : List ℕ) → IsEntryOf version entry → place + length (entry_text entry) ≤ end → bytes ≢ entry_text entry ++ more
  pub no_gate : HasNoGate bytes

abbrev pub IsAtGate : ℕ → ℕ → ℕ → List ℕ → AtGate → Type 0
IsAtGate version place end bytes (Open kind count) = IsHead version place end kind count bytes
IsAtGate version place end bytes Closed = IsFront bytes Shut
IsAtGate version place end bytes Bad = IsBad version place end bytes

-- an entry that was found counts, whatever the disk tells
abbrev pub OpenCounts : ℕ → ℕ → ℕ → AtGate → Type 0
OpenCounts version place end (Open kind count) = Counts version kind count place end
OpenCounts version place end Closed = ⊤
OpenCounts version place end Bad = ⊤
