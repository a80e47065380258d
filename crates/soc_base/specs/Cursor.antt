-- Reading bytes from their front: this project's profile.
use Rattle.std.specs.Prelude.{◌≡◌, ℕ, List, ◌++◌, length, take, drop, Option, Some, None, MatchOption, nat_lt, if◌then◌else◌}
use Rattle.std.specs.Int.{Width, w32, byte_len, from_le_bytes, to_le_bytes}
use Rattle.std.specs.Str.{is_utf8}
use Rattle.soc_base.specs.Options.{◌>>=◌}

-- where the bytes began with the text of some x that Is allows, such an x was answered and its text taken from them;
-- else nothing was
abbrev pub Takes : {X Y : Type 0} → (X → Y) → (Y → Type 0) → (Y → List ℕ) → Option X → List ℕ → List ℕ → Type 0
Takes {X} {Y} view Is text result old new =
    MatchOption result (((y : Y) (rest : List ℕ) → Is y → ¬ (old ≡ text y ++ rest)) × (new ≡ old)) (λ x. Is (view x) × (old ≡ text (view x) ++ new))

-- a text or a blob: its length in 4 bytes, the lowest first, and its bytes
abbrev pub counted : List ℕ → List ℕ
counted bytes = to_le_bytes w32 (length bytes) ++ bytes

-- what a read of the front answered, seen by view, and what it left are what `at` reads of the bytes
abbrev pub ReadsAs : {X Y : Type 0} → (X → Y) → (List ℕ → Option (Y × List ℕ)) → Option X → List ℕ → List ℕ → Type 0
ReadsAs view at None old new = at old ≡ None
ReadsAs view at (Some x) old new = at old ≡ Some (view x, new)

abbrev pub number_at : Width → List ℕ → Option (ℕ × List ℕ)
number_at w bytes =
    if nat_lt (length bytes) (byte_len w) then None
    else Some (from_le_bytes w (take (byte_len w) bytes), drop (byte_len w) bytes)

abbrev pub bytes_at : ℕ → List ℕ → Option (List ℕ × List ℕ)
bytes_at n bytes = if nat_lt (length bytes) n then None else Some (take n bytes, drop n bytes)

unfoldable pub blob_at : List ℕ → Option (List ℕ × List ℕ)
blob_at bytes = do
  n ← number_at w32 bytes
  bytes_at n.0 n.1

unfoldable pub text_at : List ℕ → Option (List ℕ × List ℕ)
text_at bytes = do
  blob ← blob_at bytes
  if is_utf8 blob.0 then Some blob else None
