-- Reading a record from its front: a value and the bytes that stand behind it, or nothing where they have no such front.
use Rattle.std.specs.Prelude.{◌≡◌, ℕ, zero, suc, List, [], ◌∷◌, length, Option, Some, None, Result, Ok, Err, Bool, true, nat_lt, nat_le, ◌&&◌, ◌==◌, if◌then◌else◌}
use Rattle.std.specs.Int.{w32, w64}
use Rattle.std.specs.Ordering.{is_lt}
use Rattle.soc_raw.specs.declared.record_error.RecordError.{RecordError}
use Rattle.soc_raw.specs.Refusals.{Refuses}
use Rattle.soc_raw.specs.CrashId.{id_length, is_id}
use Rattle.soc_raw.specs.Day.{first_moment, last_moment}
use Rattle.soc_base.specs.Names.{byte_cmp}
use Rattle.soc_base.specs.Options.{◌>>=◌}
use Rattle.soc_base.specs.Cursor.{number_at, bytes_at, blob_at, text_at}
use Rattle.soc_raw.specs.Record.{Crash, MAX_ANNOTATIONS, MAX_DUMPS}

-- what was answered, seen by view, is what is read, unless memory ran out
abbrev pub Gives : {X Y : Type 0} → (X → Y) → Result X RecordError → Option Y → Type 0
Gives view (Ok x) read = read ≡ Some (view x)
Gives view (Err e) read = Refuses e (read ≡ None)

-- what a read of the front answered, seen by view, and what it left are what `at` reads of the bytes, unless memory ran out
abbrev pub GivesFrom : {X Y : Type 0} → (X → Y) → (List ℕ → Option (Y × List ℕ)) → Result X RecordError → List ℕ → List ℕ → Type 0
GivesFrom view at (Ok x) old new = at old ≡ Some (view x, new)
GivesFrom view at (Err e) old new = Refuses e (at old ≡ None)

unfoldable pub id_at : List ℕ → Option (List ℕ × List ℕ)
id_at bytes = do
  id ← bytes_at id_length bytes
  if is_id id.0 then Some id else None

abbrev pub is_moment : ℕ → Bool
is_moment n = nat_le first_moment n && nat_le n last_moment

unfoldable pub moment_at : List ℕ → Option (ℕ × List ℕ)
moment_at bytes = do
  n ← number_at w64 bytes
  if is_moment n.0 then Some n else None

-- an annotation
unfoldable pub text_pair_at : List ℕ → Option ((List ℕ × List ℕ) × List ℕ)
text_pair_at bytes = do
  name ← text_at bytes
  value ← text_at name.1
  Some ((name.0, value.0), value.1)

-- a dump
unfoldable pub blob_pair_at : List ℕ → Option ((List ℕ × List ℕ) × List ℕ)
blob_pair_at bytes = do
  name ← text_at bytes
  value ← blob_at name.1
  Some ((name.0, value.0), value.1)

-- a name may stand behind the last one
abbrev pub is_above : Option (List ℕ) → List ℕ → Bool
is_above None name = true
is_above (Some last) name = is_lt (byte_cmp last name)

unfoldable pub last_name : {V : Type 0} → List (List ℕ × V) → Option (List ℕ)
last_name [] = None
last_name (p ∷ []) = Some p.0
last_name (p ∷ q ∷ ps) = last_name (q ∷ ps)

-- n pairs with rising names, all above the last one
unfoldable pub pairs_at : (List ℕ → Option ((List ℕ × List ℕ) × List ℕ)) → Option (List ℕ) → ℕ → List ℕ → Option (List (List ℕ × List ℕ) × List ℕ)
pairs_at item last zero bytes = Some ([], bytes)
pairs_at item last (suc n) bytes =
    item bytes >>= λ p. if is_above last p.0.0
    then (pairs_at item (Some p.0.0) n p.1 >>= λ others. Some (p.0 ∷ others.0, others.1))
    else None

-- their number first, at most so many
unfoldable pub counted_pairs_at : (List ℕ → Option ((List ℕ × List ℕ) × List ℕ)) → ℕ → List ℕ → Option (List (List ℕ × List ℕ) × List ℕ)
counted_pairs_at item most bytes = do
  n ← number_at w32 bytes
  if nat_lt most n.0 then None else pairs_at item None n.0 n.1

-- annotations and dumps, up to the end
unfoldable pub content_at : List ℕ → Option (List (List ℕ × List ℕ) × List (List ℕ × List ℕ))
content_at bytes = do
  annotations ← counted_pairs_at text_pair_at MAX_ANNOTATIONS bytes
  dumps ← counted_pairs_at blob_pair_at MAX_DUMPS annotations.1
  if length dumps.1 == 0 then Some (annotations.0, dumps.0) else None

-- the crash of these parts and of the content that the bytes are
abbrev pub crash_with : List ℕ → ℕ → ℕ → List ℕ → List ℕ → Option Crash
crash_with id moment draw rule bytes = do
  content ← content_at bytes
  Some (record { id = id; moment = moment; draw = draw; rule = rule; annotations = content.0; dumps = content.1 })

-- the crash of which the bytes are the record
unfoldable pub crash_at : List ℕ → Option Crash
crash_at bytes = do
  id ← id_at bytes
  moment ← moment_at id.1
  draw ← number_at w64 moment.1
  rule ← text_at draw.1
  content ← content_at rule.1
  Some (record { id = id.0; moment = moment.0; draw = draw.0; rule = rule.0; annotations = content.0; dumps = content.1 })
