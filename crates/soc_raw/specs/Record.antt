-- The record of a raw crash, by concatenation: this project's profile. Numbers are little-endian.
use Rattle.std.specs.Prelude.{◌≡◌, ℕ, ◌^◌, ◌<◌, ◌≤◌, List, ◌++◌, length, flat_map}
use Rattle.std.specs.Int.{to_le_bytes, w32, w64}
use Rattle.std.specs.Str.{IsUtf8}
use Rattle.std.specs.List.{AllByRecursion}
use Rattle.soc_base.specs.Cursor.{counted}
use Rattle.soc_base.specs.Names.{IsRising, IsText, HasTextName}
use Rattle.soc_raw.specs.Day.{IsMoment}
use Rattle.soc_raw.specs.CrashId.{IsId}

-- a raw crash without where it lies in memory
pub record Crash : Type 0 where
  pub id : List ℕ
  pub moment : ℕ
  pub draw : ℕ
  pub rule : List ℕ
  pub annotations : List (List ℕ × List ℕ)
  pub dumps : List (List ℕ × List ℕ)

abbrev pub pair_text : List ℕ × List ℕ → List ℕ
pair_text p = counted p.0 ++ counted p.1

-- how many pairs there are, in 4 bytes, and the pairs
abbrev pub pairs_text : List (List ℕ × List ℕ) → List ℕ
pairs_text ps = to_le_bytes w32 (length ps) ++ flat_map pair_text ps

-- what tells one crash from another, and stands before its content
unfoldable pub head_text : Crash → List ℕ
head_text c = c.id ++ (to_le_bytes w64 c.moment ++ (to_le_bytes w64 c.draw ++ counted c.rule))

-- the content: annotations and dumps
unfoldable pub content_text : Crash → List ℕ
content_text c = pairs_text c.annotations ++ pairs_text c.dumps

unfoldable pub record_of : Crash → List ℕ
record_of c = head_text c ++ content_text c

abbrev pub MAX_RECORD : ℕ
MAX_RECORD = 67_108_864

abbrev pub MAX_ANNOTATIONS : ℕ
MAX_ANNOTATIONS = 1024

abbrev pub MAX_DUMPS : ℕ
MAX_DUMPS = 512

-- the raw crashes that there are
pub record IsCrash (c : Crash) : Type 0 where
  pub id : IsId c.id
  pub moment : IsMoment c.moment
  pub draw : c.draw < 2 ^ 64
  pub rule : IsUtf8 c.rule
  pub annotations : AllByRecursion IsText c.annotations
  pub annotations_rise : IsRising c.annotations
  pub few_annotations : length c.annotations ≤ MAX_ANNOTATIONS
  pub dumps : AllByRecursion HasTextName c.dumps
  pub dumps_rise : IsRising c.dumps
  pub few_dumps : length c.dumps ≤ MAX_DUMPS
  pub fits : length (record_of c) ≤ MAX_RECORD

-- the bytes are no record
abbrev pub IsNoRecord : List ℕ → Type 0
IsNoRecord bytes = (c : Crash) → IsCrash c → ¬ (record_of c ≡ bytes)
