-- What is kept of a field: its distinct values, and the places of each.
use Rattle.std.specs.Prelude.{slice_index_or, ◌≡◌, ℕ, ◌-◌, ◌<◌, ◌≤◌, ◌==◌, nat_lt, ◌≢◌, List, [], ◌∷◌, Option, None, Some, if◌then◌else◌, ⊤}
use Rattle.std.specs.List.{AllByRecursion}
use Rattle.soc_schema.specs.declared.value.Value.{Value}
use Rattle.soc_schema.specs.declared.value.Cell.{Cell}
use Rattle.soc_schema.specs.Rows.{value_of}
use Rattle.soc_schema.specs.Orders.{value_cmp}
use Rattle.soc_schema.specs.Tables.{alter, prune}

pub record Posting : Type 0 where
  pub value : Value
  pub places : List ℕ

abbrev pub with_place : ℕ → List ℕ → List ℕ
with_place p [] = p ∷ []
with_place p (q ∷ qs) = if nat_lt p q then p ∷ q ∷ qs else q ∷ with_place p qs

abbrev pub places_in : Option Posting → List ℕ
places_in None = []
places_in (Some t) = t.places

-- the posting of a value with one more place
abbrev pub posted : Value → ℕ → Option Posting → Posting
posted v p old = record { value = v; places = with_place p (places_in old) }

-- the postings with one more row
abbrev pub with_posting : Option Value → ℕ → List Posting → List Posting
with_posting None p ts = ts
with_posting (Some v) p ts = alter (λ t. t.value) value_cmp v (posted v p) ts

abbrev pub without_place : ℕ → List ℕ → List ℕ
without_place p [] = []
without_place p (q ∷ qs) = if q == p then qs else q ∷ without_place p qs

-- the posting with one row less
abbrev pub shrunk : ℕ → Posting → Posting
shrunk p t = record { value = t.value; places = without_place p t.places }

-- nothing, where no place is left
abbrev pub if_any : List ℕ → Posting → Option Posting
if_any [] t = None
if_any (p ∷ ps) t = Some t

abbrev pub unposted : ℕ → Posting → Option Posting
unposted p t = if_any (without_place p t.places) (shrunk p t)

-- the postings with one row less
abbrev pub without_posting : Option Value → ℕ → List Posting → List Posting
without_posting None p ts = ts
without_posting (Some v) p ts = prune (λ t. t.value) value_cmp v (unposted p) ts

-- the postings of a field
abbrev pub index_of : ℕ → List (ℕ × List Cell) → List Posting
index_of f [] = []
index_of f (s ∷ ss) = with_posting (value_of s.1 f) s.0 (index_of f ss)

-- no place is below the one before it
abbrev pub PlacesInOrder : List ℕ → Type 0
PlacesInOrder [] = ⊤
PlacesInOrder (p ∷ ps) = AllByRecursion (λ q. p ≤ q) ps × PlacesInOrder ps

-- places in order, at least one
abbrev pub IsPosting : Posting → Type 0
IsPosting t = PlacesInOrder t.places × (t.places ≢ [])

abbrev pub ArePostings : List Posting → Type 0
ArePostings ts = AllByRecursion IsPosting ts

-- of each field the postings of the rows are kept
abbrev pub AreKept : List (List Posting) → List (ℕ × List Cell) → Type 0
AreKept fields rows = (f : ℕ) → f < 36 → slice_index_or fields f [] ≡ index_of f rows
