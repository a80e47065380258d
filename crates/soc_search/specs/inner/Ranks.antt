-- Signatures by their index among those of a store.
use Rattle.std.specs.Prelude.{ℕ, ◌+◌, ◌<◌, ◌==◌, nat_lt, slice_index_or, if◌then◌else◌, List, [], ◌∷◌, Option, None, Some}
use Rattle.std.specs.List.{AllByRecursion}
use Rattle.soc_schema.specs.declared.value.Value.{Value}
use Rattle.soc_schema.specs.declared.value.Value.TheVariants.{Text}
use Rattle.soc_search.specs.declared.ranking.Ranked.{Ranked}
use Rattle.soc_tops.specs.declared.tops.Top.{Top}
use Rattle.soc_tops.specs.Tops.{Counted}
use Rattle.soc_schema.specs.Values.{text_in}

-- the counts that aren't 0, each with its index
abbrev pub numbered : ℕ → List ℕ → List Ranked
numbered i [] = []
numbered i (n ∷ ns) = if nat_lt 0 n then record { index = i; count = n } ∷ numbered (i + 1) ns else numbered (i + 1) ns

-- each index is below the number
abbrev pub AreBelow : ℕ → List Ranked → Type 0
AreBelow n ranking = AllByRecursion (λ r. r.index < n) ranking

-- the rank of an index in a list that begins with this rank
abbrev pub index_rank : ℕ → ℕ → List Ranked → Option ℕ
index_rank rank i [] = None
index_rank rank i (r ∷ rs) = if i == r.index then Some rank else index_rank (rank + 1) i rs

-- the signature that is ranked
abbrev pub named : List Value → Ranked → Counted
named signatures r = record { signature = slice_index_or signatures r.index (Text []); count = r.count }

-- a ranked signature with its old count and rank
abbrev pub top_at : List Value → List ℕ → List (Option ℕ) → ℕ × Ranked → Top
top_at signatures old_counts old_ranks ranked =
    record {
      signature = text_in (slice_index_or signatures ranked.1.index (Text []));
      count = ranked.1.count;
      rank = ranked.0;
      old_count = slice_index_or old_counts ranked.1.index 0;
      old_rank = slice_index_or old_ranks ranked.1.index None;
    }
