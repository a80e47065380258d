-- What is kept of a field, in blocks.
use Rattle.std.specs.Prelude.{◌≡◌, ℕ, ◌+◌, ◌^◌, ◌<◌, List, [], ◌∷◌, ◌++◌, length, map, drop, ⊤}
use Rattle.std.specs.List.{AllByRecursion}
use Rattle.soc_store.specs.declared.parts.Part.{Part}
use Rattle.soc_schema.specs.Orders.{value_cmp}
use Rattle.soc_schema.specs.Tables.{Rising}
use Rattle.soc_store.specs.inner.Postings.{Posting}

-- the lists, one after another
abbrev pub joined : {E : Type 0} → List (List E) → List E
joined [] = []
joined (b ∷ bs) = b ++ joined bs

abbrev pub blocks_of : List Part → List (List Posting)
blocks_of parts = map (λ p. p.block) parts

abbrev pub postings_in : List Part → List Posting
postings_in parts = joined (blocks_of parts)

-- each block but the first has a posting
abbrev pub AreFilled : List (List Posting) → Type 0
AreFilled bs = AllByRecursion (λ b. 0 < length b) (drop 1 bs)

-- each part tells how many postings there are up to its end, behind n of them
abbrev pub AreCounted : ℕ → List Part → Type 0
AreCounted n [] = ⊤
AreCounted n (p ∷ ps) = (p.end ≡ n + length p.block) × AreCounted (n + length p.block) ps

-- the parts that an index keeps
pub record AreParts (parts : List Part) : Type 0 where
  pub rising : Rising (λ (t : Posting). t.value) value_cmp (postings_in parts)
  pub filled : AreFilled (blocks_of parts)
  pub counted : AreCounted 0 parts
  pub few : length (postings_in parts) < 2 ^ 64
