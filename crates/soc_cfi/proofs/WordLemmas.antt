-- Texts that are parted at spaces.
use Rattle.std.proofs.Common.{◌≡◌, ◌≢◌, ℕ, ◌<◌, Bor, false, List, [], ◌∷◌, ◌++◌, length, get_or, eqb, refl, ap, ◌∙◌, arith, lit<}
use Rattle.std.proofs.lemmas.Bool.Decides.{nat_tests}
use Rattle.std.proofs.lemmas.List.Elements.{All-from_get_or}
use Rattle.std.proofs.lemmas.List.Splits.{slice_split_at, slice_split_none}
use Rattle.std.proofs.lemmas.Str.Pattern.{IsSplitOnceResult, split_parts}
use Rattle.std.specs.Prelude.{All, Option, None, Some, MatchOption}
use Rattle.soc_cfi.specs.Words.{parts}

no_space : (part : List ℕ) → ((i : ℕ) → i < length part → get_or part i 0 ≢ 32) → All (λ x. eqb x 32 ≡ false) part
no_space part clear = All-from_get_or (λ x. eqb x 32 ≡ false) part 0 (λ i inside. let other : get_or part i 0 ≢ 32 = clear i inside in grind (arith, nat_tests))

parts_at : (text part later : List ℕ) → text ≡ part ++ (32 ∷ later) → ((i : ℕ) → i < length part → get_or part i 0 ≢ 32) → parts text ≡ part ∷ parts later
parts_at text part later whole clear = ap parts whole ∙ slice_split_at (λ x. eqb x 32) part 32 later (no_space part clear) refl

parts_none : (text : List ℕ) → ((i : ℕ) → i < length text → get_or text i 0 ≢ 32) → parts text ≡ text ∷ []
parts_none text clear = slice_split_none (λ x. eqb x 32) text (no_space text clear)

split_cases : (text : List ℕ) (split : Option (Bor (List ℕ) × Bor (List ℕ))) → MatchOption split ((i : ℕ) → i < length text → get_or text i 0 ≢ 32) (λ x. (text ≡ x.0.now ++ (32 ∷ x.1.now)) × ((i : ℕ) → i < length x.0.now → get_or x.0.now i 0 ≢ 32)) → MatchOption split (parts text ≡ text ∷ []) (λ x. parts text ≡ x.0.now ∷ parts x.1.now)
split_cases text None clear = parts_none text clear
split_cases text (Some x) cut = parts_at text x.0.now x.1.now cut.0 cut.1

-- the parts by the first space
pub split_gives : (text : List ℕ) (split : Option (Bor (List ℕ) × Bor (List ℕ))) → IsSplitOnceResult 32 text split → MatchOption split (parts text ≡ text ∷ []) (λ x. parts text ≡ x.0.now ∷ parts x.1.now)
split_gives text split given = split_cases text split (split_parts 32 text split given (lit< tt))
