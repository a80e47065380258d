-- The names of what is waited for, one after another.
use Rattle.std.proofs.Common.{ℕ, List, ◌++◌, Option, option_map}

-- the names so far and those that are left
abbrev pub names_with : List (List ℕ) → Option (List (List ℕ)) → Option (List (List ℕ))
names_with names left = option_map (λ more. names ++ more) left
