-- What is kept of a frame whose function isn't known, as in `xul.dll@0x1f` (this project's profile, after Socorro's
-- signatures).
use Rattle.std.specs.Prelude.{ℕ, ◌+◌, Bool, if◌then◌else◌, List, [], ◌∷◌, length, take, codes, Option, None, Some, option_map}
use Rattle.std.specs.Str.{str_eq_ignore_ascii_case}

abbrev pub module_mark : List ℕ
module_mark = codes ".dll@"

-- in either case
abbrev pub begins_with_mark : List ℕ → Bool
begins_with_mark text = str_eq_ignore_ascii_case (take (length module_mark) text) module_mark

-- where the first `.dll@` stands
abbrev pub mark_place : List ℕ → Option ℕ
mark_place [] = None
mark_place (byte ∷ rest) = if begins_with_mark (byte ∷ rest) then Some 0 else option_map (λ place. place + 1) (mark_place rest)

-- what stands before the `@` of the first `.dll@`, in a frame that has one
abbrev pub module_text : List ℕ → Option (List ℕ)
module_text frame = option_map (λ place. take (place + length (codes ".dll")) frame) (mark_place frame)
