-- Look-ups among the lines of a head (RFC 9110, sections 5.1 and 8.4): the case of a name's letters doesn't count.
use Rattle.std.specs.Prelude.{ℕ, Bool, not, ◌&&◌, List, [], ◌∷◌, filter, find, Option, None, Some, unwrap_or, codes}
use Rattle.std.specs.Str.{str_eq_ignore_ascii_case}
use Rattle.soc_http.specs.Request.{Line, is_named}

-- the lines of this name, in order
abbrev pub lines_named : List ℕ → List Line → List Line
lines_named name lines = filter (is_named name) lines

abbrev pub is_encoded : List ℕ → Bool
is_encoded value = not (str_eq_ignore_ascii_case value (codes "identity"))

-- a line that encodes the body
abbrev pub encodes : Line → Bool
encodes line = is_named (codes "content-encoding") line && is_encoded line.1

-- of several values the first that encodes the body counts, else the first
abbrev pub encoding_of : List (List ℕ) → Option (List ℕ)
encoding_of [] = None
encoding_of (value ∷ values) = Some (unwrap_or (find is_encoded (value ∷ values)) value)
