-- Blanks: spaces and tabs (RFC 9110, 5.6.3).
use Rattle.std.specs.Prelude.{ℕ, ◌-◌, Bool, ◌||◌, ◌==◌, List, length, take, drop}
use Rattle.std.specs.List.{prefix_len, suffix_len}

abbrev pub space : ℕ
space = 32

abbrev pub tab : ℕ
tab = 9

abbrev pub is_blank : ℕ → Bool
is_blank byte = byte == space || byte == tab

-- the text without the blanks around it
abbrev pub trimmed : List ℕ → List ℕ
trimmed text =
    let behind = drop (prefix_len is_blank text) text in take (length behind - suffix_len is_blank behind) behind
