-- Worked examples.
use Rattle.std.specs.Prelude.{◌≡◌, [], ◌∷◌, codes, refl, true, Some, None}
use Rattle.soc_sigrules.specs.Chars.{first_chars, at_most}
use Rattle.soc_sigrules.specs.Modules.{module_text}
use Rattle.soc_sigrules.specs.Rules.{memory_text}
use Rattle.soc_sigrules.specs.Spaces.{spaced}
use Rattle.soc_sigrules.specs.Stacks.{text_of}

small_allocation : memory_text (codes "262144") (codes "f") ≡ codes "OOM | small"
small_allocation = refl

large_allocation : memory_text (codes "262145") (codes "f") ≡ codes "OOM | large | f"
large_allocation = refl

unknown_allocation : memory_text (codes "many") (codes "f") ≡ codes "OOM | unknown | f"
unknown_allocation = refl

module_of_a_frame : module_text (codes "xul.DLL@0x1f.dll@2") ≡ Some (codes "xul.DLL")
module_of_a_frame = refl

no_module : module_text (codes "libc.so@0x1f") ≡ None
no_module = refl

characters_not_bytes : first_chars 2 (0xC3 ∷ 0xA9 ∷ 0x61 ∷ 0x62 ∷ []) ≡ 0xC3 ∷ 0xA9 ∷ 0x61 ∷ []
characters_not_bytes = refl

long_text : at_most 5 (codes "abcdef") ≡ codes "ab..."
long_text = refl

short_text : at_most 5 (codes "abcde") ≡ codes "abcde"
short_text = refl

one_space : spaced (codes " a \t\r\n b ") ≡ codes "a b"
one_space = refl

no_frames : text_of true [] ≡ codes "EMPTY: no frame data available"
no_frames = refl

two_frames : text_of true (codes "b" ∷ codes "c" ∷ []) ≡ codes "b | c"
two_frames = refl
