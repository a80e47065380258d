-- The part of a signature that the frames give (this project's profile, after Socorro's signatures).
use Rattle.std.specs.Prelude.{ℕ, ◌+◌, ◌&&◌, not, Bool, true, false, if◌then◌else◌, List, [], ◌∷◌, map, filter, take, drop, length, ◌==◌, codes, Option, None, Some, unwrap_or}
use Rattle.std.specs.List.{prefix_len}
use Rattle.std.specs.Option.{option_map_or}
use Rattle.std.specs.Str.{bytes_eq}
use Rattle.soc_siglists.specs.Lists.{ListTexts, is_irrelevant, is_prefix, sentinel_place}
use Rattle.soc_sigrules.specs.Chars.{first_chars, joined}
use Rattle.soc_sigrules.specs.Modules.{module_text}

abbrev pub separator : List ℕ
separator = codes " | "

-- all frames, as they are, up to 2,000 characters
abbrev pub proto_of : List (List ℕ) → List ℕ
proto_of frames = first_chars 2000 (joined separator frames)

-- from the first sentinel on, or all where there is none
abbrev pub from_sentinel : ListTexts → List (List ℕ) → List (List ℕ)
from_sentinel lists frames = drop (unwrap_or (sentinel_place lists frames) 0) frames

-- what is kept of a frame, and whether it is only its module
pub record Kept : Type 0 where
  pub text : List ℕ
  pub is_module : Bool

abbrev pub kept_of : List ℕ → Kept
kept_of frame = option_map_or (λ module_name. record { text = module_name; is_module = true }) (module_text frame) (record { text = frame; is_module = false })

-- the text is there, and is this one
abbrev pub is_text : Option (List ℕ) → List ℕ → Bool
is_text before text = option_map_or (λ other. bytes_eq other text) before false

-- the texts, without the modules that equal the text before them
abbrev pub without_repeats : Option (List ℕ) → List Kept → List (List ℕ)
without_repeats before [] = []
without_repeats before (kept ∷ more) =
    if kept.is_module && is_text before kept.text then without_repeats before more else kept.text ∷ without_repeats (Some kept.text) more

-- the texts up to the first that is no prefix
abbrev pub through_prefixes : ListTexts → List (List ℕ) → List (List ℕ)
through_prefixes lists texts = take (prefix_len (is_prefix lists) texts + 1) texts

-- the texts that a signature is made of
abbrev pub stack_texts : ListTexts → List (List ℕ) → List (List ℕ)
stack_texts lists frames =
    through_prefixes lists (without_repeats None (map kept_of (filter (λ frame. not (is_irrelevant lists frame)) (from_sentinel lists frames))))

abbrev pub empty_text : Bool → List ℕ
empty_text thread_found =
    if thread_found then codes "EMPTY: no frame data available" else codes "EMPTY: no crashing thread identified"

abbrev pub text_of : Bool → List (List ℕ) → List ℕ
text_of thread_found texts = if length texts == 0 then empty_text thread_found else joined separator texts
