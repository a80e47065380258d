-- What one frame more does to the summary of those so far.
use Rattle.std.specs.Prelude.{ℕ, ◌&&◌, ◌||◌, not, Bool, true, if◌then◌else◌, List, ◌∷◌, [], ◌++◌, Option, None}
use Rattle.std.specs.List.{list_all, last_or}
use Rattle.std.specs.Str.{bytes_eq}
use Rattle.soc_siglists.specs.Lists.{ListTexts, is_irrelevant, is_prefix, is_sentinel}
use Rattle.soc_sigrules.specs.Chars.{first_chars}
use Rattle.soc_sigrules.specs.Stacks.{separator, kept_of, is_text}
use Rattle.soc_sigrules.specs.Rules.{watchdog}
use Rattle.soc_sigrules.specs.Signatures.{StackState, Summary}
use Rattle.soc_sigrules.specs.inner.Fronts.{no_texts, with_text}

-- all frames with one more
abbrev pub proto_with : Bool → List ℕ → List ℕ → List ℕ
proto_with has_frames proto frame = first_chars 2000 (proto ++ (if has_frames then separator ++ frame else frame))

-- one of the texts is no prefix, so nothing follows them
abbrev pub ends : ListTexts → List (List ℕ) → Bool
ends lists texts = not (list_all (is_prefix lists) texts)

-- only the frame's module is known, and it is the last text
abbrev pub is_repeated : Option (List ℕ) → List ℕ → Bool
is_repeated last frame = (kept_of frame).is_module && is_text last (kept_of frame).text

-- all texts with what is kept of one more frame
abbrev pub all_with : ListTexts → List (List ℕ) → List ℕ → List (List ℕ)
all_with lists texts frame =
    if ends lists texts || (is_irrelevant lists frame || is_repeated (last_or None texts) frame) then texts else texts ++ (kept_of frame).text ∷ []

-- the same of what is held of them
abbrev pub texts_with : ListTexts → StackState → List ℕ → StackState
texts_with lists texts frame =
    if texts.is_ended || (is_irrelevant lists frame || is_repeated texts.last frame)
    then texts
    else with_text texts (kept_of frame).text (is_prefix lists (kept_of frame).text)

-- the first sentinel is met: what stands before it is forgotten
abbrev pub begins_here : Summary → List ℕ → Bool
begins_here summary frame = not summary.has_sentinel && is_sentinel summary.lists frame

abbrev pub texts_before : Summary → List ℕ → StackState
texts_before summary frame = if begins_here summary frame then no_texts else summary.texts

abbrev pub with_frame : Summary → List ℕ → Summary
with_frame summary frame = record {
  lists = summary.lists;
  has_frames = true;
  proto = proto_with summary.has_frames summary.proto frame;
  watched = summary.watched || bytes_eq frame watchdog;
  has_sentinel = summary.has_sentinel || is_sentinel summary.lists frame;
  texts = texts_with summary.lists (texts_before summary frame) frame;
}
