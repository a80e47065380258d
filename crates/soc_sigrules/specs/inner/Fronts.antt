-- The texts of a stack as far as a signature can show them, one word and one text more.
use Rattle.std.specs.Prelude.{ℕ, ◌==◌, ◌||◌, not, Bool, if◌then◌else◌, List, [], ◌∷◌, ◌++◌, length, codes, false, None, Some, is_some}
use Rattle.soc_sigrules.specs.Chars.{first_chars}
use Rattle.soc_sigrules.specs.Spaces.{words}
use Rattle.soc_sigrules.specs.Stacks.{separator, empty_text}
use Rattle.soc_sigrules.specs.Signatures.{StackState}

abbrev pub with_word : List ℕ → List ℕ → List ℕ
with_word front word = first_chars 257 (if length front == 0 then word else front ++ (codes " " ++ word))

abbrev pub with_words : List ℕ → List (List ℕ) → List ℕ
with_words front [] = front
with_words front (word ∷ more) = with_words (with_word front word) more

abbrev pub no_texts : StackState
no_texts = record { front = []; last = None; is_ended = false }

-- what stands before one more text
abbrev pub parted : StackState → List ℕ
parted state = if is_some state.last then with_words state.front (words separator) else state.front

-- with one text more, which may be a prefix
abbrev pub with_text : StackState → List ℕ → Bool → StackState
with_text state text is_prefix = record {
  front = with_words (parted state) (words text);
  last = Some text;
  is_ended = state.is_ended || not is_prefix;
}

-- the text of a signature without anything else of the crash, as far as a signature can show it
abbrev pub front_text : Bool → StackState → List ℕ
front_text thread_found state = if is_some state.last then state.front else empty_text thread_found
