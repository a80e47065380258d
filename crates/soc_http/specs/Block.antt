-- The head block of a message, the shortest front that ends in CR LF CR LF (RFC 9112, section 2.1), and how large it may be: that is this project's own.
use Rattle.std.specs.Prelude.{◌≡◌, ℕ, ◌+◌, ◌<◌, ◌≤◌, List, ◌++◌, ◌==◌, length, take, codes, count_by}
use Rattle.soc_text.specs.Lines.{line_feed}

-- CR LF CR LF: the end of a line, and an empty line
abbrev pub empty_line : List ℕ
empty_line = codes "\r\n\r\n"

-- the text ends in an empty line
abbrev pub EndsInEmptyLine : List ℕ → Type 0
EndsInEmptyLine text = (front : List ℕ) × (text ≡ front ++ empty_line)

-- it ends in an empty line, and no shorter front of it does
pub record IsBlock (block : List ℕ) : Type 0 where
  pub ends : EndsInEmptyLine block
  pub shortest : (n : ℕ) → n < length block → ¬ (EndsInEmptyLine (take n block))

-- no front of the text is a block
abbrev pub HasNoBlock : List ℕ → Type 0
HasNoBlock text = (n : ℕ) → ¬ (EndsInEmptyLine (take n text))

-- how many bytes a head block may have
abbrev pub block_limit : ℕ
block_limit = 16384

-- how many lines a head block may have between its first and the empty one
abbrev pub line_limit : ℕ
line_limit = 64

-- no more lines than that stand between the first and the empty one, each ended by LF
abbrev pub HasFewLines : List ℕ → Type 0
HasFewLines block = count_by (λ b. b == line_feed) block ≤ line_limit + 2
