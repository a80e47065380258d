-- What the head of a request says of its message (RFC 9112, sections 3 and 6; RFC 9110, section 8.6), as far as this service takes it.
use Rattle.std.specs.Prelude.{ℕ, ◌≤◌, ◌==◌, Bool, true, false, ◌&&◌, ◌||◌, if◌then◌else◌, nat_lt, nat_le, List, [], ◌∷◌, length, map, filter, codes, Result, Ok, Err, bytes_eq}
use Rattle.std.specs.List.{list_all, list_any, before_first, after_first}
use Rattle.std.specs.Char.{is_ascii_digit}
use Rattle.std.specs.Str.{str_eq_ignore_ascii_case}
use Rattle.std.specs.Str.Parse.{digits_value}
use Rattle.std.specs.Str.Lossy.{utf8_lossy}
use Rattle.httparse.specs.Grammar.{RequestHead}
use Rattle.httparse.specs.Spans.{name_and_value}
use Rattle.soc_http.specs.Block.{block_limit}
use Rattle.soc_http.specs.declared.verb.Verb.{Verb}
use Rattle.soc_http.specs.declared.verb.Verb.TheVariants.{Get, Post, Other}
use Rattle.soc_http.specs.declared.framing.Stated.{Stated}
use Rattle.soc_http.specs.declared.framing.Stated.TheVariants.{Nothing, Length, Bad}
use Rattle.soc_http.specs.declared.head.Head.{Head}
use Rattle.soc_http.specs.declared.head.HeadError.{HeadError}
use Rattle.soc_http.specs.declared.head.HeadError.TheVariants.{BadHead, NoLength, BodyTooLarge}

-- a head line's name, and its value without the blanks around it
abbrev pub Line : Type 0
Line = List ℕ × List ℕ

-- the lines of a request, in order
abbrev pub lines_of : RequestHead → List Line
lines_of request = map name_and_value request.fields

-- the line has this name; the case of letters doesn't count
abbrev pub is_named : List ℕ → Line → Bool
is_named name line = str_eq_ignore_ascii_case line.0 name

-- the values of the lines of this name, in order
abbrev pub values_of : List ℕ → List Line → List (List ℕ)
values_of name lines = map (λ line. line.1) (filter (is_named name) lines)

-- the method
abbrev pub verb_of : List ℕ → Verb
verb_of method = if bytes_eq method (codes "GET") then Get else (if bytes_eq method (codes "POST") then Post else Other)

abbrev pub is_post : Verb → Bool
is_post Get = false
is_post Post = true
is_post Other = false

-- `?`, behind which the query stands
abbrev pub query_mark : ℕ
query_mark = 63

abbrev pub is_query_mark : ℕ → Bool
is_query_mark b = b == query_mark

-- how many digits a length may have
abbrev pub digit_limit : ℕ
digit_limit = 19

-- 1 to 19 digits
abbrev pub is_length : List ℕ → Bool
is_length value = nat_lt 0 (length value) && (nat_le (length value) digit_limit && list_all is_ascii_digit value)

-- what the values of the `Content-Length` lines state: nothing, a length, or what can't be taken
abbrev pub stated : List (List ℕ) → Stated
stated [] = Nothing
stated (value ∷ []) = if is_length value then Length (digits_value 10 value) else Bad
stated (_ ∷ _ ∷ _) = Bad

-- how many bytes a body may have
abbrev pub body_limit : ℕ
body_limit = 16777216

-- the body's length, or the refusal of one that can't be taken, that comes in pieces, isn't stated, or is too large
abbrev pub taken_length : Verb → Bool → Stated → Result ℕ HeadError
taken_length verb coded Bad = Err BadHead
taken_length verb coded Nothing = if coded || is_post verb then Err NoLength else Ok 0
taken_length verb coded (Length n) =
    if coded then Err NoLength else (if nat_lt body_limit n then Err BodyTooLarge else Ok n)

-- a line says that the body comes in pieces
abbrev pub is_coding : Line → Bool
is_coding line = is_named (codes "transfer-encoding") line

-- the length of the body behind a head of this method with these lines, or the first refusal
abbrev pub length_by_lines : Verb → List Line → Result ℕ HeadError
length_by_lines verb lines =
    taken_length verb (list_any is_coding lines) (stated (values_of (codes "content-length") lines))

abbrev pub body_length : RequestHead → Result ℕ HeadError
body_length request = length_by_lines (verb_of request.method) (lines_of request)

-- the line says that the connection ends
abbrev pub is_close : Line → Bool
is_close line = is_named (codes "connection") line && str_eq_ignore_ascii_case line.1 (codes "close")

-- the reply is the last one of its connection
abbrev pub is_last : RequestHead → Bool
is_last request = request.minor == 0 || list_any is_close (lines_of request)

-- bytes that aren't UTF-8 become U+FFFD; a name has none
abbrev pub lossy_line : Line → Line
lossy_line line = (utf8_lossy line.0, utf8_lossy line.1)

-- the head of a request that takes so many bytes, with a body of this length
abbrev pub head_of : ℕ → RequestHead → ℕ → Head
head_of bytes request length = record {
  verb = verb_of request.method;
  path = before_first is_query_mark request.target;
  query = after_first is_query_mark request.target;
  lines = map lossy_line (lines_of request);
  length = length;
  bytes = bytes;
  last = is_last request;
}

-- the head and its body are no larger than they may be
pub record IsWithinLimits (head : Head) : Type 0 where
  pub length : head.length ≤ body_limit
  pub bytes : head.bytes ≤ block_limit
