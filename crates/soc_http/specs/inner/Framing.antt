-- What the lines of a head say, gathered line by line, and where the parser found a head.
use Rattle.std.specs.Prelude.{ℕ, if◌then◌else◌, List, [], ◌∷◌, codes}
use Rattle.std.specs.List.{list_any}
use Rattle.httparse.specs.Grammar.{RequestHead, ReadsRequest}
use Rattle.httparse.specs.Spans.{IsRequestAt}
use Rattle.httparse.specs.declared.spans.HeaderSpan.{HeaderSpan}
use Rattle.httparse.specs.declared.spans.RequestSpans.{RequestSpans}
use Rattle.soc_http.specs.declared.framing.Framing.{Framing}
use Rattle.soc_http.specs.declared.framing.Stated.{Stated}
use Rattle.soc_http.specs.declared.framing.Stated.TheVariants.{Nothing, Length, Bad}
use Rattle.soc_http.specs.Request.{Line, is_named, values_of, stated, is_coding, is_close}

-- what the lines say of the body and of the connection
abbrev pub framing_of : List Line → Framing
framing_of lines = record {
  stated = stated (values_of (codes "content-length") lines);
  coded = list_any is_coding lines;
  close = list_any is_close lines;
}

-- what one value more states
abbrev pub stated_more : Stated → List ℕ → Stated
stated_more Nothing value = stated (value ∷ [])
stated_more (Length n) value = Bad
stated_more Bad value = Bad

-- what one line more states
abbrev pub stated_by_line : Stated → Line → Stated
stated_by_line so_far line = if is_named (codes "content-length") line then stated_more so_far line.1 else so_far

-- the block is this request, and the spans cover its parts
pub record IsWholeRequest (block : List ℕ) (headers : List HeaderSpan) (spans : RequestSpans) : Type 0 where
  pub request : RequestHead
  pub reads : ReadsRequest block request []
  pub parts : IsRequestAt block headers spans request
