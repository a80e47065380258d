use Rattle.std.proofs.Common.{◌≡◌, map, take}
use Rattle.httparse.specs.Spans.{header_bytes}
use Rattle.soc_http.specs.Request.{lossy_line}
use Rattle.soc_http.proofs.block.lines_of.Given as goal

abbrev pub invariant-loop-header : goal.invariant-loop-header
invariant-loop-header l = l.lines ≡ map lossy_line (map (header_bytes l.block) (take l.header-index l.headers))
