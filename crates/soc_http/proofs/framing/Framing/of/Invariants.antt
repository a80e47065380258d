use Rattle.std.proofs.Common.{◌≡◌, map, take}
use Rattle.httparse.specs.Spans.{header_bytes}
use Rattle.soc_http.specs.inner.Framing.{framing_of}
use Rattle.soc_http.proofs.framing.Framing.of.Given as goal

abbrev pub invariant-loop-header : goal.invariant-loop-header
invariant-loop-header l = l.framing ≡ framing_of (map (header_bytes l.block) (take l.header-index l.headers))
