-- Lines that end by CR LF, as in RFC 9112, 2.2, and RFC 2046, 4.1.1.
use Rattle.std.specs.Prelude.{ℕ, List, codes}

abbrev pub carriage_return : ℕ
carriage_return = 13

abbrev pub line_feed : ℕ
line_feed = 10

abbrev pub crlf : List ℕ
crlf = codes "\r\n"
