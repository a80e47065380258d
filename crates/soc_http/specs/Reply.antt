-- The text of a reply (RFC 9112, sections 4 to 6): status line, lines, an empty line and the body.
use Rattle.std.specs.Prelude.{ℕ, Bool, true, false, List, [], ◌++◌, ◌&&◌, nat_le, nat_lt, if◌then◌else◌, length, codes, decimal, Option, None, Some, unwrap_or}
use Rattle.http.specs.StatusCode.{reason_phrase}
use Rattle.soc_http.specs.declared.verb.Verb.{Verb}
use Rattle.soc_http.specs.declared.verb.Verb.TheVariants.{Get, Post, Other}
use Rattle.soc_http.specs.declared.reply.Kind.{Kind}
use Rattle.soc_http.specs.declared.reply.Kind.TheVariants.{Plain, Json, Octets, Html, OwnPage}
use Rattle.soc_http.specs.declared.reply.Answered.{Answered}

-- CR LF
abbrev pub line_end : List ℕ
line_end = codes "\r\n"

-- the first number of three digits, and the first of four
abbrev pub first_status : ℕ
first_status = 100

abbrev pub past_status : ℕ
past_status = 1000

-- a status has three digits, and the first is not 0
abbrev pub is_status : ℕ → Bool
is_status status = nat_le first_status status && nat_lt status past_status

-- the phrase of a status; a number that is no status, or none that is known, has an empty one
abbrev pub phrase_of : ℕ → List ℕ
phrase_of status = if is_status status then unwrap_or (reason_phrase status) [] else []

-- the media type of a body
abbrev pub media_type : Kind → List ℕ
media_type Plain = codes "text/plain"
media_type Json = codes "application/json"
media_type Octets = codes "application/octet-stream"
media_type Html = codes "text/html; charset=utf-8"
media_type OwnPage = codes "text/html; charset=utf-8"

-- The lines by which a browser keeps the service's own page to itself: it isn't stored, framed or sent away, and asks nothing
-- but this service.
abbrev pub policy_lines : Kind → List ℕ
policy_lines OwnPage =
    codes "Cache-Control: no-store\r\n"
    ++ codes "Content-Security-Policy: default-src 'none'; connect-src 'self'; img-src 'self' data:; "
    ++ codes "script-src 'unsafe-inline'; style-src 'unsafe-inline'; base-uri 'none'; form-action 'none'; frame-ancestors 'none'\r\n"
    ++ codes "Referrer-Policy: no-referrer\r\n"
    ++ codes "X-Content-Type-Options: nosniff\r\n"
policy_lines _ = []

-- the line that names the method a path takes
abbrev pub allow_line : Option Verb → List ℕ
allow_line None = []
allow_line (Some Get) = codes "Allow: GET\r\n"
allow_line (Some Post) = codes "Allow: POST\r\n"
allow_line (Some Other) = []

-- the line that says that the connection ends
abbrev pub close_line : Bool → List ℕ
close_line true = codes "Connection: close\r\n"
close_line false = []

-- the head of a reply, with its empty line
abbrev pub reply_head : Answered → List ℕ
reply_head reply =
    codes "HTTP/1.1 " ++ decimal reply.status ++ codes " " ++ phrase_of reply.status ++ line_end
    ++ codes "Content-Type: " ++ media_type reply.kind ++ line_end
    ++ codes "Content-Length: " ++ decimal (length reply.body) ++ line_end
    ++ policy_lines reply.kind ++ allow_line reply.allow ++ close_line reply.last ++ line_end

-- the whole reply
abbrev pub reply_text : Answered → List ℕ
reply_text reply = reply_head reply ++ reply.body
