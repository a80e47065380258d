-- Worked rows of the definitions, computed.
use Rattle.std.specs.Prelude.{◌≡◌, [], ◌∷◌, codes, true, None, Ok, Err, refl}
use Rattle.std.specs.Fmt.{digits}
use Rattle.std.specs.List.{after_first}
use Rattle.soc_http.specs.declared.verb.Verb.TheVariants.{Get, Post}
use Rattle.soc_http.specs.declared.framing.Stated.TheVariants.{Bad}
use Rattle.soc_http.specs.declared.head.HeadError.TheVariants.{BadHead, NoLength, BodyTooLarge}
use Rattle.soc_http.specs.declared.reply.Kind.TheVariants.{Plain}
use Rattle.soc_http.specs.declared.route.Route.TheVariants.{Report}
use Rattle.soc_http.specs.declared.route.RouteError.TheVariants.{NoRoute, WrongVerb}
use Rattle.soc_http.specs.Request.{stated, length_by_lines, is_query_mark}
use Rattle.soc_http.specs.Reply.{reply_text}
use Rattle.soc_http.specs.Route.{route_of}

pub sign_is_no_length : stated (codes "+5" ∷ []) ≡ Bad
sign_is_no_length = refl

pub twenty_digits_are_no_length : stated (codes "00000000000000000001" ∷ []) ≡ Bad
twenty_digits_are_no_length = refl

pub length_in_any_case : length_by_lines Post ((codes "content-LENGTH", codes "75") ∷ []) ≡ Ok 75
length_in_any_case = refl

pub same_length_twice : length_by_lines Get ((codes "Content-Length", codes "1") ∷ (codes "Content-Length", codes "1") ∷ []) ≡ Err BadHead
same_length_twice = refl

pub post_without_length : length_by_lines Post [] ≡ Err NoLength
post_without_length = refl

pub get_without_length : length_by_lines Get [] ≡ Ok 0
get_without_length = refl

pub one_byte_too_many : length_by_lines Post ((codes "Content-Length", codes "16777217") ∷ []) ≡ Err BodyTooLarge
one_byte_too_many = refl

pub query_behind_the_first_mark : after_first is_query_mark (codes "/a?b?c") ≡ codes "b?c"
query_behind_the_first_mark = refl

pub wrong_method : route_of Get (codes "/submit") ≡ Err (WrongVerb Post)
wrong_method = refl

pub report_with_an_id : route_of Get (codes "/report/index/x") ≡ Ok (Report (codes "x"))
report_with_an_id = refl

pub report_without_an_id : route_of Get (codes "/report/index/") ≡ Err NoRoute
report_without_an_id = refl

pub whole_reply : reply_text (record { status = 404; kind = Plain; allow = None; last = true; body = codes "no route\n" })
    ≡ codes "HTTP/1.1 404 Not Found\r\nContent-Type: text/plain\r\nContent-Length: 9\r\nConnection: close\r\n\r\nno route\n"
unfolding digits
whole_reply = refl
