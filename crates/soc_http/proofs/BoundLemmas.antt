-- A head that is taken is within the limits.
use Rattle.std.proofs.Common.{◌≡◌, ℕ, ◌≤◌, ◌||◌, Bool, true, false, Option, None, Some, Result, Ok, Err, refl, ap, nat_lt, if◌then◌else◌, length, List, arith}
use Rattle.std.proofs.lemmas.Bool.Decides.{nat_tests}
use Rattle.std.specs.Prelude.{IfOk, IfSome, codes}
use Rattle.std.specs.List.{list_any}
use Rattle.soc_edge.specs.Told.{Told}
use Rattle.soc_http.specs.declared.verb.Verb.{Verb}
use Rattle.soc_http.specs.declared.framing.Stated.{Stated}
use Rattle.soc_http.specs.declared.framing.Stated.TheVariants.{Nothing, Length, Bad}
use Rattle.soc_http.specs.declared.head.Head.{Head}
use Rattle.soc_http.specs.declared.head.HeadError.{HeadError}
use Rattle.soc_http.specs.declared.head.HeadError.TheVariants.{BadHead, NoLength, BodyTooLarge}
use Rattle.soc_http.specs.Block.{block_limit}
use Rattle.soc_http.specs.Request.{taken_length, is_post, is_coding, lines_of, stated, values_of, verb_of, body_limit, IsWithinLimits}
use Rattle.soc_http.specs.Message.{TakesHead}
use Rattle.soc_http.specs.Reading.{ReadsHeadFrom}

abbrev failed : HeadError → Result ℕ HeadError
failed e = Err e

abbrev taken : ℕ → Result ℕ HeadError
taken n = Ok n

refused : (e : HeadError) (n : ℕ) (P : Type 0) → failed e ≡ taken n → P
refused e n P h = cc

same_ok : (m n : ℕ) → taken m ≡ taken n → m ≡ n
same_ok m n h = cc

not_below : (m n : ℕ) → nat_lt m n ≡ false → n ≤ m
not_below m n h = grind (arith, nat_tests)

nothing_taken : (b : Bool) (n : ℕ) → (if b then failed NoLength else taken 0) ≡ taken n → n ≤ body_limit
nothing_taken true n h = refused NoLength n _ h
nothing_taken false n h = let e : 0 ≡ n = same_ok 0 n h in omega arith

stated_taken : (b : Bool) (m n : ℕ) → nat_lt body_limit m ≡ b → (if b then failed BodyTooLarge else taken m) ≡ taken n → n ≤ body_limit
stated_taken true m n test h = refused BodyTooLarge n _ h
stated_taken false m n test h = let e : m ≡ n = same_ok m n h in let low : m ≤ body_limit = not_below body_limit m test in omega arith

length_taken : (b : Bool) (m n : ℕ) → (if b then failed NoLength else (if nat_lt body_limit m then failed BodyTooLarge else taken m)) ≡ taken n → n ≤ body_limit
length_taken true m n h = refused NoLength n _ h
length_taken false m n h = stated_taken (nat_lt body_limit m) m n refl h

taken_length-le : (verb : Verb) (coded : Bool) (s : Stated) (n : ℕ) → taken_length verb coded s ≡ Ok n → n ≤ body_limit
taken_length-le verb coded Bad n h = refused BadHead n _ h
taken_length-le verb coded Nothing n h = nothing_taken (coded || is_post verb) n h
taken_length-le verb coded (Length m) n h = length_taken coded m n h

-- what a head that was taken says
TakesHead-within : (text : List ℕ) (head : Head) (rest : List ℕ) → TakesHead text head rest → IsWithinLimits head
TakesHead-within text head rest takes =
    let bytes : head.bytes ≡ length takes.block = ap (λ (h : Head). h.bytes) takes.says.says in
    let within : length takes.block ≤ block_limit = takes.taken.within in
    let request = takes.says.request in
    let coded = list_any is_coding (lines_of request) in
    let lengths = stated (values_of (codes "content-length") (lines_of request)) in
    record {
      length = taken_length-le (verb_of request.method) coded lengths head.length takes.says.framed;
      bytes = omega arith;
    }

pub ReadsHeadFrom-within : (a b : Told) (old new : List ℕ) (result : Result (Option Head) HeadError)
    → ReadsHeadFrom a b old result new → IfOk result (λ found. IfSome found IsWithinLimits)
ReadsHeadFrom-within a b old new (Ok None) p = tt
ReadsHeadFrom-within a b old new (Ok (Some head)) p = TakesHead-within _ head new p.reads
ReadsHeadFrom-within a b old new (Err error) p = tt
