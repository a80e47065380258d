-- The lines of a head are at least its fields: each of these ends in LF, and so do the first line and the empty one.
use Rattle.std.proofs.Common.{◌≡◌, ℕ, ◌+◌, ◌≤◌, ◌==◌, List, [], ◌∷◌, ◌++◌, length, cond, refl, sym, ap, ◌∙◌, arith, append-nil}
use Rattle.std.specs.Prelude.{count_by}
use Rattle.std.specs.List.{flat_map}
use Rattle.std.proofs.lemmas.List.Sums.{sum_by-append}
use Rattle.httparse.specs.Grammar.{LineEnd, crlf, lf, print_end, print_blank, print_version, Field, print_field, print_section, RequestHead, print_request, ReadsRequest}
use Rattle.httparse.specs.Ascii.{space, colon}
use Rattle.soc_text.specs.Lines.{line_feed}
use Rattle.soc_http.specs.Block.{HasFewLines}

abbrev feeds : List ℕ → ℕ
feeds bytes = count_by (λ b. b == line_feed) bytes

feeds-append : (xs ys : List ℕ) → feeds (xs ++ ys) ≡ feeds xs + feeds ys
feeds-append xs ys = sum_by-append (λ b. cond (b == line_feed) 1 0) xs ys

feeds-end : (e : LineEnd) → feeds (print_end e) ≡ 1
feeds-end crlf = refl
feeds-end lf = refl

feeds-field : (f : Field) → 1 ≤ feeds (print_field f)
feeds-field f = omega (arith, feeds-append (f.name ++ colon ∷ f.raw) (print_end f.end), feeds-end f.end)

feeds-fields : (fields : List Field) → length fields ≤ feeds (flat_map print_field fields)
feeds-fields [] = omega arith
feeds-fields (f ∷ fields) =
    omega (arith, feeds-append (print_field f) (flat_map print_field fields), feeds-field f, feeds-fields fields)

feeds-request : (h : RequestHead) → length h.fields + 2 ≤ feeds (print_request h)
unfolding print_request
feeds-request h =
    let front = print_blank h.blank ++ h.method ++ space ∷ h.target ++ space ∷ print_version h.minor in
    omega (
      arith,
      feeds-append (front ++ print_end h.line_end) (print_section h.fields h.last),
      feeds-append front (print_end h.line_end),
      feeds-append (flat_map print_field h.fields) (print_end h.last),
      feeds-end h.line_end,
      feeds-end h.last,
      feeds-fields h.fields,
    )

-- a block of few lines has few fields
pub fields-few : (block : List ℕ) (h : RequestHead) → ReadsRequest block h [] → HasFewLines block → length h.fields ≤ 64
fields-few block h reads few =
    let same : feeds block ≡ feeds (print_request h) = ap feeds (reads.1 ∙ append-nil (print_request h)) in
    let least = feeds-request h in
    omega arith

-- a head that is the whole block is as long as it
pub whole-length : (block : List ℕ) (h : RequestHead) (n : ℕ) → ReadsRequest block h [] → n ≡ length (print_request h) → n ≡ length block
whole-length block h n reads e = e ∙ sym (ap length (reads.1 ∙ append-nil (print_request h)))
