-- How long the parts of a body are: names, as they are read, and contents keep within three times the body.
use Rattle.std.proofs.Common.{◌≡◌, ℕ, zero, suc, ◌+◌, ◌*◌, ◌-◌, ◌<◌, ◌≤◌, Bool, true, false, cond, ◌==◌, if◌then◌else◌, nat_lt, slice_index, List, [], ◌∷◌, ◌++◌, length, take, drop, codes, Option, Some, None, inl, inr, ◌⊎◌, refl, ap, arith, length-append, length-take, length-drop}
use Rattle.std.specs.Prelude.{sum_by}
use Rattle.std.specs.List.{prefix_len, suffix_len}
use Rattle.std.specs.Int.{is_in_range}
use Rattle.std.specs.Option.{unwrap_or}
use Rattle.std.specs.Str.{bytes_eq}
use Rattle.std.specs.Str.Lossy.{utf8_valid_len, utf8_invalid_len, utf8_error_len, second_byte_min, second_byte_max, error_len_of_some, error_len_after_one, error_len_after_two, after_first_chunk, replacement_bytes, utf8_lossy_within, utf8_lossy}
use Rattle.std.proofs.lemmas.Bool.{eqb-false}
use Rattle.std.proofs.lemmas.List.Sums.{sum_by-cons}
use Rattle.std.proofs.lemmas.Str.{utf8_valid_len_le}
use Rattle.soc_multipart.specs.Chains.{Chain}
use Rattle.soc_multipart.specs.Delimiters.{mark_of}
use Rattle.soc_text.specs.Blanks.{is_blank}
use Rattle.soc_text.specs.Lines.{crlf}
use Rattle.soc_multipart.specs.Heads.{LineText, ReadsLine, values_of, IsDisposition}
use Rattle.soc_text.specs.Blanks.{trimmed}
use Rattle.soc_multipart.specs.Params.{ParamText, SpellsByte, BeginsWithValue, ReadsParam, lower, value_of}
use Rattle.soc_multipart.specs.Parts.{PartText, EndsHead, IsPart, ReadsPart, Cut}

-- ---- texts as they are read

-- what cannot be read is one byte at least
abbrev IsSome : ℕ → Option ℕ → Type 0
IsSome n o = 0 < unwrap_or o n

some_if : (n : ℕ) (b : Bool) (x y : Option ℕ) → IsSome n x → IsSome n y → IsSome n (cond b x y)
some_if n true x y p q = p
some_if n false x y p q = q

bad_bytes : (bs : List ℕ) → 0 < length bs → 0 < utf8_invalid_len bs
unfolding utf8_error_len
bad_bytes bs some =
    let n = length bs in
    let first = slice_index bs 0 in
    let one : IsSome n (Some 1) = omega arith in
    let after_three : IsSome n (if nat_lt n 4 then None else Some 3) = some_if n (nat_lt n 4) None (Some 3) some (omega arith) in
    let third : IsSome n (if is_in_range 128 191 (slice_index bs 2) then (if nat_lt n 4 then None else Some 3) else Some 2) =
    some_if n (is_in_range 128 191 (slice_index bs 2)) (if nat_lt n 4 then None else Some 3) (Some 2) after_three (omega arith) in
    let after_two : IsSome n (error_len_after_two bs) =
    some_if n (nat_lt n 3) None (if is_in_range 128 191 (slice_index bs 2) then (if nat_lt n 4 then None else Some 3) else Some 2) some third in
    let second = is_in_range (second_byte_min first) (second_byte_max first) (slice_index bs 1) in
    let after_one : IsSome n (error_len_after_one bs) =
    some_if n (nat_lt n 2) None (if second then error_len_after_two bs else Some 1) some (some_if n second (error_len_after_two bs) (Some 1) after_two one) in
    some_if n (n == 0) None (error_len_of_some bs) some (some_if n (is_in_range 194 244 first) (error_len_after_one bs) (Some 1) after_one one)

-- three bytes stand for one or more that cannot be read
lossy_step : (b : Bool) (valid rest : ℕ) (front again bs : List ℕ) → length again ≤ 3 * rest → length front ≤ valid → (b ≡ false → valid + 1 + rest ≤ length bs)
    → length (cond b bs (front ++ (replacement_bytes ++ again))) ≤ 3 * length bs
lossy_step true valid rest front again bs h f g = omega arith
lossy_step false valid rest front again bs h f g = omega (arith, g refl, length-append front (replacement_bytes ++ again))

lossy_within : (k : ℕ) (bs : List ℕ) → length (utf8_lossy_within k bs) ≤ 3 * length bs
lossy_within zero bs = omega arith
lossy_within (suc k) bs =
    let valid = utf8_valid_len bs in
    let rest = after_first_chunk bs in
    lossy_step (valid == length bs) valid (length rest) (take valid bs) (utf8_lossy_within k rest) bs (lossy_within k rest) (omega (arith, length-take valid bs))
    (λ e.
    let short = utf8_valid_len_le bs in
    let other : ¬ (valid ≡ length bs) = eqb-false valid (length bs) e in
    let some = bad_bytes (drop valid bs) (omega (arith, length-drop valid bs)) in
    omega (arith, length-drop (valid + utf8_invalid_len (drop valid bs)) bs))

pub lossy_short : (bs : List ℕ) → length (utf8_lossy bs) ≤ 3 * length bs
unfolding utf8_lossy
lossy_short bs = lossy_within (length bs) bs

-- ---- parameters

spelled_short : (text bytes rest : List ℕ) → Chain SpellsByte text bytes rest → length bytes + length rest ≤ length text
spelled_short text [] rest e = omega (arith, ap length e)
spelled_short text (b ∷ bytes) rest (later, inl h, more) = omega (arith, ap length h.0, spelled_short later bytes rest more)
spelled_short text (b ∷ bytes) rest (later, inr h, more) = omega (arith, ap length h, spelled_short later bytes rest more)

begun_short : (text value rest : List ℕ) → BeginsWithValue text value rest → length value + length rest ≤ length text
begun_short text value rest (inl (token, e)) = omega (arith, ap length e, length-append value rest)
begun_short text value rest (inr (inside, e, quoted)) = omega (arith, ap length e, spelled_short inside value (34 ∷ rest) quoted)

param_short : (spaced : Bool) (text : List ℕ) (p : ParamText) (rest : List ℕ) → ReadsParam spaced text p rest → length p.value + length rest ≤ length text
param_short spaced text p rest h =
    let named = h.named in
    let skips = named.skips in
    let behind = 59 ∷ (named.pad ++ (p.name ++ (61 ∷ h.later))) in
    omega (
      arith,
      begun_short h.later p.value rest h.valued.begins,
      ap length skips.whole,
      length-append skips.gap behind,
      length-append named.pad (p.name ++ (61 ∷ h.later)),
      length-append p.name (61 ∷ h.later),
    )

this_or_later : (b : Bool) (x v : List ℕ) (o : Option (List ℕ)) → cond b (Some x) o ≡ Some v → (x ≡ v) ⊎ (o ≡ Some v)
this_or_later true x v o e = inl (cc)
this_or_later false x v o e = inr e

param_value_short : (spaced : Bool) (text : List ℕ) (params : List ParamText) (rest name value : List ℕ) → Chain (ReadsParam spaced) text params rest
    → value_of name params ≡ Some value → length value ≤ length text
param_value_short spaced text [] rest name value chain e = absurd (cc)
param_value_short spaced text (p ∷ params) rest name value (later, first, more) e =
    let here = param_short spaced text p later first in
    elim (this_or_later (bytes_eq (lower p.name) (lower name)) p.value value (value_of name params) e) [
      | inl same ↦ omega (arith, ap length same)
      | inr found ↦ omega (arith, param_value_short spaced later params rest name value more found)
    ]

-- ---- heads

line_short : (text : List ℕ) (line : LineText) (rest : List ℕ) → ReadsLine text line rest → length line.raw + length rest ≤ length text
line_short text line rest h =
    omega (
      arith,
      ap length h.whole,
      length-append line.name (58 ∷ (line.raw ++ (crlf ++ rest))),
      length-append line.raw (crlf ++ rest),
      length-append crlf rest,
    )

lines_short : (text : List ℕ) (lines : List LineText) (rest : List ℕ) → Chain ReadsLine text lines rest → length rest ≤ length text
lines_short text [] rest e = omega (arith, ap length e)
lines_short text (line ∷ lines) rest (later, first, more) = omega (arith, line_short text line later first, lines_short later lines rest more)

trimmed_short : (text : List ℕ) → length (trimmed text) ≤ length text
trimmed_short text =
    let n = prefix_len is_blank text in
    omega (arith, length-take (length (drop n text) - suffix_len is_blank (drop n text)) (drop n text), length-drop n text)

first_or_later : (b : Bool) (x v : List ℕ) (vs xs : List (List ℕ)) → cond b (x ∷ xs) xs ≡ v ∷ vs → (x ≡ v) ⊎ (xs ≡ v ∷ vs)
first_or_later true x v vs xs e = inl (cc)
first_or_later false x v vs xs e = inr e

-- the first value of a name and what stands behind the lines are pieces of the text
line_value_short : (text : List ℕ) (lines : List LineText) (rest name value : List ℕ) (values : List (List ℕ)) → Chain ReadsLine text lines rest
    → values_of name lines ≡ value ∷ values → length value + length rest ≤ length text
line_value_short text [] rest name value values chain e = absurd (cc)
line_value_short text (line ∷ lines) rest name value values (later, first, more) e =
    let here = line_short text line later first in
    elim (first_or_later (bytes_eq (lower line.name) (lower name)) (trimmed line.raw) value values (values_of name lines) e) [
      | inl same ↦ omega (arith, ap length same, trimmed_short line.raw, lines_short later lines rest more)
      | inr found ↦ omega (arith, line_value_short later lines rest name value values more found)
    ]

name_short : (value name : List ℕ) (file : Option (List ℕ)) → IsDisposition value name file → length name ≤ 3 * length value
name_short value name file h =
    omega (
      arith,
      ap length h.name_is,
      lossy_short h.raw_name,
      param_value_short false h.text h.params [] (codes "name") h.raw_name h.in_order.in_order h.named,
      ap length h.whole,
      length-append (codes "form-data") h.text,
    )

-- ---- parts

-- a part's name and three times its content
abbrev pub part_size : PartText → ℕ
part_size p = length p.name + 3 * length p.content

content_short : (tail content : List ℕ) → EndsHead tail content → length content ≤ length tail
content_short tail content (inl h) = omega (arith, ap length h.1)
content_short tail content (inr e) = omega (arith, ap length e, length-append crlf content)

piece_short : (piece : List ℕ) (p : PartText) → IsPart piece p → part_size p ≤ 3 * length piece
piece_short piece p h =
    let holds = h.holds in
    let says = h.says in
    omega (
      arith,
      content_short holds.tail p.content holds.ends,
      line_value_short piece h.lines holds.tail (codes "content-disposition") says.value [] holds.in_order says.once,
      name_short says.value p.name p.file says.disposed,
    )

part_short : (mark text : List ℕ) (p : PartText) (next : List ℕ) → ReadsPart mark text p next → part_size p + 3 * length next ≤ 3 * length text
part_short mark text p next h =
    let opens = h.opens in
    let ends = opens.ends in
    omega (
      arith,
      piece_short h.piece p h.is_part,
      ap length h.reaches.whole,
      length-append h.piece next,
      ap length opens.whole,
      length-append mark opens.after,
      ap length ends.whole,
      length-append ends.pad (crlf ++ h.rest),
      length-append crlf h.rest,
    )

parts_short : (mark text : List ℕ) (parts : List PartText) (next : List ℕ) → Chain (ReadsPart mark) text parts next → sum_by part_size parts ≤ 3 * length text
parts_short mark text [] next e = omega arith
parts_short mark text (p ∷ parts) next (later, first, more) =
    omega (arith, part_short mark text p later first, parts_short mark later parts next more, sum_by-cons part_size p parts)

-- names and contents keep within three times the body and the line end before it
pub body_short : (boundary body : List ℕ) (parts : List PartText) → Cut boundary body parts → sum_by part_size parts ≤ 3 * (length body + 2)
body_short boundary body parts cut =
    let holds = cut.holds in
    omega (
      arith,
      parts_short (mark_of boundary) holds.first parts cut.last holds.in_order,
      ap length holds.reaches.whole,
      length-append holds.preamble holds.first,
      length-append crlf body,
    )
