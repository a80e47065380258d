use Rattle.std.proofs.Common.{◌≡◌, ◌<◌, ◌∙◌, length, drop, take, ap, sym, arith, subst, slice_range}
use Rattle.std.specs.Str.{IsCharBoundary}
use Rattle.std.specs.List.{prefix_len, position_or_len}
use Rattle.std.proofs.lemmas.Bool.Decides.{nat_tests}
use Rattle.soc_sigrules.specs.Spaces.{is_gap}
use Rattle.soc_sigrules.proofs.SpaceLemmas.{next_word, no_word, gaps_cut, word_cut}
use Rattle.soc_sigrules.proofs.spaces.next_word.Goals as goal

pub range_from-behind-requires : goal.range_from-behind-requires
range_from-behind-requires c _ =
    let is = c.gaps_len.ensures ∙ ap (prefix_len is_gap) c.as_bytes.ensures.value in
    subst (IsCharBoundary c.args.text.now) (sym is) (gaps_cut c.args.text.now c.utf8.text)

pub returns-then-is_empty : goal.returns-then-is_empty
returns-then-is_empty c =
    let is = c.gaps_len.ensures ∙ ap (prefix_len is_gap) c.as_bytes.ensures.value in
    no_word c.args.text.now c.range_from-behind.result.now (c.range_from-behind.ensures.value ∙ ap (λ n. drop n c.args.text.now) is) c.if-is_empty.ensures

pub range-requires-clause-end_boundary : goal.range-requires-clause-end_boundary
range-requires-clause-end_boundary c =
    let is = c.word_len-end.ensures ∙ ap (position_or_len is_gap) c.as_bytes-2.ensures.value in
    subst (IsCharBoundary c.range_from-behind.result.now) (sym is) (word_cut c.range_from-behind.result.now)

pub range_from-requires : goal.range_from-requires
range_from-requires c _ =
    let is = c.word_len-end.ensures ∙ ap (position_or_len is_gap) c.as_bytes-2.ensures.value in
    subst (IsCharBoundary c.range_from-behind.result.now) (sym is) (word_cut c.range_from-behind.result.now)

pub returns : goal.returns
returns c =
    let gaps = c.gaps_len.ensures ∙ ap (prefix_len is_gap) c.as_bytes.ensures.value in
    let end = c.word_len-end.ensures ∙ ap (position_or_len is_gap) c.as_bytes-2.ensures.value in
    let test = c.if-is_empty.ensures in
    let some : 0 < length c.range_from-behind.result.now = grind (arith, nat_tests) in
    let front : slice_range c.range_from-behind.result.now 0 c.word_len-end.result ≡ take c.word_len-end.result c.range_from-behind.result.now =
    ap (λ n. take n c.range_from-behind.result.now) (omega arith) in
    next_word c.args.text.now c.range_from-behind.result.now c.range.result.now c.range_from.result.now
    (c.range_from-behind.ensures.value ∙ ap (λ n. drop n c.args.text.now) gaps) some
    (c.range.ensures.value ∙ front ∙ ap (λ n. take n c.range_from-behind.result.now) end)
    (c.range_from.ensures.value ∙ ap (λ n. drop n c.range_from-behind.result.now) end) c.range_from.utf8
