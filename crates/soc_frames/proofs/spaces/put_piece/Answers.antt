use Rattle.std.proofs.Common.{◌≡◌, ℕ, ◌+◌, ◌-◌, Bool, true, false, nat_eq, List, get_or, take, drop, ap, sym, ◌∙◌, arith}
use Rattle.std.specs.List.{prefix_len}
use Rattle.std.specs.Prelude.{string_bytes}
use Rattle.std.proofs.lemmas.Str.{IsCharBoundary-after_ascii}
use Rattle.soc_text.specs.Blanks.{space}
use Rattle.soc_frames.specs.Cpp.{comma, comes_to_mark}
use Rattle.soc_frames.specs.inner.Spaces.{is_space_byte, is_inner}
use Rattle.soc_frames.proofs.BoundaryLemmas.{byte_in}
use Rattle.soc_frames.proofs.SpaceLemmas.{comma_piece, space_dropped, space_kept, others_kept, run_within, run_begins, spaces_boundary, others_boundary, comma_is_ascii, inner_by}
use Rattle.soc_frames.proofs.spaces.put_piece.Goals as goal

run_in : (p : ℕ → Bool) (name bytes text : List ℕ) (from n : ℕ) → bytes ≡ name → text ≡ drop from bytes → n ≡ prefix_len p text → n ≡ prefix_len p (drop from name)
run_in p name bytes text from n same is run = run ∙ ap (λ (t : List ℕ). prefix_len p t) (is ∙ ap (λ (t : List ℕ). drop from t) same)

piece_in : (name piece : List ℕ) (from n : ℕ) → piece ≡ take (from + n - from) (drop from name) → piece ≡ take n (drop from name)
piece_in name piece from n is = let size : from + n - from ≡ n = omega arith in is ∙ ap (λ (k : ℕ). take k (drop from name)) size

pub overflow_add-result-then-bytes-from-eq44 : goal.overflow_add-result-then-bytes-from-eq44
overflow_add-result-then-bytes-from-eq44 c =
    let run = run_in is_space_byte c.args.name.now _ _ (c.args.from + 1) c.spaces_len.result c.as_bytes-bytes.ensures.value c.after.ensures c.spaces_len.ensures in
    omega (arith, run_within is_space_byte c.args.name.now (c.args.from + 1) c.spaces_len.result (omega (arith, c.requires.inside)) run)

pub returns-then-bytes-from-eq44 : goal.returns-then-bytes-from-eq44
returns-then-bytes-from-eq44 c =
    let name = c.args.name.now in
    let value = c.as_bytes-bytes.ensures.value in
    let here : get_or name c.args.from 0 ≡ comma = byte_in name c.as_bytes-bytes.result.now c.args.from comma value c.if-bytes-from-eq44.true in
    let run = run_in is_space_byte name _ _ (c.args.from + 1) c.spaces_len.result value c.after.ensures c.spaces_len.ensures in
    let within = run_within is_space_byte name (c.args.from + 1) c.spaces_len.result (omega (arith, c.requires.inside)) run in
    record {
      onward = omega arith;
      within = within;
      same = comma_piece name (string_bytes c.args.out.now) _ c.args.from c.spaces_len.result c.requires.inside here run c.in_ok-push_str.ensures.bytes;
      boundary = spaces_boundary name (c.args.from + 1) c.spaces_len.result c.utf8.name run within (IsCharBoundary-after_ascii name c.args.from c.utf8.name c.requires.inside (comma_is_ascii (get_or name c.args.from 0) here));
    }

pub overflow_add-to : goal.overflow_add-to
overflow_add-to c =
    let run = run_in is_space_byte c.args.name.now _ _ c.args.from c.spaces_len-then-bytes-from-eq32.result c.as_bytes-bytes.ensures.value c.after-then-bytes-from-eq32.ensures c.spaces_len-then-bytes-from-eq32.ensures in
    omega (arith, run_within is_space_byte c.args.name.now c.args.from c.spaces_len-then-bytes-from-eq32.result (omega (arith, c.requires.inside)) run)

pub returns-then-comes_to_mark : goal.returns-then-comes_to_mark
returns-then-comes_to_mark c =
    let name = c.args.name.now in
    let value = c.as_bytes-bytes.ensures.value in
    let n = c.spaces_len-then-bytes-from-eq32.result in
    let here : get_or name c.args.from 0 ≡ space = byte_in name c.as_bytes-bytes.result.now c.args.from space value c.if-bytes-from-eq32.true in
    let run = run_in is_space_byte name _ _ c.args.from n value c.after-then-bytes-from-eq32.ensures c.spaces_len-then-bytes-from-eq32.ensures in
    let within = run_within is_space_byte name c.args.from n (omega (arith, c.requires.inside)) run in
    let some = run_begins is_space_byte name c.args.from n c.requires.inside run (ap (λ (b : ℕ). nat_eq b space) here) in
    let mark : comes_to_mark (drop c.args.from name) ≡ true =
    sym (ap (λ (t : List ℕ). comes_to_mark t) (c.after-then-bytes-from-eq32-2.ensures ∙ ap (λ (t : List ℕ). drop c.args.from t) value)) ∙ sym c.comes_to_mark.ensures ∙ c.if-comes_to_mark.true in
    record {
      onward = omega (arith, some);
      within = within;
      same = space_dropped name (string_bytes c.args.out.now) c.args.from n run mark;
      boundary = spaces_boundary name c.args.from n c.utf8.name run within c.requires.boundary;
    }

pub range-requires-clause-end_boundary : goal.range-requires-clause-end_boundary
range-requires-clause-end_boundary c =
    let name = c.args.name.now in
    let n = c.spaces_len-then-bytes-from-eq32.result in
    let run = run_in is_space_byte name _ _ c.args.from n c.as_bytes-bytes.ensures.value c.after-then-bytes-from-eq32.ensures c.spaces_len-then-bytes-from-eq32.ensures in
    spaces_boundary name c.args.from n c.utf8.name run (run_within is_space_byte name c.args.from n (omega (arith, c.requires.inside)) run) c.requires.boundary

pub returns-then-bytes-from-eq32 : goal.returns-then-bytes-from-eq32
returns-then-bytes-from-eq32 c =
    let name = c.args.name.now in
    let value = c.as_bytes-bytes.ensures.value in
    let n = c.spaces_len-then-bytes-from-eq32.result in
    let here : get_or name c.args.from 0 ≡ space = byte_in name c.as_bytes-bytes.result.now c.args.from space value c.if-bytes-from-eq32.true in
    let run = run_in is_space_byte name _ _ c.args.from n value c.after-then-bytes-from-eq32.ensures c.spaces_len-then-bytes-from-eq32.ensures in
    let within = run_within is_space_byte name c.args.from n (omega (arith, c.requires.inside)) run in
    let some = run_begins is_space_byte name c.args.from n c.requires.inside run (ap (λ (b : ℕ). nat_eq b space) here) in
    let mark : comes_to_mark (drop c.args.from name) ≡ false =
    sym (ap (λ (t : List ℕ). comes_to_mark t) (c.after-then-bytes-from-eq32-2.ensures ∙ ap (λ (t : List ℕ). drop c.args.from t) value)) ∙ sym c.comes_to_mark.ensures ∙ c.if-comes_to_mark.false in
    record {
      onward = omega (arith, some);
      within = within;
      same = space_kept name (string_bytes c.args.out.now) _ c.range.result.now c.args.from n run mark (piece_in name c.range.result.now c.args.from n c.range.ensures.value) c.in_ok-push_str-2.ensures.bytes;
      boundary = spaces_boundary name c.args.from n c.utf8.name run within c.requires.boundary;
    }

pub overflow_add-to-2 : goal.overflow_add-to-2
overflow_add-to-2 c =
    let run = run_in is_inner c.args.name.now _ _ c.args.from c.inner_len.result c.as_bytes-bytes.ensures.value c.after-2.ensures c.inner_len.ensures in
    omega (arith, run_within is_inner c.args.name.now c.args.from c.inner_len.result (omega (arith, c.requires.inside)) run)

pub range-requires-2-clause-end_boundary : goal.range-requires-2-clause-end_boundary
range-requires-2-clause-end_boundary c =
    let name = c.args.name.now in
    let n = c.inner_len.result in
    let run = run_in is_inner name _ _ c.args.from n c.as_bytes-bytes.ensures.value c.after-2.ensures c.inner_len.ensures in
    others_boundary name c.args.from n run (run_within is_inner name c.args.from n (omega (arith, c.requires.inside)) run)

pub returns : goal.returns
returns c =
    let name = c.args.name.now in
    let value = c.as_bytes-bytes.ensures.value in
    let n = c.inner_len.result in
    let byte = ap (λ (t : List ℕ). get_or t c.args.from 0) value in
    let run = run_in is_inner name _ _ c.args.from n value c.after-2.ensures c.inner_len.ensures in
    let within = run_within is_inner name c.args.from n (omega (arith, c.requires.inside)) run in
    let some = run_begins is_inner name c.args.from n c.requires.inside run (inner_by (get_or name c.args.from 0) (λ e. c.if-bytes-from-eq32.false (byte ∙ e)) (λ e. c.if-bytes-from-eq44.false (byte ∙ e))) in
    record {
      onward = omega (arith, some);
      within = within;
      same = others_kept name (string_bytes c.args.out.now) _ c.range-2.result.now c.args.from n run (piece_in name c.range-2.result.now c.args.from n c.range-2.ensures.value) c.in_ok-push_str-3.ensures.bytes;
      boundary = others_boundary name c.args.from n run within;
    }
