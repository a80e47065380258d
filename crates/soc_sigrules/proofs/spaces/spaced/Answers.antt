use Rattle.std.proofs.Common.{◌∙◌, ◌++◌, ◌==◌, ℕ, List, length, ap, sym, string_bytes}
use Rattle.soc_sigrules.proofs.SpaceLemmas.{spaces-first, spaces-later}
use Rattle.soc_sigrules.proofs.spaces.spaced.Goals.{then-not-is_empty+in_ok-push_str, else-not-is_empty}
use Rattle.soc_sigrules.proofs.spaces.spaced.Goals as goal

pub loop-word-preserved : goal.loop-word-preserved
loop-word-preserved c =
    let len = ap (λ (xs : List ℕ). length xs == 0) c.as_str.ensures.value in
    elim c.if-not-is_empty.branch [
      | then-not-is_empty+in_ok-push_str w ↦
          let out = ap string_bytes w.out-is ∙ w.in_ok-push_str.ensures.bytes in
          record {
            words =
                spaces-later c.args.text.now (string_bytes c.loop-word.out) _ c.loop-word.rest.now c.in-Some.word.now c.in-Some.others.now
                c.loop-word.invariant.words c.in-Some.ensures (sym (w.if-not-is_empty.ensures ∙ len))
                (c.in_ok-push_str-2.ensures.bytes ∙ ap (λ xs. xs ++ c.in-Some.word.now) out);
            utf8 = c.in-Some.ensures.utf8;
          }
      | else-not-is_empty w ↦ record {
        words =
            spaces-first c.args.text.now (string_bytes c.loop-word.out) _ c.loop-word.rest.now c.in-Some.word.now c.in-Some.others.now
            c.loop-word.invariant.words c.in-Some.ensures (sym (w.if-not-is_empty.ensures ∙ len))
            (c.in_ok-push_str-2.ensures.bytes ∙ ap (λ xs. string_bytes xs ++ c.in-Some.word.now) w.out-is);
        utf8 = c.in-Some.ensures.utf8;
      }
    ]
