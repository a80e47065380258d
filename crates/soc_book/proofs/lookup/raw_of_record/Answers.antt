use Rattle.std.proofs.Common.{◌≡◌, ℕ, true, not, List, sym, ap, ◌∙◌, refl}
use Rattle.soc_book.proofs.Words.{bytes_eq, bytes_eq-Decides, crash_of, Crash, same_crash, true_is_not_false}
use Rattle.soc_book.proofs.lookup.raw_of_record.Goals as goal

differs : (a b : List ℕ) → true ≡ not (bytes_eq a b) → a ≡ b → ⊥
differs a b is same = true_is_not_false (is ∙ ap not ((bytes_eq-Decides a b).1 same))

pub returns-then-ne : goal.returns-then-ne
returns-then-ne c = (
  refl,
  λ crash is same text.
      differs c.in-Ok.raw.id c.args.id c.if-ne.ensures (ap (λ (x : Crash). x.id) (same_crash (crash_of c.in-Ok.raw) crash c.in-Ok.ensures.whole is (c.in-Ok.ensures.ok ∙ sym text)) ∙ same),
)
