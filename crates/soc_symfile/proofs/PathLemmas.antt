-- A path taken apart from the left.
use Rattle.std.proofs.Common.{◌≡◌, ◌↔◌, Bor, ℕ, Bool, List, ◌++◌, Option, None, Some, IsTrue, refl, sym, ◌∙◌, ap}
use Rattle.std.specs.Prelude.{MatchOption}
use Rattle.std.specs.Str.{bytes_eq}
use Rattle.std.proofs.lemmas.List.{append_cancel_left}
use Rattle.std.proofs.lemmas.Slice.Eq.{bytes_eq-Decides}

-- what stands behind a part stands behind the slash too
pub part_behind : (path part rest slash : List ℕ) (behind : Option (Bor (List ℕ))) → path ≡ part ++ rest
    → MatchOption behind ((later : List ℕ) → ¬ (rest ≡ slash ++ later)) (λ later. rest ≡ slash ++ later.now)
    → MatchOption behind ((later : List ℕ) → ¬ (path ≡ part ++ (slash ++ later))) (λ later. path ≡ part ++ (slash ++ later.now))
part_behind path part rest slash None is none = λ later whole. none later (append_cancel_left part rest (slash ++ later) (sym is ∙ whole))
part_behind path part rest slash (Some later) is some = is ∙ ap (λ t. part ++ t) some

-- a text that begins with a front is all of it where the rest is
pub rest_is : (text front rest end : List ℕ) (same : Bool) → text ≡ front ++ rest → same ≡ bytes_eq rest end → IsTrue same ↔ (text ≡ front ++ end)
rest_is text front rest end same is equal =
    let decides = bytes_eq-Decides rest end in
    (λ yes. is ∙ ap (λ t. front ++ t) (decides.0 (sym equal ∙ yes)), λ whole. equal ∙ decides.1 (append_cancel_left front rest end (sym is ∙ whole)))

rest_iff : (text front rest end : List ℕ) (P : Type 0) → text ≡ front ++ rest → P ↔ (rest ≡ end) → P ↔ (text ≡ front ++ end)
rest_iff text front rest end P is iff =
    (λ p. is ∙ ap (λ t. front ++ t) (iff.0 p), λ whole. iff.1 (append_cancel_left front rest end (sym is ∙ whole)))

pub part_iff : (path part rest slash end : List ℕ) (P : Type 0) → path ≡ part ++ (slash ++ rest) → P ↔ (rest ≡ end) → P ↔ (path ≡ part ++ (slash ++ end))
part_iff path part rest slash end P is iff =
    rest_iff path part (slash ++ rest) (slash ++ end) P is (rest_iff (slash ++ rest) slash rest end P refl iff)
