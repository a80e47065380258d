-- Paths of reports.
use Rattle.std.proofs.Common.{◌≡◌, ℕ, ◌++◌, ◌&&◌, List, Bool, true, false, if◌then◌else◌, None, Some, take, drop, refl, sym, ap, ◌∙◌, take-append-drop}
use Rattle.std.specs.Str.{bytes_eq}
use Rattle.std.proofs.lemmas.Slice.Eq.{bytes_eq-Decides}
use Rattle.soc_http.specs.Route.{report_id, report_front}

none_if : {A : Type 0} (b c : Bool) (x : A) → (b ≡ true → ⊥) → (if b && c then Some x else None) ≡ None
none_if true c x h = absurd (h refl)
none_if false c x h = refl

-- a path that doesn't begin as a report's does
pub report_id-none : (path : List ℕ) → ((rest : List ℕ) → path ≡ report_front ++ rest → ⊥) → report_id path ≡ None
report_id-none path h =
    none_if (bytes_eq (take 14 path) report_front) _ (drop 14 path)
    (λ e. h (drop 14 path) (sym (take-append-drop 14 path) ∙ ap (λ l. l ++ drop 14 path) ((bytes_eq-Decides (take 14 path) report_front).0 e)))
