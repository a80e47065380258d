use Rattle.std.proofs.Common.{◌≡◌, ◌∙◌, true, false, refl}
use Rattle.std.proofs.lemmas.Str.{IsUtf8-from_is_utf8, is_utf8-from_IsUtf8}
use Rattle.std.specs.Str.{is_utf8}
use Rattle.soc_report.proofs.paths.path_of.Goals as goal

pub returns-in_ok-of-in-Ok : goal.returns-in_ok-of-in-Ok
returns-in_ok-of-in-Ok c =
    (c.in_ok-of-in-Ok.ensures ∙ c.in-Ok.ensures.cases.0, is_utf8-from_IsUtf8 c.args.entry.now c.in-Ok.ensures.cases.1)

pub returns-in-Err : goal.returns-in-Err
returns-in-Err c = elim (is_utf8 c.args.entry.now) as (λ b. is_utf8 c.args.entry.now ≡ b → b ≡ false) [
  | true ↦ λ e. absurd (c.in-Err.ensures.cases.0 (IsUtf8-from_is_utf8 c.args.entry.now e))
  | false ↦ λ e. refl
] refl
