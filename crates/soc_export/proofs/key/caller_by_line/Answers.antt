use Rattle.std.proofs.Common.{None, ap, sym, ◌∙◌}
use Rattle.std.proofs.lemmas.Result.{IfOk-weaker}
use Rattle.std.specs.Option.{option_copied}
use Rattle.soc_export.proofs.KeyLemmas.{keyed}
use Rattle.soc_export.proofs.key.caller_by_line.Goals as goal

pub returns-in-Some : goal.returns-in-Some
returns-in-Some c =
    IfOk-weaker c.caller-in-Some.result _ _
    (λ caller is. is ∙ keyed c.args.tokens.now c.args.public.now c.args.line.now (sym c.is_empty.ensures ∙ c.if-is_empty.false) _ (ap option_copied (sym c.in-Some.is) ∙ c.key_of.ensures))
    c.caller-in-Some.ensures

pub returns-in-None : goal.returns-in-None
returns-in-None c =
    keyed c.args.tokens.now c.args.public.now c.args.line.now (sym c.is_empty.ensures ∙ c.if-is_empty.false) None (ap option_copied (sym c.in-None.is) ∙ c.key_of.ensures)
