use Rattle.soc_siglists.proofs.MakeLemmas.{no_pattern, too_big, internal}
use Rattle.soc_siglists.proofs.regex_maker.make_regex.Goals as goal

pub returns-in-Err-Syntax-clause-syntax : goal.returns-in-Err-Syntax-clause-syntax
returns-in-Err-Syntax-clause-syntax c _ =
    no_pattern c.args.pattern.now c.in-Err-Syntax.field-0 c.in-Err-Syntax.field-0-0 c.in-Err-Syntax.field-0-is c.in-Err-Syntax.ensures.by_grammar c.in-Err-Syntax.ensures.kind

pub returns-in-Err-CompiledTooBig-clause-too_big : goal.returns-in-Err-CompiledTooBig-clause-too_big
returns-in-Err-CompiledTooBig-clause-too_big c _ =
    too_big c.args.pattern.now c.in-Err-CompiledTooBig.field-0 c.utf8.pattern c.in-Err-CompiledTooBig.field-0-is c.in-Err-CompiledTooBig.ensures.kind

pub returns-in-Err-Internal-clause-too_big : goal.returns-in-Err-Internal-clause-too_big
returns-in-Err-Internal-clause-too_big c _ =
    internal c.args.pattern.now c.in-Err-Internal.field-0 c.utf8.pattern c.in-Err-Internal.field-0-is c.in-Err-Internal.ensures.kind
