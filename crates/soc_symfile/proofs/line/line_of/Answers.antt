use Rattle.std.proofs.Common.{◌∙◌}
use Rattle.soc_symfile.proofs.SourceLemmas.{line_of-source, line_of-record}
use Rattle.soc_symfile.proofs.line.line_of.Goals as goal

pub returns-in-Some : goal.returns-in-Some
returns-in-Some c =
    let is = rw c.split_word.ensures.word at c.in-Some.ensures in
    rw c.split_word.ensures.rest at c.source_behind.ensures ∙ line_of-source c.args.line.now c.in-Some.address is

pub returns-in-None : goal.returns-in-None
returns-in-None c =
    let none = rw c.split_word.ensures.word at c.in-None.ensures in
    rw (c.split_word.ensures.word, c.split_word.ensures.rest) at c.record_line.ensures ∙ line_of-record c.args.line.now none
