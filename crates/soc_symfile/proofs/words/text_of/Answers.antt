use Rattle.std.proofs.Common.{sym}
use Rattle.soc_symfile.proofs.WordLemmas.{text_of-empty, text_of-bytes, some_bytes}
use Rattle.soc_symfile.proofs.words.text_of.Goals as goal

pub returns-then-is_empty : goal.returns-then-is_empty
returns-then-is_empty c = sym (text_of-empty c.args.bytes.now c.if-is_empty.ensures)

pub returns-in-Ok : goal.returns-in-Ok
returns-in-Ok c = some_bytes c.args.bytes.now c.in-Ok.text.now c.if-is_empty.ensures c.in-Ok.ensures.cases

pub returns-in-Err : goal.returns-in-Err
returns-in-Err c = sym (text_of-bytes c.args.bytes.now c.in-Err.ensures.cases.0)
