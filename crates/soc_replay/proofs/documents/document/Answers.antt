use Rattle.std.proofs.Common.{sym, ◌∙◌}
use Rattle.soc_replay.proofs.DocumentLemmas.{document_of-no_text, document_of-text, refuted}
use Rattle.soc_replay.proofs.documents.document.Goals as goal

pub returns-in_default : goal.returns-in_default
returns-in_default c = document_of-no_text c.args.bytes.now c.in_default.ensures.cases.0

pub returns-in-Ok-table_from_str : goal.returns-in-Ok-table_from_str
returns-in-Ok-table_from_str c =
    sym c.in-Ok-table_from_str.ensures.ok ∙ document_of-text c.args.bytes.now c.in-Ok.text.now c.in-Ok.ensures.cases.0 c.in-Ok.ensures.cases.1

pub returns-else-is_memory : goal.returns-else-is_memory
returns-else-is_memory c =
    sym (c.in-Err.ensures.refused (refuted c.is_memory.result c.is_memory.ensures c.if-is_memory.false)) ∙ document_of-text c.args.bytes.now c.in-Ok.text.now c.in-Ok.ensures.cases.0 c.in-Ok.ensures.cases.1
