use Rattle.std.proofs.Common.{◌∙◌, ap, Some}
use Rattle.soc_dump.specs.Memory.{holds_word, word_of, stack_of}
use Rattle.soc_dump.specs.Views.{memory_entry, thread_entry}
use Rattle.soc_dump.proofs.WordLemmas.{find-passes, holds_word-same, word_in-memory, word_in-stack, word_in-none}
use Rattle.soc_dump.proofs.word.find_word.Goals as goal

pub word_of_region-requires-clause-held : goal.word_of_region-requires-clause-held
word_of_region-requires-clause-held c =
    find-passes (λ r. holds_word c.args.address c.args.width (memory_entry r)) c.args.regions.now c.in-Some.region c.in-Some.ensures

pub returns-in-Some-clause-value : goal.returns-in-Some-clause-value
returns-in-Some-clause-value c =
    ap Some c.word_of_region.ensures.value
    ∙ word_in-memory c.args.regions.now c.args.threads.now c.args.address c.args.width c.in-Some.region c.in-Some.ensures

pub returns-in_err-thread-clause-value : goal.returns-in_err-thread-clause-value
returns-in_err-thread-clause-value c =
    c.from_residual.ensures
    ∙ word_in-none c.args.regions.now c.args.threads.now c.args.address c.args.width c.in_default.ensures c.in_err-thread.ensures

pub word_of_region-requires-2-clause-held : goal.word_of_region-requires-2-clause-held
word_of_region-requires-2-clause-held c =
    holds_word-same c.args.address c.args.width _ (stack_of (thread_entry c.in_ok-thread.thread)) c.stack_region.ensures (find-passes (λ t. holds_word c.args.address c.args.width (stack_of (thread_entry t))) c.args.threads.now c.in_ok-thread.thread c.in_ok-thread.ensures)

pub returns-clause-value : goal.returns-clause-value
returns-clause-value c =
    ap Some (c.word_of_region-2.ensures.value ∙ ap (word_of c.args.address c.args.width) c.stack_region.ensures)
    ∙ word_in-stack c.args.regions.now c.args.threads.now c.args.address c.args.width c.in_ok-thread.thread c.in_default.ensures c.in_ok-thread.ensures
