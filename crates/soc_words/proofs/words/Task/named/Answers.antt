use Rattle.std.proofs.Common.{rules, sym}
use Rattle.std.specs.Str.{bytes_eq}
use Rattle.soc_words.specs.Words.{name_of, tasks}
use Rattle.soc_words.proofs.OptionLemmas.{find_none}
use Rattle.soc_words.proofs.words.Task.named.Goals as goal

pub returns-in_default : goal.returns-in_default
returns-in_default c =
    sym (find_none (λ task. bytes_eq (name_of task) c.args.name.now) tasks
    (search rules, (search rules, (search rules, (search rules, (search rules, (search rules, tt)))))))
