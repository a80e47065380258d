use Rattle.std.proofs.Common.{◌∙◌}
use Rattle.clap.specs.Words.{found_of}
use Rattle.soc_words.proofs.OptionLemmas.{number-held, number-left}
use Rattle.soc_words.proofs.words.number.Goals as goal

pub returns-in-Some-clause-value : goal.returns-in-Some-clause-value
returns-in-Some-clause-value c =
    c.number_between.ensures.value ∙ number-held (found_of c.args.matches.now) c.args.name.now c.args.least c.args.most c.args.default c.get_str.result c.in-Some.text c.get_str.ensures c.in-Some.is

pub returns-in-None-clause-value : goal.returns-in-None-clause-value
returns-in-None-clause-value c = number-left (found_of c.args.matches.now) c.args.name.now c.args.least c.args.most c.args.default c.get_str.result c.get_str.ensures c.in-None.is
