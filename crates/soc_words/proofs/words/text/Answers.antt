use Rattle.std.proofs.Common.{◌∙◌}
use Rattle.std.proofs.lemmas.Result.{IfOk-weaker}
use Rattle.clap.specs.Words.{found_of}
use Rattle.soc_words.proofs.OptionLemmas.{text-held}
use Rattle.soc_words.proofs.words.text.Goals as goal

pub returns : goal.returns
returns c = IfOk-weaker c.of.result _ _ (λ text same. same ∙ text-held (found_of c.args.matches.now) c.args.name.now _ c.args.default c.unwrap_or.result c.get_str.ensures c.unwrap_or.ensures) c.of.ensures
