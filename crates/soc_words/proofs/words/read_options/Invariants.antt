use Rattle.std.proofs.Common.{◌≡◌, drop}
use Rattle.clap.specs.Words.{app_of}
use Rattle.clap.specs.Walk.{texts}
use Rattle.soc_words.specs.Words.{app_for, with_options}
use Rattle.soc_words.proofs.words.read_options.Given as goal

-- with the options that are left it is the command of the task
abbrev pub invariant-loop-name : goal.invariant-loop-name
invariant-loop-name l = with_options (app_of l.command) (texts (drop l.name-index l.name-items)) ≡ app_for l.task
