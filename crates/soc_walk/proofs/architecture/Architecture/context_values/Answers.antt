use Rattle.std.proofs.Common.{sym, ◌∙◌, ap}
use Rattle.soc_walk.specs.Architecture.{context_values}
use Rattle.soc_walk.proofs.architecture.Architecture.context_values.Goals as goal

pub returns-in-Amd64 : goal.returns-in-Amd64
returns-in-Amd64 c = c.amd64_values.ensures ∙ sym (ap (λ a. context_values a c.args.context.now) c.in-Amd64.is)
