use Rattle.std.proofs.Common.{◌∙◌, ap}
use Rattle.soc_report.specs.Annotations as spec
use Rattle.soc_report.proofs.AnnotationLemmas.{number_is}
use Rattle.soc_report.proofs.annotations.number_of.Goals as goal

pub returns : goal.returns
returns c = number_is c.as_bytes.result.now c.number.result c.number.ensures ∙ ap spec.number_of c.as_bytes.ensures.value
