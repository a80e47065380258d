use Rattle.std.proofs.Common.{◌≡◌, drop}
use Rattle.soc_multipart.specs.Params.{value_of}
use Rattle.soc_multipart.specs.inner.Views.{param_texts}
use Rattle.soc_multipart.proofs.params.find_param.Given as goal

-- the parameters that are left have the same value of this name as all of them
abbrev pub invariant-loop-param : goal.invariant-loop-param
invariant-loop-param l = value_of l.name (param_texts (drop l.param-index l.params)) ≡ value_of l.name (param_texts l.params)
