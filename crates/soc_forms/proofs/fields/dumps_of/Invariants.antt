use Rattle.std.proofs.Common.{◌≡◌}
use Rattle.soc_forms.specs.Fields.{dumps_of}
use Rattle.soc_multipart.specs.OwnedViews.{owned_texts}
use Rattle.soc_forms.proofs.fields.dumps_of.Given as goal

abbrev pub invariant-loop-part : goal.invariant-loop-part
invariant-loop-part l = l.dumps ≡ dumps_of (owned_texts l.yielded)
