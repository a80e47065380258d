use Rattle.std.proofs.Common.{◌≡◌, filter, drop}
use Rattle.soc_forms.specs.Fields.{is_plain}
use Rattle.soc_multipart.specs.OwnedViews.{owned_texts}
use Rattle.soc_forms.proofs.submissions.has_plain.Given as goal

-- the plain parts that are left are all
abbrev pub invariant-loop-part : goal.invariant-loop-part
invariant-loop-part l = filter is_plain (owned_texts (drop l.part-index l.parts)) ≡ filter is_plain (owned_texts l.parts)
