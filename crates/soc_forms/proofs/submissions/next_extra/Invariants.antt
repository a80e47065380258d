use Rattle.std.proofs.Common.{◌≡◌, filter, drop}
use Rattle.soc_forms.specs.Fields.{is_extra}
use Rattle.soc_multipart.specs.OwnedViews.{owned_texts}
use Rattle.soc_forms.proofs.submissions.next_extra.Given as goal

-- the JSON parts that are left are all
abbrev pub invariant-loop-i : goal.invariant-loop-i
invariant-loop-i l = filter is_extra (owned_texts (drop l.i l.parts)) ≡ filter is_extra (owned_texts (drop l.from l.parts))
