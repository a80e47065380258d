use Rattle.std.proofs.Common.{map, drop}
use Rattle.regex_hir.specs.Meaning.{meaning, cat_all}
use Rattle.soc_siglists.specs.inner.Leads.{IsOptional}
use Rattle.soc_siglists.proofs.lead.are_optional.Given as goal

-- where the trees that are left are optional, all are
abbrev pub invariant-loop-sub : goal.invariant-loop-sub
invariant-loop-sub l = IsOptional (cat_all (map meaning (drop l.sub-index l.subs))) → IsOptional (cat_all (map meaning l.subs))
