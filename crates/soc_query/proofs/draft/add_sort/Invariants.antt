use Rattle.std.proofs.Common.{◌≡◌, nat_eq, drop}
use Rattle.std.specs.List.{list_any}
use Rattle.soc_query.proofs.draft.add_sort.Given as goal

-- it is among those that are left exactly where it is among all
abbrev pub invariant-loop-earlier : goal.invariant-loop-earlier
invariant-loop-earlier l =
    list_any (λ t. nat_eq t.field l.sort.field) (drop l.earlier-index l.fn.sorts.items) ≡ list_any (λ t. nat_eq t.field l.sort.field) l.fn.sorts.items
