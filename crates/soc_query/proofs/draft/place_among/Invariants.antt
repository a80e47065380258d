use Rattle.std.proofs.Common.{ℕ, ◌<◌, get_or}
use Rattle.soc_query.proofs.draft.place_among.Given as goal

abbrev pub invariant-loop-place : goal.invariant-loop-place
invariant-loop-place l = (k : ℕ) → k < l.place → get_or l.fields k 0 < l.field
