use Rattle.std.proofs.Common.{◌≡◌, ◌-◌, None}
use Rattle.soc_raw.specs.inner.Reading.{text_pair_at, last_name, pairs_at}
use Rattle.soc_raw.proofs.Readers.{with_front}
use Rattle.soc_raw.proofs.reading.texts_after.Given as goal

-- the pairs so far, and those that are still to be read
abbrev pub invariant-loop : goal.invariant-loop
invariant-loop l = with_front l.texts (pairs_at text_pair_at (last_name l.texts) (l.count - l.counter) l.cursor) ≡ pairs_at text_pair_at None l.count l.fn.cursor
