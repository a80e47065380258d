use Rattle.std.proofs.Common.{sym, eq-eqb, arith}
use Rattle.std.proofs.lemmas.List.Sums.{position_or_len_is}
use Rattle.soc_symfile.specs.Words.{is_space}
use Rattle.soc_symfile.proofs.words.space_place.Goals as goal

pub returns-then-byte-eq-SPACE-clause-value : goal.returns-then-byte-eq-SPACE-clause-value
returns-then-byte-eq-SPACE-clause-value c =
    sym (position_or_len_is is_space c.args.bytes.now c.loop-place.place 0 (omega arith) c.loop-place.invariant
    (λ _. eq-eqb _ 32 c.if-byte-eq-SPACE.true))

pub returns-clause-value : goal.returns-clause-value
returns-clause-value c =
    sym (position_or_len_is is_space c.args.bytes.now _ 0 (omega arith) (λ k below. c.loop-place.invariant k (omega arith)) (λ within. absurd (omega arith)))
