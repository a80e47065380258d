use Rattle.std.proofs.Math.Facts.{Fits-lt-pow}
use Rattle.soc_symfile.proofs.NumberLemmas.{table_digit}
use Rattle.soc_symfile.proofs.numbers.hexadecimal_digit.Goals as goal

pub returns-then-digit-lt16 : goal.returns-then-digit-lt16
returns-then-digit-lt16 c = ((table_digit c.args.byte (Fits-lt-pow c.ranges.byte)).0 c.if-digit-lt16.true, c.if-digit-lt16.true)

pub returns-else-digit-lt16 : goal.returns-else-digit-lt16
returns-else-digit-lt16 c = (table_digit c.args.byte (Fits-lt-pow c.ranges.byte)).1 c.if-digit-lt16.false
