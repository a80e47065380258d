use Rattle.std.proofs.Common.{◌≡◌, length}
use denote.Text.{Utf8}
use denote.Shadow.{shadow}
use Rattle.soc_cfi.specs.Known.{AreWords, HoldsWords, known}
use Rattle.soc_cfi.specs.Postfix.{postfix, rule_value}
use Rattle.soc_cfi.specs.Words.{tokens}
use Rattle.soc_cfi.proofs.evaluation.eval_bank.Given as goal

abbrev pub invariant-loop-token : goal.invariant-loop-token
invariant-loop-token g l =
    let here = known (g.B.Bank.width l.bank) (g.B.Bank.value l.bank) l.cfa (g.M.Memory.word l.memory) in
    record { utf8 : shadow (Utf8 l.rest); same : postfix here (tokens l.rest) l.stack ≡ rule_value here l.rule; words : HoldsWords (g.B.Bank.width l.bank) (g.B.Bank.value l.bank) l.cfa → AreWords (g.B.Bank.width l.bank) l.stack }

abbrev pub decreases-loop-token : goal.decreases-loop-token
decreases-loop-token g l = length l.rest
