use Rattle.soc_replay.proofs.SettingLemmas.{Reads}
use Rattle.soc_replay.proofs.settings.Draft.read.Given as goal

-- the draft took the entries that are done, and the others are left
abbrev pub invariant-loop-key : goal.invariant-loop-key
invariant-loop-key l = Reads l.table.entries l.key-iterator l.draft
