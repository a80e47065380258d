use Rattle.std.proofs.Common.{◌≡◌, ◌++◌}
use Rattle.soc_report.specs.Dumps.{dump_notes}
use Rattle.soc_report.proofs.known.Known.notes.Given as goal

-- some notes stand behind those of the dump, and the others are left
abbrev pub invariant-loop-note : goal.invariant-loop-note
invariant-loop-note l = l.notes ++ l.note-iterator ≡ dump_notes l.self.reading.now ++ l.self.signature.notes
